-- An open round: p goes down to the highest region below, and nothing else changes.
use Rattle.std.specs.Prelude.{true, List, ◌≡◌, ℕ, suc, ◌-◌, ◌≤◌, ◌<◌, length, get_or}
use Rattle.std.proofs.Math.Path.{sym, ap}
use Rattle.std.proofs.Common.{◌∙◌, le_refl, le_antisymm, arith}
use borrow.Author.Tests.{ltb-true, lt-ltb}
use Rattle.std.proofs.Math.Dec.{ltb}
use Rattle.rules.specs.Counting.{Set, greatest}
use Rattle.rules.specs.Game.{Player, Game}
use Rattle.rules.specs.Tables.{game_of, Accepted, tables_of}
use Rattle.rules.specs.Promotion.{Regions, unsolved, region_set, region_is_open, round_of, after_rounds}
use Rattle.basics.specs.Basics.{some_elim, and_right, count_cong}
use Rattle.accepted.specs.Tables.{accepted_sound}
use Rattle.basics.specs.Greatest.{greatest_bounds, greatest_le}
use Rattle.theory.specs.PromotionEntries.{RoundEntries, opened, AttractsEntries, AttractedEntries}
use Rattle.theory.specs.PromotionTests.{unsolved_below, region_in_lem}
use Rattle.theory.specs.PromotionRounds.{attracted_region, lower_vertices}
use Rattle.theory.specs.PromotionStanding.{open_goes_down}
use Rattle.theory.specs.PromotionTable.{open_read, table_opens, attracts_table}
use Rattle.area.specs.Area.{set_at}
use Rattle.promotion_levels.specs.Nesting.{inside_all, region_fresh, few_levels, levels_below}
use Rattle.promotion_levels.specs.Layout.{held_at, won_at, levels_at, depth_in, top_in, level_in, region_in, entry_in, Whole, Ready}
use Rattle.promotion_levels.specs.Newcomers.{whole_newcomers}
use Rattle.promotion_levels.specs.Descending.{Descends, Descended}
use Rattle.promotion_levels.specs.Going.{deeper, won_words}
use Rattle.promotion_levels.specs.Lowered.{lowered_ready, lowered_whole, lowered_regions, lowered_entries, lowered_top}
use Rattle.promotion_region.specs.Query.{Queried}
use Rattle.promotion_rounds.specs.Shown as shown
use Rattle.promotion_rounds.specs.Shown.{Shows}
use Rattle.promotion_rounds.specs.WonKept.{won_sets_kept}

-- entries count below n alone
pub attracts_as :
    {g : Game} {X : Set} {q : ℕ → ℕ} {p : ℕ} {R : Set} {σ σ' σ'' : ℕ → ℕ} →
    AttractsEntries g X q p R σ σ' →
    ((v : ℕ) → v < g.size → σ'' v ≡ σ' v) →
    ((v : ℕ) → R v ≡ true → v < g.size) →
    AttractsEntries g X q p R σ σ''
attracts_as a same small =
    record {
      certificate = a.certificate;
      near = a.near;
      pulled = λ v i out o. same v (small v i) ∙ a.pulled v i out o;
      kept = λ v i o. same v (small v (a.certificate.closed.target v i)) ∙ a.kept v i o;
      elsewhere = λ v l out. same v l ∙ a.elsewhere v l out;
    }

module _ {owners priorities offsets targets : List ℕ} (ok : Accepted (tables_of owners priorities offsets targets)) {s : ℕ}
    (made : ℕ) {current left : ℕ} {w0 : List ℕ}
    (shows :
    Shows owners priorities offsets targets s (after_rounds (game_of (tables_of owners priorities offsets targets)) made) current left
    w0)
    {w1 : List ℕ}
    (c1 :
    Queried owners priorities offsets targets s (after_rounds (game_of (tables_of owners priorities offsets targets)) made).current w0
    w1)
    (opens :
    region_is_open (game_of (tables_of owners priorities offsets targets))
    (after_rounds (game_of (tables_of owners priorities offsets targets)) made)
    (region_set (game_of (tables_of owners priorities offsets targets))
    (after_rounds (game_of (tables_of owners priorities offsets targets)) made)) ≡
    true)
  where
    abbrev n : ℕ
    n = length owners

    abbrev m : ℕ
    m = length targets

    abbrev g : Game
    g = game_of (tables_of owners priorities offsets targets)

    abbrev r : Regions
    r = after_rounds g made

    abbrev p : ℕ
    p = r.current

    abbrev T : ℕ → ℕ
    T = region_in n m s priorities w1

    -- a priority for each vertex
    each : length priorities ≡ length owners
    each = (accepted_sound (tables_of owners priorities offsets targets) ok).priority_each

    -- some vertex has a region below p
    lower : (v : ℕ) × (v < n) × (T v < p)
    unfolding game_of
    lower =
        let standing = shown.standing ok made shows in
        let (v, l, i) = some_elim g.size (lower_vertices g r) (open_goes_down g r (shown.small ok made shows) standing.placed opens) in
        let less = ltb-true (attracted_region g r v) p (and_right (unsolved g (attracted_region g r) v) (ltb (attracted_region g r v) p) i) in
        (v, l, rw (shown.agrees1 ok made shows c1 v l) less)

    -- it is in the last level
    lower_last : level_in n m s w1 (suc (depth_in n m s w1)) lower.0 ≡ true
    lower_last =
        rw (shown.depth1 ok made shows c1)
        (shown.last_is ok made shows c1 lower.0 ∙ lt-ltb (T lower.0) p lower.2)

    ready' : Ready (length priorities) priorities offsets targets s w1
    ready' = rw each c1.ready

    -- the current level and its priority, by the number of priorities
    abbrev N : ℕ
    N = length priorities

    abbrev K : ℕ
    K = depth_in N m s w1

    top' : top_in N m s w1 K ≡ p
    top' = rw (each, shown.depth1 ok made shows c1) (shown.top1 ok made shows c1)

    lower_last' : level_in N m s w1 (suc K) lower.0 ≡ true
    lower_last' = rw each lower_last

    lower_first' : level_in N m s w1 0 lower.0 ≡ true
    lower_first' = inside_all ready'.nests 0 (suc K) lower.0 (omega arith) (le_refl (suc K)) lower_last'

    -- what `descend` asks for
    pub descend_ready :
        {held levels bound : ℕ} → held ≡ held_at (length owners) (length targets) s →
        levels ≡ levels_at (length owners) (length targets) s → bound ≡ p - 1 →
        Descends priorities (length targets) s held levels (suc (depth_in (length priorities) (length targets) s w1)) bound w1
    descend_ready held_is levels_is bound-is =
        record {
          size = ready'.size;
          few = ready'.edges.few_vertices;
          few_edges = ready'.edges.few_edges;
          held_is = rw each held_is;
          levels_is = rw each levels_is;
          room = ready'.room;
          depth =
              deeper N K (levels_below ready'.nests ready'.proper lower.0 lower_first') (few_levels ready'.nests);
          sorted = ready'.sorted;
          below =
              λ v i.
              ready'.nests.below v (inside_all ready'.nests 0 (suc K) v (omega arith) (le_refl (suc K)) i);
          under = λ v i. let f = ready'.nests.fresh v i in omega (arith, top', bound-is);
          small = let most = shown.small ok made shows in omega (arith, bound-is);
        }

    module _ {p' : ℕ} {w2 : List ℕ}
        (c2 : Descended priorities (length targets) s (suc (depth_in (length priorities) (length targets) s w1)) p' w1 w2)
      where
        ready2 : Ready N priorities offsets targets s w2
        ready2 = lowered_ready priorities offsets targets ready' lower.0 lower_last' c2

        whole2 : Whole N m s w2
        whole2 = lowered_whole priorities offsets targets ready' lower.0 lower_last' c2

        region2 : (v : ℕ) → region_in N m s priorities w2 v ≡ region_in N m s priorities w1 v
        region2 = lowered_regions priorities offsets targets ready' lower.0 lower_last' c2

        -- the highest priority of the level after is the highest region below p
        next_is : p' ≡ greatest g.size (λ v. ltb (T v) p) T
        unfolding game_of
        next_is = c2.highest ∙ rw each (le_antisymm up down)
          where
            in_last : (v : ℕ) → level_in n m s w1 (suc (depth_in n m s w1)) v ≡ ltb (T v) p
            in_last v =
                ap (λ (j : ℕ). level_in n m s w1 (suc j) v) (shown.depth1 ok made shows c1) ∙ shown.last_is ok made shows c1 v

            priority_is : (v : ℕ) → level_in n m s w1 (suc (depth_in n m s w1)) v ≡ true → T v ≡ get_or priorities v 0
            priority_is v i = region_fresh c1.ready.nests v i

            up :
                greatest n (level_in n m s w1 (suc (depth_in n m s w1))) (λ v. get_or priorities v 0) ≤
                greatest n (λ v. ltb (T v) p) T
            up =
                greatest_le n (level_in n m s w1 (suc (depth_in n m s w1))) (λ v. get_or priorities v 0) _
                (λ v l i. rw (← priority_is v i) (greatest_bounds n (λ u. ltb (T u) p) T v l (sym (in_last v) ∙ i)))

            down :
                greatest n (λ v. ltb (T v) p) T ≤
                greatest n (level_in n m s w1 (suc (depth_in n m s w1))) (λ v. get_or priorities v 0)
            down =
                greatest_le n (λ v. ltb (T v) p) T _
                (λ v l i.
                rw (priority_is v (in_last v ∙ i))
                (greatest_bounds n (level_in n m s w1 (suc (depth_in n m s w1))) (λ u. get_or priorities u 0) v l (in_last v ∙ i)))

        won_kept : (b : Player) (v : ℕ) → set_at n (won_at n m s b) w2 v ≡ set_at n (won_at n m s b) w0 v
        won_kept b v =
            won_sets_kept n m c1.ready.size w1 w2
            (λ i. rw (← each) (won_words priorities offsets targets ready'.size ready'.room c2 i)) b v ∙
            won_sets_kept n m c1.ready.size w0 w1 c1.won b v

        -- **the work area shows the state after an open round**
        pub shows_opened :
            Shows owners priorities offsets targets s
            (round_of (game_of (tables_of owners priorities offsets targets))
            (after_rounds (game_of (tables_of owners priorities offsets targets)) made)) p' left w2 ×
            RoundEntries (game_of (tables_of owners priorities offsets targets))
            (after_rounds (game_of (tables_of owners priorities offsets targets)) made)
            (entry_in (length owners) (length targets) s w0) (entry_in (length owners) (length targets) s w2)
        unfolding game_of
        shows_opened =
            let total = shown.total ok made shows in
            let small = shown.small ok made shows in
            let agrees1 = shown.agrees1 ok made shows c1 in
            let (region, now, won) =
            table_opens g total r small T agrees1 (shown.standing ok made shows) (sym (open_read g total r small T agrees1) ∙ opens) in (
              record {
                ready = rw (← each) ready2;
                newcomers = whole_newcomers n m s w2 (rw (← each) whole2);
                current = next_is ∙ sym now;
                top = rw (← each) (sym (lowered_top priorities offsets targets ready' lower.0 lower_last' c2));
                region = λ v l. (rw (← each) (region2 v)) ∙ sym (region v l);
                won = λ b v l. won_kept b v ∙ shows.won b v l ∙ ap (λ (f : Player → Set). f b v) (sym won);
                bare = λ b v l. won_kept b v ∙ shows.bare b v l;
                left =
                    shows.left ∙
                    count_cong n _ _
                    (λ v l. sym ((rw (← each) (c2.levels 0 v (omega arith))) ∙ c1.levels 0 v (omega arith)));
              },
              opened opens entries2,
            )
          where
            entries1 : AttractedEntries g r (entry_in n m s w0) (entry_in n m s w1)
            entries1 = attracts_table g r (region_in n m s priorities w0) (shown.agrees0 ok made shows) c1.attracts

            entries2 : AttractedEntries g r (entry_in n m s w0) (entry_in n m s w2)
            entries2 =
                attracts_as entries1
                (λ v l. rw (← each) (lowered_entries priorities offsets targets ready' lower.0 lower_last' c2 v (omega (arith, each))))
                (λ v i. unsolved_below g r.region v (region_in_lem g r v i))
