-- R is closed and a dominion: what the work area shows once it is solved and the first level has begun again.
use Rattle.std.specs.Prelude.{Bool, true, false, ◌&&◌, ◌||◌, not, List, ◌≡◌, refl, ℕ, suc, ◌+◌, ◌%◌, ◌≤◌, ◌<◌, length, get_or}
use Rattle.std.proofs.Math.Bool.{cond, and-false}
use Rattle.std.proofs.Common.{inl, subst, ◌∙◌, le_refl, le_antisymm, arith}
use Rattle.std.proofs.Math.Path.{sym, ap, ap₂}
use borrow.Author.Tests.{eq-eqb, lt-ltb, le-ltb, not-true}
use Rattle.std.proofs.Math.Dec.{ltb}
use Rattle.rules.specs.Counting.{Set, count}
use Rattle.rules.specs.Game.{Player, Even, Odd, Game, parity, same}
use Rattle.rules.specs.Tables.{Tables, game_of, tables_of}
use Rattle.rules.specs.Words.{no_entry}
use Rattle.rules.specs.Attractor.{Closed}
use Rattle.rules.specs.Promotion.{Regions, round_of, after_rounds}
use Rattle.basics.specs.Basics.{clash, not_true_is_false, and_left, and_right}
use Rattle.theory.specs.PromotionEntries.{mover, RoundEntries}
use Rattle.theory.specs.PromotionTable.{next_above, some_way_read}
use Rattle.area.specs.Area.{set_at}
use Rattle.promotion_levels.specs.Layout.{held_at, won_at, depth_at, levels_at, level_at, depth_in, level_in, held_in, region_in, entry_in, Whole, Ready}
use Rattle.promotion_levels.specs.Layout.{top_in}
use Rattle.promotion_escape.specs.Highest.{HighestLevel}
use Rattle.promotion_escape.specs.ByRegions.{region_before}
use Rattle.promotion_rounds.specs.Shown.{Shows}
use Rattle.rules.specs.Counting.{greatest}
use Rattle.rules.specs.Promotion.{unsolved, highest_region}
use Rattle.basics.specs.Greatest.{greatest_bounds, greatest_le, greatest_cong}
use Rattle.basics.specs.Frame.{Outside, Beside}
use Rattle.theory.specs.PromotionBasics.{at_region, at_is}
use Rattle.theory.specs.PromotionEntries.{solves}
use Rattle.theory.specs.PromotionTable.{table_solves, solved_entries_read}
use Rattle.accepted.specs.Tables.{accepted_sound}
use Rattle.area.specs.Area.{entries, free}
use Rattle.promotion_levels.specs.Nesting.{outside_all, unsolved_is}
use Rattle.promotion_levels.specs.Places.{level_high}
use Rattle.predecessors.specs.Table.{SoundEdges}
use Rattle.promotion_levels.specs.Places.{left_is, at_region_is}
use Rattle.promotion_levels.specs.Newcomers.{whole_newcomers}
use Rattle.promotion_levels.specs.Pulled.{Pulled, pulled_as}
use Rattle.promotion_levels.specs.Descending.{Descends, Descended}
use Rattle.promotion_levels.specs.Going.{won_words}
use Rattle.promotion_levels.specs.Afresh.{afresh_ready, afresh_whole, afresh_regions, afresh_entries, afresh_top}
use Rattle.promotion_moves.specs.Dominion.{DominionReady, Dominated}
use Rattle.attractor.specs.Attracted.{Listed, listed_kept}
use Rattle.promotion_levels.specs.Places.{sets_kept}
use Rattle.promotion_rounds.specs.ClosedRound.{ClosedRound, total, small, held_is, held_first, not_open, found_above}
use Rattle.promotion_rounds.specs.WonKept.{won_sets_kept}

module _ {owners priorities offsets targets : List ℕ} {s made current left : ℕ} {w0 w2 : List ℕ} {σ : ℕ → ℕ}
    (round : ClosedRound owners priorities offsets targets s made current left w0 w2 σ)
  where
    abbrev n : ℕ
    n = length owners

    abbrev m : ℕ
    m = length targets

    abbrev t : Tables
    t = tables_of owners priorities offsets targets

    abbrev g : Game
    g = game_of t

    abbrev r : Regions
    r = after_rounds g made

    abbrev p : ℕ
    p = r.current

    abbrev k : ℕ
    k = depth_in n m s w2

    abbrev T : ℕ → ℕ
    T = region_in n m s priorities w2

    abbrev L : ℕ → Set
    L = level_in n m s w2

    -- level 0 stands where the levels begin
    place0 : level_at n m s 0 ≡ levels_at n m s
    place0 = omega arith

    first_in : (w : List ℕ) (v : ℕ) → level_in n m s w 0 v ≡ set_at n (levels_at n m s) w v
    first_in w v = ap (λ (x : ℕ). set_at n x w v) place0

    high0 : levels_at n m s + s ≤ length w2
    high0 =
        let high = level_high n m s 0 (omega (arith, round.ready.depth)) in
        omega (arith, round.ready.room, place0)

    -- what `solve_dominion` asks for
    pub dominion_ready :
        {j : ℕ} →
        (j ≤ 0 →
        Closed (game_of (tables_of owners priorities offsets targets))
        (mover (after_rounds (game_of (tables_of owners priorities offsets targets)) made))
        (level_in (length owners) (length targets) s w2 0) (held_in (length owners) (length targets) s w2)
        (held_in (length owners) (length targets) s w2)) →
        DominionReady owners offsets targets s
        (mover (after_rounds (game_of (tables_of owners priorities offsets targets)) made)) j
        (held_at (length owners) (length targets) s) (levels_at (length owners) (length targets) s) w2
    dominion_ready shut =
        record {
          priorities = priorities;
          accepted = round.accepted;
          size = round.ready.size;
          edges = round.ready.edges;
          listed = round.ready.listed;
          nested =
              record {
                below = λ v i. round.ready.nests.below v (first_in w2 v ∙ i);
                part = λ v i. sym (first_in w2 v) ∙ held_first round v i;
              };
          shut =
              λ none.
              subst (λ (x : ℕ). Closed g (parity p) (set_at n x w2) (held_in n m s w2) (held_in n m s w2)) place0 (shut none);
          low = omega arith;
          apart = omega arith;
          high = high0;
        }

    module _ (h : HighestLevel owners offsets targets (p % 2) (held_in n m s w2) L k 0) {w3 : List ℕ}
        (c3 : Dominated owners priorities offsets targets s p (held_at n m s) (levels_at n m s) w2 w3)
      where
        abbrev D : Set
        D = held_in n m s w3

        left3 : (v : ℕ) → level_in n m s w3 0 v ≡ (L 0 v && not (D v))
        left3 v = first_in w3 v ∙ c3.left v ∙ ap (λ (b : Bool). b && not (D v)) (sym (first_in w2 v))

        same3 :
            (i : ℕ) → free n m ≤ i → Outside (held_at n m s) (depth_at n m s) i → Beside s (levels_at n m s) i →
            get_or w3 i 0 ≡ get_or w2 i 0
        same3 = c3.rest

        each : length priorities ≡ length owners
        each = (accepted_sound t round.accepted).priority_each

        -- what `descend` asks for
        pub descend_first :
            {held levels : ℕ} → held ≡ held_at (length owners) (length targets) s →
            levels ≡ levels_at (length owners) (length targets) s →
            Descends priorities (length targets) s held levels 0 (top_in (length owners) (length targets) s w2 0) w3
        unfolding game_of
        descend_first held_place levels-place =
            record {
              size = rw each round.ready.size;
              few = rw each round.ready.edges.few_vertices;
              few_edges = round.ready.edges.few_edges;
              held_is = rw each held_place;
              levels_is = rw each levels-place;
              room = rw each (omega (arith, round.ready.room, c3.long));
              depth = rw each (omega (arith, round.ready.depth));
              sorted =
                  rw each
                  (sets_kept n (free n m) priorities w2 w3
                  (λ i low high. same3 i low (inl (omega (arith, round.ready.size))) (inl (omega (arith, round.ready.size))))
                  round.ready.sorted);
              below = λ v i. rw each (round.ready.nests.below v (and_left (L 0 v) _ (sym (left3 v) ∙ (rw each at i))));
              under =
                  λ v i. round.ready.nests.most 0 v (omega arith) (and_left (L 0 v) _ (sym (left3 v) ∙ (rw each at i)));
              small = round.ready.nests.small;
            }

        above_none : 256 ≤ next_above g T p
        unfolding region_before
        above_none =
            rw (← found_above round 0 h) (le_refl 256)

        pulled3 :
            Pulled g (parity p) (unsolved g T) (at_region (unsolved g T) T p) D (λ v. get_or w2 (entries n m + v) 0)
            (λ v. get_or w3 (entries n m + v) 0)
        pulled3 =
            pulled_as
            (λ v. sym (first_in w2 v) ∙ sym (left_is owners priorities offsets targets round.ready.nests v))
            (λ v.
            round.whole v ∙ sym (at_region_is owners priorities offsets targets round.ready.nests v) ∙
            ap (λ (x : ℕ). at_region (unsolved g T) T x v) round.top)
            (λ v. refl) c3.pulled

        module _ {p' : ℕ} {w4 : List ℕ} (c4 : Descended priorities (length targets) s 0 p' w3 w4) where
          given4 :
              Descends priorities m s (held_at (length priorities) m s) (levels_at (length priorities) m s) 0 255 w3
          given4 =
              let d =
              descend_first {held = held_at (length priorities) m s} {levels = levels_at (length priorities) m s} (rw each refl)
              (rw each refl) in
              record {
                size = d.size;
                few = d.few;
                few_edges = d.few_edges;
                held_is = d.held_is;
                levels_is = d.levels_is;
                room = d.room;
                depth = d.depth;
                sorted = d.sorted;
                below = d.below;
                under = λ v i. let low = d.under v i in omega (arith, d.small);
                small = omega arith;
              }

          listed3 : Listed (length priorities) offsets targets w3
          listed3 = rw each (listed_kept n offsets targets w2 w3 c3.long c3.table round.ready.listed)

          edges3 : SoundEdges (length priorities) offsets targets
          edges3 = rw each round.ready.edges

          ready4 : Ready n priorities offsets targets s w4
          ready4 = rw (← each) (afresh_ready priorities offsets targets given4 edges3 listed3 c4)

          whole4 : Whole n m s w4
          whole4 = rw (← each) (afresh_whole priorities offsets targets given4 edges3 listed3 c4)

          region4 : (v : ℕ) → region_in n m s priorities w4 v ≡ cond (level_in n m s w3 0 v) (get_or priorities v 0) 256
          region4 v = rw (← each) (afresh_regions priorities offsets targets given4 edges3 listed3 c4 v)

          entry4 : (v : ℕ) → v < n → entry_in n m s w4 v ≡ cond (level_in n m s w3 0 v) no_entry (get_or w3 (entries n m + v) 0)
          entry4 v l =
              rw (← each) (afresh_entries priorities offsets targets given4 edges3 listed3 c4 v (omega (arith, each)))

          -- the unsolved are level 0
          first_is : (v : ℕ) → ltb (T v) 256 ≡ L 0 v
          first_is v = unsolved_is round.ready.nests v

          gone : (v : ℕ) → D v ≡ true → level_in n m s w3 0 v ≡ false
          gone v d = left3 v ∙ rw d (and-false (L 0 v))

          D_small : (v : ℕ) → D v ≡ true → v < n
          D_small v d =
              round.ready.nests.below v
              (sym (left_is owners priorities offsets targets round.ready.nests v) ∙ pulled3.certificate.inside v d)

          -- an entry before, where v is not in the last level
          entry2 : (v : ℕ) → L (suc k) v ≡ false → entry_in n m s w2 v ≡ get_or w2 (entries n m + v) 0
          entry2 v out = rw out

          region_now :
              (v : ℕ) → v < n →
              region_in n m s priorities w4 v ≡ cond (ltb (T v) 256 && not (D v)) (get_or priorities v 0) 256
          region_now v l =
              region4 v ∙ ap (λ (b : Bool). cond b (get_or priorities v 0) 256) (left3 v ∙ ap (λ (b : Bool). b && not (D v)) (sym (first_is v)))

          won4 : (b : Player) (v : ℕ) → set_at n (won_at n m s b) w4 v ≡ set_at n (won_at n m s b) w3 v
          won4 =
              won_sets_kept n m round.ready.size w3 w4
              (λ i. rw (← each) (won_words priorities offsets targets given4.size given4.room c4 i))

          -- the highest priority left is the highest region
          next_is : p' ≡ highest_region g (λ v. region_in n m s priorities w4 v)
          unfolding game_of
          next_is = c4.highest ∙ rw each (le_antisymm up down)
            where
              left4 : (v : ℕ) → unsolved g (region_in n m s priorities w4) v ≡ level_in n m s w3 0 v
              left4 v =
                  left_is owners priorities offsets targets ready4.nests v ∙ (rw (← each) (c4.levels 0 v (le_refl 0)))

              priority_is : (v : ℕ) → level_in n m s w3 0 v ≡ true → region_in n m s priorities w4 v ≡ get_or priorities v 0
              priority_is v i = region4 v ∙ rw i

              up :
                  greatest n (level_in n m s w3 0) (λ v. get_or priorities v 0) ≤
                  greatest n (unsolved g (region_in n m s priorities w4)) (region_in n m s priorities w4)
              up =
                  greatest_le n (level_in n m s w3 0) (λ v. get_or priorities v 0) _
                  (λ v l i.
                  rw (← priority_is v i)
                  (greatest_bounds n (unsolved g (region_in n m s priorities w4)) (region_in n m s priorities w4) v l (left4 v ∙ i)))

              down :
                  greatest n (unsolved g (region_in n m s priorities w4)) (region_in n m s priorities w4) ≤
                  greatest n (level_in n m s w3 0) (λ v. get_or priorities v 0)
              down =
                  greatest_le n (unsolved g (region_in n m s priorities w4)) (region_in n m s priorities w4) _
                  (λ v l i.
                  let here = sym (left4 v) ∙ i in
                  rw (priority_is v here) (greatest_bounds n (level_in n m s w3 0) (λ u. get_or priorities u 0) v l here))

          -- **the work area shows the state after a dominion**
          pub shows_solved :
              {many : ℕ} →
              many ≡ count (length owners) (level_in (length owners) (length targets) s w4 0) →
              Shows owners priorities offsets targets s
              (round_of (game_of (tables_of owners priorities offsets targets))
              (after_rounds (game_of (tables_of owners priorities offsets targets)) made)) p' many w4 ×
              RoundEntries (game_of (tables_of owners priorities offsets targets))
              (after_rounds (game_of (tables_of owners priorities offsets targets)) made)
              (entry_in (length owners) (length targets) s w0) (entry_in (length owners) (length targets) s w4)
          unfolding game_of
          shows_solved {many} counted =
              let (region, now, won) =
              table_solves g (total round) r (small round) T round.agrees pulled3.certificate
              (not_open round) above_none in
              let same_region : (v : ℕ) → v < n → region_in n m s priorities w4 v ≡ (round_of g r).region v =
              λ v l. region_now v l ∙ sym (region v l) in (
                record {
                  ready = ready4;
                  newcomers = whole_newcomers n m s w4 whole4;
                  current =
                      next_is ∙
                      greatest_cong n (unsolved g (region_in n m s priorities w4)) (unsolved g (round_of g r).region)
                      (region_in n m s priorities w4) (round_of g r).region
                      (λ v l. ap (λ (x : ℕ). ltb v n && ltb x 256) (same_region v l)) same_region ∙
                      sym now;
                  top = rw (← each) (sym (afresh_top priorities offsets targets given4 edges3 listed3 c4));
                  region = same_region;
                  won =
                      λ b v l.
                      won4 b v ∙ c3_won b v ∙
                      ap (λ (x : Bool). cond (same (parity p) b) (x || D v) x) (won2 b v ∙ round.shows.won b v l) ∙
                      sym (won b v l);
                  bare =
                      λ b v l.
                      won4 b v ∙ c3_won b v ∙
                      ap₂ (λ (x y : Bool). cond (same (parity p) b) (x || y) x) (won2 b v ∙ round.shows.bare b v l) (D_bare v l) ∙
                      either (same (parity p) b);
                  left = counted;
                },
                solves round.closed
                    (some_way_read g (total round) r (small round) T round.agrees round.closed ∙ le-ltb (next_above g T p) 256 above_none)
                    round.drawn round.filled
                    (solved_entries_read g (total round) r (small round) T round.agrees pulled3.certificate (λ v d out o. pulled3.near v)
                    (λ v d out o.
                    entry4 v (D_small v d) ∙ rw (gone v d)
                    (pulled3.entered v d (not_true_is_false (at_region (unsolved g T) T p v) (λ i. out (at_is (unsolved g T) T p v i))) o))
                    (λ v l e o. kept_here v l e) (λ v l less out. entry4 v l ∙ rw (left3 v, sym (first_is v) ∙ lt-ltb (T v) 256 less, out))
                    solved_before),
              )
            where
              c3_won :
                  (b : Player) (v : ℕ) →
                  set_at n (won_at n m s b) w3 v ≡
                  cond (same (parity p) b) (set_at n (won_at n m s b) w2 v || D v) (set_at n (won_at n m s b) w2 v)
              c3_won Even v = c3.won Even v
              c3_won Odd v = c3.won Odd v

              won2 : (b : Player) (v : ℕ) → set_at n (won_at n m s b) w2 v ≡ set_at n (won_at n m s b) w0 v
              won2 = won_sets_kept n m round.ready.size w0 w2 round.won_kept

              D_bare : (v : ℕ) → n ≤ v → D v ≡ false
              D_bare v l = not_true_is_false (D v) (λ d. let b = D_small v d in omega arith)

              either : (b : Bool) → cond b (false || false) false ≡ false
              either true = refl
              either false = refl

              -- R keeps its entries
              kept_here : (v : ℕ) → v < n → T v ≡ p → entry_in n m s w4 v ≡ entry_in n m s w2 v
              kept_here v l e =
                  let i : held_in n m s w2 v ≡ true = held_is round v ∙ eq-eqb (T v) p e in
                  let d = c3.pulled.certificate.closed.target v i in
                  let out = not-true (L (suc k) v) (and_right (L k v) _ (sym (round.whole v) ∙ i)) in
                  entry4 v l ∙ rw (gone v d)
                  (c3.pulled.kept v l (λ x no. absurd (clash i no)) ∙ sym (entry2 v out))

              first_of : (v : ℕ) → D v ≡ true → L 0 v ≡ true
              first_of v d = first_in w2 v ∙ c3.pulled.certificate.inside v d

              -- and so does who was solved before
              solved_before : (v : ℕ) → v < n → 256 ≤ T v → entry_in n m s w4 v ≡ entry_in n m s w2 v
              solved_before v l more =
                  let out : L 0 v ≡ false = sym (first_is v) ∙ le-ltb (T v) 256 more in
                  let not-D = not_true_is_false (D v) (λ d. clash (first_of v d) out) in
                  let not_last = outside_all round.ready.nests 0 (suc k) v (omega arith) (le_refl (suc k)) out in
                  entry4 v l ∙ rw (left3 v, out) (c3.pulled.kept v l (λ d. absurd (clash d not-D)) ∙ sym (entry2 v not_last))
