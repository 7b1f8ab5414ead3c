-- R is closed and goes over to a higher region: what the work area shows then.
use Rattle.std.specs.Prelude.{Bool, true, false, ◌&&◌, not, List, ◌≡◌, refl, ℕ, suc, ◌%◌, ◌<◌, ltb, length, get_or}
use Rattle.std.proofs.Math.Bool.{cond}
use Rattle.std.proofs.Math.Logic.{⊎_elim}
use Rattle.std.proofs.Math.Path.{sym, ap, ap₂, fun_ext}
use Rattle.std.proofs.Common.{subst₂, ◌∙◌, arith}
use borrow.Author.Tests.{lt-ltb}
use Rattle.rules.specs.Counting.{Set, without}
use Rattle.rules.specs.Game.{Player, Game, parity}
use Rattle.rules.specs.Tables.{game_of, tables_of}
use Rattle.rules.specs.Words.{no_entry}
use Rattle.rules.specs.Attractor.{Closed}
use Rattle.rules.specs.Promotion.{Regions, unsolved, round_of, after_rounds}
use Rattle.basics.specs.Basics.{and_left, count_cong, lt_or_ge, noted_above}
use Rattle.theory.specs.PromotionBasics.{at_region, up_to, closed_cong}
use Rattle.theory.specs.PromotionEntries.{remaining, RoundEntries, promotes}
use Rattle.theory.specs.PromotionRegions.{SettledAt}
use Rattle.theory.specs.PromotionRounds.{attracted_region, attracted_unsolved}
use Rattle.theory.specs.PromotionStanding.{placed_here}
use Rattle.theory.specs.PromotionTable.{next_above, some_way_read, table_promotes, promoted_entries_read}
use Rattle.area.specs.Area.{set_at}
use Rattle.promotion_levels.specs.Nesting.{Nesting, inside_all, falls_all, up_is, here_is}
use Rattle.promotion_levels.specs.Layout.{held_at, won_at, depth_at, level_at, mark_at, depth_in, top_in, level_in, held_in, region_in}
use Rattle.promotion_levels.specs.Layout.{entry_in}
use Rattle.promotion_levels.specs.Places.{solved_above, left_is}
use Rattle.promotion_escape.specs.Highest.{HighestLevel}
use Rattle.promotion_escape.specs.ByRegions.{region_before}
use Rattle.promotion_moves.specs.Promotion.{PromotedTo, region_promoted, entry_promoted, ready_promoted, newcomers_promoted, won_promoted}
use Rattle.promotion_moves.specs.Promotion.{top_promoted, left_promoted}
use Rattle.promotion_rounds.specs.Shown.{Shows}
use Rattle.promotion_rounds.specs.ClosedRound.{ClosedRound, total, standing, small, held_is, not_open, found_above}
use Rattle.promotion_rounds.specs.WonKept.{won_sets_kept}

-- what lies in a is a's part of it
and_part : (a b : Bool) → (b ≡ true → a ≡ true) → (a && b) ≡ b
and_part true b inside = refl
and_part false true inside = inside refl
and_part false false inside = refl

module _ {owners priorities offsets targets : List ℕ} {s made current left : ℕ} {w0 w2 : List ℕ} {σ : ℕ → ℕ}
    (round : ClosedRound owners priorities offsets targets s made current left w0 w2 σ)
  where
    abbrev n : ℕ
    n = length owners

    abbrev m : ℕ
    m = length targets

    abbrev g : Game
    g = game_of (tables_of owners priorities offsets targets)

    abbrev r : Regions
    r = after_rounds g made

    abbrev p : ℕ
    p = r.current

    abbrev k : ℕ
    k = depth_in n m s w2

    abbrev T : ℕ → ℕ
    T = region_in n m s priorities w2

    abbrev L : ℕ → Set
    L = level_in n m s w2

    nests : Nesting n k L (top_in n m s w2) (λ v. get_or priorities v 0)
    nests = round.ready.nests

    -- the regions are the rules', also where there is no vertex
    agrees_all : (v : ℕ) → T v ≡ attracted_region g r v
    unfolding game_of
    agrees_all v =
        ⊎_elim
        (λ l. round.agrees v l)
        (λ l. solved_above owners priorities offsets targets nests v l ∙ sym (noted_above 256 g.size _ v l))
        (lt_or_ge v n)

    remain : (v : ℕ) → remaining g r v ≡ unsolved g T v
    remain v = attracted_unsolved g r (small round) v ∙ ap (λ (f : ℕ → ℕ). unsolved g f v) (sym (fun_ext agrees_all))

    module _ (j : ℕ) (h : HighestLevel owners offsets targets (p % 2) (held_in n m s w2) (level_in n m s w2) k (suc j))
        {w3 : List ℕ} (c : PromotedTo n s (held_at n m s) (depth_at n m s) (level_at n m s j) (mark_at n m s) j w2 w3)
      where
        down : j < k
        down = h.top

        q_is : top_in n m s w2 j ≡ next_above g T p
        unfolding region_before
        q_is = found_above round (suc j) h

        q_less : next_above g T p < 256
        q_less =
            let low = falls_all round.ready.nests 0 j (omega arith) (omega arith) in
            let top_small = round.ready.nests.small in
            rw (← q_is) (omega arith)

        q_above : p < top_in n m s w2 j
        q_above =
            let low = falls_all nests (suc j) k down (omega arith) in
            let less = nests.falls j down in
            rw (← round.top) (omega arith)

        first : (v : ℕ) → L j v ≡ true → L 0 v ≡ true
        first v i = inside_all nests 0 j v (omega arith) (omega arith) i

        -- nothing more may be drawn into the region of level j, which is above p
        settled : Closed g (parity (top_in n m s w2 j)) (L j) (without (L j) (L (suc j))) (without (L j) (L (suc j)))
        settled =
            let q = top_in n m s w2 j in
            closed_cong (up_to (unsolved g T) T q) (L j) (at_region (unsolved g T) T q) (without (L j) (L (suc j)))
            (λ v.
            ap₂ (λ (x y : Bool). x && y) (left_is owners priorities offsets targets nests v) (up_is nests j v (omega arith)) ∙
            and_part (L 0 v) (L j v) (first v))
            (λ v.
            ap₂ (λ (x y : Bool). x && y) (left_is owners priorities offsets targets nests v) (here_is nests j v (omega arith)) ∙
            and_part (L 0 v) (L j v && not (L (suc j) v)) (λ i. first v (and_left (L j v) _ i)))
            (subst₂ (λ (X : Set) (f : ℕ → ℕ). SettledAt g X f q) (fun_ext remain) (sym (fun_ext agrees_all))
            ((placed_here g r (standing round).placed).settled q q_above))

        won3 : (b : Player) (v : ℕ) → set_at n (won_at n m s b) w3 v ≡ set_at n (won_at n m s b) w0 v
        won3 =
            won_sets_kept n m round.ready.size w0 w3
            (λ i low high. won_promoted round.ready j down round.whole c i low high ∙ round.won_kept i low high)

        -- **the work area shows the state after a promotion**
        pub shows_promoted :
            Shows owners priorities offsets targets s
            (round_of (game_of (tables_of owners priorities offsets targets))
            (after_rounds (game_of (tables_of owners priorities offsets targets)) made))
            (top_in (length owners) (length targets) s w2 j) left w3 ×
            RoundEntries (game_of (tables_of owners priorities offsets targets))
            (after_rounds (game_of (tables_of owners priorities offsets targets)) made)
            (entry_in (length owners) (length targets) s w0) (entry_in (length owners) (length targets) s w3)
        unfolding game_of
        shows_promoted =
            let (region, now, won) = table_promotes g (total round) r (small round) T round.agrees (not_open round) q_less in (
              record {
                ready = ready_promoted round.ready j down round.whole c;
                newcomers = newcomers_promoted round.ready j down round.whole c settled;
                current = q_is ∙ sym now;
                top = sym (top_promoted round.ready j down round.whole c);
                region =
                    λ v l.
                    region_promoted round.ready j down round.whole c v ∙
                    ap₂ (λ (b : Bool) (x : ℕ). cond b x (cond (ltb (T v) x) (get_or priorities v 0) (T v))) (held_is round v) q_is ∙
                    sym (region v l);
                won = λ b v l. won3 b v ∙ round.shows.won b v l ∙ ap (λ (f : Player → Set). f b v) (sym won);
                bare = λ b v l. won3 b v ∙ round.shows.bare b v l;
                left = round.shows.left ∙ count_cong n _ _ (λ v l. sym (left_promoted round.ready j down round.whole c v ∙ round.left_kept v));
              },
              promotes round.closed
                  (some_way_read g (total round) r (small round) T round.agrees round.closed ∙ lt-ltb (next_above g T p) 256 q_less)
                  round.drawn round.filled
                  (promoted_entries_read g (total round) r (small round) T round.agrees
                  (λ v l.
                  entry_promoted round.ready j down round.whole c v l ∙
                  ap₂ (λ (b : Bool) (x : ℕ). cond b (entry_in n m s w2 v) (cond (ltb (T v) x) no_entry (entry_in n m s w2 v)))
                  (held_is round v) q_is)),
            )
