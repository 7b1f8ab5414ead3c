-- The entries of priority promotion in the rules: a vertex has none where its region's player, or its winner, does not own it, and
-- once all vertices are solved they are a winning choice.
use Rattle.std.specs.Prelude.{Bool, true, false, ◌&&◌, not, ◌≡◌, eqb}
use Rattle.std.proofs.Common.{⊎_elim, sym, ap, ◌∙◌, arith, ltb-true}
use Rattle.std.proofs.Math.Path.{refl}
use Prim.Native.Nat.{ℕ, zero, suc, ◌≤◌, ◌<◌}
use Rattle.rules.specs.Counting.{Set, some, listed, union, within}
use Rattle.rules.specs.Game.{Player, Game, Total, parity, same}
use Rattle.rules.specs.Words.{no_entry}
use Rattle.rules.specs.Winning.{WinningEntries}
use Rattle.rules.specs.Promotion.{Regions, solved_region, region_set, drawn_entries, closed_entries, region_is_open, way_out, round_of, at_start}
use Rattle.rules.specs.Promotion.{after_rounds, all_solved}
use Rattle.basics.specs.Basics.{bool_cases, clash, not_true_is_false, and_left, and_right, lt_or_ge, if_true, if_false}
use Rattle.theory.specs.Players.{same_true}
use Rattle.basics.specs.Basics.{get_or_listed}
use Rattle.basics.specs.Basics.{within_member, union_cases, without_left, without_right}
use Rattle.basics.specs.Basics.{noted_below}
use Rattle.theory.specs.PromotionBasics.{at_region, at_is}
use Rattle.theory.specs.PromotionEntries.{mover, remaining, promoted_to, dominion_set}
use Rattle.theory.specs.PromotionTests.{unsolved_below, region_in_lem, region_bare, dominion_bare, promoted_small}
use Rattle.theory.specs.PromotionRounds.{Round, opening, promoting, solving, round_kind, round_opens, round_promotes}
use Rattle.theory.specs.PromotionRounds.{round_solves}
use Rattle.theory.specs.PromotionRounds.{lowered_state, promoted_state, solved_state, attracted_unsolved, attracted_gained}
use Rattle.theory.specs.PromotionRounds.{attracted_rest}
use Rattle.theory.specs.PromotionRounds.{promoted_unsolved, promoted_gained, promoted_kept, solved_unsolved}
use Rattle.theory.specs.PromotionRegions.{promoted_player}
use Rattle.theory.specs.PromotionStanding.{open_goes_down, placed_here, way_promotes}
use Rattle.theory.specs.PromotionInvariant.{Invariant, rounded_invariant}
use Rattle.theory.specs.PromotionExists.{drawn_at_lem, closed_at, drawn_outside, closed_outside, rules_promoted, rules_solved}
use Rattle.theory.specs.PromotionExists.{after_rounded}
use Rattle.theory.specs.PromotionSound.{promotion_entries}

-- a vertex that its region's player, or its winner, does not own has no entry
pub record Bare (g : Game) (s : Regions) : Type 0 where
  pub unsolved_bare : (v : ℕ) → remaining g s v ≡ true → (g.owner v ≡ parity (s.region v) → ⊥) → s.entries v ≡ no_entry
  pub won_bare : (a : Player) (v : ℕ) → s.won a v ≡ true → (g.owner v ≡ a → ⊥) → s.entries v ≡ no_entry

module _
    (g : Game)
    (total : Total g)
    (low : (v : ℕ) → v < g.size → g.priority v ≤ 255)
    (few : g.size ≤ no_entry)
  where
    below_solved : (v : ℕ) → v < g.size → g.priority v < solved_region
    below_solved v l = let k = low v l in omega arith

    start_bare : Bare g (at_start g)
    unfolding at_start
    start_bare = record { unsolved_bare = λ v i o. refl; won_bare = λ a v m o. refl }

    module _ {s : Regions} (inv : Invariant g s s.entries) (bare : Bare g s) where
      abbrev R : Set
      R = region_set g s

      won_below : (a : Player) (v : ℕ) → s.won a v ≡ true → v < g.size
      won_below a v m = ltb-true v g.size ((inv.solved.dominion a).within v m)

      won_solved : (a : Player) (v : ℕ) → s.won a v ≡ true → remaining g s v ≡ false
      won_solved a v m = not_true_is_false (remaining g s v) (λ i. clash m (inv.solved.apart a v i))

      won_outside : (a : Player) (v : ℕ) → s.won a v ≡ true → R v ≡ false
      won_outside a v m = not_true_is_false (R v) (λ r. clash (region_in_lem g s v r) (won_solved a v m))

      -- an opponent's vertex of R has none, drawn in or not, closed or not
      drawn_bare : (v : ℕ) → R v ≡ true → (g.owner v ≡ mover s → ⊥) → drawn_entries g s R v ≡ no_entry
      drawn_bare v m o =
          drawn_at_lem g s v (unsolved_below g s.region v (region_in_lem g s v m)) ∙
          ⊎_elim
          (λ (t : at_region (remaining g s) s.region s.current v ≡ true).
          if_false _ (not_so t) ∙
          bare.unsolved_bare v (region_in_lem g s v m)
          (λ mine. o (mine ∙ ap parity (at_is (remaining g s) s.region s.current v t))))
          (λ (t : at_region (remaining g s) s.region s.current v ≡ false). if_true _ (so t) ∙ region_bare g s v o)
          (bool_cases (at_region (remaining g s) s.region s.current v))
        where
          so :
              at_region (remaining g s) s.region s.current v ≡ false →
              (R v && not (at_region (remaining g s) s.region s.current v)) ≡ true
          so t = ap (λ (b : Bool). R v && not b) t ∙ ap (λ (b : Bool). b && true) m

          not_so :
              at_region (remaining g s) s.region s.current v ≡ true →
              (R v && not (at_region (remaining g s) s.region s.current v)) ≡ false
          not_so t = ap (λ (b : Bool). R v && not b) t ∙ ap (λ (b : Bool). b && false) m

      closed_bare : (v : ℕ) → R v ≡ true → (g.owner v ≡ mover s → ⊥) → closed_entries g s R v ≡ no_entry
      closed_bare v m o =
          closed_at g s v (unsolved_below g s.region v (region_in_lem g s v m)) ∙
          if_false _
          (not_true_is_false
          (R v && same (g.owner v) (mover s) && eqb (drawn_entries g s R v) no_entry)
          (λ q. o (same_true (g.owner v) (mover s) (and_right (R v) _ (and_left (R v && same (g.owner v) (mover s)) _ q))))) ∙
          drawn_bare v m o

      bare_opened : Bare g (lowered_state g s)
      bare_opened =
          record {
            unsolved_bare =
                λ v i o.
                let j = attracted_unsolved g s inv.standing.small v ∙ i in
                ⊎_elim
                (λ m. drawn_bare v m (λ mine. o (mine ∙ ap parity (sym (attracted_gained g s v m)))))
                (λ m.
                drawn_outside g s v (unsolved_below g s.region v j) m ∙
                bare.unsolved_bare v j (λ mine. o (mine ∙ ap parity (sym (attracted_rest g s v j m)))))
                (bool_cases (R v));
            won_bare =
                λ a v m o. drawn_outside g s v (won_below a v m) (won_outside a v m) ∙ bare.won_bare a v m o;
          }

      module _ (closed : region_is_open g s R ≡ false) where
        bare_promoted : some g.size (way_out g s R) ≡ true → Bare g (promoted_state g s)
        bare_promoted has =
            record {
              unsolved_bare =
                  λ v i o.
                  let j = promoted_unsolved g s (promoted_small g s closed has) below_solved v ∙ i in
                  ⊎_elim
                  (λ m.
                  (rules_promoted g s).promoted v m ∙
                  closed_bare v m (λ mine. o (mine ∙ sym player ∙ ap parity (sym (promoted_gained g s v m)))))
                  (λ m.
                  ⊎_elim
                  (λ less. (rules_promoted g s).cleared v j m less)
                  (λ more.
                  (rules_promoted g s).higher v j more ∙
                  closed_outside g s v (unsolved_below g s.region v j) m ∙
                  bare.unsolved_bare v j (λ mine. o (mine ∙ ap parity (sym (promoted_kept g s v j m more)))))
                  (lt_or_ge (s.region v) (promoted_to g s)))
                  (bool_cases (R v));
              won_bare =
                  λ a v m o.
                  (rules_promoted g s).solved v (won_below a v m) (won_solved a v m) ∙
                  closed_outside g s v (won_below a v m) (won_outside a v m) ∙
                  bare.won_bare a v m o;
            }
          where
            player : parity (promoted_to g s) ≡ mover s
            player =
                promoted_player (placed_here g s inv.standing.placed) (way_promotes g s inv.standing.placed closed has)

        bare_solved : Bare g (solved_state g s)
        bare_solved =
            record {
              unsolved_bare =
                  λ v i o.
                  let j = solved_unsolved g s below_solved v ∙ i in
                  (rules_solved g s few).cleared v
                  (without_left (remaining g s) (dominion_set g s) v j)
                  (without_right (remaining g s) (dominion_set g s) v j);
              won_bare =
                  λ b v m o. ⊎_elim (mine b v m o) (λ e. before b v (rw e at m) o) (bool_cases (same (mover s) b));
            }
          where
            -- what was won before
            before : (b : Player) (v : ℕ) → s.won b v ≡ true → (g.owner v ≡ b → ⊥) → (solved_state g s).entries v ≡ no_entry
            before b v m o =
                (rules_solved g s few).solved v (won_below b v m) (won_solved b v m) ∙
                closed_outside g s v (won_below b v m) (won_outside b v m) ∙
                bare.won_bare b v m o

            drawn : (v : ℕ) → dominion_set g s v ≡ true → (g.owner v ≡ mover s → ⊥) → (solved_state g s).entries v ≡ no_entry
            drawn v d o =
                let i = (rules_solved g s few).certificate.inside v d in
                noted_below no_entry g.size _ v (unsolved_below g s.region v i) ∙
                ⊎_elim
                (λ (m : R v ≡ true). if_true _ m ∙ closed_bare v m o)
                (λ (m : R v ≡ false). if_false _ m ∙ if_true _ i ∙ dominion_bare g s v (λ k mine. o mine))
                (bool_cases (R v))

            mine :
                (b : Player) (v : ℕ) →
                (solved_state g s).won b v ≡ true →
                (g.owner v ≡ b → ⊥) →
                same (mover s) b ≡ true →
                (solved_state g s).entries v ≡ no_entry
            mine b v m o e =
                let won : within g.size (union (s.won b) (dominion_set g s)) v ≡ true = rw e at m in
                ⊎_elim
                (λ k. before b v k o)
                (λ d. drawn v d (λ own. o (own ∙ same_true (mover s) b e)))
                (union_cases (s.won b) (dominion_set g s) v (within_member g.size _ v won).1)

      round_bare : Bare g (round_of g s)
      round_bare = go (round_kind g s)
        where
          go : Round g s → Bare g (round_of g s)
          go (opening opens) =
              rw
              (round_opens g s opens (open_goes_down g s inv.standing.small inv.standing.placed opens))
              bare_opened
          go (promoting closed has) = rw (round_promotes g s closed has) (bare_promoted closed has)
          go (solving closed none) = rw (round_solves g s closed none) (bare_solved closed)

    -- the invariant holds of the rules' own entries, and they are bare
    pub after_invariant : (k : ℕ) → Invariant g (after_rounds g k) (after_rounds g k).entries
    after_invariant k = rounded_invariant g total low few (after_rounded g few k)

    pub after_bare : (k : ℕ) → Bare g (after_rounds g k)
    unfolding after_rounds
    after_bare zero = start_bare
    after_bare (suc k) = round_bare (after_invariant k) (after_bare k)

    -- **Once all vertices are solved, the entries of the rules' rounds are a winning choice.**
    pub promotion_entries_win :
        (k : ℕ) →
        all_solved g (after_rounds g k) ≡ true →
        WinningEntries g (after_rounds g k).won (listed g.size (after_rounds g k).entries)
    promotion_entries_win k done =
        promotion_entries g total low few (after_rounded g few k) done
        (listed g.size (after_rounds g k).entries)
        (λ a v l m o. get_or_listed g.size (after_rounds g k).entries v no_entry l)
        (λ a v l m o. get_or_listed g.size (after_rounds g k).entries v no_entry l ∙ (after_bare k).won_bare a v m o)
