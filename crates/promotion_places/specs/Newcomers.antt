-- Between two rounds R's place has the newcomers of the current region, those whose predecessors are still to be looked at: all of it
-- where its level has just begun, what was promoted to it otherwise. Into the others nothing more may be drawn. A promotion leaves a mark.
use Rattle.std.specs.Prelude.{Bool, true, false, ◌&&◌, not, List, ◌≡◌, refl, ℕ, get_or}
use Rattle.std.proofs.Common.{sym, ◌∙◌}
use Rattle.rules.specs.Counting.{Set, without}
use Rattle.rules.specs.Game.{Player, Game}
use Rattle.rules.specs.Attractor.{Closed}
use Rattle.theory.specs.PromotionRegions.{closed_empty}
use Rattle.promotion_places.specs.Layout.{depth_in, level_in, held_in, current_in, mark_at, Whole}

-- the others of the current region
abbrev pub settled_in : ℕ → ℕ → ℕ → List ℕ → Set
settled_in n m s work = without (current_in n m s work) (held_in n m s work)

pub record Newcomers (g : Game) (a : Player) (n m s : ℕ) (work : List ℕ) : Type 0 where
  pub part : (v : ℕ) → held_in n m s work v ≡ true → current_in n m s work v ≡ true
  -- without a mark it is all of it
  pub unmarked : get_or work (mark_at n m s) 0 ≡ 0 → Whole n m s work
  pub settled : Closed g a (level_in n m s work (depth_in n m s work)) (settled_in n m s work) (settled_in n m s work)

-- **where all of the region is new, there are no others**
pub whole_newcomers : {g : Game} {a : Player} (n m s : ℕ) (work : List ℕ) → Whole n m s work → Newcomers g a n m s work
whole_newcomers n m s work whole =
    record {
      part = λ v i. sym (whole v) ∙ i;
      unmarked = λ none. whole;
      settled =
          closed_empty (level_in n m s work (depth_in n m s work)) (settled_in n m s work)
          (λ v. rw (whole v) (none (current_in n m s work v)));
    }
  where
    none : (b : Bool) → (b && not b) ≡ false
    none true = refl
    none false = refl
