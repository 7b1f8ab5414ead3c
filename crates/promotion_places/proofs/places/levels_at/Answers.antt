-- `levels_at` meets its contract: there are at most as many different priorities as vertices.
use native.Mathlib.Omega.{arith}
use Rattle.promotion_places.specs.Layout.{deep}
use Rattle.promotion_places.proofs.places.levels_at.Goals as goal
use Rattle.promotion_places.proofs.places.levels_at.Goals.{then-n-lt-PRIORITIES, else-n-lt-PRIORITIES}

pub overflow_add-result-2 : goal.overflow_add-result-2
overflow_add-result-2 c = elim c.if-n-lt-PRIORITIES.branch [
  | then-n-lt-PRIORITIES y ↦
      omega arith
  | else-n-lt-PRIORITIES y ↦
      omega arith
]

pub returns : goal.returns
unfolding deep
returns c = elim c.if-n-lt-PRIORITIES.branch [
  | then-n-lt-PRIORITIES y ↦
      omega arith
  | else-n-lt-PRIORITIES y ↦
      omega arith
]
