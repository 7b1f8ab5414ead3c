-- `forget` meets its contract: the members that the walk has passed have no entry.
use Rattle.promotion_sets.specs.Forgetting.{Forgettable, ForgottenTo}
use Prim.Native.Nat.{ℕ}
use lib.ListN.{length}
use Rattle.walk.specs.Walk.{words_from, left}
use Rattle.promotion_sets.proofs.level.forget.Given as goal

-- for every number of vertices that fits
abbrev pub invariant-loop-v : goal.invariant-loop-v
invariant-loop-v l =
    (n : ℕ) → Forgettable n l.s l.set l.entries l.initial.work → ForgottenTo n l.set l.entries l.initial.work l.walk l.work

abbrev pub decreases-loop-v : goal.decreases-loop-v
decreases-loop-v l = length (left (words_from l.s l.set l.initial.work) l.walk)
