-- `sum_up` meets its contract. The loop's invariant: the counts passed are looked at.
use Prim.Native.Nat.{◌≤◌, ◌-◌}
use Rattle.kept_numbers.specs.Steps.{CountsSummed}
use Rattle.kept_numbers.proofs.sum_up.Given as goal

abbrev pub invariant-loop-p : goal.invariant-loop-p
invariant-loop-p l = (l.p ≤ 256) × (l.different ≤ l.p) × CountsSummed l.p l.kept l.different l.highest

abbrev pub decreases-loop-p : goal.decreases-loop-p
decreases-loop-p l = 256 - l.p
