-- `dropped_edges` meets its contract. The loop's invariant: those passed that lead to no vertex are counted.
use Rattle.std.proofs.Common.{◌≡◌, [], length}
use Rattle.rules.specs.Mending.{dropped_up_to}
use Rattle.mend_counts.specs.Bare.{bare}
use Rattle.mend_counts.proofs.counts.dropped_edges.Given as goal

abbrev pub invariant-loop-target : goal.invariant-loop-target
invariant-loop-target l = l.dropped ≡ length (dropped_up_to (bare l.owners [] l.targets) l.target-index)
