-- `write_dropped` meets its contract. The loop's invariant: those passed that lead to no vertex are written.
use Rattle.std.proofs.Common.{[]}
use Rattle.rules.specs.Mending.{dropped_up_to}
use Rattle.mend_counts.specs.Bare.{bare}
use Rattle.mend_counts.specs.Placed.{WrittenUpTo}
use Rattle.mend_list.proofs.list.write_dropped.Given as goal

abbrev pub invariant-loop-e : goal.invariant-loop-e
invariant-loop-e l = WrittenUpTo 0 (dropped_up_to (bare l.owners [] l.targets) l.e) l.initial.list l.list l.end
