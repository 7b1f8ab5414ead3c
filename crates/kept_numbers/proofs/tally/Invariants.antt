-- `tally` meets its contract. The loop's invariant: the priorities passed are counted.
use Rattle.kept_numbers.specs.Steps.{Tallied}
use Rattle.kept_numbers.proofs.tally.Given as goal

abbrev pub invariant-loop-p : goal.invariant-loop-p
invariant-loop-p l = Tallied l.p-index l.priorities l.counts
