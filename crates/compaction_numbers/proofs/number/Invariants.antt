-- `number` meets its contract. The loop's invariant: the used priorities passed have their new numbers, and the last is at hand.
use Rattle.compaction_numbers.specs.Steps.{NumbersGiven}
use Rattle.compaction_numbers.proofs.number.Given as goal

abbrev pub invariant-loop-p : goal.invariant-loop-p
invariant-loop-p l = NumbersGiven l.p l.fn.used l.numbers l.last
