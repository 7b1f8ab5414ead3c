-- `all_digits` meets its contract. The loop's invariant: the bytes passed are digits.
use Rattle.arguments.specs.Asking.{Tested}
use Rattle.arguments.proofs.arguments.all_digits.Given as goal

abbrev pub invariant-loop-b : goal.invariant-loop-b
invariant-loop-b l = Tested l.bytes l.b-index
