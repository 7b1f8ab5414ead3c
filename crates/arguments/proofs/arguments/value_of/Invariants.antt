-- `value_of` meets its contract. The loop's invariant: the value of the digits passed.
use Rattle.arguments.specs.Asking.{Valued}
use Rattle.arguments.proofs.arguments.value_of.Given as goal

abbrev pub invariant-loop-d : goal.invariant-loop-d
invariant-loop-d l = Valued l.digits l.d-index l.value
