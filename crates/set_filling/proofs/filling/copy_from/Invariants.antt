-- `copy_from` meets its contract. The invariant: the first i words are copied.
use Rattle.set_filling.specs.Filling.{Copied}
use Rattle.set_filling.proofs.filling.copy_from.Given as goal

abbrev pub invariant-loop-i : goal.invariant-loop-i
invariant-loop-i l = Copied l.i l.from l.set
