-- `read_portion` meets its contract. The loop's invariant: the bytes passed are read.
use Rattle.pgsolver_step.specs.Portions.{BytesPassed}
use Rattle.pgsolver_step.proofs.portion.read_portion.Given as goal

abbrev pub invariant-loop-b : goal.invariant-loop-b
invariant-loop-b l =
    BytesPassed l.most_bytes l.vertices l.edges l.place l.initial.s l.text l.initial.owners l.initial.priorities l.initial.offsets
    l.initial.targets l.s l.at l.b-index l.owners l.priorities l.offsets l.targets
