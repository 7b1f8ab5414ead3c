-- `mark_parity` meets its contract. The loop's invariant: the priorities 2 j + parity for j below k were gone through.
use Rattle.subgame.specs.Parity.{Swept}
use Rattle.subgame.proofs.parity.mark_parity.Given as goal

abbrev pub invariant-loop-k : goal.invariant-loop-k
invariant-loop-k l = Swept l.priorities l.offsets l.targets l.entries l.parity l.base l.k l.initial.work l.work
