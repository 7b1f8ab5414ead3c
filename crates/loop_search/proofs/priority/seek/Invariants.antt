-- `seek` meets its contract. The loop's invariant: for the priorities passed v reaches no head.
use Rattle.loop_search.specs.Finding.{LoopSeeking}
use Rattle.loop_search.proofs.priority.seek.Given as goal

abbrev pub invariant-loop-k : goal.invariant-loop-k
invariant-loop-k l = LoopSeeking l.priorities l.offsets l.targets l.entries l.parity l.v l.initial.work l.k l.work
