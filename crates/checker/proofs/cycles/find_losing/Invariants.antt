-- The loop's invariant: no vertex passed is marked.
use Rattle.parity_game.specs.Search.{FailsBelow}
use Rattle.checker.specs.Cycles.{losing_at}
use Rattle.checker.proofs.cycles.find_losing.Given as goal

abbrev pub invariant-loop-v : goal.invariant-loop-v
invariant-loop-v l = FailsBelow l.v (losing_at l.even l.work l.rows l.n)
