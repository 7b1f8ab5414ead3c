-- The loop's invariant: no bit passed speaks against the partition.
use Rattle.parity_game.specs.Search.{FailsBelow}
use Rattle.checker_partition.specs.Partition.{stray_at}
use Rattle.checker_partition.proofs.partition.check_partition.Given as goal

abbrev pub invariant-loop-b : goal.invariant-loop-b
invariant-loop-b l = FailsBelow l.b (stray_at l.n l.even l.odd)
