-- `targets_length` meets its contract. The loop's invariant: the sum is what the targets passed need.
use Rattle.std.proofs.Common.{◌≡◌, take}
use Rattle.writing.specs.Lengths.{after_each}
use Rattle.pgsolver_writer.proofs.length.targets_length.Given as goal

abbrev pub invariant-loop-t : goal.invariant-loop-t
invariant-loop-t l = l.sum ≡ after_each (take l.t-index l.targets)
