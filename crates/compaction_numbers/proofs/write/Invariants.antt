-- `write` meets its contract. The loop's invariant: the entries passed are written.
use Rattle.std.proofs.Common.{get_or}
use Rattle.compaction_numbers.specs.Steps.{Written}
use Rattle.compaction_numbers.proofs.write.Given as goal

abbrev pub invariant-loop-v : goal.invariant-loop-v
invariant-loop-v l = Written l.v (λ p. get_or l.numbers p 0) l.priorities l.new_priorities
