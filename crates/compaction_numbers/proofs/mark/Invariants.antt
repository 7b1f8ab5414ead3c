-- `mark` meets its contract. The loop's invariant: the marks tell which priorities the entries passed have.
use Rattle.std.proofs.Common.{◌≡◌, length}
use Rattle.compaction_numbers.specs.Steps.{MarksOf}
use Rattle.compaction_numbers.proofs.mark.Given as goal

abbrev pub invariant-loop-p : goal.invariant-loop-p
invariant-loop-p l = (length l.used ≡ 256) × MarksOf l.p-index l.priorities l.used
