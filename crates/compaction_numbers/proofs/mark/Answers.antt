-- `mark` meets its contract. The loop's invariant: the marks tell which priorities the entries passed have.
use Rattle.std.proofs.Common.{refl, ◌∙◌, length-set}
use Rattle.compaction_numbers.specs.Steps.{marks_none, marks_more}
use Rattle.compaction_numbers.proofs.mark.Goals as goal

pub loop-p-init : goal.loop-p-init
loop-p-init c = (refl, marks_none _)

pub loop-p-preserved : goal.loop-p-preserved
loop-p-preserved c =
    let (long, told) = c.loop-p.invariant in (length-set _ _ _ ∙ long, marks_more _ _ _ long told)
