-- `seek` meets its contract.
use Rattle.std.proofs.Common.{arith}
use Rattle.loop_search.specs.Finding.{seeking_on, seeking_met}
use Rattle.loop_search.proofs.priority.seek.Goals as goal

pub returns-then-work-labels-ne0 : goal.returns-then-work-labels-ne0
returns-then-work-labels-ne0 c =
    seeking_met _ _ _ _ _ _ _ c.requires.0 _ _ c.loop-k.invariant _ c.find.ensures (omega arith)
    (rw c.labels-labels.ensures at c.if-work-labels-ne0.true)

pub loop-k-preserved : goal.loop-k-preserved
loop-k-preserved c =
    seeking_on _ _ _ _ _ _ _ c.requires.0 _ _ c.loop-k.invariant _ c.find.ensures
    (rw c.labels-labels.ensures at c.if-work-labels-ne0.false)
