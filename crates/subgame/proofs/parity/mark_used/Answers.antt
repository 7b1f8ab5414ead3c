-- `mark_used` meets its contract: where no vertex has the priority there is nothing to mark.
use Rattle.std.proofs.Common.{arith}
use Rattle.subgame.specs.Parity.{kept_long, kept_unused, marked_unused}
use Rattle.subgame.proofs.parity.mark_used.Goals as goal

pub bounds-kept-graph : goal.bounds-kept-graph
bounds-kept-graph c = omega (arith, kept_long _ _ c.requires.1, c.requires.2)

pub returns-else-kept-graph-ne0 : goal.returns-else-kept-graph-ne0
returns-else-kept-graph-ne0 c = marked_unused _ _ _ (kept_unused _ _ _ c.requires.1 c.requires.2 c.if-kept-graph-ne0.false)
