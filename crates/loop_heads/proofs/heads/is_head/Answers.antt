-- `is_head` meets its contract.
use Rattle.std.proofs.Common.{rules}
use Rattle.loop_heads.specs.Heads.{head}
use Rattle.loop_heads.proofs.heads.is_head.Goals as goal

pub returns-then-graph-v : goal.returns-then-graph-v
unfolding head
returns-then-graph-v c = search rules

pub returns-else-graph-v : goal.returns-else-graph-v
unfolding head
returns-else-graph-v c = search rules
