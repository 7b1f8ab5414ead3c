-- `is_fresh` meets its contract.
use Rattle.std.proofs.Common.{rules}
use Rattle.search_links.specs.Graph.{fresh_at}
use Rattle.search_links.proofs.links.Graph.is_fresh.Goals as goal

pub returns-then-self-x : goal.returns-then-self-x
unfolding fresh_at
returns-then-self-x c = search rules

pub returns-else-self-x : goal.returns-else-self-x
unfolding fresh_at
returns-else-self-x c = search rules
