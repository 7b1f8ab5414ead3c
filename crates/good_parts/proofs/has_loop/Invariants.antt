-- `has_loop` meets its contract. The loop's invariant: no edge before e ends in v.
use Rattle.search_links.specs.Graph.{graph_of}
use Rattle.good_parts.specs.Good.{Looping}
use Rattle.good_parts.proofs.has_loop.Given as goal

abbrev pub invariant-loop-e : goal.invariant-loop-e
invariant-loop-e l = Looping (graph_of l.graph) l.v l.e
