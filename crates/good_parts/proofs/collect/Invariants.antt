-- `collect` meets its contract. The loop's invariant: the vertices below v are tested.
use Rattle.search_links.specs.Graph.{graph_of}
use Rattle.good_parts.specs.Good.{TestedBelow}
use Rattle.good_parts.proofs.collect.Given as goal

abbrev pub invariant-loop-v : goal.invariant-loop-v
invariant-loop-v l = TestedBelow (graph_of l.graph) l.initial.work l.base l.v l.work
