-- `spread_heads` meets its contract. The loop's invariant: the heads passed stand in the queue.
use Rattle.search_links.specs.Graph.{graph_of}
use Rattle.loop_heads.specs.Heads.{among_all, Heading}
use Rattle.loop_heads.proofs.heads.spread_heads.Given as goal

abbrev pub invariant-loop-v : goal.invariant-loop-v
invariant-loop-v l = Heading (among_all (graph_of l.graph)) l.graph.p l.row l.initial.work l.v l.work l.end
