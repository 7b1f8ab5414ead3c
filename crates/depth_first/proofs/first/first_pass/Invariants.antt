-- `first_pass` meets its contract. The loop's invariant: the roots below r were searched from.
use Rattle.search_links.specs.Graph.{graph_of}
use Rattle.depth_first.specs.Pass.{Rooting}
use Rattle.depth_first.proofs.first.first_pass.Given as goal

abbrev pub invariant-loop-r : goal.invariant-loop-r
invariant-loop-r l = Rooting (graph_of l.graph) l.initial.work l.work l.r l.done
