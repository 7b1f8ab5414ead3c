-- `next_edge` meets its contract. The loop's invariant: no edge passed leads to a vertex not yet visited.
use Prim.Native.Nat.{◌-◌}
use Rattle.search_links.specs.Graph.{graph_of}
use Rattle.depth_first.specs.Walking.{Scanning}
use Rattle.depth_first.proofs.first.next_edge.Given as goal

abbrev pub invariant-loop-e : goal.invariant-loop-e
invariant-loop-e l =
    Scanning (graph_of l.graph) l.work l.t l.from l.end l.e

abbrev pub decreases-loop-e : goal.decreases-loop-e
decreases-loop-e l = l.end - l.e
