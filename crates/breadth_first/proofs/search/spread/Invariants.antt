-- `spread` meets its contract. The loop's invariant: what stands in the queue and in the row, and what stayed.
use Prim.Native.Nat.{◌-◌}
use lib.ListN.{length}
use Rattle.search_links.specs.Graph.{graph_of}
use Rattle.breadth_first.specs.Spreading.{QueueStanding, SpreadKept}
use Rattle.breadth_first.proofs.search.spread.Given as goal

abbrev pub invariant-loop-head : goal.invariant-loop-head
invariant-loop-head l =
    QueueStanding (graph_of l.graph) l.work l.head l.tail × SpreadKept
    (graph_of l.graph) l.initial.work l.work

abbrev pub decreases-loop-head : goal.decreases-loop-head
decreases-loop-head l = length l.graph.priorities.now - l.head
