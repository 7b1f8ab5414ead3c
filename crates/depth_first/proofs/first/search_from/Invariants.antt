-- `search_from` meets its contract. The loop's invariant: the search from r so far. Each move brings a vertex onto the stack or off it.
use Prim.Native.Nat.{◌+◌, ◌-◌, ◌*◌}
use lib.ListN.{length}
use Rattle.search_links.specs.Graph.{graph_of}
use Rattle.depth_first.specs.Pass.{Searching}
use Rattle.depth_first.proofs.first.search_from.Given as goal

abbrev pub invariant-loop-at : goal.invariant-loop-at
invariant-loop-at l =
    Searching (graph_of l.graph) l.initial.work l.r l.work l.at.top l.at.done

abbrev pub decreases-loop-at : goal.decreases-loop-at
decreases-loop-at l = 2 * length l.graph.priorities.now - (l.at.top + 2 * l.at.done)
