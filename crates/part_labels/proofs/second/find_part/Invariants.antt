-- `find_part` meets its contract. The loop's invariant: the search for the part so far.
use Prim.Native.Nat.{◌-◌}
use lib.ListN.{length}
use Rattle.search_links.specs.Graph.{graph_of}
use Rattle.part_labels.specs.Finding.{Seeking}
use Rattle.part_labels.proofs.second.find_part.Given as goal

abbrev pub invariant-loop-head : goal.invariant-loop-head
invariant-loop-head l =
    Seeking (graph_of l.graph) l.initial.work l.r l.work l.head l.tail

abbrev pub decreases-loop-head : goal.decreases-loop-head
decreases-loop-head l = length l.graph.priorities.now - l.head
