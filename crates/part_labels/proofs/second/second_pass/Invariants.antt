-- `second_pass` meets its contract. The loop's invariant: the parts of the last i vertices of the order are found.
use Prim.Native.Nat.{◌-◌}
use Rattle.search_links.specs.Graph.{graph_of}
use Rattle.part_labels.specs.Finding.{Passing}
use Rattle.part_labels.proofs.second.second_pass.Given as goal

abbrev pub invariant-loop-i : goal.invariant-loop-i
invariant-loop-i l =
    Passing (graph_of l.graph) l.initial.work l.done (l.done - l.i) l.work

abbrev pub decreases-loop-i : goal.decreases-loop-i
decreases-loop-i l = l.i
