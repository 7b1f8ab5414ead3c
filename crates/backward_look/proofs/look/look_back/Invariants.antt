-- `look_back` meets its contract. The loop's invariant: the entries before e were looked at.
use Rattle.search_links.specs.Graph.{graph_of}
use Rattle.backward_look.specs.Seeking.{LookingBack}
use Rattle.backward_look.proofs.look.look_back.Given as goal

abbrev pub invariant-loop-e : goal.invariant-loop-e
invariant-loop-e l =
    LookingBack (graph_of l.graph) l.initial.work l.w l.r l.tail l.e-end l.e l.work l.end
