-- `is_open` meets its contract: no head of R that the walk has passed makes it open, and no edge before place e decides.
use Prim.Native.Nat.{◌+◌, ◌≤◌}
use lib.Dec.{eqb}
use lib.ListN.{length, get_or}
use Rattle.walk.specs.Walk.{left}
use Rattle.area.specs.Area.{words_at, set_at}
use Rattle.area.specs.Walked.{Passed}
use Rattle.successors.specs.Edges.{NoneBefore}
use Rattle.promotion_open.specs.Opening.{Looked, Shut}
use Rattle.promotion_open.proofs.open.is_open.Given as goal

abbrev pub invariant-loop-e : goal.invariant-loop-e
invariant-loop-e l =
    (get_or l.offsets l.v 0 ≤ l.e) ×
    (l.e ≤ get_or l.offsets (l.v + 1) 0) ×
    NoneBefore l.offsets l.targets l.v (set_at (length l.owners) l.place l.work) l.e ×
    Looked (eqb (get_or l.owners l.v 0) l.alpha) l.held l.below l.place

abbrev pub invariant-vertices : goal.invariant-vertices
invariant-vertices l =
    Passed (length l.owners) l.heads (Shut l.owners l.offsets l.targets l.alpha l.held l.below l.work) l.work l.walk

abbrev pub decreases-vertices : goal.decreases-vertices
decreases-vertices l = length (left (words_at (length l.owners) l.heads l.work) l.walk)
