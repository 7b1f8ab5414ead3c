-- `follow` meets its contract. The loop's invariant: the vertices of the way before v are written, whatever the way is, and there
-- is room for one more.
use Rattle.std.proofs.Common.{List, ℕ, ◌-◌, ◌≤◌, ◌<◌, length}
use Rattle.breadth_first.specs.Following.{Way, Following}
use Rattle.breadth_first.proofs.way.follow.Given as goal

abbrev pub invariant-loop-v : goal.invariant-loop-v
invariant-loop-v l =
    (l.v < l.n) × (l.k < length l.initial.list) ×
    ((vs : List ℕ) → Way l.n l.row l.work l.x vs → length vs ≤ length l.initial.list → Following l.n l.row l.work vs l.initial.list l.list l.k l.v)

abbrev pub decreases-loop-v : goal.decreases-loop-v
decreases-loop-v l = length l.initial.list - l.k
