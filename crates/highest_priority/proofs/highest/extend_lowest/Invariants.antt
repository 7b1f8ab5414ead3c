-- `extend_lowest` meets its contract: the vertices of U that the walk has passed have an edge inside V, where p's player owns
-- them.
use lib.ListN.{length}
use Rattle.walk.specs.Walk.{left}
use Rattle.area.specs.Area.{words_at}
use Rattle.highest_priority.specs.Extending.{ExtendingTo}
use Rattle.highest_priority.proofs.highest.extend_lowest.Given as goal

abbrev pub invariant-loop-v : goal.invariant-loop-v
invariant-loop-v l =
    ExtendingTo l.owners l.offsets l.targets l.alpha l.base l.from l.initial.work l.walk l.work

abbrev pub decreases-loop-v : goal.decreases-loop-v
decreases-loop-v l =
    length (left (words_at (length l.owners) l.from l.initial.work) l.walk)
