-- `collect` meets its contract: the vertices of priority p that the walk has passed are in the set.
use lib.ListN.{length}
use Rattle.walk.specs.Walk.{left}
use Rattle.area.specs.Area.{words_at}
use Rattle.highest_priority.specs.Collecting.{CollectingTo}
use Rattle.highest_priority.proofs.highest.collect.Given as goal

abbrev pub invariant-loop-v : goal.invariant-loop-v
invariant-loop-v l = CollectingTo l.priorities l.p.0 l.within l.into l.initial.work l.walk l.work

abbrev pub decreases-loop-v : goal.decreases-loop-v
decreases-loop-v l = length (left (words_at (length l.priorities) l.within l.initial.work) l.walk)
