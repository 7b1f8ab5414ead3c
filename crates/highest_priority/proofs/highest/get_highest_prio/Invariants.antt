-- `get_highest_prio` meets its contract: it has the highest priority of the members that the walk has passed.
use lib.ListN.{length}
use Rattle.walk.specs.Walk.{left}
use Rattle.area.specs.Area.{words_at}
use Rattle.highest_priority.specs.Highest.{SearchedTo}
use Rattle.highest_priority.proofs.highest.get_highest_prio.Given as goal

abbrev pub invariant-loop-v : goal.invariant-loop-v
invariant-loop-v l = SearchedTo l.priorities l.base l.work l.walk l.highest

abbrev pub decreases-loop-v : goal.decreases-loop-v
decreases-loop-v l = length (left (words_at (length l.priorities) l.base l.work) l.walk)
