-- `assign_missing_strategies` meets its contract: the heads of R that the walk has passed have got what they lacked.
use Rattle.promotion_moves.specs.Filling.{Fills}
use lib.ListN.{length}
use Rattle.walk.specs.Walk.{left}
use Rattle.area.specs.Area.{words_at, set_at}
use Rattle.area.specs.Walked.{Always, word_of, WalkedTo}
use Rattle.basics.specs.Frame.{Beside}
use Rattle.promotion_moves.proofs.fill.assign_missing_strategies.Given as goal

abbrev pub invariant-loop-v : goal.invariant-loop-v
invariant-loop-v l =
    WalkedTo (length l.owners) l.heads (Beside (length l.owners) l.entries) Always (word_of l.entries)
    (Fills l.owners l.offsets l.targets l.alpha (set_at (length l.owners) l.held l.initial.work)) l.initial.work l.walk l.work

abbrev pub decreases-loop-v : goal.decreases-loop-v
decreases-loop-v l =
    length (left (words_at (length l.owners) l.heads l.initial.work) l.walk)
