-- `best_escape` meets its contract: no opponent's vertex of R that the walk has passed leads higher than level `highest` - 1.
use lib.ListN.{length}
use Rattle.walk.specs.Walk.{left}
use Rattle.area.specs.Area.{words_at, set_at}
use Rattle.area.specs.Walked.{Passed}
use Rattle.promotion_escape.specs.Escapes.{level_from}
use Rattle.promotion_escape.specs.Highest.{NoneFrom, HighestSoFar}
use Rattle.promotion_escape.proofs.escape.best_escape.Given as goal

abbrev pub invariant-loop-highest : goal.invariant-loop-highest
invariant-loop-highest l =
    let n = length l.owners in
    let L = level_from n l.s l.levels l.work in
    HighestSoFar l.owners l.offsets l.targets l.alpha (set_at n l.held l.work) L l.k l.highest ×
    Passed n l.held (NoneFrom l.owners l.offsets l.targets l.alpha L l.k l.highest) l.work l.walk

abbrev pub decreases-loop-highest : goal.decreases-loop-highest
decreases-loop-highest l =
    length (left (words_at (length l.owners) l.held l.work) l.walk)
