-- `best_of` meets its contract: no edge before place e leads higher than level `highest` - 1.
use Rattle.promotion_escape.specs.Escapes.{sets_from}
use Rattle.promotion_escape.specs.Highest.{HighestTo}
use Rattle.promotion_escape.proofs.escape.best_of.Given as goal

abbrev pub invariant-loop-e : goal.invariant-loop-e
invariant-loop-e l =
    HighestTo l.offsets l.targets (sets_from l.s l.s l.levels l.work) l.k l.from l.best l.e l.highest
