-- `climb` meets its contract: every level from `best` up to the current one holds w.
use Prim.Native.Nat.{◌-◌}
use Rattle.promotion_escape.specs.Escapes.{sets_from}
use Rattle.promotion_escape.specs.Highest.{ClimbTo}
use Rattle.promotion_escape.proofs.escape.climb.Given as goal

abbrev pub invariant-loop-level : goal.invariant-loop-level
invariant-loop-level l = ClimbTo (sets_from l.s l.s l.levels l.work) l.k l.w.0 l.best l.level

abbrev pub decreases-loop-level : goal.decreases-loop-level
decreases-loop-level l = l.k - l.level
