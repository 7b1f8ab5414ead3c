-- `lowest_inside` meets its contract: the lowest end inside the set of the edges before place e.
use Prim.Native.Nat.{◌-◌}
use Rattle.rules.specs.Words.{set_of}
use Rattle.successors.specs.Lowest.{LowestTo}
use Rattle.successors.proofs.inside.lowest_inside.Given as goal

abbrev pub invariant-loop-e : goal.invariant-loop-e
invariant-loop-e l = LowestTo l.n l.offsets l.targets l.v (set_of l.set) l.e l.lowest
