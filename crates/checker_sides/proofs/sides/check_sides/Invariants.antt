-- `check_sides` meets its contract. The loop over vertices: none passed leads out of its set. The loop over a vertex's edges:
-- none passed does.
use mathlib.Core.Bool.{true}
use mathlib.Core.Path.{◌≡◌}
use Prim.Native.Nat.{ℕ, ◌≤◌, ◌<◌}
use lib.ListN.{get_or}
use Rattle.parity_game.specs.Search.{FailsBelow}
use Rattle.checker_sides.specs.Sides.{leaves_set, side_of}
use Rattle.checker_sides.proofs.sides.check_sides.Given as goal

abbrev pub invariant-loop-e : goal.invariant-loop-e
invariant-loop-e l = (i : ℕ) → get_or l.offsets l.v 0 ≤ i → i < l.e → side_of l.even l.v (get_or l.targets i 0) ≡ true

abbrev pub invariant-vertices : goal.invariant-vertices
invariant-vertices l = FailsBelow l.v (leaves_set l.owners l.offsets l.targets l.even l.strategy)
