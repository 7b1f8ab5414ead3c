-- `is_total` meets its contract. The invariant of the loop over vertices: every vertex passed has an edge. The loop over a
-- vertex's edges is left in its first turn, so its invariant is only that it has not taken one.
use mathlib.Core.Bool.{Bool}
use mathlib.Core.List.{List}
use mathlib.Core.Path.{◌≡◌}
use Prim.Native.Nat.{ℕ, ◌≤◌}
use lib.Dec.{eqb}
use Rattle.rules.specs.Tables.{degree}
use Rattle.parity_game.specs.Search.{FailsBelow}
use Rattle.edge_checks.proofs.is_total.Given as goal

abbrev pub dead_end : List ℕ → ℕ → Bool
dead_end offsets v = eqb (degree offsets v) 0

abbrev pub invariant-loop-e : goal.invariant-loop-e
invariant-loop-e l = (l.v ≡ l.initial.v) × (l._e ≡ l.initial._e)

abbrev pub invariant-vertices : goal.invariant-vertices
invariant-vertices l = (l.v ≤ l.n) × FailsBelow l.v (dead_end l.offsets)
