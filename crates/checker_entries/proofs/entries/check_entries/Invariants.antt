-- `check_entries` meets its contract. The loop over vertices: no entry passed is wrong. The loop over a vertex's edges: none
-- passed is the entry.
use mathlib.Core.Bool.{false}
use mathlib.Core.Path.{◌≡◌}
use Prim.Native.Nat.{ℕ, ◌≤◌, ◌<◌}
use lib.Dec.{eqb}
use lib.ListN.{get_or}
use Rattle.parity_game.specs.Search.{FailsBelow}
use Rattle.checker_entries.specs.Entries.{wrong_entry}
use Rattle.checker_entries.proofs.entries.check_entries.Given as goal

abbrev pub invariant-loop-e : goal.invariant-loop-e
invariant-loop-e l =
    (i : ℕ) → get_or l.offsets l.v 0 ≤ i → i < l.e → eqb (get_or l.strategy l.v 0) (get_or l.targets i 0) ≡ false

abbrev pub invariant-vertices : goal.invariant-vertices
invariant-vertices l = FailsBelow l.v (wrong_entry l.owners l.offsets l.targets l.even l.strategy)
