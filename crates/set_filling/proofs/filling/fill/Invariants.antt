-- `fill` meets its contract. After the whole words, the invariant: the vertices below v are in.
use mathlib.Core.List.{List}
use mathlib.Core.Path.{◌≡◌}
use Prim.Native.Nat.{ℕ, ◌-◌, ◌≤◌}
use lib.ListN.{length}
use Rattle.set_bits.specs.After.{Filled}
use Rattle.set_filling.proofs.filling.fill.Given as goal

abbrev pub invariant-loop-v : goal.invariant-loop-v
invariant-loop-v l = (l.v ≤ l.n) × (length l.set ≡ length l.initial.set) × ((before : List ℕ) → Filled l.initial.v before l.initial.set → Filled l.v before l.set)

abbrev pub decreases-loop-v : goal.decreases-loop-v
decreases-loop-v l = l.n - l.v
