-- `kept_edges` meets its contract. The loop's invariant: of the edges passed those that lead to a vertex are counted.
use mathlib.Core.Path.{◌≡◌}
use Prim.Native.Nat.{◌≤◌, ◌+◌}
use lib.ListN.{length, get_or}
use Rattle.mend_counts.specs.Bare.{bare}
use Rattle.mend_counts.specs.Steps.{kept_from}
use Rattle.mend_counts.proofs.counts.kept_edges.Given as goal

abbrev pub invariant-loop-e : goal.invariant-loop-e
invariant-loop-e l =
    (get_or l.offsets l.v 0 ≤ l.e) × (l.e ≤ l.e-end) × (l.e-end ≡ get_or l.offsets (l.v + 1) 0) × (l.e-end ≤ length l.targets) ×
    (l.kept ≡ length (kept_from (bare l.owners l.offsets l.targets) (get_or l.offsets l.v 0) l.e))
