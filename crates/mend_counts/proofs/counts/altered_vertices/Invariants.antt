-- `altered_vertices` meets its contract. The loop's invariant: the vertices passed that keep no edge are counted.
use mathlib.Core.Path.{◌≡◌}
use Prim.Native.Nat.{◌≤◌}
use lib.ListN.{length}
use Rattle.rules.specs.Counting.{count}
use Rattle.rules.specs.Mending.{altered}
use Rattle.mend_counts.specs.Bare.{bare}
use Rattle.mend_counts.proofs.counts.altered_vertices.Given as goal

abbrev pub invariant-loop-v : goal.invariant-loop-v
invariant-loop-v l =
    (l.v ≤ length l.owners) × (l.v-end ≡ length l.owners) × (l.alone ≡ count l.v (altered (bare l.owners l.offsets l.targets)))
