-- `write_priorities` meets its contract. The loop's invariant: the new priorities of the vertices passed are written.
use mathlib.Core.Path.{◌≡◌}
use Prim.Native.Nat.{◌≤◌}
use lib.ListN.{length}
use Rattle.rules.specs.Counting.{listed}
use Rattle.rules.specs.Mending.{new_priority}
use Rattle.rules.specs.Tables.{tables_of}
use Rattle.mend_counts.specs.Placed.{WrittenUpTo}
use Rattle.mend_counts.proofs.priorities.write_priorities.Given as goal

abbrev pub invariant-loop-v : goal.invariant-loop-v
invariant-loop-v l =
    (l.v ≤ length l.owners) × (l.v-end ≡ length l.owners) ×
    WrittenUpTo 0 (listed l.v (new_priority (tables_of l.owners l.priorities l.offsets l.targets))) l.initial.new_priorities l.new_priorities l.v
