-- `write_altered` meets its contract. The loop's invariant: the altered vertices passed are written, each with its old priority.
use mathlib.Core.Path.{◌≡◌}
use Prim.Native.Nat.{◌≤◌}
use lib.ListN.{length}
use Rattle.rules.specs.Mending.{altered_up_to}
use Rattle.rules.specs.Tables.{tables_of}
use Rattle.mend_counts.specs.Placed.{WrittenUpTo}
use Rattle.mend_list.proofs.list.write_altered.Given as goal

abbrev pub invariant-loop-v : goal.invariant-loop-v
invariant-loop-v l =
    (l.v ≤ length l.owners) × (l.v-end ≡ length l.owners) ×
    WrittenUpTo l.at (altered_up_to (tables_of l.owners l.priorities l.offsets l.targets) l.v) l.initial.list l.list l.end
