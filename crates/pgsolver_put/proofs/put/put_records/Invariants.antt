-- `put_records` meets its contract. The loop's invariant: the records passed are put.
use mathlib.Core.Path.{◌≡◌}
use Prim.Native.Nat.{◌-◌, ◌≤◌}
use lib.ListN.{length}
use Rattle.rules.specs.Tables.{tables_of}
use Rattle.rules.specs.Writing.{records_text}
use Rattle.putting.specs.Puts.{Puts}
use Rattle.pgsolver_put.proofs.put.put_records.Given as goal

abbrev pub invariant-loop-v : goal.invariant-loop-v
invariant-loop-v l =
    (l.v-end ≡ length l.owners) ×
    (l.v ≤ length l.owners) ×
    Puts l.at (records_text (tables_of l.owners l.priorities l.offsets l.targets) l.v) l.initial.text l.text l.next
