-- `text_length` meets its contract. The loop's invariant: the sum is what the header and the records passed need.
use mathlib.Core.Path.{◌≡◌}
use Prim.Native.Nat.{◌+◌, ◌≤◌}
use lib.ListN.{length}
use Rattle.rules.specs.Tables.{tables_of}
use Rattle.rules.specs.Writing.{records_text, header_text}
use Rattle.pgsolver_writer.proofs.length.text_length.Given as goal

abbrev pub invariant-loop-v : goal.invariant-loop-v
invariant-loop-v l =
    (l.v-end ≡ length l.owners) ×
    (l.v ≤ length l.owners) ×
    (l.sum ≡ length (header_text (length l.owners)) + length (records_text (tables_of l.owners l.priorities l.offsets l.targets) l.v))
