-- `rise` meets its contract. The loop's invariant: where it says so, the offsets passed rise.
use Rattle.std.proofs.Common.{◌≡◌, true}
use Rattle.table_checks.specs.Well.{Rises}
use Rattle.table_checks.proofs.scan.rise.Given as goal

abbrev pub invariant-loop-v : goal.invariant-loop-v
invariant-loop-v l = l.rise ≡ true → Rises l.v l.offsets
