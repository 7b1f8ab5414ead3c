-- `write_edges` meets its contract. The loop's invariant: the offsets and the new edges of the vertices passed are written.
use Prim.Native.Nat.{◌≤◌, ◌-◌}
use lib.ListN.{length}
use Rattle.rules.specs.Counting.{listed}
use Rattle.rules.specs.Mending.{new_targets_up_to}
use Rattle.mend_counts.specs.Bare.{bare}
use Rattle.mend_counts.specs.Placed.{WrittenUpTo}
use Rattle.mend_counts.specs.Steps.{new_offset}
use Rattle.mend_edges.proofs.edges.write_edges.Given as goal

abbrev pub invariant-loop-v : goal.invariant-loop-v
invariant-loop-v l =
    (l.v ≤ length l.owners) ×
    WrittenUpTo 0 (listed l.v (new_offset (bare l.owners l.offsets l.targets))) l.initial.new_offsets l.new_offsets l.v ×
    WrittenUpTo 0 (new_targets_up_to (bare l.owners l.offsets l.targets) l.v) l.initial.new_targets l.new_targets l.at

abbrev pub decreases-loop-v : goal.decreases-loop-v
decreases-loop-v l = length l.owners - l.v
