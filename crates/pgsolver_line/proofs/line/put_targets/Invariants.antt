-- `put_targets` meets its contract. The loop's invariant: the targets passed are put, each with a comma behind it.
use mathlib.Core.Path.{◌≡◌}
use Prim.Native.Nat.{◌+◌, ◌-◌}
use lib.ListN.{length}
use Rattle.pgsolver_line.specs.Targets.{Aiming}
use Rattle.pgsolver_line.proofs.line.put_targets.Given as goal

abbrev pub invariant-loop-e : goal.invariant-loop-e
invariant-loop-e l = (l.last + 1 ≡ length l.targets) × Aiming l.at l.e l.targets l.initial.text l.text l.next

abbrev pub decreases-loop-e : goal.decreases-loop-e
decreases-loop-e l = l.last - l.e
