-- `begin_layers` meets its contract. The invariant: so far the first i words, with their marks.
use Prim.Native.Nat.{◌-◌}
use Rattle.attractor_begin.specs.LayersBegin.{Beginning}
use Rattle.attractor_begin.proofs.begin.begin_layers.Given as goal

abbrev pub invariant-loop-i : goal.invariant-loop-i
invariant-loop-i l = Beginning l.first l.set l.s l.i l.marks l.initial.work l.work

abbrev pub decreases-loop-i : goal.decreases-loop-i
decreases-loop-i l = l.s - l.i
