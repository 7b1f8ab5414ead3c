-- `attract` meets its contract: layer by layer each member is taken by one of the rules' steps, until a layer has none.
use Prim.Native.Nat.{◌-◌}
use lib.ListN.{length}
use Rattle.rules.specs.Counting.{count}
use Rattle.attractor_drawing.specs.Drawn.{drawn}
use Rattle.attractor_word.specs.Going.{taken_at}
use Rattle.attractor.specs.Running.{Running}
use Rattle.attractor.proofs.whole.attract.Given as goal

abbrev pub invariant-loop-work : goal.invariant-loop-work
invariant-loop-work l = Running (drawn l.drawing) l.initial.work l.this l.next l.far l.looks l.work

abbrev pub decreases-loop-work : goal.decreases-loop-work
decreases-loop-work l =
    let n = length l.drawing.owners.now in n - count n (taken_at n l.drawing.set l.this l.next l.work)
