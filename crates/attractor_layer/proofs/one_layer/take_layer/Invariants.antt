-- `take_layer` meets its contract: from the run that asks for it, and from every other that was there, the words of the layer are
-- taken in rising order, and no mark is left at the end.
use Prim.Native.Nat.{◌-◌}
use lib.ListN.{length}
use Rattle.rules.specs.Counting.{count}
use Rattle.attractor_drawing.specs.Drawn.{drawn}
use Rattle.attractor_word.specs.Going.{taken_at}
use Rattle.attractor_layer.specs.OneLayer.{TookWords}
use Rattle.attractor_layer.proofs.one_layer.take_layer.Given as goal

abbrev pub invariant-loop-work : goal.invariant-loop-work
invariant-loop-work l = TookWords (drawn l.drawing) l.this l.next l.far l.initial.work l.looks l.work

abbrev pub decreases-loop-work : goal.decreases-loop-work
decreases-loop-work l =
    let n = length l.drawing.owners.now in n - count n (taken_at n l.drawing.set l.this l.next l.work)
