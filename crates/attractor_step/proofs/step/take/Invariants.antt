-- `take` meets its contract: the looks up to entry e were made, and all of them at the end.
use Rattle.attractor_drawing.specs.Drawn.{drawn}
use Rattle.attractor_step.specs.TakeLoop.{Looking}
use Rattle.attractor_step.proofs.step.take.Given as goal

abbrev pub invariant-loop-e : goal.invariant-loop-e
invariant-loop-e l = Looking (drawn l.drawing) l.next l.w l.far l.initial.work l.e l.work
