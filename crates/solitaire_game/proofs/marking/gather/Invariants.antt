-- The loop's invariant: the marked vertices passed are in the set.
use Rattle.solitaire_game.specs.Gathering.{Gathered}
use Rattle.solitaire_game.proofs.marking.gather.Given as goal

abbrev pub invariant-loop-v : goal.invariant-loop-v
invariant-loop-v l = Gathered l.n l.row l.set l.v l.initial.work l.work
