-- `take_word` meets its contract: from the run that asks for it, and from every other that was there, the members of the word are
-- taken in rising order, and none is left at the end.
use Rattle.attractor_drawing.specs.Drawn.{drawn}
use Rattle.attractor_word.specs.OneWord.{Taking}
use Rattle.attractor_word.proofs.word.take_word.Given as goal

abbrev pub invariant-loop-rest : goal.invariant-loop-rest
invariant-loop-rest l = Taking (drawn l.drawing) l.next l.at l.word l.far l.initial.work l.rest l.looks l.work

abbrev pub decreases-loop-rest : goal.decreases-loop-rest
decreases-loop-rest l = l.rest
