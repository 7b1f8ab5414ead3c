-- `is_empty`: the | of all words is 0 where no bit is set. A word that is not 0 has a bit set.
use Rattle.sets.specs.Whole.{AnyOf}
use Rattle.sets.proofs.whole.is_empty.Given as goal

abbrev pub invariant-loop-word : goal.invariant-loop-word
invariant-loop-word l = AnyOf l.set l.word-index l.any
