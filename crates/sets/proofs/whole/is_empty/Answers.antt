-- `is_empty`: the | of all words is 0 where no bit is set. A word that is not 0 has a bit set.
use Rattle.std.proofs.Common.{arith}
use Rattle.sets.specs.Whole.{any_more, any_tells}
use Rattle.sets.proofs.whole.is_empty.Goals as goal

pub loop-word-preserved : goal.loop-word-preserved
loop-word-preserved c = any_more (c.type_inv.set c.loop-word.word-index).fits c.loop-word.invariant

pub returns : goal.returns
returns c = any_tells c.loop-word.invariant (omega arith) (omega arith)
