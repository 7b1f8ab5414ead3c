-- `size`: n is the size of the words passed, at most 64 a word.
use Rattle.std.proofs.Common.{refl, arith, zero-le}
use Rattle.std.proofs.lemmas.Nat.{ones-le}
use Rattle.sets.specs.Size.{size, size_more}
use Rattle.sets.proofs.whole.size.Goals as goal

pub loop-word-init : goal.loop-word-init
unfolding size
loop-word-init c = (refl, zero-le)

pub loop-word-preserved : goal.loop-word-preserved
loop-word-preserved c =
    let word = (c.type_inv.set c.loop-word.word-index).fits in
    let more = size_more c.args.set.now c.loop-word.word-index (omega arith) word in
    (omega (arith, more), omega (arith, ones-le 64 _ word))
