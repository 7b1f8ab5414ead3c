-- `combine`: so far the first i words of the part, by every law that `f` follows.
use Rattle.std.proofs.Common.{arith, rules}
use Rattle.set_pairs.specs.Wordwise.{upto_more, upto_all}
use Rattle.set_pairs.proofs.pairs.combine.Goals as goal

pub loop-i-preserved : goal.loop-i-preserved
loop-i-preserved g c = λ law follows.
    upto_more _ c.requires.parts c.loop-i-test.true (c.loop-i.invariant law follows)
    (follows _ _ _ (search rules) (search rules) c.f.ensures)

pub returns : goal.returns
returns g c = λ law follows. upto_all (omega arith) (c.loop-i.invariant law follows)
