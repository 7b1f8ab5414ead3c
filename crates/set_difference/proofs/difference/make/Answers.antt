-- `make`: the first i words are made, by every law that `f` follows.
use Rattle.std.proofs.Common.{◌≡◌, arith, rules}
use Rattle.set_difference.specs.Without.{taken_none, taken_more}
use Rattle.set_difference.proofs.difference.make.Goals as goal

pub loop-i-init : goal.loop-i-init
loop-i-init g c = λ law follows. taken_none

pub loop-i-preserved : goal.loop-i-preserved
loop-i-preserved g c = λ law follows.
    taken_more c.requires.parts.0 c.requires.parts.1 c.loop-i-test.true (c.loop-i.invariant law follows) _
    (follows _ _ _ (search rules) (search rules) c.f.ensures)

pub returns : goal.returns
returns g c = λ law follows. let all : c.loop-i.i ≡ c.args.s = omega arith in rw all at (c.loop-i.invariant law follows)
