-- `meet` meets its contract: a digit of both.
use Rattle.std.specs.Prelude.{◌≡◌, min}
use Rattle.std.specs.Int.Bits.{bit_and}
use Rattle.std.proofs.Common.{refl, arith, rules}
use Rattle.sets.specs.Digits.{digit_and}
use Rattle.set_difference.specs.Without.{taken_all, common_tells}
use Rattle.set_difference.proofs.difference.meet.Goals as goal

pub returns : goal.returns
returns c =
    taken_all {k = c.args.s} common_tells refl
    (c.make.ensures min (λ x y w h l is k m. let word : w ≡ bit_and x y = search rules in rw word (digit_and x y k)))
    (omega arith) (omega arith)
