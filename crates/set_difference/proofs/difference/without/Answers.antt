-- `without` meets its contract: a digit of one that the other has not.
use Rattle.std.specs.Prelude.{◌≡◌, ◌-◌, ◌^◌}
use Rattle.std.specs.Int.Bits.{bit_and}
use Rattle.std.proofs.Common.{refl, arith, rules}
use Rattle.sets.specs.Digits.{digit_and_not}
use Rattle.set_difference.specs.Without.{taken_all, without_tells}
use Rattle.set_difference.proofs.difference.without.Goals as goal

pub returns : goal.returns
returns c =
    taken_all {k = c.args.s} without_tells refl
    (c.make.ensures ◌-◌
    (λ x y w h l is k m. let word : w ≡ bit_and x (2 ^ 64 - 1 - y) = search rules in rw word (digit_and_not 64 x y k l m)))
    (omega arith) (omega arith)
