-- `difference_with` takes the other's bit from each.
use Rattle.std.specs.Prelude.{◌≡◌, ◌-◌, ◌^◌}
use Rattle.std.specs.Int.Bits.{bit_and}
use Rattle.std.proofs.Common.{rules}
use Rattle.set_bits.specs.Digits.{digit_and_not}
use Rattle.set_pairs.proofs.pairs.difference_with.Goals as goal

pub returns : goal.returns
returns c =
    c.combine.ensures ◌-◌
    (λ x y w h l is k m. let word : w ≡ bit_and x (2 ^ 64 - 1 - y) = search rules in rw word (digit_and_not 64 x y k l m))
