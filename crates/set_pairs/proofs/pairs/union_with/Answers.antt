-- `union_with` takes each bit to the greater of the two.
use Rattle.std.specs.Prelude.{◌≡◌, max}
use Rattle.std.specs.Int.Bits.{bit_or}
use Rattle.std.proofs.Common.{rules}
use Rattle.set_bits.specs.Digits.{digit_or}
use Rattle.set_pairs.proofs.pairs.union_with.Goals as goal

pub returns : goal.returns
returns c =
    c.combine.ensures max (λ x y w h l is k m. let word : w ≡ bit_or x y = search rules in rw word (digit_or x y k))
