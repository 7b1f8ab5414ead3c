-- `copy_with` takes each bit of the other part.
use Rattle.std.specs.Prelude.{◌≡◌}
use Rattle.std.proofs.Common.{rules, ap}
use Rattle.rules.specs.Words.{digit}
use Rattle.set_bits.specs.After.{other}
use Rattle.set_pairs.proofs.pairs.copy_with.Goals as goal

pub returns : goal.returns
returns c =
    c.combine.ensures other (λ x y w h l is k m. let word : w ≡ y = search rules in ap (λ z. digit z k) word)
