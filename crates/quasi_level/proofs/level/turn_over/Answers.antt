-- `turn_over` meets its contract: the next level stands apart from V.
use mathlib.Core.Logic.{inl}
use mathlib.Core.Path.{refl}
use borrow.Author.Rules.{rules}
use Rattle.quasi_level.proofs.level.turn_over.Goals as goal

pub difference_with-requires : goal.difference_with-requires
difference_with-requires c =
    record { into_fits = search rules; from_fits = search rules; apart = inl (search rules) }

pub returns : goal.returns
returns c = record { reduced = rw c.next_level-up.ensures at c.difference_with.ensures; keeps = refl; drops = refl }
