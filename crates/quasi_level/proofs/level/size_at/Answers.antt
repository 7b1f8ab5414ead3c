-- `size_at` meets its contract: the words lent are the set's.
use mathlib.Core.Path.{ap, ◌∙◌}
use Rattle.sets.specs.Size.{size}
use Rattle.quasi_level.specs.Pieces.{held_few, held_lent}
use Rattle.quasi_level.proofs.level.size_at.Goals as goal

pub size-requires : goal.size-requires
size-requires c = held_few c.requires

pub returns : goal.returns
returns c = c.size.ensures ∙ ap size (held_lent c.requires)
