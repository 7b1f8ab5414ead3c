-- `highest_at` meets its contract: a set below a height can be searched from the number before it on.
use Rattle.quasi_level.specs.Pieces.{held_under}
use Rattle.quasi_level.proofs.level.highest_at.Goals as goal

pub get_highest_prio-requires : goal.get_highest_prio-requires
get_highest_prio-requires c = held_under c.requires c.one_less-top.ensures

pub returns : goal.returns
returns c = c.get_highest_prio.ensures
