-- `fill_entry` meets its contract: the vertex is another's, has an entry, or takes the end that the search gives.
use Rattle.promotion_moves.specs.Filling.{search_ready}
use Rattle.promotion_moves.proofs.fill.fill_entry.Goals as goal

pub lowest_inside-w-requires : goal.lowest_inside-w-requires
lowest_inside-w-requires c = search_ready c.requires
