-- `promote` meets its contract.
use Rattle.promotion_moves.specs.Promotion.{promoted_made}
use Rattle.promotion_moves.proofs.promote.promote.Goals as goal

pub returns : goal.returns
returns c n size = promoted_made size c.requires c.next_set-below.ensures c.difference_with.ensures
