-- `draw_unsolved` meets its contract: by the attractor, or since R is closed in level 0.
use Rattle.promotion_moves.specs.Dominion.{attracted_in, shut_in}
use Rattle.promotion_moves.proofs.dominion.draw_unsolved.Goals as goal

pub returns-then-k-gt0 : goal.returns-then-k-gt0
returns-then-k-gt0 c priorities ok = attracted_in c.requires priorities ok (c.attract.ensures priorities ok)

pub returns-else-k-gt0 : goal.returns-else-k-gt0
returns-else-k-gt0 c priorities ok = shut_in c.requires priorities ok c.if-k-gt0.false
