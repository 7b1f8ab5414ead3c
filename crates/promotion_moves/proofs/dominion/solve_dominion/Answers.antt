-- `solve_dominion` meets its contract: each call finds what it asks for in what the calls before it left.
use mathlib.Core.Path.{ap, ◌∙◌}
use Rattle.promotion_levels.specs.Layout.{won_behind}
use Rattle.promotion_moves.specs.Dominion.{dominated}
use Rattle.promotion_moves.proofs.dominion.solve_dominion.Goals as goal

pub returns : goal.returns
returns c priorities ok =
    dominated c.args.p.0 c.requires priorities ok (c.index.ensures.0 ∙ c.from_priority-player.ensures)
    (c.draw_unsolved.ensures priorities ok)
    (c.won_at-won.ensures ∙ ap (won_behind c.args.s c.args.held) c.from_priority-player.ensures)
    c.union_with.ensures c.difference_with.ensures
