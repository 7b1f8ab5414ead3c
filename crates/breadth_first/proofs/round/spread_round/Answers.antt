-- `spread_round` meets its contract: each call asks for what the calls before it left.
use Rattle.breadth_first.specs.SearchBegins.{round_lookable, round_standing, rounded}
use Rattle.breadth_first.proofs.round.spread_round.Goals as goal

pub look_back-begun-requires : goal.look_back-begun-requires
look_back-begun-requires c =
    round_lookable _ _ _ c.requires _ (rw (c.labels-labels.ensures, c.rows.ensures) at c.clear.ensures)

pub spread-requires : goal.spread-requires
spread-requires c =
    round_standing _ _ _ c.requires _ (rw (c.labels-labels.ensures, c.rows.ensures) at c.clear.ensures)
    _ _ c.look_back-begun.ensures

pub returns : goal.returns
returns c =
    rounded _ _ _ c.requires _ (rw (c.labels-labels.ensures, c.rows.ensures) at c.clear.ensures)
    _ _ c.look_back-begun.ensures _ c.spread.ensures
