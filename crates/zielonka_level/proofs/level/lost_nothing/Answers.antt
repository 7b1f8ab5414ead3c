-- `lost_nothing` meets its contract.
use Rattle.rules.specs.Game.{opponent, parity}
use Rattle.parity_game.specs.Said.{is}
use Rattle.zielonka_level.specs.PiecesHold.{told_parts, told_made}
use Rattle.zielonka_level.proofs.level.lost_nothing.Goals as goal

pub part_won-requires : goal.part_won-requires
part_won-requires c =
    let d = c.before.before.before in
    told_parts d.requires d.odd_at-odd.ensures d.drawn_at-drawn.ensures c.next_set.ensures

pub returns : goal.returns
returns c =
    told_made (opponent (parity c.args.p.0)) (is c.opponent_of.result) c.requires c.odd_at-odd.ensures
    c.drawn_at-drawn.ensures c.next_set.ensures c.opponent_of.ensures
    (c.part_won.ensures c.args.n c.requires.places.size)
    c.is_empty.ensures
