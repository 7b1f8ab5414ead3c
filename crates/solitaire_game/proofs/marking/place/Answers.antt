-- `place` meets its contract: each stage leaves what the next one needs.
use Rattle.solitaire_game.specs.Gathering.{fill_fits, gather_ready, both_placed}
use Rattle.solitaire_game.proofs.marking.place.Goals as goal

pub fill-requires : goal.fill-requires
fill-requires c = fill_fits _ _ _ _ _ c.requires _ c.clear.ensures

pub gather-requires : goal.gather-requires
gather-requires c = rw c.next_set.ensures (gather_ready _ _ _ _ _ c.requires _ c.clear.ensures _ c.fill.ensures)

pub returns : goal.returns
returns c =
    both_placed _ _ _ _ _ c.requires _ c.clear.ensures _ c.fill.ensures _ (rw c.next_set.ensures at c.gather.ensures)
