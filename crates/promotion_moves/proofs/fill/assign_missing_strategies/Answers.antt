-- `assign_missing_strategies` meets its contract: the heads of R that the walk has passed have got what they lacked.
use Rattle.area.specs.Walked.{walked_none, walked_few, walked_all, walked_next}
use Rattle.promotion_moves.specs.Filling.{fill_walkable, fill_ready, fill_turn}
use Rattle.promotion_moves.proofs.fill.assign_missing_strategies.Goals as goal

pub loop-v-init : goal.loop-v-init
loop-v-init c = walked_none (fill_walkable c.requires) tt c.new-walk.ensures

pub next-requires : goal.next-requires
next-requires c = walked_few (fill_walkable c.requires) c.loop-v.invariant

pub fill_entry-requires : goal.fill_entry-requires
fill_entry-requires c =
    let reached = walked_next (fill_walkable c.requires) c.loop-v.invariant _ c.next.ensures c.in-Some.is in
    fill_ready c.requires c.loop-v.invariant.keeps c.in-Some.v.0 reached.small

pub loop-v-smaller : goal.loop-v-smaller
loop-v-smaller c = (walked_next (fill_walkable c.requires) c.loop-v.invariant _ c.next.ensures c.in-Some.is).shorter

pub loop-v-preserved : goal.loop-v-preserved
loop-v-preserved c =
    let reached = walked_next (fill_walkable c.requires) c.loop-v.invariant _ c.next.ensures c.in-Some.is in
    reached.more (fill_turn c.requires c.loop-v.invariant.keeps c.fill_entry.ensures)

pub returns : goal.returns
returns c = walked_all (fill_walkable c.requires) c.loop-v.invariant _ c.next.ensures c.in_default.is
