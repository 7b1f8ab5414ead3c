-- `search_from` meets its contract. Each move brings a vertex onto the stack or off it.
use Rattle.depth_first.specs.Pass.{search_starts, move_ready, search_moves, search_ends}
use Rattle.depth_first.proofs.first.search_from.Goals as goal

pub loop-at-init : goal.loop-at-init
loop-at-init c = search_starts _ _ _ _ c.requires _ c.push.ensures

pub advance-at-requires : goal.advance-at-requires
advance-at-requires c =
    rw (c.queue-stack.ensures, c.rows.ensures) (move_ready _ c.requires.sound _ _ _ _ _ c.loop-at.invariant c.loop-at-test.true)

pub loop-at-preserved : goal.loop-at-preserved
loop-at-preserved c =
    search_moves _ c.requires.sound _ _ _ _ _ c.loop-at.invariant _ _ _ c.advance-at.ensures

pub returns : goal.returns
returns c = search_ends _ _ _ _ c.requires _ c.push.ensures _ _ _ c.loop-at.invariant c.loop-at-test.false
