-- `find_part` meets its contract.
use Rattle.part_labels.specs.Finding.{seek_starts, look_ready, seek_moves, seek_ends}
use Rattle.part_labels.proofs.second.find_part.Goals as goal

pub loop-head-init : goal.loop-head-init
loop-head-init c =
    seek_starts _ _ _ c.requires _ (rw (c.labels.ensures, c.queue-queue.ensures, c.rows-rows.ensures) at c.put.ensures)

pub look_back-tail-requires : goal.look_back-tail-requires
look_back-tail-requires c =
    rw (c.queue-queue.ensures, c.rows-rows.ensures)
    (look_ready _ c.requires.sound _ _ c.requires.vertex _ _ _ c.loop-head.invariant c.loop-head-test.true)

pub loop-head-preserved : goal.loop-head-preserved
loop-head-preserved c =
    seek_moves _ c.requires.sound _ _ c.requires.vertex _ _ _ c.loop-head.invariant c.loop-head-test.true
    _ _ (rw (c.queue-queue.ensures, c.rows-rows.ensures) at c.look_back-tail.ensures)

pub returns : goal.returns
returns c =
    seek_ends _ _ _ c.requires _ (rw (c.labels.ensures, c.queue-queue.ensures, c.rows-rows.ensures) at c.put.ensures)
    _ _ _ c.loop-head.invariant c.loop-head-test.false
