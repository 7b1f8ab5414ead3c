-- `spread` meets its contract.
use Rattle.breadth_first.specs.Spreading.{look_ready, standing_moves, kept_moves}
use Rattle.breadth_first.proofs.search.spread.Goals as goal

pub look_back-tail-requires : goal.look_back-tail-requires
look_back-tail-requires c =
    rw (c.queue-queue.ensures, c.rows.ensures) (look_ready _ _ _ _ c.loop-head.invariant.0 c.loop-head-test.true)

pub loop-head-preserved : goal.loop-head-preserved
loop-head-preserved c =
    let l = c.loop-head in
    let looked = rw (c.queue-queue.ensures, c.rows.ensures) at c.look_back-tail.ensures in (
      standing_moves _ _ _ _ l.invariant.0 c.loop-head-test.true _ _ looked,
      kept_moves _ _ _ _ l.invariant.0 c.loop-head-test.true _ _ looked _ l.invariant.1,
    )
