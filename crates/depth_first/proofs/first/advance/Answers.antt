-- `advance` meets its contract: the cursor moves, and then the next vertex goes onto the stack, or the top is finished.
use Rattle.depth_first.specs.Walking.{advance_pushable, advance_pushes, advance_pops}
use Rattle.depth_first.proofs.first.advance.Goals as goal

pub push-requires : goal.push-requires
push-requires c =
    rw (c.marks-marks.ensures, c.rows-rows.ensures)
    (advance_pushable _ _ _ _ _ c.requires _ (rw (c.marks-marks.ensures, c.rows-rows.ensures) at c.next_edge-e.ensures) c.if-e-graph.true)

pub returns-then-e-graph : goal.returns-then-e-graph
returns-then-e-graph c =
    advance_pushes _ _ _ _ _ c.requires _ (rw (c.marks-marks.ensures, c.rows-rows.ensures) at c.next_edge-e.ensures) c.if-e-graph.true _
    (rw (c.marks-marks.ensures, c.rows-rows.ensures) at c.push.ensures)

pub returns : goal.returns
returns c =
    rw (c.order.ensures, c.marks-marks.ensures, c.rows-rows.ensures)
    (advance_pops _ _ _ _ _ c.requires _ (rw (c.marks-marks.ensures, c.rows-rows.ensures) at c.next_edge-e.ensures) c.if-e-graph.false)
