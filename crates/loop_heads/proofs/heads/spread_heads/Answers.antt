-- `spread_heads` meets its contract.
use mathlib.Core.Path.{sym, ◌∙◌}
use Rattle.std.proofs.Common.{arith, ◌≡◌, length}
use Rattle.loop_heads.specs.Heads.{heading_none, heading_skips, heading_joins, headed}
use Rattle.loop_heads.proofs.heads.spread_heads.Goals as goal
use Rattle.loop_heads.proofs.heads.spread_heads.Goals.{then-is_head, else-is_head}

pub loop-v-init : goal.loop-v-init
loop-v-init c = heading_none _ _ _ _ c.requires

pub loop-v-preserved : goal.loop-v-preserved
loop-v-preserved c =
    elim c.if-is_head.branch [
      | then-is_head w ↦
          rw (w.work-is, w.put.ensures, w.end-is, c.queue-queue.ensures, c.labels-labels.ensures, c.rows-rows.ensures)
          (heading_joins _ _ _ _ c.requires _ _ _ c.loop-v.invariant (omega arith) (sym w.if-is_head.true ∙ c.is_head.ensures))
      | else-is_head w ↦
          rw (w.work-is, w.end-is)
          (heading_skips _ _ _ _ c.requires _ _ _ c.loop-v.invariant (omega arith) (sym w.if-is_head.false ∙ c.is_head.ensures))
    ]

pub returns : goal.returns
returns c =
    let all : c.loop-v.v ≡ length c.args.graph.now.priorities.now = omega arith in
    headed _ _ _ _ c.requires _ _ (rw all at c.loop-v.invariant) _ c.spread.ensures
