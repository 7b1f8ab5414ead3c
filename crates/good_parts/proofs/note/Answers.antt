-- `note` meets its contract.
use mathlib.Core.Path.{sym, ◌∙◌}
use Rattle.std.proofs.Common.{arith}
use Rattle.good_parts.specs.Noting.{noted_none, noted_passes, label_below, noted_marks}
use Rattle.good_parts.proofs.note.Goals as goal
use Rattle.good_parts.proofs.note.Goals.{then-tells, else-tells}

pub loop-u-init : goal.loop-u-init
loop-u-init c = noted_none _ _ _ _ _ _ c.requires

pub overflow_sub-work : goal.overflow_sub-work
overflow_sub-work c =
    rw c.labels-labels.ensures
    (label_below _ _ _ _ _ _ c.requires _ _ c.loop-u.invariant (omega arith)
    (rw c.labels-labels.ensures at (sym c.tells.ensures ∙ c.if-tells.true))).0

pub loop-u-preserved : goal.loop-u-preserved
loop-u-preserved c =
    elim c.if-tells.branch [
      | then-tells w ↦
          rw (w.work-is, c.labels-labels.ensures)
          (noted_marks _ _ _ _ _ _ c.requires _ _ c.loop-u.invariant (omega arith)
          (rw c.labels-labels.ensures at (sym c.tells.ensures ∙ w.if-tells.true)))
      | else-tells w ↦
          rw w.work-is
          (noted_passes _ _ _ _ _ _ c.requires _ _ c.loop-u.invariant (omega arith)
          (rw c.labels-labels.ensures at (sym c.tells.ensures ∙ w.if-tells.false)))
    ]
