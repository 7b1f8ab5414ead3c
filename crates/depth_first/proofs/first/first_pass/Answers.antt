-- `first_pass` meets its contract.
use mathlib.Core.Path.{sym, ◌∙◌}
use Rattle.std.proofs.Common.{arith}
use Rattle.depth_first.specs.Pass.{rooting_as, roots_start, root_passes, root_searched}
use Rattle.depth_first.proofs.first.first_pass.Goals as goal
use Rattle.depth_first.proofs.first.first_pass.Goals.{then-is_fresh, else-is_fresh}

pub loop-r-init : goal.loop-r-init
loop-r-init c = roots_start _ _ c.requires

pub loop-r-preserved : goal.loop-r-preserved
loop-r-preserved c =
    elim c.if-is_fresh.branch [
      | then-is_fresh w ↦
          rooting_as w.work-is w.done-is
          (root_searched _ _ c.requires _ _ _ c.loop-r.invariant (omega arith) _ _ w.search_from-done.ensures)
      | else-is_fresh w ↦
          rooting_as w.work-is w.done-is
          (root_passes _ _ c.requires _ _ _ c.loop-r.invariant (omega arith)
          (rw (c.marks-marks.ensures, c.rows.ensures) at (sym c.is_fresh.ensures ∙ w.if-is_fresh.false)))
    ]
