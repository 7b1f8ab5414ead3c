-- `collect` meets its contract.
use mathlib.Core.Path.{sym, ◌∙◌}
use Rattle.std.proofs.Common.{arith}
use Rattle.good_parts.specs.Good.{collected_passes, collected_marks}
use Rattle.good_parts.proofs.collect.Goals as goal
use Rattle.good_parts.proofs.collect.Goals.{then-is_good, else-is_good}

pub loop-v-preserved : goal.loop-v-preserved
loop-v-preserved c =
    elim c.if-is_good.branch [
      | then-is_good w ↦
          rw w.work-is
          (collected_marks _ _ _ c.requires _ _ c.loop-v.invariant (omega arith) (sym c.is_good.ensures ∙ w.if-is_good.true))
      | else-is_good w ↦
          rw w.work-is
          (collected_passes _ _ _ c.requires _ _ c.loop-v.invariant (omega arith) (sym c.is_good.ensures ∙ w.if-is_good.false))
    ]
