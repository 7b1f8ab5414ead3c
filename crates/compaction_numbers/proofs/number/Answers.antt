-- `number` meets its contract. The loop's invariant: the used priorities passed have their new numbers, and the last is at hand.
use Rattle.std.proofs.Common.{arith, eq-eqb, ne_eqb}
use Rattle.compaction_numbers.specs.Steps.{given_none, given_used, given_unused}
use Rattle.compaction_numbers.proofs.number.Goals as goal
use Rattle.compaction_numbers.proofs.number.Goals.{then-mark-eq1, else-mark-eq1}

pub loop-p-init : goal.loop-p-init
loop-p-init c = given_none _

pub loop-p-preserved : goal.loop-p-preserved
loop-p-preserved c =
    elim c.if-mark-eq1.branch [
      | then-mark-eq1 w ↦
          rw (w.numbers-is, w.last-is)
          (given_used _ _ _ _ _ c.loop-p.invariant (omega arith) (eq-eqb _ _ w.if-mark-eq1.true) w.next_number-next.ensures)
      | else-mark-eq1 w ↦
          rw (w.numbers-is, w.last-is) (given_unused _ _ _ _ c.loop-p.invariant (ne_eqb _ _ w.if-mark-eq1.false))
    ]
