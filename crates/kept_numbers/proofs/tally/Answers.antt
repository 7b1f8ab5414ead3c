-- `tally` meets its contract. The loop's invariant: the priorities passed are counted.
use Rattle.std.proofs.Common.{◌≡◌, arith, length}
use Rattle.kept_numbers.specs.Steps.{tallied_none, tallied_few, tallied_more, tallied_other, tallied_all}
use Rattle.kept_numbers.proofs.tally.Goals as goal
use Rattle.kept_numbers.proofs.tally.Goals.{then-p-lt-PRIORITIES, else-p-lt-PRIORITIES}

pub loop-p-init : goal.loop-p-init
loop-p-init c = tallied_none c.args.priorities.now

-- a count is no more than the priorities passed
pub overflow_add-counts : goal.overflow_add-counts
overflow_add-counts c =
    let few = tallied_few _ _ _ c.loop-p.invariant (omega arith) _ c.if-p-lt-PRIORITIES.true in omega arith

pub loop-p-preserved : goal.loop-p-preserved
loop-p-preserved c =
    let at = c.loop-p in
    elim c.if-p-lt-PRIORITIES.branch [
      | then-p-lt-PRIORITIES w ↦
          rw w.counts-is (tallied_more _ _ _ at.invariant (omega arith) w.if-p-lt-PRIORITIES.true)
      | else-p-lt-PRIORITIES w ↦
          rw w.counts-is (tallied_other _ _ _ at.invariant (omega arith) w.if-p-lt-PRIORITIES.false)
    ]

pub returns : goal.returns
returns c =
    let done : c.loop-p.p-index ≡ length c.args.priorities.now = omega arith in
    tallied_all _ _ (rw done at c.loop-p.invariant)
