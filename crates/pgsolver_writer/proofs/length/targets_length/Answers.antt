-- `targets_length` meets its contract. The loop's invariant: the sum is what the targets passed need.
use Rattle.std.proofs.Common.{◌+◌, refl, arith}
use Rattle.writing.specs.Lengths.{after_each, after_first, after_next, after_all}
use Rattle.pgsolver_writer.proofs.length.targets_length.Goals as goal

pub loop-t-init : goal.loop-t-init
unfolding after_each
loop-t-init c = refl

pub overflow_add-sum : goal.overflow_add-sum
overflow_add-sum c =
    omega (arith, after_next c.args.targets.now c.loop-t.t-index (omega arith), after_first c.args.targets.now (c.loop-t.t-index + 1))

pub overflow_add-sum-in-loop-t : goal.overflow_add-sum-in-loop-t
overflow_add-sum-in-loop-t c =
    omega (arith, after_next c.args.targets.now c.loop-t.t-index (omega arith), after_first c.args.targets.now (c.loop-t.t-index + 1))

pub loop-t-preserved : goal.loop-t-preserved
loop-t-preserved c = omega (arith, after_next c.args.targets.now c.loop-t.t-index (omega arith))

pub returns : goal.returns
returns c = omega (arith, after_all c.args.targets.now c.loop-t.t-index (omega arith))
