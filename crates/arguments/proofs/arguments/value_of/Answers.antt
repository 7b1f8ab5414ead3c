-- `value_of` meets its contract. The loop's invariant: the value of the digits passed.
use Rattle.std.proofs.Common.{arith}
use Rattle.arguments.specs.Asking.{valued_none, valued_bounds, valued_fits, valued_more, valued_all}
use Rattle.arguments.proofs.arguments.value_of.Goals as goal

pub loop-d-init : goal.loop-d-init
loop-d-init c = valued_none c.requires.0 c.requires.1

pub overflow_mul-value : goal.overflow_mul-value
overflow_mul-value c = omega (arith, valued_fits c.loop-d.invariant (omega arith))

pub overflow_sub-value : goal.overflow_sub-value
overflow_sub-value c = (valued_bounds c.loop-d.invariant (omega arith)).0

pub overflow_add-value : goal.overflow_add-value
overflow_add-value c = omega (arith, valued_fits c.loop-d.invariant (omega arith))

pub loop-d-preserved : goal.loop-d-preserved
loop-d-preserved c = valued_more c.loop-d.invariant (omega arith)

pub returns : goal.returns
returns c = valued_all c.loop-d.invariant (omega arith)
