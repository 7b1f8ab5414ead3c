-- `digits` meets its contract. The loop's invariant: the digits counted and those of the rest are all digits and one. The
-- measure is the rest.
use native.Mathlib.Omega.{arith}
use Rattle.grammar.specs.Decimals.{decimal_short}
use Rattle.writing.specs.Lengths.{length_small, length_large}
use Rattle.pgsolver_writer.proofs.length.digits.Goals as goal

pub loop-rest-init : goal.loop-rest-init
loop-rest-init c = omega arith

pub overflow_add-count : goal.overflow_add-count
overflow_add-count c = omega (arith, decimal_short 19 c.args.value (omega arith))

pub loop-rest-smaller : goal.loop-rest-smaller
loop-rest-smaller c = omega arith

pub loop-rest-preserved : goal.loop-rest-preserved
loop-rest-preserved c = omega (arith, length_large c.loop-rest.rest (omega arith))

pub returns : goal.returns
returns c = omega (arith, length_small c.loop-rest.rest (omega arith))
