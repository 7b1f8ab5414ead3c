-- `record_length` meets its contract: the sum is what the pieces need.
use native.Mathlib.Omega.{arith}
use Rattle.writing.specs.Lengths.{record_length}
use Rattle.pgsolver_writer.proofs.length.record_length.Goals as goal

pub targets_length-requires : goal.targets_length-requires
targets_length-requires c =
    omega (arith, c.requires.1, record_length c.args.v c.args.priority c.args.owner c.args.targets.now c.requires.0)

pub overflow_add-result : goal.overflow_add-result
overflow_add-result c =
    omega (arith, c.requires.1, record_length c.args.v c.args.priority c.args.owner c.args.targets.now c.requires.0)

pub overflow_add-result-2 : goal.overflow_add-result-2
overflow_add-result-2 c =
    omega (arith, c.requires.1, record_length c.args.v c.args.priority c.args.owner c.args.targets.now c.requires.0)

pub returns : goal.returns
returns c = omega (arith, c.requires.1, record_length c.args.v c.args.priority c.args.owner c.args.targets.now c.requires.0)
