-- The highest priority that is kept bounds all of them.
use native.Mathlib.Omega.{arith}
use Rattle.kept_numbers.specs.Reading.{kept_long, kept_bounds}
use Rattle.zielonka.proofs.door.ZielonkaEngine.run.Goals as goal

pub bounds-kept-257 : goal.bounds-kept-257
bounds-kept-257 c = omega (arith, kept_long c.requires.1)

pub run-requires : goal.run-requires
run-requires c = (c.requires.0, kept_bounds c.requires.1)
