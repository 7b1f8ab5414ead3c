-- `is_done` meets its contract, by the stage.
use mathlib.Core.Path.{sym, ap}
use Rattle.std.proofs.Common.{eqb}
use Rattle.quasi_level.specs.Standing.{stage_number, not_done}
use Rattle.quasi_level.proofs.passes.Passes.is_done.Goals as goal

pub returns-in-Done : goal.returns-in-Done
returns-in-Done c = sym (ap (λ s. eqb (stage_number s) 3) c.in-Done.is)

pub returns-in_default : goal.returns-in_default
returns-in_default c = sym (not_done _ c.in_default.not-Done)
