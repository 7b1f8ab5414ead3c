-- `precision` meets its contract, by the stage.
use mathlib.Core.Path.{ap}
use Rattle.quasi_level.specs.Standing.{stage_number, not_full, at_full, at_half}
use Rattle.quasi_level.proofs.passes.Passes.precision.Goals as goal

pub returns-in-Full : goal.returns-in-Full
returns-in-Full c = at_full _ _ _ (ap stage_number c.in-Full.is)

pub returns-in_default : goal.returns-in_default
returns-in_default c = at_half _ _ _ (not_full _ c.in_default.not-Full)
