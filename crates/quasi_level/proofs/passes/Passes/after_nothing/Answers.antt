-- `after_nothing` meets its contract, by the stage.
use mathlib.Core.Path.{refl, ap}
use Rattle.quasi_level.specs.Standing.{stage_number, not_half, nothing_sharp, nothing_first, nothing_later}
use Rattle.quasi_level.proofs.passes.Passes.after_nothing.Goals as goal

pub returns-then-sub : goal.returns-then-sub
returns-then-sub c = record { stage = nothing_sharp _ _ _ c.if-sub.true; keeps = refl; drops = refl }

pub returns-in-Half : goal.returns-in-Half
returns-in-Half c = record { stage = nothing_first _ _ _ c.if-sub.false (ap stage_number c.in-Half.is); keeps = refl; drops = refl }

pub returns-in_default-2 : goal.returns-in_default-2
returns-in_default-2 c =
    record { stage = nothing_later _ _ _ c.if-sub.false (not_half _ c.in_default-2.not-Half); keeps = refl; drops = refl }
