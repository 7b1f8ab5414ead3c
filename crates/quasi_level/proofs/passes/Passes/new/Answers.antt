-- `new` meets its contract: the first stage by its test.
use mathlib.Core.Path.{refl}
use Rattle.quasi_level.specs.Standing.{first_full, first_half}
use Rattle.quasi_level.proofs.passes.Passes.new.Goals as goal

pub returns-then-half-eq0 : goal.returns-then-half-eq0
returns-then-half-eq0 c = record { stage = first_full c.if-half-eq0.true; keeps = refl; drops = refl }

pub returns-else-half-eq0 : goal.returns-else-half-eq0
returns-else-half-eq0 c = record { stage = first_half c.if-half-eq0.false; keeps = refl; drops = refl }
