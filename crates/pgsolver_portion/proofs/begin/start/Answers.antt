-- `start` meets its contract: nothing is read yet.
use mathlib.Core.Path.{refl}
use Rattle.rules.specs.Reading.{targets_in}
use Rattle.pgsolver_portion.proofs.begin.start.Goals as goal

pub returns : goal.returns
unfolding targets_in
returns c = refl
