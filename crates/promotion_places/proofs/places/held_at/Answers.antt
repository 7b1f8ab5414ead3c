-- `held_at` meets its contract.
use native.Mathlib.Omega.{arith}
use Rattle.promotion_places.proofs.places.held_at.Goals as goal

pub returns : goal.returns
returns c = omega (arith, c.requires.size, c.behind_sets.ensures)
