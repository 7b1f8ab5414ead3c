-- `odd_at` meets its contract.
use native.Mathlib.Omega.{arith}
use Rattle.priority_sets.specs.Sorting.{placed_few}
use Rattle.zielonka_level.proofs.places.odd_at.Goals as goal

pub behind_sets-requires : goal.behind_sets-requires
behind_sets-requires c = c.requires

pub next_set-requires : goal.next_set-requires
next_set-requires c = let few = placed_few c.requires in omega (arith, c.behind_sets.ensures, c.requires.size)

pub returns : goal.returns
returns c = omega (arith, c.next_set.ensures, c.behind_sets.ensures, c.requires.size)
