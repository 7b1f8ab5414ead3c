-- `levels_at` meets its contract.
use native.Mathlib.Omega.{arith}
use Rattle.priority_sets.specs.Sorting.{placed_few}
use Rattle.zielonka_level.proofs.places.levels_at.Goals as goal

pub drawn_at-requires : goal.drawn_at-requires
drawn_at-requires c = c.requires

pub next_set-requires : goal.next_set-requires
next_set-requires c = let few = placed_few c.requires in omega (arith, c.drawn_at.ensures, c.requires.size)

pub returns : goal.returns
returns c = omega (arith, c.next_set.ensures, c.drawn_at.ensures, c.requires.size)
