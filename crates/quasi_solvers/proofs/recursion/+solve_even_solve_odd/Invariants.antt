-- The measures and invariants of `solve_even` and `solve_odd`.
use lib.ListN.{length}
use Rattle.rules.specs.Game.{Even, Odd}
use Rattle.rules.specs.Tables.{tables_of}
use Rattle.quasi_solvers.specs.Passing.{PassesGoing, to_go}
use Rattle.quasi_solvers.proofs.recursion.+solve_even_solve_odd.Given as goal

-- the height
abbrev pub decreases-solve_even : goal.decreases-solve_even
decreases-solve_even l = l.height

abbrev pub decreases-solve_odd : goal.decreases-solve_odd
decreases-solve_odd l = l.height

abbrev pub invariant-solve_even-loop-p : goal.invariant-solve_even-loop-p
invariant-solve_even-loop-p l =
    PassesGoing (tables_of l.owners l.priorities l.offsets l.targets) Even l.base l.e l.o l.half l.initial.work l.passes l.work

abbrev pub decreases-solve_even-loop-p : goal.decreases-solve_even-loop-p
decreases-solve_even-loop-p l =
    to_go (length l.owners) l.base l.work l.passes

abbrev pub invariant-solve_odd-loop-p : goal.invariant-solve_odd-loop-p
invariant-solve_odd-loop-p l =
    PassesGoing (tables_of l.owners l.priorities l.offsets l.targets) Odd l.base l.o l.e l.half l.initial.work l.passes l.work

abbrev pub decreases-solve_odd-loop-p : goal.decreases-solve_odd-loop-p
decreases-solve_odd-loop-p l =
    to_go (length l.owners) l.base l.work l.passes
