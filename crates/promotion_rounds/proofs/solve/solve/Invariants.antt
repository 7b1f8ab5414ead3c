-- The loop's invariant: the rounds made are the rules' first rounds, within the budget, and what lies behind promotion's
-- area is as it was lent. The rounds that the budget leaves fall.
use Rattle.std.proofs.Common.{◌≤◌, ◌-◌, length}
use Rattle.basics.specs.Frame.{Behind, Unchanged}
use Rattle.promotion_places.specs.Layout.{end_at}
use Rattle.promotion_rounds.specs.SolveAll.{RoundsReached}
use Rattle.promotion_rounds.proofs.solve.solve.Given as goal

abbrev pub invariant-loop-state : goal.invariant-loop-state
invariant-loop-state l =
    RoundsReached l.owners l.priorities l.offsets l.targets l.s l.state.current.0 l.state.unsolved l.state.rounds l.work ×
    (l.state.rounds ≤ l.budget) ×
    Unchanged (Behind (end_at (length l.owners) (length l.targets) l.s)) l.initial.work l.work

abbrev pub decreases-loop-state : goal.decreases-loop-state
decreases-loop-state l = l.budget - l.state.rounds
