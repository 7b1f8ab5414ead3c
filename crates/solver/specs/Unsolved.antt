-- The number, place and count of the table for what a solver gives: its count, a refusal, or 13 with the budget.
use Rattle.std.specs.Prelude.{ℕ, Result, Ok, Err}
use Rattle.rules.specs.Outcome.{Outcome, answered}
use Rattle.parity_game.specs.Said.{refusal_of}
use Rattle.solver.specs.declared.unsolved.Unsolved.{Unsolved}
use Rattle.solver.specs.declared.unsolved.Unsolved.TheVariants.{Refused, OverBudget}

-- 13: the count given is the budget
abbrev pub over_budget : ℕ → Outcome
over_budget budget = record { number = 13; place = 0; count = budget }

abbrev pub unsolved_as : Unsolved → Outcome
unsolved_as (Refused r) = refusal_of r
unsolved_as (OverBudget budget) = over_budget budget

abbrev pub said : Result ℕ Unsolved → Outcome
said (Ok k) = answered k
said (Err e) = unsolved_as e
