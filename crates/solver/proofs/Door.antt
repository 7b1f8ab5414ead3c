-- What a solver's door gives: what its checks refuse, or what its run makes of it.
use Rattle.std.specs.Option.{ok_or}
use Rattle.std.proofs.Common.{refl, ◌∙◌}
use Rattle.std.specs.Prelude.{◌≡◌, ℕ, Option, Some, None, Err, ltb}
use Rattle.rules.specs.Counting.{Set}
use Rattle.rules.specs.Game.{Player}
use Rattle.rules.specs.Outcome.{budgeted}
use Rattle.rules.specs.Solver.{Lent, solver_checks, Solves}
use Rattle.rules.specs.Tables.{Tables}
use Rattle.parity_game.specs.declared.refusal.Refusal.{Refusal}
use Rattle.parity_game.specs.Said.{verdict, refusal_of}
use Rattle.parity_game.specs.Laws.{refused_is_some, refused_outcome}
use Rattle.solver.specs.declared.unsolved.Unsolved.TheVariants.{OverBudget}
use Rattle.solver.specs.Running.{leaves_refused, ran_outcome}
use Rattle.solver.specs.Unsolved.{said}

-- what the checks refuse is given, and nothing is written
pub refused_before :
    (budget : ℕ) (t : Tables) (needed : ℕ) (won : Player → Set) (entries : ℕ → ℕ) (l : Lent) (e : Refusal) →
    verdict (Err e) ≡ solver_checks t l →
    Solves budget t needed won entries l l (refusal_of e)
refused_before budget t needed won entries l e h =
    record {
      gives = refused_outcome e (solver_checks t l) (budgeted budget needed) h;
      leaves = leaves_refused (solver_checks t l) (ltb budget needed) t won entries l (λ z. refused_is_some (h ∙ z));
    }

-- a run that gave nothing is 13
pub ran_said : (budget : ℕ) (r : Option ℕ) → ran_outcome budget r ≡ said (ok_or r (OverBudget budget))
ran_said budget (Some k) = refl
ran_said budget None = refl
