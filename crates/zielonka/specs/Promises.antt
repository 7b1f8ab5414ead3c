-- What a reader may conclude of `solve_zielonka`, from its contract alone: whenever it answers, its sets are the winning sets of
-- demand 2, each vertex has one winner, the strategy wins and the count is the recursion's calls; it answers whenever nothing is
-- refused and the budget is demand 3's bound or more; and any two results that meet the contract are the same.
use Rattle.std.specs.Prelude.{true, ◌⊎◌, ◌≡◌, ℕ, ◌≤◌, ◌<◌}
use Rattle.std.proofs.Common.{arith}
use Rattle.rules.specs.Budget.{call_bound, different_priorities}
use Rattle.rules.specs.Game.{Even, Odd, everywhere}
use Rattle.rules.specs.Outcome.{Outcome, none, answered}
use Rattle.rules.specs.Solver.{Lent, solver_checks, Solves}
use Rattle.rules.specs.Tables.{Tables, game_of, vertices, table_checks, Accepted}
use Rattle.rules.specs.Winning.{WinningSets, WinningEntries}
use Rattle.rules.specs.Zielonka.{zielonka}
use Rattle.parity_game.specs.Laws.{then_none}
use Rattle.theory.specs.Bound.{zielonka_bound}
use Rattle.accepted.specs.Tables.{accepted_total, accepted_few}
use Rattle.theory.specs.Zielonka.{zielonka_wins, zielonka_entries_win}
use Rattle.solver.specs.Promises.{got_by, answered_accepted, answered_count, answered_winning, answered_one}
use Rattle.solver.specs.Promises.{answers_within, answered_entries, one_result}

-- the contract of `solve_zielonka`
abbrev pub Promise : ℕ → Tables → Lent → Lent → Outcome → Type 0
Promise budget t before after o =
    Solves budget t (zielonka (game_of t)).calls (zielonka (game_of t)).won (zielonka (game_of t)).entries before after o

module _ {budget : ℕ} {t : Tables} {before after : Lent} {o : Outcome} (p : Promise budget t before after o) where
  -- **The count is the calls of the recursion.**
  pub answered_calls : o.number ≡ 0 → o.count ≡ (zielonka (game_of t)).calls
  answered_calls e = answered_count p e

  -- **The two sets are exactly the winning sets of demand 2.**
  pub answered_wins : o.number ≡ 0 → WinningSets (game_of t) (got_by after)
  answered_wins e = answered_winning p e (zielonka_wins (game_of t) (accepted_total t (answered_accepted p e)))

  -- **Each vertex has exactly one winner, and is in that player's set.**
  pub answered_one_winner :
      o.number ≡ 0 →
      (v : ℕ) →
      v < vertices t →
      ((got_by after Even v ≡ true) ⊎ (got_by after Odd v ≡ true)) × (got_by after Even v ≡ true → got_by after Odd v ≡ true → ⊥)
  answered_one_winner e = answered_one p e (zielonka_wins (game_of t) (accepted_total t (answered_accepted p e)))

  -- **It answers whenever nothing is refused and the budget is demand 3's bound or more.**
  pub answers_within_bound :
      solver_checks t before ≡ none →
      call_bound (vertices t) (different_priorities (game_of t) (everywhere (game_of t))) ≤ budget →
      o ≡ answered (zielonka (game_of t)).calls
  unfolding Accepted game_of
  answers_within_bound passed enough =
      let bound = zielonka_bound (game_of t) (accepted_total t (then_none (table_checks t) _ passed).0) in
      answers_within p passed (omega arith)

-- **The strategy wins: it is a winning choice for both players.**
pub answered_strategy :
    {budget : ℕ} {t : Tables} {before after : Lent} {o : Outcome} →
    Promise budget t before after o →
    o.number ≡ 0 →
    WinningEntries (game_of t) (zielonka (game_of t)).won after.strategy
unfolding game_of
answered_strategy {t = t} p e =
    let ok = answered_accepted p e in
    answered_entries p e (zielonka_entries_win (game_of t) (accepted_total t ok) (accepted_few t ok))

-- **Any two results that meet the contract are the same, the strategy too.**
pub zielonka_one_result :
    {budget : ℕ} {t : Tables} {before after after' : Lent} {o o' : Outcome} →
    Promise budget t before after o →
    Promise budget t before after' o' →
    (o ≡ o') × (after ≡ after')
zielonka_one_result p p' = one_result p p'
