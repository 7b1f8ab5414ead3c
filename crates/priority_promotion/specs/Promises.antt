-- What a reader may conclude of `solve_priority_promotion`, from its contract alone: whenever it answers, its sets are the winning
-- sets of demand 2 and Zielonka's, each vertex has one winner, the strategy wins and the count is the rules' rounds; it answers
-- whenever nothing is refused and the budget is n · (n + 2) ^ d or more; any two results that meet the contract are the same.
use Rattle.std.specs.Prelude.{true, false, List, ◌⊎◌, ◌≡◌, ℕ, suc, ◌+◌, ◌*◌, ◌^◌, ◌≤◌, ◌<◌}
use Rattle.std.proofs.Common.{sym, ◌∙◌, le_of_suc-le-suc, le_trans}
use Rattle.rules.specs.Budget.{different_priorities}
use Rattle.rules.specs.Checker.{certificate_checks}
use Rattle.rules.specs.Counting.{listed}
use Rattle.rules.specs.Game.{Player, Even, Odd, everywhere}
use Rattle.rules.specs.Outcome.{Outcome, none, answered}
use Rattle.rules.specs.Promotion.{after_rounds, all_solved, rounds_needed}
use Rattle.rules.specs.Solver.{Lent, solver_checks, Solves}
use Rattle.rules.specs.Tables.{Tables, game_of, vertices, table_checks, Accepted, tables_of}
use Rattle.rules.specs.Winning.{WinningSets, WinningEntries}
use Rattle.rules.specs.Zielonka.{zielonka}
use Rattle.parity_game.specs.Laws.{then_none}
use Rattle.theory.specs.PromotionAccepted.{accepted_finishes, accepted_rounds_sets, accepted_rounds_entries}
use Rattle.theory.specs.PromotionSound.{winning_sets_agree}
use Rattle.accepted.specs.Tables.{accepted_total}
use Rattle.theory.specs.Zielonka.{zielonka_wins}
use Rattle.solver.specs.Promises.{set_for, got_by, answer, answered_accepted, answered_count, answered_holds}
use Rattle.solver.specs.Promises.{answered_winning}
use Rattle.sets.specs.Same.{holds_same}
use Rattle.solver.specs.Promises.{answered_one, answered_certified, answered_entries, answers_within, holds_alike}
use Rattle.solver.specs.Promises.{one_result}
use Rattle.promotion_rounds.specs.Shown.{Shows}
use Rattle.promotion_rounds.specs.RoundPromise.{RoundDone}

-- the contract of `solve_priority_promotion`
abbrev pub Promise : ℕ → Tables → Lent → Lent → Outcome → Type 0
Promise budget t before after o =
    Solves budget t (rounds_needed (game_of t)) (after_rounds (game_of t) (rounds_needed (game_of t))).won
    (after_rounds (game_of t) (rounds_needed (game_of t))).entries before after o

module _ {budget : ℕ} {t : Tables} {before after : Lent} {o : Outcome} (p : Promise budget t before after o) where
  -- **The count is the rounds of the rules: after as many all vertices are solved, and after fewer some are not.**
  pub answered_rounds :
      o.number ≡ 0 →
      (all_solved (game_of t) (after_rounds (game_of t) o.count) ≡ true) ×
      ((k : ℕ) → k < o.count → all_solved (game_of t) (after_rounds (game_of t) k) ≡ false)
  answered_rounds e =
      let found = accepted_finishes t (answered_accepted p e) in rw (answered_count p e) (found.passes, found.first)

  -- all are solved after the rounds needed
  solved_then : o.number ≡ 0 → all_solved (game_of t) (after_rounds (game_of t) (rounds_needed (game_of t))) ≡ true
  solved_then e = (accepted_finishes t (answered_accepted p e)).passes

  -- the rules' sets at the end
  rules_sets : o.number ≡ 0 → WinningSets (game_of t) (after_rounds (game_of t) (rounds_needed (game_of t))).won
  rules_sets e = accepted_rounds_sets t (answered_accepted p e) (rounds_needed (game_of t)) (solved_then e)

  -- and its entries win
  rules_entries :
      o.number ≡ 0 →
      WinningEntries (game_of t) (after_rounds (game_of t) (rounds_needed (game_of t))).won
      (listed (vertices t) (after_rounds (game_of t) (rounds_needed (game_of t))).entries)
  unfolding game_of
  rules_entries e = accepted_rounds_entries t (answered_accepted p e) (rounds_needed (game_of t)) (solved_then e)

  -- **The two sets are exactly the winning sets of demand 2,**
  pub answered_wins : o.number ≡ 0 → WinningSets (game_of t) (got_by after)
  answered_wins e = answered_winning p e (rules_sets e)

  -- **and those of Zielonka's recursion.**
  pub answered_as_zielonka :
      o.number ≡ 0 → (c : Player) (v : ℕ) → v < vertices t → got_by after c v ≡ (zielonka (game_of t)).won c v
  unfolding game_of
  answered_as_zielonka e =
      winning_sets_agree (game_of t) (got_by after) (zielonka (game_of t)).won (answered_wins e)
      (zielonka_wins (game_of t) (accepted_total t (answered_accepted p e)))

  -- **Each vertex has exactly one winner, and is in that player's set.**
  pub answered_one_winner :
      o.number ≡ 0 →
      (v : ℕ) →
      v < vertices t →
      ((got_by after Even v ≡ true) ⊎ (got_by after Odd v ≡ true)) × (got_by after Even v ≡ true → got_by after Odd v ≡ true → ⊥)
  answered_one_winner e = answered_one p e (rules_sets e)

  -- **It answers whenever nothing is refused and the budget is n · (n + 2) ^ d or more.**
  pub answers_within_bound :
      solver_checks t before ≡ none →
      vertices t * (vertices t + 2) ^ different_priorities (game_of t) (everywhere (game_of t)) ≤ budget →
      o ≡ answered (rounds_needed (game_of t))
  unfolding Accepted game_of
  answers_within_bound passed enough =
      let found = accepted_finishes t (then_none (table_checks t) _ passed).0 in
      answers_within p passed (le_trans (le_of_suc-le-suc found.below) enough)

-- **The strategy wins: it is a winning choice for both players.**
pub answered_strategy :
    {budget : ℕ} {t : Tables} {before after : Lent} {o : Outcome} →
    Promise budget t before after o →
    o.number ≡ 0 →
    WinningEntries (game_of t) (after_rounds (game_of t) (rounds_needed (game_of t))).won after.strategy
answered_strategy p e = answered_entries p e (rules_entries p e)

-- **Sets and strategy then get the checker's yes.**
pub answered_gets_yes :
    {budget : ℕ} {t : Tables} {before after : Lent} {o : Outcome} →
    Promise budget t before after o →
    o.number ≡ 0 →
    certificate_checks (game_of t) after.even after.odd after.strategy ≡ none
answered_gets_yes p e = answered_certified p e (rules_sets p e) (rules_entries p e)

-- **Any two results that meet the contract are the same, the strategy too,**
pub promotion_one_result :
    {budget : ℕ} {t : Tables} {before after after' : Lent} {o o' : Outcome} →
    Promise budget t before after o →
    Promise budget t before after' o' →
    (o ≡ o') × (after ≡ after')
promotion_one_result p p' = one_result p p'

-- **any two answers count the same rounds, whatever the budgets,**
pub answers_count_the_same :
    {budget budget' : ℕ} {t : Tables} {before before' after after' : Lent} {o o' : Outcome} →
    Promise budget t before after o →
    Promise budget' t before' after' o' →
    o.number ≡ 0 →
    o'.number ≡ 0 →
    o.count ≡ o'.count
answers_count_the_same p p' e e' = answered_count p e ∙ sym (answered_count p' e')

-- **and give the same strategy,**
pub answers_choose_the_same :
    {budget budget' : ℕ} {t : Tables} {before before' after after' : Lent} {o o' : Outcome} →
    Promise budget t before after o →
    Promise budget' t before' after' o' →
    o.number ≡ 0 →
    o'.number ≡ 0 →
    after.strategy ≡ after'.strategy
answers_choose_the_same p p' e e' = (answer p e).strategy ∙ sym (answer p' e').strategy

-- **and the words of the sets are those that Zielonka's solver gives.**
pub same_words_as_zielonka :
    {budget budget' : ℕ} {t : Tables} {before before' after after' : Lent} {o o' : Outcome} →
    Promise budget t before after o →
    Solves budget' t (zielonka (game_of t)).calls (zielonka (game_of t)).won (zielonka (game_of t)).entries before' after' o' →
    o.number ≡ 0 →
    o'.number ≡ 0 →
    (c : Player) →
    set_for after c ≡ set_for after' c
unfolding game_of
same_words_as_zielonka {t = t} {after = after} {after' = after'} p z e e' c =
    holds_same (set_for after c) (set_for after' c)
    (holds_alike
    (λ v l. sym ((answered_holds p e c).bits v l) ∙ answered_as_zielonka p e c v l)
    (answered_holds p e c))
    (answered_holds z e' c)

-- **Where the work area and the small state show the state after k rounds, a round leaves them showing the state after one more.**
pub round_shows_next :
    {owners priorities offsets targets : List ℕ} {s at many made at' many' made' : ℕ} {before after : List ℕ} →
    RoundDone owners priorities offsets targets s at many made at' many' made' before after →
    (k : ℕ) →
    Shows owners priorities offsets targets s (after_rounds (game_of (tables_of owners priorities offsets targets)) k) at many before →
    Shows owners priorities offsets targets s (after_rounds (game_of (tables_of owners priorities offsets targets)) (suc k)) at' many' after
unfolding after_rounds
round_shows_next d k shows = (d.shown k shows).0
