-- What a reader may conclude of `solve_solitaire_game`, from its contract alone: it answers whenever nothing is refused; its set is then
-- exactly what the one owner wins by demand 2, all other vertices are the opponent's, and Zielonka's set is the same; and any two
-- results that meet the contract are equal.
use Rattle.std.specs.Prelude.{true, false, List, ◌≡◌, ℕ, ◌<◌, length}
use Rattle.std.proofs.Common.{sym, ap, ap₂, ◌∙◌}
use Rattle.rules.specs.Game.{opponent}
use Rattle.rules.specs.Outcome.{Outcome, Verdict, none, refused, outcome, answered}
use Rattle.rules.specs.Solitaire.{LentSet, sole_owner, solitaire_checks, SolitaireAnswered, SolitaireLeaves, SolvesSolitaire}
use Rattle.rules.specs.Tables.{Tables, game_of, vertices, Accepted}
use Rattle.rules.specs.Winning.{Wins}
use Rattle.rules.specs.Words.{set_of}
use Rattle.rules.specs.Zielonka.{zielonka}
use Rattle.theory.specs.Solitaire.{accepted_one_owner, solitaire_wins, wins_solitaire, solitaire_exact, solitaire_rest}
use Rattle.accepted.specs.Tables.{accepted_total}
use Rattle.theory.specs.Zielonka.{zielonka_wins}
use Rattle.parity_game.specs.Laws.{zero_none}
use Rattle.sets.specs.Same.{holds_same}
use Rattle.solitaire_game.specs.Checks.{numbered_checks, SolitairePassed, checks_passed}

module _ {t : Tables} {before after : LentSet} {o : Outcome} (p : SolvesSolitaire t before after o) where
  -- **It answers whenever nothing is refused.**
  pub answers : solitaire_checks t before ≡ none → o ≡ answered 0
  answers passed = p.gives ∙ ap (λ (v : Verdict). outcome v (answered 0)) passed

  -- an answer was not refused
  pub not_refused : o.number ≡ 0 → solitaire_checks t before ≡ none
  not_refused e =
      zero_none (solitaire_checks t before) (answered 0) (numbered_checks t before) (ap (λ (x : Outcome). x.number) (sym p.gives) ∙ e)

  passed : o.number ≡ 0 → SolitairePassed t (length before.set) (length before.work)
  passed e = checks_passed t (length before.set) (length before.work) (not_refused e)

  answer : o.number ≡ 0 → SolitaireAnswered t before after
  answer e = rw (not_refused e) at p.leaves

  -- the tables are accepted where it answers, and have one owner
  pub answered_accepted : o.number ≡ 0 → Accepted t
  answered_accepted e = (passed e).accepted

  pub answered_one_owner : o.number ≡ 0 → (v : ℕ) → v < (game_of t).size → (game_of t).owner v ≡ sole_owner t
  answered_one_owner e = accepted_one_owner t (passed e).one_owner

  -- **The set is exactly the owner's winning set of demand 2.**
  pub answered_wins :
      o.number ≡ 0 →
      (v : ℕ) →
      v < vertices t →
      (set_of after.set v ≡ true → Wins (game_of t) (sole_owner t) v) × (Wins (game_of t) (sole_owner t) v → set_of after.set v ≡ true)
  unfolding game_of
  answered_wins e v small =
      let same = (answer e).set.bits v small in
      let total = accepted_total t (answered_accepted e) in (
        λ q. solitaire_wins (game_of t) total (sole_owner t) (answered_one_owner e) v (sym same ∙ q),
        λ w. same ∙ wins_solitaire (game_of t) total (sole_owner t) (answered_one_owner e) v small w,
      )

  -- **All other vertices are won by the opponent.**
  pub answered_rest :
      o.number ≡ 0 → (v : ℕ) → v < vertices t → set_of after.set v ≡ false → Wins (game_of t) (opponent (sole_owner t)) v
  unfolding game_of
  answered_rest e v small q =
      solitaire_rest (game_of t) (accepted_total t (answered_accepted e)) (sole_owner t) (answered_one_owner e) v small
      (sym ((answer e).set.bits v small) ∙ q)

  -- **Zielonka's set of the owner is the same.**
  pub answered_zielonka :
      o.number ≡ 0 → (v : ℕ) → v < vertices t → set_of after.set v ≡ (zielonka (game_of t)).won (sole_owner t) v
  unfolding game_of
  answered_zielonka e v small =
      let total = accepted_total t (answered_accepted e) in
      (answer e).set.bits v small ∙
      solitaire_exact (game_of t) total (sole_owner t) (answered_one_owner e) (zielonka (game_of t)).won (zielonka_wins (game_of t) total) v small

-- ---- two results that meet the contract

same_by :
    (v : Verdict) (t : Tables) (before after after' : LentSet) →
    SolitaireLeaves v t before after →
    SolitaireLeaves v t before after' →
    after ≡ after'
same_by (refused k q) t before after after' l l' = l ∙ sym l'
same_by none t before after after' l l' =
    ap₂ (λ (s w : List ℕ). record { set = s; work = w })
    (holds_same after.set after'.set l.set l'.set)
    (l.work ∙ sym l'.work)

-- **Any two results that meet the contract are the same.**
pub solitaire_one_result :
    {t : Tables} {before after after' : LentSet} {o o' : Outcome} →
    SolvesSolitaire t before after o →
    SolvesSolitaire t before after' o' →
    (after ≡ after') × (o ≡ o')
solitaire_one_result {t} {before} {after} {after'} p p' = (
  same_by (solitaire_checks t before) t before after after' p.leaves p'.leaves,
  p.gives ∙ sym p'.gives,
)
