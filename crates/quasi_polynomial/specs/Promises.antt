-- What a reader may conclude of `solve_quasi_polynomial`, from its contract alone: it answers whenever nothing is refused; its
-- sets are then the winning sets of demand 2, each vertex has one winner, and whatever other words hold winning sets,
-- Zielonka's and promotion's, are the same words; and any two results that meet the contract are equal.
use Rattle.std.specs.Prelude.{true, List, ◌⊎◌, ◌≡◌, ℕ, ◌<◌, length}
use Rattle.std.proofs.Math.Logic.{inl, inr, ⊎_elim}
use Rattle.std.proofs.Common.{sym, ap, ◌∙◌}
use Rattle.rules.specs.Counting.{Set}
use Rattle.rules.specs.Game.{Player, Even, Odd, Game}
use Rattle.rules.specs.Outcome.{Outcome, Verdict, none, refused, outcome, answered}
use Rattle.rules.specs.SecondOpinion.{LentSets, opinion_checks, OpinionAnswered, OpinionLeaves, GivesOpinion}
use Rattle.rules.specs.Tables.{Tables, game_of, vertices, Accepted}
use Rattle.rules.specs.Winning.{WinningSets}
use Rattle.rules.specs.Words.{set_of, Holds}
use Rattle.rules.specs.Zielonka.{zielonka}
use Rattle.basics.specs.Basics.{bool_ext}
use Rattle.accepted.specs.Tables.{accepted_total}
use Rattle.theory.specs.Zielonka.{determinacy, zielonka_wins}
use Rattle.parity_game.specs.Laws.{zero_none}
use Rattle.sets.specs.Same.{holds_same}
use Rattle.quasi_polynomial.specs.Checks.{numbered_checks, checks_passed}

-- the words of a player's set, and the set that a player got
abbrev pub set_for : LentSets → Player → List ℕ
set_for l Even = l.even
set_for l Odd = l.odd

abbrev pub got_by : LentSets → Player → Set
got_by l c v = set_of (set_for l c) v

-- two pairs of winning sets are the same
winning_same :
    {g : Game} {won won' : Player → Set} →
    WinningSets g won → WinningSets g won' → (c : Player) (v : ℕ) → v < g.size → won c v ≡ won' c v
winning_same {won = won} {won' = won'} w w' c v l =
    bool_ext (won c v) (won' c v) (λ p. (w' c v l).1 ((w c v l).0 p)) (λ p. (w c v l).1 ((w' c v l).0 p))

-- so words that hold them are the same words
words_same :
    (t : Tables) (won won' : Player → Set) (c : Player) {xs ys : List ℕ} →
    WinningSets (game_of t) won →
    WinningSets (game_of t) won' →
    Holds (vertices t) (won c) xs →
    Holds (vertices t) (won' c) ys →
    xs ≡ ys
unfolding game_of
words_same t won won' c {xs} {ys} w w' h h' =
    holds_same xs ys h
    (record {
      long = h'.long;
      bits = λ v l. h'.bits v l ∙ sym (winning_same {won = won} {won' = won'} w w' c v l);
      clear = h'.clear;
      narrow = h'.narrow;
    })

answer_holds :
    {t : Tables} {before after : LentSets} (a : OpinionAnswered t before after) (c : Player) →
    Holds (vertices t) (a.won c) (set_for after c)
answer_holds a Even = a.even
answer_holds a Odd = a.odd

module _ {t : Tables} {before after : LentSets} {o : Outcome} (p : GivesOpinion t before after o) where
  -- **It answers whenever nothing is refused.**
  pub answers : opinion_checks t before ≡ none → o ≡ answered 0
  answers passed = p.gives ∙ ap (λ (v : Verdict). outcome v (answered 0)) passed

  -- an answer was not refused
  pub not_refused : o.number ≡ 0 → opinion_checks t before ≡ none
  not_refused e =
      zero_none (opinion_checks t before) (answered 0) (numbered_checks t before)
      (ap (λ (x : Outcome). x.number) (sym p.gives) ∙ e)

  answer : o.number ≡ 0 → OpinionAnswered t before after
  answer e = rw (not_refused e) at p.leaves

  -- the tables are accepted where it answers
  pub answered_accepted : o.number ≡ 0 → Accepted t
  answered_accepted e =
      (checks_passed t (length before.even) (length before.odd) (length before.work) (not_refused e)).accepted

  -- **The two sets are exactly the winning sets of demand 2.**
  pub answered_wins : o.number ≡ 0 → WinningSets (game_of t) (got_by after)
  unfolding game_of
  answered_wins e c v l =
      let same = (answer_holds (answer e) c).bits v l in
      (λ q. ((answer e).wins c v l).0 (sym same ∙ q), λ w. same ∙ ((answer e).wins c v l).1 w)

  -- **Each vertex has exactly one winner, and is in that player's set.**
  pub answered_one_winner :
      o.number ≡ 0 →
      (v : ℕ) →
      v < vertices t →
      ((got_by after Even v ≡ true) ⊎ (got_by after Odd v ≡ true)) × (got_by after Even v ≡ true → got_by after Odd v ≡ true → ⊥)
  unfolding game_of
  answered_one_winner e v l =
      let got = answered_wins e in
      let (either, both) = determinacy t (answered_accepted e) v l in (
        ⊎_elim (λ w. inl ((got Even v l).1 w)) (λ w. inr ((got Odd v l).1 w)) either,
        λ a b. both ((got Even v l).0 a) ((got Odd v l).0 b),
      )

  -- **Zielonka's sets are the same.**
  pub answered_zielonka : o.number ≡ 0 → (c : Player) (v : ℕ) → v < vertices t → got_by after c v ≡ (zielonka (game_of t)).won c v
  unfolding game_of
  answered_zielonka e =
      winning_same {won = got_by after} {won' = (zielonka (game_of t)).won} (answered_wins e)
      (zielonka_wins (game_of t) (accepted_total t (answered_accepted e)))

  -- **and whatever words hold winning sets, such as those of the other two solvers, are these words**
  pub answered_agrees :
      o.number ≡ 0 →
      (won : Player → Set) →
      WinningSets (game_of t) won →
      (c : Player) (xs : List ℕ) →
      Holds (vertices t) (won c) xs →
      xs ≡ set_for after c
  answered_agrees e won w c xs h =
      words_same t won (answer e).won c w (answer e).wins h (answer_holds (answer e) c)

-- ---- two results that meet the contract

same_by :
    (v : Verdict) (t : Tables) (before after after' : LentSets) →
    OpinionLeaves v t before after →
    OpinionLeaves v t before after' →
    after ≡ after'
same_by (refused k q) t before after after' l l' = l ∙ sym l'
same_by none t before after after' l l' =
    let same : (c : Player) → set_for after c ≡ set_for after' c =
    λ c.
    words_same t l.won l'.won c l.wins l'.wins (answer_holds l c) (answer_holds l' c) in
    let even : after.even ≡ after'.even = same Even in
    let odd : after.odd ≡ after'.odd = same Odd in
    let work : after.work ≡ after'.work = l.work ∙ sym l'.work in
    ap (λ (x : List ℕ). record { even = x; odd = after.odd; work = after.work }) even ∙
    ap (λ (x : List ℕ). record { even = after'.even; odd = x; work = after.work }) odd ∙
    ap (λ (x : List ℕ). record { even = after'.even; odd = after'.odd; work = x }) work

-- **Any two results that meet the contract are the same.**
pub opinion_one_result :
    {t : Tables} {before after after' : LentSets} {o o' : Outcome} →
    GivesOpinion t before after o →
    GivesOpinion t before after' o' →
    (after ≡ after') × (o ≡ o')
opinion_one_result {t} {before} {after} {after'} p p' = (
  same_by (opinion_checks t before) t before after after' p.leaves p'.leaves,
  p.gives ∙ sym p'.gives,
)
