-- What a reader may conclude of a solver from its contract alone, whatever it counts: when it has answered, what it then leaves,
-- and that any two results that meet the contract are the same.
use Rattle.std.specs.Prelude.{Bool, true, false, cond, List, ◌⊎◌, ◌≡◌, refl, ℕ, ◌≤◌, ◌<◌, ltb}
use Rattle.std.proofs.Math.Logic.{inl, inr, ⊎_elim}
use Rattle.std.proofs.Common.{sym, ap, ◌∙◌, arith, le-ltb, ltb-false}
use Rattle.std.proofs.lemmas.Bool.{eqb-false}
use Rattle.rules.specs.Checker.{certificate_checks}
use Rattle.rules.specs.Counting.{Set, listed}
use Rattle.rules.specs.Game.{Player, Even, Odd}
use Rattle.rules.specs.Outcome.{Outcome, Verdict, none, refused, outcome, answered, budgeted}
use Rattle.rules.specs.Solver.{Lent, solver_checks, Answered, Leaves, Solves}
use Rattle.rules.specs.Tables.{Tables, game_of, vertices, table_checks, Accepted}
use Rattle.rules.specs.Winning.{WinningSets, WinningEntries}
use Rattle.rules.specs.Words.{set_of, Holds}
use Rattle.parity_game.specs.Laws.{then_none, zero_none}
use Rattle.sets.specs.Same.{holds_same}
use Rattle.theory.specs.Bits.{bits_of}
use Rattle.theory.specs.Checker.{winning_gets_yes}
use Rattle.accepted.specs.Tables.{accepted_total}
use Rattle.theory.specs.Zielonka.{determinacy}
use Rattle.lent_checks.specs.Checks.{numbered_checks}

-- the words of a player's set
abbrev pub set_for : Lent → Player → List ℕ
set_for l Even = l.even
set_for l Odd = l.odd

-- the set that a player got
abbrev pub got_by : Lent → Player → Set
got_by l c v = set_of (set_for l c) v

budget_number : (over : Bool) (budget needed : ℕ) → (cond over (record { number = 13; place = 0; count = budget }) (answered needed)).number ≡ 0 → over ≡ false
budget_number true budget needed e = absurd (eqb-false 13 0 refl e)
budget_number false budget needed e = refl

module _ {budget : ℕ} {t : Tables} {needed : ℕ} {won : Player → Set} {entries : ℕ → ℕ} {before after : Lent} {o : Outcome}
    (p : Solves budget t needed won entries before after o)
  where
    -- an answer was not refused, and needed no more than the budget
    not_refused : o.number ≡ 0 → solver_checks t before ≡ none
    not_refused e =
        zero_none (solver_checks t before) (budgeted budget needed) (numbered_checks t before)
        (ap (λ (x : Outcome). x.number) (sym p.gives) ∙ e)

    within_budget : o.number ≡ 0 → ltb budget needed ≡ false
    within_budget e =
        budget_number (ltb budget needed) budget needed
        (ap (λ (x : Outcome). x.number)
        (sym (ap (λ (v : Verdict). outcome v (budgeted budget needed)) (not_refused e)) ∙ sym p.gives) ∙
        e)

    pub answered_within : o.number ≡ 0 → needed ≤ budget
    answered_within e = ltb-false budget needed (within_budget e)

    pub answer : o.number ≡ 0 → Answered t won entries before after
    answer e = rw (not_refused e, within_budget e) at p.leaves

    -- the tables are accepted where it answers
    pub answered_accepted : o.number ≡ 0 → Accepted t
    unfolding Accepted
    answered_accepted e = (then_none (table_checks t) _ (not_refused e)).0

    pub answered_holds : o.number ≡ 0 → (c : Player) → Holds (vertices t) (won c) (set_for after c)
    answered_holds e Even = (answer e).even
    answered_holds e Odd = (answer e).odd

    -- **The count is what was needed.**
    pub answered_count : o.number ≡ 0 → o.count ≡ needed
    answered_count e =
        ap (λ (x : Outcome). x.count) p.gives ∙
        ap (λ (v : Verdict). (outcome v (budgeted budget needed)).count) (not_refused e) ∙
        ap (λ (b : Bool). (cond b (record { number = 13; place = 0; count = budget }) (answered needed)).count) (within_budget e)

    -- **Where the rules' sets are the winning sets of demand 2, so are the sets that are given.**
    pub answered_winning : o.number ≡ 0 → WinningSets (game_of t) won → WinningSets (game_of t) (got_by after)
    unfolding game_of
    answered_winning e wins c v small =
        let same = (answered_holds e c).bits v small in
        (λ q. (wins c v small).0 (sym same ∙ q), λ w. same ∙ (wins c v small).1 w)

    -- **Then each vertex has exactly one winner, and is in that player's set.**
    pub answered_one :
        o.number ≡ 0 →
        WinningSets (game_of t) won →
        (v : ℕ) →
        v < vertices t →
        ((got_by after Even v ≡ true) ⊎ (got_by after Odd v ≡ true)) × (got_by after Even v ≡ true → got_by after Odd v ≡ true → ⊥)
    unfolding game_of
    answered_one e wins v small =
        let got = answered_winning e wins in
        let (either, both) = determinacy t (answered_accepted e) v small in (
          ⊎_elim (λ w. inl ((got Even v small).1 w)) (λ w. inr ((got Odd v small).1 w)) either,
          λ a b. both ((got Even v small).0 a) ((got Odd v small).0 b),
        )

    -- **Where the rules' entries win, so does the strategy that is given.**
    pub answered_entries :
        o.number ≡ 0 →
        WinningEntries (game_of t) won (listed (vertices t) entries) →
        WinningEntries (game_of t) won after.strategy
    answered_entries e wins = rw (answer e).strategy wins

    -- **It answers whenever nothing is refused and the budget is enough.**
    pub answers_within : solver_checks t before ≡ none → needed ≤ budget → o ≡ answered needed
    answers_within passed enough =
        p.gives ∙
        ap (λ (v : Verdict). outcome v (budgeted budget needed)) passed ∙
        ap (λ (b : Bool). cond b (record { number = 13; place = 0; count = budget }) (answered needed)) (le-ltb budget needed (omega arith))

-- **Where the rules' sets are the winning sets and the rules' entries win, what is given gets the checker's yes.**
pub answered_certified :
    {budget : ℕ} {t : Tables} {needed : ℕ} {won : Player → Set} {entries : ℕ → ℕ} {before after : Lent} {o : Outcome} →
    Solves budget t needed won entries before after o →
    o.number ≡ 0 →
    WinningSets (game_of t) won →
    WinningEntries (game_of t) won (listed (vertices t) entries) →
    certificate_checks (game_of t) after.even after.odd after.strategy ≡ none
unfolding game_of
answered_certified {t = t} {won = won} {after = after} p e wins choice =
    winning_gets_yes (game_of t) (accepted_total t (answered_accepted p e)) won wins
    (λ v l.
    ⊎_elim (λ w. inl ((wins Even v l).1 w)) (λ w. inr ((wins Odd v l).1 w)) (determinacy t (answered_accepted p e) v l).0)
    after.even after.odd after.strategy (bits_of (answer p e).even) (bits_of (answer p e).odd)
    (answered_entries p e choice)

-- ---- two results that meet the contract

-- a set by its members below n
pub holds_alike : {n : ℕ} {S T : Set} {xs : List ℕ} → ((v : ℕ) → v < n → S v ≡ T v) → Holds n S xs → Holds n T xs
holds_alike same h =
    record { long = h.long; bits = λ v l. h.bits v l ∙ same v l; clear = h.clear; narrow = h.narrow }

-- what is lent, by its lists
lent_same :
    {e e' d d' s s' w w' : List ℕ} →
    e ≡ e' → d ≡ d' → s ≡ s' → w ≡ w' →
    ◌≡◌ {A = Lent}
    (record { even = e; odd = d; strategy = s; work = w })
    (record { even = e'; odd = d'; strategy = s'; work = w' })
lent_same a b c d = cc

leaves_one :
    (v : Verdict) (over : Bool) (t : Tables) (won : Player → Set) (entries : ℕ → ℕ) (before after after' : Lent) →
    Leaves v over t won entries before after →
    Leaves v over t won entries before after' →
    after ≡ after'
leaves_one (refused k q) over t won entries before after after' l l' = l ∙ sym l'
leaves_one none true t won entries before after after' l l' =
    lent_same (l.even ∙ sym l'.even) (l.odd ∙ sym l'.odd) (l.strategy ∙ sym l'.strategy) (l.work ∙ sym l'.work)
leaves_one none false t won entries before after after' l l' =
    lent_same
    (holds_same after.even after'.even l.even l'.even)
    (holds_same after.odd after'.odd l.odd l'.odd)
    (l.strategy ∙ sym l'.strategy)
    (l.work ∙ sym l'.work)

-- **Any two results that meet the contract are the same: what is given, and all that is left, the strategy too.**
pub one_result :
    {budget : ℕ} {t : Tables} {needed : ℕ} {won : Player → Set} {entries : ℕ → ℕ} {before after after' : Lent} {o o' : Outcome} →
    Solves budget t needed won entries before after o →
    Solves budget t needed won entries before after' o' →
    (o ≡ o') × (after ≡ after')
one_result {budget} {t} {needed} {won} {entries} {before} {after} {after'} p p' = (
  p.gives ∙ sym p'.gives,
  leaves_one (solver_checks t before) (ltb budget needed) t won entries before after after' p.leaves p'.leaves,
)
