-- The three demands, in their order, of the contracts that the doors of the two solvers carry word for word
-- (`reckonbough_solvers/src`). r is the record as lent, after whatever edits; o is number, place and count as told.
use Rattle.std.specs.Prelude.{Bool, true, false, cond, ◌⊎◌, ◌≡◌, refl, ℕ, ◌≤◌, ◌<◌}
use Rattle.std.proofs.Common.{sym, ap, subst, ◌∙◌, arith}
use Rattle.rules.specs.Counting.{Set}
use Rattle.rules.specs.Game.{Player, Even, Odd, Game, Edge, everywhere}
use Rattle.rules.specs.Outcome.{Outcome, Verdict, none, refused, answered, Unless}
use Rattle.rules.specs.Tables.{Tables, game_of, vertices}
use Rattle.rules.specs.Record.{Record, record_checks, tables_in, ByRecord}
use Rattle.rules.specs.Solver.{Lent, solver_checks}
use Rattle.rules.specs.Winning.{Fixes, WinsBy, WinningSets, WinningEntries}
use Rattle.rules.specs.Words.{entry}
use Rattle.rules.specs.Zielonka.{zielonka}
use Rattle.rules.specs.Budget.{call_bound, different_priorities}
use Rattle.rules.specs.Promotion.{rounds_needed, after_rounds}
use Rattle.parity_game.specs.Laws.{Numbered}
use Rattle.record.specs.Laws.{numbered_record}
use Rattle.solver.specs.Promises.{got_by, answered_holds}
use Rattle.zielonka.specs.Promises as Zielonka
use Rattle.priority_promotion.specs.Promises as Promotion

-- what the two doors promise
abbrev pub ZielonkaDoor : ℕ → Record → Lent → Lent → Outcome → Type 0
ZielonkaDoor budget r before after o = ByRecord r o before after (λ t. Zielonka.Promise budget t before after o)

abbrev pub PromotionDoor : ℕ → Record → Lent → Lent → Outcome → Type 0
PromotionDoor budget r before after o = ByRecord r o before after (λ t. Promotion.Promise budget t before after o)

-- the game of the tables that count
abbrev pub played : Record → Game
played r = game_of (tables_in r)

-- ---- 1

-- **Demand 1: a bad record gets the first refusal that applies, with its place, and what is lent stays as found**, of whatever a
-- door does with the tables of a good one.
pub demand_1 :
    {A : Type 0} {k p : ℕ} (r : Record) (o : Outcome) (before after : A) (Does : Tables → Type 0) →
    record_checks r ≡ refused k p →
    ByRecord r o before after Does →
    (o ≡ record { number = k; place = p; count = 0 }) × (after ≡ before)
demand_1 r o before after Does e u = subst (λ (v : Verdict). Unless v o before after (Does (tables_in r))) e u

-- ---- 2

answered_by :
    {A : Type 0} (v : Verdict) (o : Outcome) (before after : A) (Else : Type 0) →
    Numbered v →
    Unless v o before after Else →
    o.number ≡ 0 →
    Else
answered_by none o before after Else n u e = u
answered_by (refused k p) o before after Else n u e =
    let number : o.number ≡ k = ap (λ (x : Outcome). x.number) u.0 in absurd (omega (arith, n, number, e))

-- where a record is answered, the door did what it does with its tables
done :
    (r : Record) (before after : Lent) (o : Outcome) (Does : Tables → Type 0) →
    ByRecord r o before after Does →
    o.number ≡ 0 →
    Does (tables_in r)
done r before after o Does u e = answered_by (record_checks r) o before after (Does (tables_in r)) (numbered_record r) u e

-- each vertex has one winner, and is in that player's set
abbrev pub OneWinnerEach : Game → Lent → Type 0
OneWinnerEach g after =
    (v : ℕ) →
    v < g.size →
    ((got_by after Even v ≡ true) ⊎ (got_by after Odd v ≡ true)) × (got_by after Even v ≡ true → got_by after Odd v ≡ true → ⊥)

-- the entries handed out at a player's vertices of its set, completed by any edges elsewhere
abbrev pub completed : Lent → Player → (ℕ → ℕ) → ℕ → ℕ
completed after a other v = cond (got_by after a v) (entry after.strategy v) (other v)

-- that is one fixed edge for each own vertex, by which the player wins every vertex of the set given back
abbrev pub ChoiceWins : Game → Lent → Type 0
ChoiceWins g after =
    (a : Player) (other : ℕ → ℕ) →
    Fixes g a other →
    Fixes g a (completed after a other) ×
    ((v : ℕ) → v < g.size → got_by after a v ≡ true → WinsBy g a (completed after a other) v)

-- the sets given back are the rules' below n, so the rules' winning entries are such a choice
choice_wins :
    (g : Game) (won : Player → Set) (after : Lent) →
    ((c : Player) (v : ℕ) → v < g.size → got_by after c v ≡ won c v) →
    WinningEntries g won after.strategy →
    ChoiceWins g after
choice_wins g won after same entries a other fixes =
    (whole, λ v l got. entries.win a (completed after a other) whole agrees v l (sym (same a v l) ∙ got))
  where
    fixed :
        (v : ℕ) → v < g.size → g.owner v ≡ a → (b : Bool) → got_by after a v ≡ b →
        Edge g v (cond b (entry after.strategy v) (other v))
    fixed v l own true e = entries.given a v l (sym (same a v l) ∙ e) own
    fixed v l own false e = fixes v l own

    whole : Fixes g a (completed after a other)
    whole v l own = fixed v l own (got_by after a v) refl

    agrees :
        (v : ℕ) → v < g.size → won a v ≡ true → g.owner v ≡ a → completed after a other v ≡ entry after.strategy v
    agrees v l w own = ap (λ (b : Bool). cond b (entry after.strategy v) (other v)) (same a v l ∙ w)

-- **Demand 2, Zielonka: the sets are exactly the winning sets, each vertex has one winner, and the strategy is such a choice.**
pub demand_2 :
    (budget : ℕ) (r : Record) (before after : Lent) (o : Outcome) →
    ZielonkaDoor budget r before after o →
    o.number ≡ 0 →
    WinningSets (played r) (got_by after) × OneWinnerEach (played r) after × ChoiceWins (played r) after
unfolding game_of
demand_2 budget r before after o u e =
    let p : Zielonka.Promise budget (tables_in r) before after o =
    done r before after o (λ t. Zielonka.Promise budget t before after o) u e in (
      Zielonka.answered_wins p e,
      Zielonka.answered_one_winner p e,
      choice_wins (played r) (zielonka (played r)).won after (λ c v l. (answered_holds p e c).bits v l) (Zielonka.answered_strategy p e),
    )

-- **Demand 2, priority promotion.**
pub demand_2_promotion :
    (budget : ℕ) (r : Record) (before after : Lent) (o : Outcome) →
    PromotionDoor budget r before after o →
    o.number ≡ 0 →
    WinningSets (played r) (got_by after) × OneWinnerEach (played r) after × ChoiceWins (played r) after
unfolding game_of
demand_2_promotion budget r before after o u e =
    let p : Promotion.Promise budget (tables_in r) before after o =
    done r before after o (λ t. Promotion.Promise budget t before after o) u e in (
      Promotion.answered_wins p e,
      Promotion.answered_one_winner p e,
      choice_wins (played r) (after_rounds (played r) (rounds_needed (played r))).won after
          (λ c v l. (answered_holds p e c).bits v l)
          (Promotion.answered_strategy p e),
    )

-- ---- 3

-- **Demand 3: for a record that passes, with sets, strategy and work area as document 01 sizes them, Zielonka answers whenever
-- its budget is at least 2·(C(n,0)+...+C(n,d))−1, and the calls reported are those of the recursion.**
pub demand_3 :
    (budget : ℕ) (r : Record) (before after : Lent) (o : Outcome) →
    ZielonkaDoor budget r before after o →
    record_checks r ≡ none →
    solver_checks (tables_in r) before ≡ none →
    call_bound (vertices (tables_in r)) (different_priorities (played r) (everywhere (played r))) ≤ budget →
    o ≡ answered (zielonka (played r)).calls
demand_3 budget r before after o u ok sized enough =
    let p = subst (λ (v : Verdict). Unless v o before after (Zielonka.Promise budget (tables_in r) before after o)) ok u in
    Zielonka.answers_within_bound p sized enough
