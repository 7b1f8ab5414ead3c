-- A run of a solver under a budget, which needs so many calls or rounds for its sets and entries: what it asks for and leaves,
-- and how it makes an answer.
use Rattle.std.specs.Prelude.{Bool, true, false, List, ◌≡◌, refl, ℕ, Option, Some, None, ◌-◌, ◌≤◌, ◌<◌, ltb, length, take, drop}
use Rattle.std.proofs.Common.{ap, ◌∙◌, arith, lt-ltb, le-ltb, length-take}
use Rattle.rules.specs.Counting.{Set, listed}
use Rattle.rules.specs.Game.{Player, Even, Odd}
use Rattle.rules.specs.Outcome.{Outcome, Verdict, none, refused, outcome, answered, budgeted}
use Rattle.rules.specs.Solver.{Lent, solver_checks, Leaves, Solves, cleared}
use Rattle.rules.specs.Tables.{Tables, vertices, edges_in, words, work_words, Accepted}
use Rattle.rules.specs.Words.{Holds}
use Rattle.lent_checks.specs.Checks.{Passed}

-- what `run` asks for: accepted tables, outputs of the right sizes, and W words
pub record Runnable (t : Tables) (even odd strategy work : List ℕ) : Type 0 where
  pub accepted : Accepted t
  pub even_size : length even ≡ words (vertices t)
  pub odd_size : length odd ≡ words (vertices t)
  pub strategy_size : length strategy ≡ vertices t
  pub room : length work ≡ work_words (vertices t) (edges_in t)

-- the lists that `run` writes
pub record Outputs : Type 0 where
  pub even : List ℕ
  pub odd : List ℕ
  pub strategy : List ℕ

-- those lists of what a solver is lent
abbrev pub outputs_of : Lent → Outputs
outputs_of l = record { even = l.even; odd = l.odd; strategy = l.strategy }

-- an answer within the budget
pub record AnsweredWithin
    (budget : ℕ)
    (t : Tables)
    (needed : ℕ)
    (won : Player → Set)
    (entries : ℕ → ℕ)
    (made : ℕ)
    (after : Outputs)
    : Type 0 where
  pub exact : made ≡ needed
  pub within : made ≤ budget
  pub even : Holds (vertices t) (won Even) after.even
  pub odd : Holds (vertices t) (won Odd) after.odd
  pub strategy : after.strategy ≡ listed (vertices t) entries

-- more is needed than the budget, and nothing is written
pub record Halted (budget needed : ℕ) (before after : Outputs) : Type 0 where
  pub over : budget < needed
  pub same : after ≡ before

-- by cases on what the run gave
abbrev pub Runs : ℕ → Tables → ℕ → (Player → Set) → (ℕ → ℕ) → Outputs → Outputs → Option ℕ → Type 0
Runs budget t needed won entries before after (Some made) = AnsweredWithin budget t needed won entries made after
Runs budget t needed won entries before after None = Halted budget needed before after

-- a refusal is given as it is, and nothing is written
pub leaves_refused :
    (v : Verdict) (over : Bool) (t : Tables) (won : Player → Set) (entries : ℕ → ℕ) (l : Lent) →
    (v ≡ none → ⊥) →
    Leaves v over t won entries l l
leaves_refused none over t won entries l h = absurd (h refl)
leaves_refused (refused k p) over t won entries l h = refl

gives_refused : (v : Verdict) (o q : Outcome) → (v ≡ none → ⊥) → outcome v o ≡ outcome v q
gives_refused none o q h = absurd (h refl)
gives_refused (refused k p) o q h = refl

pub solves_refused :
    (budget : ℕ) (t : Tables) (needed : ℕ) (won : Player → Set) (entries : ℕ → ℕ) (l : Lent) (o : Outcome) →
    o ≡ outcome (solver_checks t l) (answered 0) →
    (o.number ≡ 0 → ⊥) →
    Solves budget t needed won entries l l o
solves_refused budget t needed won entries l o e h =
    record {
      gives = e ∙ gives_refused (solver_checks t l) (answered 0) (budgeted budget needed) refuses;
      leaves = leaves_refused (solver_checks t l) (ltb budget needed) t won entries l refuses;
    }
  where
    refuses : solver_checks t l ≡ none → ⊥
    refuses z = h (ap (λ (x : Outcome). x.number) (e ∙ ap (λ (v : Verdict). outcome v (answered 0)) z))

-- an answer
solves_answered :
    (budget : ℕ) (t : Tables) (needed : ℕ) (won : Player → Set) (entries : ℕ → ℕ) (before after : Lent) (made : ℕ) →
    solver_checks t before ≡ none →
    AnsweredWithin budget t needed won entries made (outputs_of after) →
    after.work ≡ cleared t before.work →
    Solves budget t needed won entries before after (answered made)
solves_answered budget t needed won entries before after made passed f work =
    let under : ltb budget needed ≡ false = le-ltb budget needed (omega (arith, f.exact, f.within)) in
    record {
      gives =
          rw (passed, under) (ap answered f.exact);
      leaves =
          rw (passed, under)
          (record { even = f.even; odd = f.odd; strategy = f.strategy; work = work });
    }

-- 13
solves_stopped :
    (budget : ℕ) (t : Tables) (needed : ℕ) (won : Player → Set) (entries : ℕ → ℕ) (before after : Lent) →
    solver_checks t before ≡ none →
    Halted budget needed (outputs_of before) (outputs_of after) →
    after.work ≡ cleared t before.work →
    Solves budget t needed won entries before after
    (record { number = 13; place = 0; count = budget })
solves_stopped budget t needed won entries before after passed h work =
    let beyond : ltb budget needed ≡ true = lt-ltb budget needed h.over in
    record {
      gives = rw (passed, beyond) refl;
      leaves =
          rw (passed, beyond)
          (record {
            even = ap (λ (o : Outputs). o.even) h.same;
            odd = ap (λ (o : Outputs). o.odd) h.same;
            strategy = ap (λ (o : Outputs). o.strategy) h.same;
            work = work;
          });
    }

-- what a solver gives after its run
abbrev pub ran_outcome : ℕ → Option ℕ → Outcome
ran_outcome budget (Some made) = answered made
ran_outcome budget None = record { number = 13; place = 0; count = budget }

-- **past the checks a solver gives and leaves what its run makes of it**
pub solves_ran :
    (budget : ℕ) (t : Tables) (needed : ℕ) (won : Player → Set) (entries : ℕ → ℕ) (before after : Lent) (r : Option ℕ) →
    solver_checks t before ≡ none →
    Runs budget t needed won entries (outputs_of before) (outputs_of after) r →
    after.work ≡ cleared t before.work →
    Solves budget t needed won entries before after (ran_outcome budget r)
solves_ran budget t needed won entries before after (Some made) = solves_answered budget t needed won entries before after made
solves_ran budget t needed won entries before after None = solves_stopped budget t needed won entries before after

-- past the checks the first W words are what the run asks for
pub run_ready :
    (t : Tables) (w : ℕ) (even odd strategy work : List ℕ) →
    w ≡ work_words (vertices t) (edges_in t) →
    Passed t (length even) (length odd) (length strategy) (length work) →
    Runnable t even odd strategy (take (w - 0) (drop 0 work))
run_ready t w even odd strategy work is p =
    record {
      accepted = p.accepted;
      even_size = p.even_size;
      odd_size = p.odd_size;
      strategy_size = p.strategy_size;
      room = omega (arith, length-take (w - 0) work, p.work_size);
    }
