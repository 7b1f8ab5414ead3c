-- What the general solvers give back and leave in what they were lent: "Numbers given back" for Zielonka and priority promotion,
-- which differ only in what they count.
use Rattle.std.specs.Prelude.{Bool, true, false, List, [], ◌∷◌, ◌++◌, ◌≡◌, ℕ, ltb, length, drop, replicate}
use Rattle.rules.specs.Counting.{Set, listed}
use Rattle.rules.specs.Game.{Player, Even, Odd}
use Rattle.rules.specs.Outcome.{Outcome, Verdict, none, refused, outcome, budgeted, ◌then◌}
use Rattle.rules.specs.Tables.{Tables, vertices, edges_in, work_words, table_checks, check9, check10}
use Rattle.rules.specs.Words.{Holds}

-- the work area after an answer or 13: the first W words zero, the words beyond as they were
abbrev pub cleared : Tables → List ℕ → List ℕ
cleared t work = replicate (work_words (vertices t) (edges_in t)) 0 ++ drop (work_words (vertices t) (edges_in t)) work

-- what a solver is lent to write in
pub record Lent : Type 0 where
  pub even : List ℕ
  pub odd : List ℕ
  pub strategy : List ℕ
  pub work : List ℕ

-- 1 to 10
abbrev pub solver_checks : Tables → Lent → Verdict
solver_checks t lent =
    table_checks t then
    check9 (vertices t) (length lent.even ∷ length lent.odd ∷ []) (length lent.strategy ∷ []) then
    check10 (vertices t) (edges_in t) (length lent.work)

-- after an answer: the sets, and the entries
pub record Answered (t : Tables) (won : Player → Set) (entries : ℕ → ℕ) (before after : Lent) : Type 0 where
  pub even : Holds (vertices t) (won Even) after.even
  pub odd : Holds (vertices t) (won Odd) after.odd
  pub strategy : after.strategy ≡ listed (vertices t) entries
  pub work : after.work ≡ cleared t before.work

-- after 13: sets and strategy as before
pub record Stopped (t : Tables) (before after : Lent) : Type 0 where
  pub even : after.even ≡ before.even
  pub odd : after.odd ≡ before.odd
  pub strategy : after.strategy ≡ before.strategy
  pub work : after.work ≡ cleared t before.work

-- by cases: a refusal of 1 to 10 writes nothing; then 13 where more is needed than the budget; else an answer
abbrev pub Leaves : Verdict → Bool → Tables → (Player → Set) → (ℕ → ℕ) → Lent → Lent → Type 0
Leaves (refused k p) over t won entries before after = after ≡ before
Leaves none true t won entries before after = Stopped t before after
Leaves none false t won entries before after = Answered t won entries before after

-- a solver that needs so many calls or rounds for its sets and entries, under a budget
pub record Solves
    (budget : ℕ)
    (t : Tables)
    (needed : ℕ)
    (won : Player → Set)
    (entries : ℕ → ℕ)
    (before after : Lent)
    (o : Outcome)
    : Type 0 where
  pub gives : o ≡ outcome (solver_checks t before) (budgeted budget needed)
  pub leaves : Leaves (solver_checks t before) (ltb budget needed) t won entries before after
