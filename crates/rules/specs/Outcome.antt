-- "Numbers given back": what every public function gives, and how refusals follow one another: the first that applies is given.
use Rattle.std.specs.Prelude.{Bool, cond, ◌≡◌, ℕ, ltb}
use Rattle.rules.specs.Counting.{some, lowest}

pub record Outcome : Type 0 where
  pub number : ℕ
  pub place : ℕ
  pub count : ℕ

-- an answer has number 0 and place 0
abbrev pub answered : ℕ → Outcome
answered k = record { number = 0; place = 0; count = k }

-- a check that does not apply, or the number and place that it gives
pub data Verdict : Type 0 where
  none : Verdict
  refused : ℕ → ℕ → Verdict

infixr 20 ◌then◌
-- the first of the two that applies
abbrev pub ◌then◌ : Verdict → Verdict → Verdict
◌then◌ none v = v
◌then◌ (refused k p) v = refused k p

-- number k at place p, given when the test holds
abbrev pub given : ℕ → ℕ → Bool → Verdict
given k p test = cond test (refused k p) none

-- number k at the lowest place below n where the test holds
unfoldable pub given_at : ℕ → ℕ → (ℕ → Bool) → Verdict
given_at k n test = given k (lowest n test) (some n test)

-- what a function gives: a refusal with count 0, or else its own outcome
abbrev pub outcome : Verdict → Outcome → Outcome
outcome none o = o
outcome (refused k p) o = record { number = k; place = p; count = 0 }

-- 13: what the rules need is more than the budget; the count given is the budget. Else the answer's count is what was needed
abbrev pub budgeted : ℕ → ℕ → Outcome
budgeted budget needed = cond (ltb budget needed) (record { number = 13; place = 0; count = budget }) (answered needed)

-- a refusal writes nothing and gives count 0; else something is said of what was done
abbrev pub Unless : {A : Type 0} → Verdict → Outcome → A → A → Type 0 → Type 0
Unless (refused k p) o before after Else = (o ≡ record { number = k; place = p; count = 0 }) × (after ≡ before)
Unless none o before after Else = Else
