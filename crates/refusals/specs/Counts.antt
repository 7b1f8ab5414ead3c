-- What refusals count: 0 but for 13, which counts the budget; and the kept numbers that a reading writes beside its tables are a
-- fresh count after an answer and zero after a refusal.
use Rattle.std.specs.Prelude.{true, false, List, ◌≡◌, refl, ℕ, eqb, ltb, take, replicate}
use Rattle.rules.specs.Outcome.{Outcome, refused, outcome, answered, budgeted}
use Rattle.rules.specs.Reading.{kept_beside}
use Rattle.rules.specs.Record.{fresh_count}

-- a refusal counts nothing, whatever the function would have given
pub refused_counts_0 : (k p : ℕ) (o : Outcome) → (outcome (refused k p) o).count ≡ 0
refused_counts_0 k p o = refl

-- 13 is given where more is needed than the budget, and its count is the budget
pub over_budget :
    (budget needed : ℕ) →
    ltb budget needed ≡ true →
    budgeted budget needed ≡ record { number = 13; place = 0; count = budget }
over_budget budget needed e = rw e

-- else what was needed is the count
pub within_budget : (budget needed : ℕ) → ltb budget needed ≡ false → budgeted budget needed ≡ answered needed
within_budget budget needed e = rw e

-- after an answer what is kept beside the tables is a fresh count of the first n priorities
pub kept_counted : (k n : ℕ) (priorities : List ℕ) → kept_beside (answered k) n priorities ≡ fresh_count (take n priorities)
kept_counted k n priorities = refl

-- and after a refusal it is zero everywhere
pub kept_zero :
    (o : Outcome) (n : ℕ) (priorities : List ℕ) → eqb o.number 0 ≡ false → kept_beside o n priorities ≡ replicate 258 0
kept_zero o n priorities e = rw e
