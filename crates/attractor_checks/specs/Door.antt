-- What the checks of the public attractor ask for and give, by the lengths of what is lent.
use Rattle.std.specs.Prelude.{Bool, ◌&&◌, ◌||◌, not, cond, List, [], ◌∷◌, ℕ, ◌*◌, ◌<◌, ltb, length}
use Rattle.rules.specs.Outcome.{Verdict, ◌then◌}
use Rattle.rules.specs.Tables.{Tables, vertices, edges_in, table_checks, check9, check10}
use Rattle.rules.specs.Words.{set_of}
use Rattle.rules.specs.Attractor.{check12}

-- the test of check 12
abbrev pub stray : ℕ → List ℕ → List ℕ → ℕ → Bool
stray n V' T b = cond (ltb b n) (set_of T b && not (set_of V' b)) (set_of V' b || set_of T b)

-- both sets have a bit at b
pub record BothBits (V' T : List ℕ) (b : ℕ) : Type 0 where
  pub first : b < 64 * length V'
  pub second : b < 64 * length T

-- 9 and 10 by the lengths that they go by
abbrev pub size_checks : ℕ → ℕ → ℕ → ℕ → ℕ → ℕ → ℕ → ℕ → Verdict
size_checks n m within target result strategy distances work =
    check9 n (within ∷ target ∷ result ∷ []) (strategy ∷ distances ∷ []) then check10 n m work

-- 9, 10 and 12
abbrev pub lent_checks : ℕ → ℕ → List ℕ → List ℕ → ℕ → ℕ → ℕ → ℕ → Verdict
lent_checks n m V' T result strategy distances work =
    check9 n (length V' ∷ length T ∷ result ∷ []) (strategy ∷ distances ∷ []) then check10 n m work then check12 n V' T

-- 1 to 10 and 12
abbrev pub checks_by : Tables → List ℕ → List ℕ → ℕ → ℕ → ℕ → ℕ → Verdict
checks_by t V' T result strategy distances work =
    table_checks t then lent_checks (vertices t) (edges_in t) V' T result strategy distances work
