-- A number in decimal digits, no leading zeros: what is written and printed. What digits stand for is `Number` of Pgsolver.antt.
use Rattle.std.specs.Prelude.{cond, List, [], ◌∷◌, ◌++◌, ℕ, zero, suc, ◌+◌, ◌/◌, ◌%◌, ltb}

-- at most so many digits
unfoldable pub digits_in : ℕ → ℕ → List ℕ
digits_in zero n = []
digits_in (suc most) n = cond (ltb n 10) ((48 + n) ∷ []) (digits_in most (n / 10) ++ ((48 + n % 10) ∷ []))

-- n + 1 digits are always enough
unfoldable pub decimal : ℕ → List ℕ
decimal n = digits_in (suc n) n
