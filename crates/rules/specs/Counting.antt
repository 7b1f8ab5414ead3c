-- Plain words that the other files use: some, all and how many of the numbers below n or of a list, the lowest one, and what a
-- set or a function is below n.
use Rattle.std.specs.Prelude.{Bool, true, false, ◌&&◌, ◌||◌, not, cond, List, [], ◌∷◌, ℕ, zero, suc, ◌+◌, max, eqb, ltb}

-- a set of vertices: which numbers it holds
abbrev pub Set : Type 0
Set = ℕ → Bool

abbrev pub nobody : Set
nobody v = false

-- the members of S that are not in T
abbrev pub without : Set → Set → Set
without S T v = S v && not (T v)

-- the members of S and those of T
abbrev pub union : Set → Set → Set
union S T v = S v || T v

-- some number below n passes the test
unfoldable pub some : ℕ → (ℕ → Bool) → Bool
some zero test = false
some (suc n) test = some n test || test n

-- every number below n passes the test
unfoldable pub every : ℕ → (ℕ → Bool) → Bool
every zero test = true
every (suc n) test = every n test && test n

-- how many numbers below n pass the test
unfoldable pub count : ℕ → (ℕ → Bool) → ℕ
count zero test = 0
count (suc n) test = count n test + cond (test n) 1 0

-- some entry of a list passes the test
unfoldable pub some_of : List ℕ → (ℕ → Bool) → Bool
some_of [] test = false
some_of (x ∷ xs) test = test x || some_of xs test

-- every entry of a list passes the test
unfoldable pub every_of : List ℕ → (ℕ → Bool) → Bool
every_of [] test = true
every_of (x ∷ xs) test = test x && every_of xs test

-- how often x stands in a list
unfoldable pub times : ℕ → List ℕ → ℕ
times x [] = 0
times x (y ∷ ys) = cond (eqb x y) 1 0 + times x ys

-- the lowest number below n that passes the test, or n where none does
unfoldable pub lowest : ℕ → (ℕ → Bool) → ℕ
lowest zero test = 0
lowest (suc n) test = cond (some n test) (lowest n test) (cond (test n) n (suc n))

-- what f gives at 0 to n - 1, written down in order
unfoldable pub listed : {A : Type 0} → ℕ → (ℕ → A) → List A
listed zero f = []
listed (suc n) f = f 0 ∷ listed n (λ k. f (suc k))

-- the members of S below n
unfoldable pub within : ℕ → Set → Set
within n S v = ltb v n && S v

-- what f gives below n, and `otherwise` at n and above
unfoldable pub noted : ℕ → ℕ → (ℕ → ℕ) → ℕ → ℕ
noted otherwise n f v = cond (ltb v n) (f v) otherwise

-- the greatest number that f gives to a member of S below n, or 0 where there is none
unfoldable pub greatest : ℕ → Set → (ℕ → ℕ) → ℕ
greatest zero S f = 0
greatest (suc n) S f = max (greatest n S f) (cond (S n) (f n) 0)
