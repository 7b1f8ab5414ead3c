-- Decimal digits: how they grow by one digit, that they are a number of the grammar with its value, and how many there are.
use Rattle.std.specs.Prelude.{true, List, [], ◌∷◌, ◌++◌, ◌≡◌, ℕ, zero, suc, ◌+◌, ◌-◌, ◌*◌, ◌/◌, ◌%◌, ◌^◌, ◌≤◌, ◌<◌, length, get_or}
use Rattle.std.proofs.Common.{⊎_elim, sym, ap, subst, ◌∙◌, not-suc-le-zero, le_refl, pow-suc, arith, lt-ltb, le-ltb, le-leb, length-append}
use Rattle.std.proofs.Math.ListN.{get_or-append}
use Rattle.rules.specs.Decimal.{digits_in, decimal}
use Rattle.rules.specs.Pgsolver.{Number, first, next, is_digit}
use Rattle.basics.specs.Basics.{and_intro, lt_or_ge}

-- one digit
digits_small : (m n : ℕ) → n < 10 → digits_in (suc m) n ≡ (48 + n) ∷ []
unfolding digits_in
digits_small m n low = rw (lt-ltb n 10 low)

-- the digits of a tenth, and one more
digits_large : (m n : ℕ) → 10 ≤ n → digits_in (suc m) n ≡ digits_in m (n / 10) ++ ((48 + n % 10) ∷ [])
unfolding digits_in
digits_large m n high = rw (le-ltb n 10 high)

-- what is written does not depend on how many digits were allowed, as long as they are enough
digits_same : (m k n : ℕ) → n < m → n < k → digits_in m n ≡ digits_in k n
digits_same zero k n enough enough' = absurd (not-suc-le-zero enough)
digits_same (suc m) zero n enough enough' = absurd (not-suc-le-zero enough')
digits_same (suc m) (suc k) n enough enough' =
    ⊎_elim
    (λ (low : n < 10). digits_small m n low ∙ sym (digits_small k n low))
    (λ (high : 10 ≤ n).
    digits_large m n high ∙
    ap (λ (s : List ℕ). s ++ ((48 + n % 10) ∷ [])) (digits_same m k (n / 10) (omega arith) (omega arith)) ∙
    sym (digits_large k n high))
    (lt_or_ge n 10)

pub decimal_small : (n : ℕ) → n < 10 → decimal n ≡ (48 + n) ∷ []
unfolding decimal
decimal_small n low = digits_small n n low

pub decimal_large : (n : ℕ) → 10 ≤ n → decimal n ≡ decimal (n / 10) ++ ((48 + n % 10) ∷ [])
unfolding decimal
decimal_large n high =
    digits_large n n high ∙
    ap (λ (s : List ℕ). s ++ ((48 + n % 10) ∷ [])) (digits_same n (suc (n / 10)) (n / 10) (omega arith) (le_refl (suc (n / 10))))

-- what holds of one digit, and of n where it holds of a tenth of n, holds of every number
module _ (P : ℕ → Type 0) (small : (n : ℕ) → n < 10 → P n) (large : (n : ℕ) → 10 ≤ n → P (n / 10) → P n) where
  by_tenths_below : (m n : ℕ) → n < m → P n
  by_tenths_below zero n enough = absurd (not-suc-le-zero enough)
  by_tenths_below (suc m) n enough =
      ⊎_elim (small n) (λ (high : 10 ≤ n). large n high (by_tenths_below m (n / 10) (omega arith))) (lt_or_ge n 10)

  pub by_tenths : (n : ℕ) → P n
  by_tenths n = by_tenths_below (suc n) n (le_refl (suc n))

digit_is : (d : ℕ) → d < 10 → is_digit (48 + d) ≡ true
digit_is d low = and_intro (le-leb 48 (48 + d) (omega arith)) (le-leb (48 + d) 57 (omega arith))

-- The digits of n are a number of the grammar, and stand for n.
pub decimal_number : (n : ℕ) → Number (decimal n) n
decimal_number =
    by_tenths (λ n. Number (decimal n) n)
    (λ n low.
    let v : (48 + n) - 48 ≡ n = omega arith in
    rw (decimal_small n low) (subst (λ (k : ℕ). Number ((48 + n) ∷ []) k) v (first (48 + n) (digit_is n low))))
    (λ n high whole.
    let v : 10 * (n / 10) + ((48 + n % 10) - 48) ≡ n = omega arith in
    rw (decimal_large n high)
    (subst (λ (k : ℕ). Number (decimal (n / 10) ++ ((48 + n % 10) ∷ [])) k) v
    (next whole (48 + n % 10) (digit_is (n % 10) (omega arith)))))

-- There is a digit.
pub decimal_some : (n : ℕ) → 0 < length (decimal n)
decimal_some =
    by_tenths (λ n. 0 < length (decimal n))
    (λ n low. rw (decimal_small n low) (omega arith))
    (λ n high some.
    rw (decimal_large n high, length-append (decimal (n / 10)) ((48 + n % 10) ∷ [])) (omega arith))

-- No digit but that of 0 is a leading zero.
pub decimal_no_leading : (n : ℕ) → 0 < n → get_or (decimal n) 0 0 ≡ 48 → ⊥
decimal_no_leading =
    by_tenths (λ n. 0 < n → get_or (decimal n) 0 0 ≡ 48 → ⊥)
    (λ n low pos zero. let is : 48 + n ≡ 48 = rw (decimal_small n low) at zero in omega arith)
    (λ n high none pos zero.
    none (omega arith)
    (sym (get_or-append (decimal (n / 10)) ((48 + n % 10) ∷ []) 0 0 (decimal_some (n / 10))) ∙
    sym (ap (λ (s : List ℕ). get_or s 0 0) (decimal_large n high)) ∙
    zero))

-- A number below ten to the k has at most k digits, where k is not 0.
pub decimal_short : (k n : ℕ) → n < 10 ^ suc k → length (decimal n) ≤ suc k
decimal_short zero n bound = rw (decimal_small n bound) (omega arith)
decimal_short (suc k) n bound =
    ⊎_elim
    (λ (low : n < 10). rw (decimal_small n low) (omega arith))
    (λ (high : 10 ≤ n).
    let power : 10 ^ suc (suc k) ≡ 10 ^ suc k * 10 = pow-suc 10 (suc k) in
    rw (decimal_large n high, length-append (decimal (n / 10)) ((48 + n % 10) ∷ []))
    (omega (arith, decimal_short k (n / 10) (omega arith))))
    (lt_or_ge n 10)
