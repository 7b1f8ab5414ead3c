-- A lexicographic order as one number: digits x q, the highest first, of which only those at certain places count. It rises with the
-- digits and stays below a power.
use Rattle.std.specs.Prelude.{true, false, ◌⊎◌, ◌≡◌}
use Rattle.std.proofs.Math.Bool.{cond}
use Rattle.std.proofs.Common.{inl, inr, not-suc-le-zero, pow-suc, mul_comm, add-mul, add-one}
use Rattle.std.proofs.Math.Logic.{⊎_elim}
use Prim.Native.Nat.{ℕ, zero, suc, ◌+◌, ◌*◌, ◌^◌, ◌≤◌, ◌<◌}
use Rattle.std.proofs.Math.Nat.{mul-le-mul_right, pow-zero, suc-mul, zero-mul, add-zero}
use native.Mathlib.Omega.{arith}
use Rattle.rules.specs.Counting.{Set, count}
use Rattle.basics.specs.Basics.{bool_cases, below_suc}

-- the digits at places below k, in base b, where only the places in S have a power of their own
unfoldable pub value : ℕ → Set → (ℕ → ℕ) → ℕ → ℕ
value b S x zero = 0
value b S x (suc k) = value b S x k + x k * b ^ count k S

-- the digits are at most n, and 0 outside S
pub record Digits (n : ℕ) (S : Set) (x : ℕ → ℕ) : Type 0 where
  pub small : (q : ℕ) → x q ≤ n
  pub outside : (q : ℕ) → S q ≡ false → x q ≡ 0

-- one more power of n + 2
power_step : (n c : ℕ) → (n + 2) ^ (c + 1) ≡ n * (n + 2) ^ c + 2 * (n + 2) ^ c
power_step n c = rw (add-one c, pow-suc (n + 2) c, mul_comm ((n + 2) ^ c) (n + 2), add-mul n 2 ((n + 2) ^ c))

module _ {n : ℕ} {S : Set} {x : ℕ → ℕ} (digits : Digits n S x) where
  -- **the value is below the power**
  pub value_bound : (k : ℕ) → value (n + 2) S x k < (n + 2) ^ count k S
  unfolding value count
  value_bound zero = let one = pow-zero (n + 2) in omega arith
  value_bound (suc k) = go (value_bound k) (bool_cases (S k))
    where
      go :
          value (n + 2) S x k < (n + 2) ^ count k S →
          (S k ≡ true) ⊎ (S k ≡ false) →
          value (n + 2) S x k + x k * (n + 2) ^ count k S < (n + 2) ^ (count k S + cond (S k) 1 0)
      go less (inl s) =
          let most = mul-le-mul_right ((n + 2) ^ count k S) (digits.small k) in
          rw (s, power_step n (count k S)) (omega arith)
      go less (inr s) = rw (s, digits.outside k s, zero-mul ((n + 2) ^ count k S), add-zero (value (n + 2) S x k), add-zero (count k S)) less

  -- **the value rises where a digit rises and no higher one falls**
  pub value_rises :
      (y : ℕ → ℕ) (j : ℕ) → x j < y j → ((q : ℕ) → j < q → x q ≤ y q) → (k : ℕ) → j < k → value (n + 2) S x k < value (n + 2) S y k
  unfolding value
  value_rises y j more above zero l = absurd (not-suc-le-zero l)
  value_rises y j more above (suc k) l =
      ⊎_elim
      (λ (e : j ≡ k).
      let bound = value_bound k in
      let here : x k < y k = rw e at more in
      let P = (n + 2) ^ count k S in
      let most : suc (x k) * P ≤ y k * P = mul-le-mul_right P here in
      let step = suc-mul (x k) P in
      omega arith)
      (λ (less : j < k).
      let before = value_rises y j more above k less in
      let most = mul-le-mul_right ((n + 2) ^ count k S) (above k less) in
      omega arith)
      (below_suc l)
