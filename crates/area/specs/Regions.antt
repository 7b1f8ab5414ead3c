-- The regions of the work area follow one another, so that no two of them overlap, and all stay below W. Behind them is what each solver
-- keeps: `free_words` says how much that may be.
use Rattle.std.proofs.Common.{inl, inr, ⊎_elim, ap, le_trans, eq-or-lt_of_le, mul_assoc, add-mul}
use Rattle.std.specs.Prelude.{◌≡◌}
use Prim.Native.Nat.{ℕ, zero, suc, ◌+◌, ◌*◌, ◌≤◌, ◌<◌}
use Rattle.std.proofs.Math.Nat.{le_refl}
use native.Mathlib.Omega.{arith}
use Rattle.rules.specs.Tables.{words, work_words}
use Rattle.basics.specs.Basics.{lt_or_ge}
use Rattle.basics.specs.Frame.{Outside}
use Rattle.area.specs.Area.{counters, distances, entries, layers, met_at, free}

-- where each begins, in order; the last is what is free. A region ends where the next begins
unfoldable pub begins : ℕ → ℕ → ℕ → ℕ
begins n m zero = 0
begins n m (suc zero) = counters n m
begins n m (suc (suc zero)) = distances n m
begins n m (suc (suc (suc zero))) = entries n m
begins n m (suc (suc (suc (suc zero)))) = layers n m
begins n m (suc (suc (suc (suc (suc zero))))) = met_at n m
begins n m (suc (suc (suc (suc (suc (suc k)))))) = free n m

module _ (n m : ℕ) where
  -- none begins before the one before it
  follows : (k : ℕ) → begins n m k ≤ begins n m (suc k)
  unfolding begins
  follows zero = omega arith
  follows (suc zero) = omega arith
  follows (suc (suc zero)) = omega arith
  follows (suc (suc (suc zero))) = omega arith
  follows (suc (suc (suc (suc zero)))) = omega arith
  follows (suc (suc (suc (suc (suc zero))))) = omega arith
  follows (suc (suc (suc (suc (suc (suc k)))))) = le_refl (free n m)

  later : (j k : ℕ) → j ≤ k → begins n m j ≤ begins n m k
  later j zero l = let e : j ≡ 0 = omega arith in rw e (le_refl (begins n m 0))
  later j (suc k) l =
      ⊎_elim (λ (e : j ≡ suc k). rw e (le_refl (begins n m (suc k))))
      (λ (less : j < suc k). le_trans (later j k (omega arith)) (follows k))
      (eq-or-lt_of_le l)

  -- **no two regions overlap**: a word of one lies outside every other
  pub regions_apart :
      (j k i : ℕ) →
      (j ≡ k → ⊥) →
      begins n m k ≤ i →
      i < begins n m (suc k) →
      Outside (begins n m j) (begins n m (suc j)) i
  regions_apart j k i differ from to =
      ⊎_elim
      (λ (less : j < k). let behind = later (suc j) k less in inr (omega arith))
      (λ (more : k ≤ j). let before = later (suc k) j (omega (arith, differ)) in inl (omega arith))
      (lt_or_ge j k)

-- a set of two words has more than 64 vertices
pub two_words : (n : ℕ) → 2 ≤ words n → 65 ≤ n
unfolding words
two_words n l = omega arith

-- **how many words of W are free**
pub free_words : (n m : ℕ) → work_words n m ≡ free n m + (8 * (n * words n) + 13 * words n + m + 269)
unfolding work_words
free_words n m =
    let wide : 8 * (n + 2) ≡ 8 * n + 16 = omega arith in
    let all : 8 * (n + 2) * words n ≡ (8 * n + 16) * words n = ap (λ (x : ℕ). x * words n) wide in
    let both : (8 * n + 16) * words n ≡ 8 * n * words n + 16 * words n = add-mul (8 * n) 16 (words n) in
    let same : 8 * n * words n ≡ 8 * (n * words n) = mul_assoc 8 n (words n) in
    omega arith

-- **every region stays below W**
pub regions_below : (n m k : ℕ) → begins n m k ≤ work_words n m
unfolding begins
regions_below n m k =
    let most : begins n m k ≤ free n m = later n m k (suc (suc (suc (suc (suc (suc k)))))) (omega arith) in
    omega (arith, free_words n m)
