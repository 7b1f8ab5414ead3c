-- Sets that grow round by round among the numbers below n: where a round that adds nothing is the last, n rounds are enough.
use Rattle.std.specs.Prelude.{true, false, ◌⊎◌, ◌≡◌, ℕ, zero, suc, ◌≤◌, ◌<◌}
use Rattle.std.proofs.Common.{inl, inr, ⊎_elim, arith}
use Rattle.rules.specs.Counting.{Set, some, count, without}
use Rattle.basics.specs.Basics.{bool_cases, clash, not_false_is_true, some_elim, some_false, count_strict}
use Rattle.basics.specs.Basics.{without_intro, without_left, without_right}
use Rattle.basics.specs.Sums.{count_full}

-- the next round adds nothing
abbrev pub Settled : (ℕ → Set) → ℕ → Type 0
Settled S k = (v : ℕ) → S (suc k) v ≡ true → S k v ≡ true

module _
    (n : ℕ)
    (S : ℕ → Set)
    (below : (k v : ℕ) → S k v ≡ true → v < n)
    (kept : (k v : ℕ) → S k v ≡ true → S (suc k) v ≡ true)
    (still : (k : ℕ) → Settled S k → Settled S (suc k)) where
  -- a round that is not the last adds a member
  settled_or_more : (k : ℕ) → Settled S k ⊎ (count n (S k) < count n (S (suc k)))
  settled_or_more k = ⊎_elim more none (bool_cases (some n added))
    where
      -- what the next round adds
      added : Set
      added = without (S (suc k)) (S k)

      more : some n added ≡ true → Settled S k ⊎ (count n (S k) < count n (S (suc k)))
      more p =
          let (v, l, q) = some_elim n added p in
          let new = without_right (S (suc k)) (S k) v q in
          let there = without_left (S (suc k)) (S k) v q in
          inr (count_strict n (S k) (S (suc k)) (λ w i. kept k w) v l new there)

      none : some n added ≡ false → Settled S k ⊎ (count n (S k) < count n (S (suc k)))
      none p =
          inl
          (λ v q.
          not_false_is_true
          (S k v)
          (λ out. clash (without_intro (S (suc k)) (S k) v q out) (some_false n added p v (below (suc k) v q))))

  -- after k rounds it has settled, or has k members
  settled_or_large : (k : ℕ) → Settled S k ⊎ (k ≤ count n (S k))
  settled_or_large zero = inr (omega arith)
  settled_or_large (suc k) =
      ⊎_elim
      (λ s. inl (still k s))
      (λ large. ⊎_elim (λ s. inl (still k s)) (λ more. inr (omega arith)) (settled_or_more k))
      (settled_or_large k)

  -- After n rounds it has settled.
  pub rounds_settle : Settled S n
  rounds_settle =
      ⊎_elim (λ s. s) (λ large v p. count_full n (S n) large v (below (suc n) v p)) (settled_or_large n)
