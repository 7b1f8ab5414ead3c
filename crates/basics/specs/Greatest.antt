-- Laws of the greatest number that a function gives to a member of a set.
use Rattle.std.specs.Prelude.{true, false, ◌⊎◌, ◌≡◌, refl, ℕ, zero, suc, ◌≤◌, ◌<◌}
use Rattle.std.proofs.Common.{inl, inr, ⊎_elim, sym, ap, ◌∙◌, zero-le, le_refl, le_trans, lt_irrefl, not-suc-le-zero, eq-zero-or-pos, arith}
use Rattle.std.proofs.Math.Nat.{le_step, le-max_left, le-max_right, max-le, max-zero, max-eq_left, max-eq_right}
use Rattle.rules.specs.Counting.{Set, some, greatest}
use Rattle.basics.specs.Basics.{bool_cases, or_false_both, below_suc, le_or_ge, some_elim}

-- the greatest number that f gives to a member of S below n is not exceeded
pub greatest_bounds : (n : ℕ) (S : Set) (f : ℕ → ℕ) (v : ℕ) → v < n → S v ≡ true → f v ≤ greatest n S f
unfolding greatest
greatest_bounds zero S f v l p = absurd (not-suc-le-zero l)
greatest_bounds (suc n) S f v l p =
    ⊎_elim
    (λ (e : v ≡ n). let here : S n ≡ true = ap S (sym e) ∙ p in rw (here, e) (le-max_right (greatest n S f) (f n)))
    (λ k. le_trans (greatest_bounds n S f v k p) (le-max_left (greatest n S f) _))
    (below_suc l)

-- a number that none exceeds is not below it
pub greatest_le : (n : ℕ) (S : Set) (f : ℕ → ℕ) (k : ℕ) → ((v : ℕ) → v < n → S v ≡ true → f v ≤ k) → greatest n S f ≤ k
unfolding greatest
greatest_le zero S f k most = zero-le
greatest_le (suc n) S f k most =
    max-le
    (greatest_le n S f k (λ v l. most v (le_step l)))
    (⊎_elim (λ p. rw p (most n (le_refl (suc n)) p)) (λ p. rw p zero-le) (bool_cases (S n)))

-- k is what f gives to a member of S below n
abbrev pub Given : ℕ → Set → (ℕ → ℕ) → ℕ → Type 0
Given n S f k = (u : ℕ) × (u < n) × (S u ≡ true) × (f u ≡ k)

-- where it is not 0, the greatest number is given
greatest_from : (n : ℕ) (S : Set) (f : ℕ → ℕ) → 0 < greatest n S f → Given n S f (greatest n S f)
unfolding greatest
greatest_from zero S f pos = absurd (lt_irrefl 0 pos)
greatest_from (suc n) S f pos =
    ⊎_elim (λ p. at_last p (le_or_ge (greatest n S f) (f n))) not_last (bool_cases (S n))
    (greatest_from n S f)
  where
    Goal : Type 0
    Goal = (0 < greatest n S f → Given n S f (greatest n S f)) → Given (suc n) S f (greatest (suc n) S f)

    earlier : greatest (suc n) S f ≡ greatest n S f → Goal
    earlier e given = let (u, l, q, found) = given (rw e at pos) in (u, le_step l, q, found ∙ sym e)

    at_last : S n ≡ true → (greatest n S f ≤ f n) ⊎ (f n ≤ greatest n S f) → Goal
    at_last p (inl l) = λ given. (n, le_refl (suc n), p, rw p (sym (max-eq_right l)))
    at_last p (inr l) = earlier (rw p (max-eq_left l))

    not_last : S n ≡ false → Goal
    not_last p = earlier (rw p (max-zero (greatest n S f)))

-- so it is where there is a member
pub greatest_attained : (n : ℕ) (S : Set) (f : ℕ → ℕ) (v : ℕ) → v < n → S v ≡ true → Given n S f (greatest n S f)
greatest_attained n S f v l p =
    ⊎_elim
    (λ z. let most = greatest_bounds n S f v l p in (v, l, p, omega arith))
    (greatest_from n S f)
    (eq-zero-or-pos (greatest n S f))

pub greatest_some : (n : ℕ) (S : Set) (f : ℕ → ℕ) → some n S ≡ true → Given n S f (greatest n S f)
greatest_some n S f p = let (v, l, q) = some_elim n S p in greatest_attained n S f v l q

-- and 0 where there is none
pub greatest_none : (n : ℕ) (S : Set) (f : ℕ → ℕ) → some n S ≡ false → greatest n S f ≡ 0
unfolding greatest some
greatest_none zero S f p = refl
greatest_none (suc n) S f p = let (q, r) = or_false_both (some n S) (S n) p in rw (r, greatest_none n S f q)

-- equal sets and equal numbers have the same greatest
pub greatest_cong :
    (n : ℕ) (S T : Set) (f h : ℕ → ℕ) →
    ((v : ℕ) → v < n → S v ≡ T v) →
    ((v : ℕ) → v < n → f v ≡ h v) →
    greatest n S f ≡ greatest n T h
unfolding greatest
greatest_cong zero S T f h agree equal = refl
greatest_cong (suc n) S T f h agree equal =
    rw (
      greatest_cong n S T f h (λ v l. agree v (le_step l)) (λ v l. equal v (le_step l)),
      agree n (le_refl (suc n)),
      equal n (le_refl (suc n)),
    )
