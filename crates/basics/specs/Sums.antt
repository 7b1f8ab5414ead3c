-- Counting that the attractor's looks need: a full set, sums over the numbers below n, and how they count the entries of a list.
use Rattle.std.specs.Prelude.{true, cond, ◌≡◌, refl, ℕ, zero, suc, ◌+◌, ◌≤◌, ◌<◌, eqb, length, replicate}
use mathlib.Core.List.{List, [], ◌∷◌, ◌++◌, Memᴰ}
use Rattle.std.proofs.Common.{⊎_elim, sym, ap, ap₂, ◌∙◌, le_refl, le_of_lt, le_of_eq, not-suc-le-zero, zero-add, add-zero, arith, eq-eqb, ne_eqb}
use Rattle.std.proofs.Math.Nat.{le_step}
use Rattle.rules.specs.Counting.{Set, count, times}
use Rattle.basics.specs.Basics.{bool_cases, below_suc, not_false_is_true, count_strict, count_le}

-- a set with n members below n holds every number below n
pub count_full : (n : ℕ) (S : Set) → n ≤ count n S → (v : ℕ) → v < n → S v ≡ true
count_full n S full v l =
    not_false_is_true
    (S v)
    (λ out.
    let less = count_strict n S (λ u. true) (λ u k p. refl) v l out refl in
    let most = count_le n (λ u. true) in
    omega arith)

-- f 0 + .. + f (n - 1)
unfoldable pub sum : ℕ → (ℕ → ℕ) → ℕ
sum zero f = 0
sum (suc n) f = sum n f + f n

pub sum_cong : (n : ℕ) (f h : ℕ → ℕ) → ((v : ℕ) → v < n → f v ≡ h v) → sum n f ≡ sum n h
unfolding sum
sum_cong zero f h e = refl
sum_cong (suc n) f h e =
    ap₂ (λ (x y : ℕ). x + y) (sum_cong n f h (λ v l. e v (le_step l))) (e n (le_refl (suc n)))

pub sum_zero : (n : ℕ) → sum n (λ v. 0) ≡ 0
unfolding sum
sum_zero zero = refl
sum_zero (suc n) = rw (sum_zero n)

pub sum_add : (n : ℕ) (f h : ℕ → ℕ) → sum n (λ v. f v + h v) ≡ sum n f + sum n h
unfolding sum
sum_add zero f h = refl
sum_add (suc n) f h = let e = sum_add n f h in omega arith

-- the order of summing does not matter
pub sum_swap : (m n : ℕ) (f : ℕ → ℕ → ℕ) → sum m (λ v. sum n (λ w. f v w)) ≡ sum n (λ w. sum m (λ v. f v w))
unfolding sum
sum_swap zero n f = sym (sum_zero n)
sum_swap (suc m) n f = rw (sum_swap m n f, sum_add n (λ w. sum m (λ v. f v w)) (f m))

-- two functions that differ in one place
pub sum_change : (n : ℕ) (f h : ℕ → ℕ) (x k : ℕ) → x < n → h x ≡ f x + k → ((v : ℕ) → (v ≡ x → ⊥) → h v ≡ f v) → sum n h ≡ sum n f + k
unfolding sum
sum_change zero f h x k l at_x elsewhere = absurd (not-suc-le-zero l)
sum_change (suc n) f h x k l at_x elsewhere =
    ⊎_elim
    (λ e.
    let rest = sum_cong n h f (λ v less. elsewhere v (λ same. omega arith)) in
    let last : h n ≡ f n + k = rw e at at_x in
    omega arith)
    (λ less.
    let rest = sum_change n f h x k less at_x elsewhere in
    let last = elsewhere n (λ same. omega arith) in
    omega arith)
    (below_suc l)

-- how many entries of a list pass the test
unfoldable pub count_of : List ℕ → Set → ℕ
count_of [] test = 0
count_of (x ∷ xs) test = cond (test x) 1 0 + count_of xs test

-- the entries that pass, gathered by what they are
pub sum_times :
    (n : ℕ) (xs : List ℕ) (S : Set) →
    ((x : ℕ) → Memᴰ x xs → x < n) →
    sum n (λ v. cond (S v) (times v xs) 0) ≡ count_of xs S
unfolding count_of times
sum_times n [] S small = sum_cong n _ (λ v. 0) (λ v l. ⊎_elim (λ s. rw s) (λ s. rw s) (bool_cases (S v))) ∙ sum_zero n
sum_times n (x ∷ xs) S small =
    let rest = sum_times n xs S (λ y m. small y (Memᴰ.tail m)) in
    let one = sum_change n (λ v. cond (S v) (times v xs) 0) _ x (cond (S x) 1 0) (small x (Memᴰ.head refl)) at_x elsewhere in
    omega arith
  where
    at_x : cond (S x) (cond (eqb x x) 1 0 + times x xs) 0 ≡ cond (S x) (times x xs) 0 + cond (S x) 1 0
    at_x = rw (eq-eqb x x refl) (⊎_elim (λ s. rw s (omega arith)) (λ s. rw s) (bool_cases (S x)))

    elsewhere : (v : ℕ) → (v ≡ x → ⊥) → cond (S v) (cond (eqb v x) 1 0 + times v xs) 0 ≡ cond (S v) (times v xs) 0
    elsewhere v differs = rw (ne_eqb v x differs, zero-add)

count_of_all : (xs : List ℕ) → count_of xs (λ v. true) ≡ length xs
unfolding count_of
count_of_all [] = refl
count_of_all (x ∷ xs) = let e = count_of_all xs in omega arith

-- the length of a list, gathered by what its entries are
pub sum_length : (n : ℕ) (xs : List ℕ) → ((x : ℕ) → Memᴰ x xs → x < n) → sum n (λ v. times v xs) ≡ length xs
sum_length n xs small = sum_times n xs (λ v. true) small ∙ count_of_all xs

pub times_append : (x : ℕ) (xs ys : List ℕ) → times x (xs ++ ys) ≡ times x xs + times x ys
unfolding times
times_append x [] ys = sym (zero-add (times x ys))
times_append x (y ∷ xs) ys = let e = times_append x xs ys in omega arith

pub times_replicate : (x y k : ℕ) → times x (replicate k y) ≡ cond (eqb x y) k 0
unfolding times
times_replicate x y zero = ⊎_elim (λ e. rw e) (λ e. rw e) (bool_cases (eqb x y))
times_replicate x y (suc k) =
    ⊎_elim
    (λ e. let rest = times_replicate x y k in rw e (let r = rw e at rest in omega arith))
    (λ e. let rest = times_replicate x y k in rw e (let r = rw e at rest in omega arith))
    (bool_cases (eqb x y))

-- a list in which each v below n stands f v times, and no other number
unfoldable pub gathered : ℕ → (ℕ → ℕ) → List ℕ
gathered zero f = []
gathered (suc n) f = gathered n f ++ replicate (f n) n

pub gathered_past : (n : ℕ) (f : ℕ → ℕ) (v : ℕ) → n ≤ v → times v (gathered n f) ≡ 0
unfolding gathered times
gathered_past zero f v l = refl
gathered_past (suc n) f v l =
    rw (
      times_append,
      times_replicate,
      gathered_past n f v (le_of_lt l),
      ne_eqb v n (λ e. omega arith),
    )
    refl

pub times_gathered : (n : ℕ) (f : ℕ → ℕ) (v : ℕ) → v < n → times v (gathered n f) ≡ f v
unfolding gathered
times_gathered zero f v l = absurd (not-suc-le-zero l)
times_gathered (suc n) f v l =
    ⊎_elim
    (λ e.
    rw
    (times_append, times_replicate, gathered_past n f v (le_of_eq (sym e)), eq-eqb v n e, zero-add)
    (ap f (sym e)))
    (λ less.
    rw
    (times_append, times_replicate, times_gathered n f v less, ne_eqb v n (λ e. omega arith), add-zero)
    refl)
    (below_suc l)
