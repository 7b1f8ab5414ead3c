-- Laws of the plain words of the rules, each once: tests, sets, some, every and count below n, some, every and times in a list,
-- lowest, what a set or a function is below n, and the pigeonhole.
use Rattle.std.specs.Prelude.{Bool, true, false, ◌&&◌, ◌||◌, not, cond, ◌⊎◌, ◌≡◌, refl, ℕ, zero, suc, ◌+◌, ◌≤◌, ◌<◌, eqb, ltb, get_or, length}
use Rattle.std.proofs.Common.{true≢false, inl, inr, ⊎_elim, sym, ap, ap₂, ◌∙◌, zero-le, suc-le-suc, not-suc-le-zero, le_of_suc-le-suc, eq-or-lt_of_le, le_refl, lt_irrefl, eq-zero-or-pos, add-zero, add-suc, add_assoc, add-le-add, le_of_lt, le_of_eq, le_antisymm, not-le_of_lt, arith, eqb-true, eq-eqb, ltb-true, ltb-false, lt-ltb, le-ltb}
use Rattle.std.proofs.Math.Bool.{and-true}
use mathlib.Core.List.Memᴰ
use mathlib.Core.List.{List, [], ◌∷◌, Memᴰ}
use Rattle.std.proofs.Math.Nat.{le_step, add-lt-add_of_lt_of_le}
use Rattle.std.proofs.lemmas.Bool.{eqb-false, not-true}
use Rattle.rules.specs.Counting.{Set, some, every, count, some_of, every_of, times, lowest, listed, within, noted, without, union}

-- a test is true or false, with its equation
pub bool_cases : (b : Bool) → (b ≡ true) ⊎ (b ≡ false)
bool_cases true = inl refl
bool_cases false = inr refl

-- a test is not both true and false
pub clash : {b : Bool} → b ≡ true → b ≡ false → ⊥
clash t f = true≢false (sym t ∙ f)

pub not_true_is_false : (b : Bool) → (b ≡ true → ⊥) → b ≡ false
not_true_is_false true n = absurd (n refl)
not_true_is_false false n = refl

pub not_false_is_true : (b : Bool) → (b ≡ false → ⊥) → b ≡ true
not_false_is_true true n = refl
not_false_is_true false n = absurd (n refl)

-- two tests that follow from one another are the same
pub bool_ext : (b c : Bool) → (b ≡ true → c ≡ true) → (c ≡ true → b ≡ true) → b ≡ c
bool_ext true c to from = sym (to refl)
bool_ext false true to from = from refl
bool_ext false false to from = refl

-- the number that a test chooses
pub if_true : {b : Bool} {x : ℕ} (y : ℕ) → b ≡ true → cond b x y ≡ x
if_true y p = rw p

pub if_false : {b : Bool} {y : ℕ} (x : ℕ) → b ≡ false → cond b x y ≡ y
if_false x p = rw p

-- b && c is true when both are
pub and_intro : {b c : Bool} → b ≡ true → c ≡ true → (b && c) ≡ true
and_intro {b} {c} p q = rw (p, q)

pub and_left : (b c : Bool) → (b && c) ≡ true → b ≡ true
and_left true c h = refl
and_left false c h = h

pub and_right : (b c : Bool) → (b && c) ≡ true → c ≡ true
and_right true c h = h
and_right false c h = absurd (true≢false (sym h))

-- b || c is true when one is
pub or_left : (b c : Bool) → b ≡ true → (b || c) ≡ true
or_left b c p = rw p

pub or_right : (b c : Bool) → c ≡ true → (b || c) ≡ true
or_right true c p = refl
or_right false c p = p

-- a && that fails, and a || that fails
pub and_false_cases : (b c : Bool) → (b && c) ≡ false → (b ≡ false) ⊎ (c ≡ false)
and_false_cases true c h = inr h
and_false_cases false c h = inl refl

pub or_false_both : (b c : Bool) → (b || c) ≡ false → (b ≡ false) × (c ≡ false)
or_false_both true c h = absurd (true≢false h)
or_false_both false c h = (refl, h)

pub or_cases : (b c : Bool) → (b || c) ≡ true → (b ≡ true) ⊎ (c ≡ true)
or_cases true c h = inl refl
or_cases false c h = inr h

-- sets

-- S is a part of T
abbrev pub Subset : Set → Set → Type 0
Subset S T = (v : ℕ) → S v ≡ true → T v ≡ true

pub without_intro : (S X : Set) (v : ℕ) → S v ≡ true → X v ≡ false → without S X v ≡ true
without_intro S X v p q = rw (p, q)

pub without_left : (S X : Set) (v : ℕ) → without S X v ≡ true → S v ≡ true
without_left S X v p = and_left (S v) (not (X v)) p

pub without_right : (S X : Set) (v : ℕ) → without S X v ≡ true → X v ≡ false
without_right S X v p = not-true (X v) (and_right (S v) (not (X v)) p)

pub union_left : (S T : Set) → Subset S (union S T)
union_left S T v p = or_left (S v) (T v) p

pub union_right : (S T : Set) → Subset T (union S T)
union_right S T v p = or_right (S v) (T v) p

pub union_cases : (S T : Set) (v : ℕ) → union S T v ≡ true → (S v ≡ true) ⊎ (T v ≡ true)
union_cases S T v p = or_cases (S v) (T v) p

-- a member of one or the other that is not in the first is in the second
pub union_rest : (S T : Set) (v : ℕ) → union S T v ≡ true → S v ≡ false → T v ≡ true
union_rest S T v p out = rw out at p

pub union_without : (S T : Set) (v : ℕ) → union S (without T S) v ≡ union S T v
union_without S T v = ⊎_elim (λ p. rw p) (λ p. rw p (and-true (T v))) (bool_cases (S v))

-- a set adds nothing to a larger one
pub union_absorbs : (S T : Set) → Subset S T → (v : ℕ) → union S T v ≡ T v
union_absorbs S T sub v = ⊎_elim (λ p. rw p (sym (sub v p))) (λ p. rw p) (bool_cases (S v))

-- numbers below n

-- a number below n + 1 is n or below n
pub below_suc : {v n : ℕ} → v < suc n → (v ≡ n) ⊎ (v < n)
below_suc h = eq-or-lt_of_le (le_of_suc-le-suc h)

-- any two numbers stand in one order or the other
pub lt_or_ge : (m n : ℕ) → (m < n) ⊎ (n ≤ m)
lt_or_ge m n = ⊎_elim (λ p. inl (ltb-true m n p)) (λ p. inr (ltb-false m n p)) (bool_cases (ltb m n))

pub le_or_ge : (m n : ℕ) → (m ≤ n) ⊎ (n ≤ m)
le_or_ge m n = ⊎_elim (λ l. inl (le_of_lt l)) (λ l. inr l) (lt_or_ge m n)

pub le_of_not_lt : {m n : ℕ} → (n < m → ⊥) → m ≤ n
le_of_not_lt {m} {n} h = ⊎_elim (λ l. absurd (h l)) (λ l. l) (lt_or_ge n m)

-- some number below n passes the test: one that does
pub some_intro : (n : ℕ) (test : Set) (v : ℕ) → v < n → test v ≡ true → some n test ≡ true
unfolding some
some_intro zero test v h p = absurd (not-suc-le-zero h)
some_intro (suc n) test v h p =
    ⊎_elim
    (λ e. or_right (some n test) (test n) (ap test (sym e) ∙ p))
    (λ l. or_left (some n test) (test n) (some_intro n test v l p))
    (below_suc h)

pub some_elim : (n : ℕ) (test : Set) → some n test ≡ true → (v : ℕ) × (v < n) × (test v ≡ true)
unfolding some
some_elim zero test p = absurd (true≢false (sym p))
some_elim (suc n) test p =
    ⊎_elim
    (λ q. let (v, l, t) = some_elim n test q in (v, le_step l, t))
    (λ q. (n, le_refl (suc n), q))
    (or_cases (some n test) (test n) p)

pub some_false : (n : ℕ) (test : Set) → some n test ≡ false → (v : ℕ) → v < n → test v ≡ false
some_false n test p v l = not_true_is_false (test v) (λ q. clash (some_intro n test v l q) p)

pub false_some : (n : ℕ) (test : Set) → ((v : ℕ) → v < n → test v ≡ false) → some n test ≡ false
false_some n test none =
    not_true_is_false (some n test) (λ p. let (v, l, q) = some_elim n test p in clash q (none v l))

pub some_cong : (n : ℕ) (S T : Set) → ((v : ℕ) → v < n → S v ≡ T v) → some n S ≡ some n T
unfolding some
some_cong zero S T same_at = refl
some_cong (suc n) S T same_at =
    ap₂ (λ (b c : Bool). b || c) (some_cong n S T (λ v l. same_at v (le_step l))) (same_at n (le_refl (suc n)))

-- every number below n passes the test
pub every_intro : (n : ℕ) (test : Set) → ((v : ℕ) → v < n → test v ≡ true) → every n test ≡ true
unfolding every
every_intro zero test all = refl
every_intro (suc n) test all = and_intro (every_intro n test (λ v l. all v (le_step l))) (all n (le_refl (suc n)))

pub every_elim : (n : ℕ) (test : Set) → every n test ≡ true → (v : ℕ) → v < n → test v ≡ true
unfolding every
every_elim zero test p v l = absurd (not-suc-le-zero l)
every_elim (suc n) test p v l =
    ⊎_elim
    (λ e. ap test e ∙ and_right (every n test) (test n) p)
    (λ k. every_elim n test (and_left (every n test) (test n) p) v k)
    (below_suc l)

-- how many numbers below n pass

pub count_cong : (n : ℕ) (S T : Set) → ((v : ℕ) → v < n → S v ≡ T v) → count n S ≡ count n T
unfolding count
count_cong zero S T same_at = refl
count_cong (suc n) S T same_at =
    ap₂
    (λ (k : ℕ) (b : Bool). k + cond b 1 0)
    (count_cong n S T (λ v l. same_at v (le_step l)))
    (same_at n (le_refl (suc n)))

-- one for a test that passes, none for one that fails
one_mono : (b c : Bool) → (b ≡ true → c ≡ true) → cond b 1 0 ≤ cond c 1 0
one_mono true c to = rw (to refl) (le_refl 1)
one_mono false c to = zero-le

-- a subset has no more members
pub count_mono : (n : ℕ) (S T : Set) → ((v : ℕ) → v < n → S v ≡ true → T v ≡ true) → count n S ≤ count n T
unfolding count
count_mono zero S T sub = le_refl 0
count_mono (suc n) S T sub =
    add-le-add (count_mono n S T (λ v l. sub v (le_step l))) (one_mono (S n) (T n) (sub n (le_refl (suc n))))

-- a subset that lacks a member has fewer
pub count_strict :
    (n : ℕ) (S T : Set) →
    ((v : ℕ) → v < n → S v ≡ true → T v ≡ true) →
    (v : ℕ) → v < n → S v ≡ false → T v ≡ true → count n S < count n T
unfolding count
count_strict zero S T sub v l out within-T = absurd (not-suc-le-zero l)
count_strict (suc n) S T sub v l out within-T =
    ⊎_elim
    (λ e.
    let less : count n S ≤ count n T = count_mono n S T (λ u k. sub u (le_step k)) in
    let none : S n ≡ false = ap S (sym e) ∙ out in
    let here : T n ≡ true = ap T (sym e) ∙ within-T in
    rw (none, here) (omega arith))
    (λ k.
    add-lt-add_of_lt_of_le
    (count_strict n S T (λ u j. sub u (le_step j)) v k out within-T)
    (one_mono (S n) (T n) (sub n (le_refl (suc n)))))
    (below_suc l)

pub count_le : (n : ℕ) (S : Set) → count n S ≤ n
unfolding count
count_le zero S = le_refl 0
count_le (suc n) S =
    let more : cond (S n) 1 0 ≤ 1 = one_mono (S n) true (λ p. refl) in let rest = count_le n S in omega arith

-- no number passes exactly when the count is 0
pub count_none : (n : ℕ) (S : Set) → ((v : ℕ) → v < n → S v ≡ false) → count n S ≡ 0
unfolding count
count_none zero S none = refl
count_none (suc n) S none = rw (none n (le_refl (suc n)), count_none n S (λ v l. none v (le_step l)))

pub count_pos : (n : ℕ) (S : Set) (v : ℕ) → v < n → S v ≡ true → 0 < count n S
count_pos n S v l p =
    rw (count_none n (λ u. false) (λ u k. refl)) at
    (count_strict n (λ u. false) S (λ u k e. absurd (true≢false (sym e))) v l refl p)

pub count_zero : (n : ℕ) (S : Set) → count n S ≡ 0 → (v : ℕ) → v < n → S v ≡ false
count_zero n S z v l = not_true_is_false (S v) (λ p. let some_one = count_pos n S v l p in omega arith)

pub count_some : (n : ℕ) (S : Set) → 0 < count n S → (v : ℕ) × (v < n) × (S v ≡ true)
count_some n S h =
    some_elim n S (not_false_is_true (some n S) (λ none. let z = count_none n S (some_false n S none) in omega arith))

-- entries of a list

-- m more numbers past n
pub count_on : (n m : ℕ) (test : ℕ → Bool) → count (n + m) test ≡ count n test + count m (λ k. test (n + k))
unfolding count
count_on n zero test = ap (λ (x : ℕ). count x test) (add-zero n) ∙ sym (add-zero (count n test))
count_on n (suc m) test =
    ap (λ (x : ℕ). count x test) (add-suc n m) ∙ ap (λ (x : ℕ). x + cond (test (n + m)) 1 0) (count_on n m test)
    ∙ add_assoc (count n test) (count m (λ k. test (n + k))) (cond (test (n + m)) 1 0)

-- the first number apart
pub count_first : (n : ℕ) (test : ℕ → Bool) → count (suc n) test ≡ cond (test 0) 1 0 + count n (λ k. test (suc k))
unfolding count
count_first zero test = omega arith
count_first (suc n) test =
    ap (λ (x : ℕ). x + cond (test (suc n)) 1 0) (count_first n test)
    ∙ add_assoc (cond (test 0) 1 0) (count n (λ k. test (suc k))) (cond (test (suc n)) 1 0)

-- some entry passes the test: a member that does
pub some_of_intro : (xs : List ℕ) (test : Set) (w : ℕ) → Memᴰ w xs → test w ≡ true → some_of xs test ≡ true
unfolding some_of
some_of_intro [] test w m p = elim m [ ]
some_of_intro (x ∷ xs) test w (Memᴰ.head e) p = or_left (test x) (some_of xs test) (ap test (sym e) ∙ p)
some_of_intro (x ∷ xs) test w (Memᴰ.tail m) p = or_right (test x) (some_of xs test) (some_of_intro xs test w m p)

pub some_of_elim : (xs : List ℕ) (test : Set) → some_of xs test ≡ true → (w : ℕ) × Memᴰ w xs × (test w ≡ true)
unfolding some_of
some_of_elim [] test p = absurd (true≢false (sym p))
some_of_elim (x ∷ xs) test p =
    ⊎_elim
    (λ q. (x, Memᴰ.head refl, q))
    (λ q. let (w, m, t) = some_of_elim xs test q in (w, Memᴰ.tail m, t))
    (or_cases (test x) (some_of xs test) p)

pub some_of_false : (xs : List ℕ) (test : Set) → some_of xs test ≡ false → (w : ℕ) → Memᴰ w xs → test w ≡ false
some_of_false xs test p w m = not_true_is_false (test w) (λ q. clash (some_of_intro xs test w m q) p)

pub false_some_of : (xs : List ℕ) (test : Set) → ((w : ℕ) → Memᴰ w xs → test w ≡ false) → some_of xs test ≡ false
false_some_of xs test none =
    not_true_is_false (some_of xs test) (λ p. let (w, m, q) = some_of_elim xs test p in clash q (none w m))

pub some_of_cong :
    (xs : List ℕ) (S T : Set) → ((w : ℕ) → Memᴰ w xs → S w ≡ T w) → some_of xs S ≡ some_of xs T
unfolding some_of
some_of_cong [] S T same_at = refl
some_of_cong (x ∷ xs) S T same_at =
    ap₂
    (λ (b c : Bool). b || c)
    (same_at x (Memᴰ.head refl))
    (some_of_cong xs S T (λ w m. same_at w (Memᴰ.tail m)))

-- every entry passes the test: all members do
pub every_of_intro : (xs : List ℕ) (test : Set) → ((w : ℕ) → Memᴰ w xs → test w ≡ true) → every_of xs test ≡ true
unfolding every_of
every_of_intro [] test all = refl
every_of_intro (x ∷ xs) test all =
    and_intro (all x (Memᴰ.head refl)) (every_of_intro xs test (λ w m. all w (Memᴰ.tail m)))

pub every_of_elim : (xs : List ℕ) (test : Set) → every_of xs test ≡ true → (w : ℕ) → Memᴰ w xs → test w ≡ true
unfolding every_of
every_of_elim [] test p w m = elim m [ ]
every_of_elim (x ∷ xs) test p w (Memᴰ.head e) = ap test e ∙ and_left (test x) (every_of xs test) p
every_of_elim (x ∷ xs) test p w (Memᴰ.tail m) = every_of_elim xs test (and_right (test x) (every_of xs test) p) w m

-- not every entry passes: a member that does not
pub every_of_false : (xs : List ℕ) (test : Set) → every_of xs test ≡ false → (w : ℕ) × Memᴰ w xs × (test w ≡ false)
unfolding every_of
every_of_false [] test p = absurd (true≢false p)
every_of_false (x ∷ xs) test p =
    ⊎_elim
    (λ q. (x, Memᴰ.head refl, q))
    (λ q. let (w, m, t) = every_of_false xs test q in (w, Memᴰ.tail m, t))
    (and_false_cases (test x) (every_of xs test) p)

-- membership in a list is decided
pub member_cases : (w : ℕ) (xs : List ℕ) → Memᴰ w xs ⊎ (Memᴰ w xs → ⊥)
member_cases w xs =
    ⊎_elim
    (λ p. let (u, m, e) = some_of_elim xs (eqb w) p in inl (Memᴰ.cast (eqb-true w u e) m))
    (λ p. inr (λ m. clash (eq-eqb w w refl) (some_of_false xs (eqb w) p w m)))
    (bool_cases (some_of xs (eqb w)))

-- a member stands at some place, and what stands at a place is a member
pub member_place : {w : ℕ} (xs : List ℕ) → Memᴰ w xs → (i : ℕ) × (i < length xs) × (get_or xs i 0 ≡ w)
member_place {w = w} [] m = elim m [ ]
member_place (x ∷ xs) (Memᴰ.head e) = (0, suc-le-suc zero-le, sym e)
member_place (x ∷ xs) (Memᴰ.tail m) = let (i, l, e) = member_place xs m in (suc i, suc-le-suc l, e)

pub place_member : (xs : List ℕ) (i : ℕ) → i < length xs → Memᴰ (get_or xs i 0) xs
place_member [] i l = absurd (not-suc-le-zero l)
place_member (x ∷ xs) zero l = Memᴰ.head refl
place_member (x ∷ xs) (suc i) l = Memᴰ.tail (place_member xs i (le_of_suc-le-suc l))

-- x stands in a list exactly when it stands there once or more
pub times_pos : (x : ℕ) (xs : List ℕ) → Memᴰ x xs → 0 < times x xs
unfolding times
times_pos x [] m = elim m [ ]
times_pos x (y ∷ ys) (Memᴰ.head e) = rw (eq-eqb x y e) (omega arith)
times_pos x (y ∷ ys) (Memᴰ.tail m) = let h = times_pos x ys m in omega arith

pub times_member : (x : ℕ) (xs : List ℕ) → 0 < times x xs → Memᴰ x xs
unfolding times
times_member x [] h = absurd (lt_irrefl 0 h)
times_member x (y ∷ ys) h =
    ⊎_elim
    (λ e. Memᴰ.head (eqb-true x y e))
    (λ e.
    let here : ◌≡◌ {A = ℕ} (cond (eqb x y) 1 0) 0 = ap (λ (b : Bool). cond b 1 0) e in
    Memᴰ.tail (times_member x ys (omega arith)))
    (bool_cases (eqb x y))

pub times_none : (x : ℕ) (xs : List ℕ) → (Memᴰ x xs → ⊥) → times x xs ≡ 0
times_none x xs n = ⊎_elim (λ z. z) (λ h. absurd (n (times_member x xs h))) (eq-zero-or-pos (times x xs))

-- the lowest number below n that passes

-- k is a number below n that passes, and none below it does
pub record IsLowest (n : ℕ) (test : Set) (k : ℕ) : Type 0 where
  pub below : k < n
  pub passes : test k ≡ true
  pub first : (v : ℕ) → v < k → test v ≡ false

pub lowest_none : (n : ℕ) (test : Set) → some n test ≡ false → lowest n test ≡ n
unfolding lowest some
lowest_none zero test p = refl
lowest_none (suc n) test p = let (q, r) = or_false_both (some n test) (test n) p in rw q (rw r refl)

-- where some number passes, lowest gives the lowest that does
pub lowest_found : (n : ℕ) (test : Set) → some n test ≡ true → IsLowest n test (lowest n test)
unfolding lowest some
lowest_found zero test p = absurd (true≢false (sym p))
lowest_found (suc n) test p =
    ⊎_elim
    (λ q.
    let old = lowest_found n test q in
    rw q (record { below = le_step old.below; passes = old.passes; first = old.first }))
    (λ q.
    let r : test n ≡ true = rw q at p in
    rw q (rw r (record { below = le_refl (suc n); passes = r; first = some_false n test q })))
    (bool_cases (some n test))

pub lowest_le : (n : ℕ) (test : Set) → lowest n test ≤ n
lowest_le n test =
    ⊎_elim
    (λ p. le_of_lt (lowest_found n test p).below)
    (λ p. le_of_eq (lowest_none n test p))
    (bool_cases (some n test))

-- no number below the lowest passes, also where none below n passes
pub below_lowest : (n : ℕ) (test : Set) (v : ℕ) → v < lowest n test → test v ≡ false
below_lowest n test v l =
    ⊎_elim
    (λ p. (lowest_found n test p).first v l)
    (λ p. some_false n test p v (rw (lowest_none n test p) at l))
    (bool_cases (some n test))

-- there is one lowest number
pub lowest_unique : (n : ℕ) (test : Set) (k : ℕ) → IsLowest n test k → lowest n test ≡ k
lowest_unique n test k low =
    let found = lowest_found n test (some_intro n test k low.below low.passes) in
    le_antisymm
    (le_of_not_lt (λ less. clash low.passes (found.first k less)))
    (le_of_not_lt (λ less. clash found.passes (low.first (lowest n test) less)))

-- what is written down: sets, numbers

pub length_listed : {A : Type 0} (n : ℕ) (f : ℕ → A) → length (listed n f) ≡ n
unfolding listed
length_listed zero f = refl
length_listed (suc n) f = ap suc (length_listed n (λ k. f (suc k)))

pub get_or_listed : {A : Type 0} (n : ℕ) (f : ℕ → A) (v : ℕ) (d : A) → v < n → get_or (listed n f) v d ≡ f v
unfolding listed
get_or_listed zero f v d l = absurd (not-suc-le-zero l)
get_or_listed (suc n) f zero d l = refl
get_or_listed (suc n) f (suc v) d l = get_or_listed n (λ k. f (suc k)) v d (le_of_suc-le-suc l)

-- a list of n entries that are what f gives is that list
pub listed_is :
    {A : Type 0} (n : ℕ) (f : ℕ → A) (d : A) (xs : List A) →
    length xs ≡ n →
    ((v : ℕ) → v < n → get_or xs v d ≡ f v) →
    xs ≡ listed n f
unfolding listed
listed_is zero f d [] e agree = refl
listed_is zero f d (x ∷ xs) e agree = absurd (not-suc-le-zero (le_of_eq e))
listed_is (suc n) f d [] e agree = absurd (not-suc-le-zero (le_of_eq (sym e)))
listed_is {A} (suc n) f d (x ∷ xs) e agree =
    ap₂ (λ (y : A) (ys : List A). y ∷ ys) (agree 0 (suc-le-suc zero-le))
    (listed_is n (λ k. f (suc k)) d xs (omega arith) (λ v l. agree (suc v) (suc-le-suc l)))

-- a set worked out below n is the set below n, and has no member at n or above
pub within_below : (n : ℕ) (S : Set) (v : ℕ) → v < n → within n S v ≡ S v
unfolding within
within_below n S v l = rw (lt-ltb v n l)

pub within_above : (n : ℕ) (S : Set) (v : ℕ) → n ≤ v → within n S v ≡ false
unfolding within
within_above n S v l = rw (le-ltb v n l)

pub within_member : (n : ℕ) (S : Set) (v : ℕ) → within n S v ≡ true → (v < n) × (S v ≡ true)
within_member n S v p =
    ⊎_elim
    (λ l. (l, sym (within_below n S v l) ∙ p))
    (λ l. absurd (clash p (within_above n S v l)))
    (lt_or_ge v n)

-- a set that has no member at n or above is worked out as it is
pub within_all : (n : ℕ) (S : Set) → ((v : ℕ) → S v ≡ true → v < n) → (v : ℕ) → within n S v ≡ S v
within_all n S small v =
    ⊎_elim
    (λ l. within_below n S v l)
    (λ l. within_above n S v l ∙ sym (not_true_is_false (S v) (λ p. not-le_of_lt (small v p) l)))
    (lt_or_ge v n)

-- pigeonhole: n + 1 numbers below n are not all different
pub pigeonhole :
    (n : ℕ) (f : ℕ → ℕ) → ((i : ℕ) → i ≤ n → f i < n) → (i : ℕ) × (j : ℕ) × (i < j) × (j ≤ n) × (f i ≡ f j)
pigeonhole zero f small = absurd (not-suc-le-zero (small 0 (le_refl 0)))
pigeonhole (suc n) f small = ⊎_elim found (λ q. moved_back q (pigeonhole n moved (moved_small q))) (bool_cases (some (suc n) hits))
  where
    last : ℕ
    last = f (suc n)

    hits : Set
    hits i = eqb (f i) last

    -- the number n is swapped for the last one
    moved : ℕ → ℕ
    moved i = cond (eqb (f i) n) last (f i)

    Repeats : ℕ → (ℕ → ℕ) → Type 0
    Repeats m h = (i : ℕ) × (j : ℕ) × (i < j) × (j ≤ m) × (h i ≡ h j)

    found : some (suc n) hits ≡ true → Repeats (suc n) f
    found p = let (i, l, e) = some_elim (suc n) hits p in (i, suc n, l, le_refl (suc n), eqb-true (f i) last e)

    fresh : some (suc n) hits ≡ false → (i : ℕ) → i ≤ n → f i ≡ last → ⊥
    fresh q i l = eqb-false (f i) last (some_false (suc n) hits q i (suc-le-suc l))

    moved_small : some (suc n) hits ≡ false → (i : ℕ) → i ≤ n → moved i < n
    moved_small q i l =
        ⊎_elim
        (λ e.
        let at_n = eqb-true (f i) n e in
        let bound = small (suc n) (le_refl (suc n)) in
        let other : last ≡ n → ⊥ = λ k. fresh q i l (at_n ∙ sym k) in
        rw e (omega arith))
        (λ e. let other = eqb-false (f i) n e in let bound = small i (le_step l) in rw e (omega arith))
        (bool_cases (eqb (f i) n))

    moved_back : some (suc n) hits ≡ false → Repeats n moved → Repeats (suc n) f
    moved_back q (i, j, less, top, e) =
        let low : i ≤ n = omega arith in
        (i, j, less, le_step top, back (bool_cases (eqb (f i) n)) (bool_cases (eqb (f j) n)) (fresh q i low) (fresh q j top) e)
      where
        back :
            (eqb (f i) n ≡ true) ⊎ (eqb (f i) n ≡ false) →
            (eqb (f j) n ≡ true) ⊎ (eqb (f j) n ≡ false) →
            (f i ≡ last → ⊥) →
            (f j ≡ last → ⊥) →
            moved i ≡ moved j →
            f i ≡ f j
        back (inl p) (inl r) x y e = eqb-true (f i) n p ∙ sym (eqb-true (f j) n r)
        back (inl p) (inr r) x y e = absurd (y (sym (rw (p, r) at e)))
        back (inr p) (inl r) x y e = absurd (x (rw (p, r) at e))
        back (inr p) (inr r) x y e = rw (p, r) at e

-- two numbers are equal or not
pub equal_cases : (m n : ℕ) → (m ≡ n) ⊎ (m ≡ n → ⊥)
equal_cases m n = ⊎_elim (λ e. inl (eqb-true m n e)) (λ e. inr (eqb-false m n e)) (bool_cases (eqb m n))

-- the lowest number that passes depends on what lies below n alone
pub lowest_cong : (n : ℕ) (S T : Set) → ((v : ℕ) → v < n → S v ≡ T v) → lowest n S ≡ lowest n T
unfolding lowest
lowest_cong zero S T agree = refl
lowest_cong (suc n) S T agree =
    rw (
      some_cong n S T (λ v l. agree v (le_step l)),
      lowest_cong n S T (λ v l. agree v (le_step l)),
      agree n (le_refl (suc n)),
    )

pub noted_below : (d n : ℕ) (f : ℕ → ℕ) (v : ℕ) → v < n → noted d n f v ≡ f v
unfolding noted
noted_below d n f v l = rw (lt-ltb v n l)

pub noted_above : (d n : ℕ) (f : ℕ → ℕ) (v : ℕ) → n ≤ v → noted d n f v ≡ d
unfolding noted
noted_above d n f v l = rw (le-ltb v n l)
