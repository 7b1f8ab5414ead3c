-- Laws of the members of a set lent as words: each once, in rising order, for any number of words.
use Rattle.std.specs.Prelude.{Bool, true, false, cond, List, [], ◌∷◌, ◌++◌, ◌≡◌, refl, ℕ, zero, suc, ◌+◌, ◌-◌, ◌*◌, ◌/◌, ◌%◌, ◌≤◌, ◌<◌, eqb, get_or}
use Rattle.std.proofs.Common.{sym, ap, ap₂, ◌∙◌, zero-le, add_assoc, add-zero, zero-add, le_trans, arith, eq-eqb, ne_eqb}
use Rattle.std.proofs.Math.Decide.{ℕ_discrete, dec_lt}
use Rattle.rules.specs.Counting.{times}
use Rattle.rules.specs.Words.{digit, bit}
use Rattle.sets.specs.Digits.{digit_lt, digit_zero}
use Rattle.walk.specs.Walk.{of_word, of_words, members}
use Rattle.sets.specs.Whole.{flag_of_digit}

times_append : (v : ℕ) (l m : List ℕ) → times v (l ++ m) ≡ times v l + times v m
unfolding times
times_append v [] m = omega arith
times_append v (x ∷ l) m =
    ap (λ (n : ℕ). cond (eqb v x) 1 0 + n) (times_append v l m) ∙ sym (add_assoc (cond (eqb v x) 1 0) (times v l) (times v m))

-- of an entry that stands where t holds
times_where : (t : Bool) (v x : ℕ) (l : List ℕ) → times v (cond t (x ∷ l) l) ≡ cond (eqb v x) (cond t 1 0) 0 + times v l
unfolding times
times_where true v x l = refl
times_where false v x l = go (eqb v x)
  where
    go : (t : Bool) → times v l ≡ cond t 0 0 + times v l
    go true = omega arith
    go false = omega arith

-- a number that no digit of the word stands for
times_outside : (v base w k d : ℕ) → ((j : ℕ) → k ≤ j → j < k + d → v ≡ base + j → ⊥) → times v (of_word base w k d) ≡ 0
unfolding times of_word
times_outside v base w k zero h = refl
times_outside v base w k (suc d) h =
    times_where (eqb (digit w k) 1) v (base + k) (of_word base w (suc k) d)
    ∙ ap₂ (λ (t : Bool) (n : ℕ). cond t (cond (eqb (digit w k) 1) 1 0) 0 + n)
    (ne_eqb v (base + k) (h k (omega arith) (omega arith)))
    (times_outside v base w (suc k) d (λ j l m. h j (omega arith) (omega arith)))

-- the number that digit j stands for
times_inside : (base w k d j : ℕ) → k ≤ j → j < k + d → times (base + j) (of_word base w k d) ≡ digit w j
unfolding of_word
times_inside base w k zero j l m = absurd (omega arith)
times_inside base w k (suc d) j l m =
    times_where (eqb (digit w k) 1) (base + j) (base + k) (of_word base w (suc k) d)
    ∙ go (times_inside base w (suc k) d j) (ℕ_discrete j k)
  where
    go : (suc k ≤ j → j < suc k + d → times (base + j) (of_word base w (suc k) d) ≡ digit w j) → Dec (j ≡ k)
        → cond (eqb (base + j) (base + k)) (cond (eqb (digit w k) 1) 1 0) 0 + times (base + j) (of_word base w (suc k) d) ≡ digit w j
    go rest (yes e) =
        ap₂ (λ (t : Bool) (n : ℕ). cond t (cond (eqb (digit w k) 1) 1 0) 0 + n)
        (eq-eqb (base + j) (base + k) (omega arith))
        (times_outside (base + j) base w (suc k) d (λ i p q r. omega arith))
        ∙ add-zero (cond (eqb (digit w k) 1) 1 0) ∙ flag_of_digit (digit w k) (digit_lt w k) ∙ ap (digit w) (sym e)
    go rest (no n) =
        ap (λ (t : Bool). cond t (cond (eqb (digit w k) 1) 1 0) 0 + times (base + j) (of_word base w (suc k) d))
        (ne_eqb (base + j) (base + k) (λ e. n (omega arith)))
        ∙ zero-add (times (base + j) (of_word base w (suc k) d)) ∙ rest (omega (arith, n)) (omega arith)

times_before : (v i : ℕ) (xs : List ℕ) → v < 64 * i → times v (of_words i xs) ≡ 0
unfolding times of_words
times_before v i [] h = refl
times_before v i (x ∷ xs) h =
    times_append v (of_word (64 * i) x 0 64) (of_words (suc i) xs)
    ∙ ap₂ ◌+◌ (times_outside v (64 * i) x 0 64 (λ j l m e. omega arith)) (times_before v (suc i) xs (omega arith))

times_from : (v i : ℕ) (xs : List ℕ) → times (64 * i + v) (of_words i xs) ≡ bit xs v
unfolding times of_words bit
times_from v i [] = sym (digit_zero (v % 64))
times_from v i (x ∷ xs) =
    times_append (64 * i + v) (of_word (64 * i) x 0 64) (of_words (suc i) xs) ∙ go (times_from (v - 64) (suc i) xs) (dec_lt v 64)
  where
    go : times (64 * suc i + (v - 64)) (of_words (suc i) xs) ≡ bit xs (v - 64) → Dec (v < 64)
        → times (64 * i + v) (of_word (64 * i) x 0 64) + times (64 * i + v) (of_words (suc i) xs) ≡ bit (x ∷ xs) v
    go rest (yes h) =
        let word : v / 64 ≡ 0 = omega arith in
        let place : v % 64 ≡ v = omega arith in
        ap₂ ◌+◌ (times_inside (64 * i) x 0 64 v zero-le (omega arith)) (times_before (64 * i + v) (suc i) xs (omega arith))
        ∙ add-zero (digit x v)
        ∙ sym (ap₂ (λ (a b : ℕ). digit (get_or (x ∷ xs) a 0) b) word place)
    go rest (no n) =
        let here : 64 * i + v ≡ 64 * suc i + (v - 64) = omega (arith, n) in
        let word : v / 64 ≡ suc ((v - 64) / 64) = omega (arith, n) in
        let place : v % 64 ≡ (v - 64) % 64 = omega (arith, n) in
        ap₂ ◌+◌ (times_outside (64 * i + v) (64 * i) x 0 64 (λ j l m e. omega (arith, n)))
        (ap (λ (u : ℕ). times u (of_words (suc i) xs)) here ∙ rest)
        ∙ zero-add (bit xs (v - 64))
        ∙ sym (ap₂ (λ (a b : ℕ). digit (get_or (x ∷ xs) a 0) b) word place)

-- each member stands once among the members, and no other number does
pub times_members : (xs : List ℕ) (v : ℕ) → times v (members xs) ≡ bit xs v
times_members xs v = ap (λ (u : ℕ). times u (members xs)) (sym here) ∙ times_from v 0 xs
  where
    here : 64 * 0 + v ≡ v
    here = omega arith

-- every entry is at least lo, and each above the one before it
abbrev pub Rising : ℕ → List ℕ → Type 0
Rising lo [] = Unit
Rising lo (x ∷ l) = (lo ≤ x) × Rising (suc x) l

pub rising_from : (lo hi : ℕ) (l : List ℕ) → lo ≤ hi → Rising hi l → Rising lo l
rising_from lo hi [] h r = tt
rising_from lo hi (x ∷ l) h r = (le_trans h r.0, r.1)

rising_of_word : (base w k d : ℕ) (l : List ℕ) → Rising (base + (k + d)) l → Rising (base + k) (of_word base w k d ++ l)
unfolding of_word
rising_of_word base w k zero l r = rising_from (base + k) (base + (k + 0)) l (omega arith) r
rising_of_word base w k (suc d) l r =
    go (eqb (digit w k) 1) (rising_of_word base w (suc k) d l (rising_from (base + (suc k + d)) (base + (k + suc d)) l (omega arith) r))
  where
    go : (t : Bool) → Rising (base + suc k) (of_word base w (suc k) d ++ l)
        → Rising (base + k) (cond t ((base + k) ∷ of_word base w (suc k) d) (of_word base w (suc k) d) ++ l)
    go true rest = (omega arith, rising_from (suc (base + k)) (base + suc k) (of_word base w (suc k) d ++ l) (omega arith) rest)
    go false rest = rising_from (base + k) (base + suc k) (of_word base w (suc k) d ++ l) (omega arith) rest

rising_word : (i x : ℕ) (l : List ℕ) → Rising (64 * suc i) l → Rising (64 * i) (of_word (64 * i) x 0 64 ++ l)
rising_word i x l r =
    rising_from (64 * i) (64 * i + 0) (of_word (64 * i) x 0 64 ++ l) (omega arith)
    (rising_of_word (64 * i) x 0 64 l (rising_from (64 * i + (0 + 64)) (64 * suc i) l (omega arith) r))

rising_of_words : (i : ℕ) (xs : List ℕ) → Rising (64 * i) (of_words i xs)
unfolding of_words
rising_of_words i [] = tt
rising_of_words i (x ∷ xs) = rising_word i x (of_words (suc i) xs) (rising_of_words (suc i) xs)

-- the members rise, and so does what a walk has still to come
pub rising_members : (xs : List ℕ) → Rising 0 (members xs)
rising_members xs = rising_of_words 0 xs
