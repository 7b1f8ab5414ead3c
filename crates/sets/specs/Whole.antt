-- Whole sets word by word: the bits of word i, when no bit is set, when two sets agree in every bit, and how many bits are set.
use Rattle.std.specs.Prelude.{true, false, not, cond, List, ◌⊎◌, ◌≡◌, refl, ℕ, zero, suc, ◌+◌, ◌*◌, ◌/◌, ◌%◌, ◌^◌, ◌≤◌, ◌<◌, eqb, length, get_or}
use Rattle.std.proofs.Common.{inl, inr, sym, ap, ap₂, ◌∙◌, add-one, arith, eq-eqb, ne_eqb, lit<}
use Rattle.std.proofs.Math.Nat.{mod-one}
use Rattle.std.proofs.Math.Decide.{ℕ_discrete}
use Rattle.std.proofs.lemmas.Bool.{eqb-false}
use Rattle.std.specs.Int.Bits.{bit_or, or_add_and}
use Rattle.std.proofs.lemmas.Nat.{and_le_l, and_le_r}
use Rattle.std.specs.Int.Count.{ones, ones_step}
use Rattle.std.proofs.Math.Pow.{field, mod-mod-pow}
use Rattle.rules.specs.Counting.{some, every, count}
use Rattle.rules.specs.Words.{digit, bit, set_of}
use Rattle.basics.specs.Basics.{bool_cases, every_intro, false_some, some_false, count_cong, count_first}
use Rattle.set_bits.specs.Digits.{digit_lt, digit_low, digit_up, digit_zero, digits_tell}

-- the bits of word i
pub bit_at : (xs : List ℕ) (i k : ℕ) → k < 64 → bit xs (64 * i + k) ≡ digit (get_or xs i 0) k
unfolding bit
bit_at xs i k h =
    let word : (64 * i + k) / 64 ≡ i = omega arith in
    let place : (64 * i + k) % 64 ≡ k = omega arith in
    ap₂ (λ (x y : ℕ). digit (get_or xs x 0) y) word place

pub bit_lt : (xs : List ℕ) (v : ℕ) → bit xs v < 2
unfolding bit
bit_lt xs v = digit_lt (get_or xs (v / 64) 0) (v % 64)

-- no word has a bit set
pub empty : (xs : List ℕ) → ((i : ℕ) → i < length xs → get_or xs i 0 ≡ 0) → true ≡ not (some (64 * length xs) (set_of xs))
unfolding set_of bit
empty xs h =
    ap not (sym (false_some (64 * length xs) (set_of xs)
    (λ v l. ap (λ (x : ℕ). eqb x 1) (ap (λ (x : ℕ). digit x (v % 64)) (h (v / 64) (omega arith)) ∙ digit_zero (v % 64)))))

-- a word that is not 0 has a bit set
pub not_empty : (xs : List ℕ) (i : ℕ) → i < length xs → get_or xs i 0 < 2 ^ 64 → (get_or xs i 0 ≡ 0 → ⊥)
    → false ≡ not (some (64 * length xs) (set_of xs))
unfolding set_of
not_empty xs i l small h = go (bool_cases (some (64 * length xs) (set_of xs)))
  where
    go : (some (64 * length xs) (set_of xs) ≡ true) ⊎ (some (64 * length xs) (set_of xs) ≡ false) → false ≡ not (some (64 * length xs) (set_of xs))
    go (inl e) = ap not (sym e)
    go (inr e) = absurd (h (digits_tell 64 (get_or xs i 0) 0 small (lit< tt) zeros))
      where
        zeros : (k : ℕ) → k < 64 → digit (get_or xs i 0) k ≡ digit 0 k
        zeros k m =
            let clear = eqb-false (bit xs (64 * i + k)) 1 (some_false (64 * length xs) (set_of xs) e (64 * i + k) (omega arith)) in
            omega (arith, clear, bit_at xs i k m, bit_lt xs (64 * i + k), digit_zero k)

-- words whose | is 0 are 0
pub or_none : (a b : ℕ) → bit_or a b ≡ 0 → (a ≡ 0) × (b ≡ 0)
or_none a b e = (omega (arith, or_add_and a b, and_le_r a b, e), omega (arith, or_add_and a b, and_le_l a b, e))

-- the | of the first i words: 0 where they are all 0, and else one is not
pub record AnyOf (xs : List ℕ) (i any : ℕ) : Type 0 where
  pub none : any ≡ 0 → (k : ℕ) → k < i → get_or xs k 0 ≡ 0
  pub some : (any ≡ 0 → ⊥) → (k : ℕ) × (k < i) × (get_or xs k 0 < 2 ^ 64) × (get_or xs k 0 ≡ 0 → ⊥)

pub any_none : {xs : List ℕ} → AnyOf xs 0 0
any_none = record { none = λ e k l. absurd (omega arith); some = λ d. absurd (d refl) }

pub any_more : {xs : List ℕ} {i any : ℕ} → get_or xs i 0 < 2 ^ 64 → AnyOf xs i any → AnyOf xs (i + 1) (bit_or any (get_or xs i 0))
any_more {xs} {i} {any} small a =
    record {
      none = λ e k l. let (old, new) = or_none any (get_or xs i 0) e in zero_at old new k l (ℕ_discrete k i);
      some = λ d. found d (ℕ_discrete any 0);
    }
  where
    zero_at : any ≡ 0 → get_or xs i 0 ≡ 0 → (k : ℕ) → k < i + 1 → Dec (k ≡ i) → get_or xs k 0 ≡ 0
    zero_at old new k l (yes e) = ap (λ (j : ℕ). get_or xs j 0) e ∙ new
    zero_at old new k l (no d) = a.none old k (omega (arith, d))

    found :
        (bit_or any (get_or xs i 0) ≡ 0 → ⊥) → Dec (any ≡ 0) →
        (k : ℕ) × (k < i + 1) × (get_or xs k 0 < 2 ^ 64) × (get_or xs k 0 ≡ 0 → ⊥)
    found d (yes e) = (i, omega arith, small, λ z. d (ap₂ bit_or e z))
    found d (no e) = let (k, l, fits, some) = a.some e in (k, omega arith, fits, some)

-- so it tells whether no bit is set
pub any_tells :
    {xs : List ℕ} {i any : ℕ} → AnyOf xs i any → i ≤ length xs → length xs ≤ i →
    eqb any 0 ≡ not (some (64 * length xs) (set_of xs))
any_tells {xs} {i} {any} a most all = go (ℕ_discrete any 0)
  where
    go : Dec (any ≡ 0) → eqb any 0 ≡ not (some (64 * length xs) (set_of xs))
    go (yes e) = eq-eqb any 0 e ∙ empty xs (λ k l. a.none e k (omega arith))
    go (no d) = let (k, l, fits, some-bit) = a.some d in ne_eqb any 0 d ∙ not_empty xs k (omega arith) fits some-bit

-- all words are equal
pub alike : (xs ys : List ℕ) → ((i : ℕ) → i < length xs → get_or xs i 0 ≡ get_or ys i 0)
    → true ≡ every (64 * length xs) (λ v. eqb (bit xs v) (bit ys v))
unfolding bit
alike xs ys h =
    sym (every_intro (64 * length xs) (λ v. eqb (bit xs v) (bit ys v))
    (λ v l. eq-eqb (bit xs v) (bit ys v) (ap (λ (x : ℕ). digit x (v % 64)) (h (v / 64) (omega arith)))))

-- a digit as the count of its test
pub flag_of_digit : (d : ℕ) → d < 2 → cond (eqb d 1) 1 0 ≡ d
flag_of_digit zero h = refl
flag_of_digit (suc zero) h = refl
flag_of_digit (suc (suc d)) h = absurd (omega arith)

-- the set digits among the first j of a word
pub ones_count : (j w : ℕ) → count j (λ k. eqb (digit w k) 1) ≡ ones (w % 2 ^ j)
unfolding count ones
ones_count zero w = ap ones (sym (mod-one w))
ones_count (suc j) w =
    count_first j (λ k. eqb (digit w k) 1)
    ∙ ap₂ (λ (x y : ℕ). x + y)
    (flag_of_digit (digit w 0) (digit_lt w 0) ∙ digit_low w ∙ sym (mod-mod-pow w j 1))
    (count_cong j (λ k. eqb (digit w (suc k)) 1) (λ k. eqb (digit (w / 2) k) 1) (λ k l. ap (λ (x : ℕ). eqb x 1) (digit_up w k))
    ∙ ones_count j (w / 2)
    ∙ ap ones (sym (field w j 1)))
    ∙ sym (ones_step (w % 2 ^ (j + 1)))
    ∙ ap (λ (x : ℕ). ones (w % 2 ^ x)) (add-one j)
