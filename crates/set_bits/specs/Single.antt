-- One bit of a set: what a shift and a mask read of it, and what a new word at its place makes of the set.
use Rattle.std.specs.Prelude.{Bool, true, false, cond, ◌&&◌, not, List, ◌≡◌, ℕ, ◌-◌, ◌*◌, ◌/◌, ◌%◌, ◌^◌, ◌<◌, max, eqb, length, get_or, set}
use Rattle.std.proofs.Common.{sym, ap, ap₂, ◌∙◌, arith, eq-eqb, ne_eqb, lit<, length-set, shl_exact, get_or-set_same, get_or-set_other}
use Rattle.std.proofs.Math.Decide.{ℕ_discrete}
use Rattle.std.specs.Int.Bits.{bit_and, bit_or}
use Rattle.std.proofs.lemmas.Nat.{and_mask}
use Rattle.rules.specs.Words.{digit, bit, set_of}
use Rattle.set_bits.specs.After.{Put}
use Rattle.set_bits.specs.Digits.{digit_or, digit_lt, digit_and_not, digit_one_bit}

-- two tests of equality that hold alike are the same
pub eqb_alike : (a b c d : ℕ) → (a ≡ b → c ≡ d) → (c ≡ d → a ≡ b) → eqb a b ≡ eqb c d
eqb_alike a b c d f g = go (ℕ_discrete a b)
  where
    go : Dec (a ≡ b) → eqb a b ≡ eqb c d
    go (yes e) = eq-eqb a b e ∙ sym (eq-eqb c d (f e))
    go (no n) = ne_eqb a b n ∙ sym (ne_eqb c d (λ e. n (g e)))

-- (w >> k) & 1 == 1
pub read_bit : (xs : List ℕ) (v : ℕ) → eqb (bit_and (get_or xs (v / 64) 0 / 2 ^ (v % 64)) 1) 1 ≡ set_of xs v
unfolding set_of bit digit
read_bit xs v = ap (λ (x : ℕ). eqb x 1) (and_mask (get_or xs (v / 64) 0 / 2 ^ (v % 64)) 1)

-- ((w & !x) >> k) & 1 == 1
pub read_difference :
    (xs ys : List ℕ) (v : ℕ) →
    get_or ys (v / 64) 0 < 2 ^ 64 →
    eqb (bit_and (bit_and (get_or xs (v / 64) 0) ((2 ^ 64 - 1) - get_or ys (v / 64) 0) / 2 ^ (v % 64)) 1) 1 ≡ (set_of xs v && not (set_of ys v))
unfolding set_of bit digit
read_difference xs ys v h =
    ap (λ (x : ℕ). eqb x 1)
    (and_mask (bit_and (get_or xs (v / 64) 0) ((2 ^ 64 - 1) - get_or ys (v / 64) 0) / 2 ^ (v % 64)) 1 ∙
    digit_and_not 64 (get_or xs (v / 64) 0) (get_or ys (v / 64) 0) (v % 64) h (omega arith)) ∙
    less (digit (get_or xs (v / 64) 0) (v % 64)) (digit (get_or ys (v / 64) 0) (v % 64)) (digit_lt (get_or xs (v / 64) 0) (v % 64))
    (digit_lt (get_or ys (v / 64) 0) (v % 64))
  where
    less : (a b : ℕ) → a < 2 → b < 2 → eqb (a - b) 1 ≡ (eqb a 1 && not (eqb b 1))
    less a b l small = go (ℕ_discrete a 1) (ℕ_discrete b 1)
      where
        go : Dec (a ≡ 1) → Dec (b ≡ 1) → eqb (a - b) 1 ≡ (eqb a 1 && not (eqb b 1))
        go (yes e) (yes f) =
            ne_eqb (a - b) 1 (λ z. omega arith) ∙ sym (ap₂ (λ (s t : Bool). s && not t) (eq-eqb a 1 e) (eq-eqb b 1 f))
        go (yes e) (no d) =
            eq-eqb (a - b) 1 (omega (arith, small, d)) ∙ sym (ap₂ (λ (s t : Bool). s && not t) (eq-eqb a 1 e) (ne_eqb b 1 d))
        go (no d) f = ne_eqb (a - b) 1 (λ z. d (omega arith)) ∙ sym (ap (λ (s : Bool). s && not (eqb b 1)) (ne_eqb a 1 d))

-- a new word at the place of v, with digit d there and else the old word's digits, puts d at v
pub put_word : (xs : List ℕ) (v d w : ℕ) → v < 64 * length xs
    → ((k : ℕ) → k < 64 → digit w k ≡ cond (eqb k (v % 64)) d (digit (get_or xs (v / 64) 0) k))
    → Put v d xs (set xs (v / 64) w)
unfolding bit
put_word xs v d w h new = record { long = length-set xs (v / 64) w; bits = λ u. go u (ℕ_discrete (u / 64) (v / 64)) }
  where
    go : (u : ℕ) → Dec (u / 64 ≡ v / 64)
        → digit (get_or (set xs (v / 64) w) (u / 64) 0) (u % 64) ≡ cond (eqb u v) d (digit (get_or xs (u / 64) 0) (u % 64))
    go u (yes e) =
        let here : eqb (u % 64) (v % 64) ≡ eqb u v = eqb_alike (u % 64) (v % 64) u v (λ p. omega arith) (λ p. ap (λ (x : ℕ). x % 64) p) in
        ap (λ (x : ℕ). digit (get_or (set xs (v / 64) w) x 0) (u % 64)) e
        ∙ ap (λ (x : ℕ). digit x (u % 64)) (get_or-set_same xs (v / 64) w 0 (omega arith))
        ∙ new (u % 64) (omega arith)
        ∙ ap₂ (λ (t : Bool) (x : ℕ). cond t d (digit (get_or xs x 0) (u % 64))) here (sym e)
    go u (no n) =
        ap (λ (x : ℕ). digit x (u % 64)) (get_or-set_other xs (v / 64) (u / 64) w 0 n)
        ∙ ap (λ (t : Bool). cond t d (digit (get_or xs (u / 64) 0) (u % 64))) (sym (ne_eqb u v (λ p. n (ap (λ (x : ℕ). x / 64) p))))

-- 1 << i, at 64 bits
one_shifted : (i : ℕ) → i < 64 → (1 * 2 ^ i) % 2 ^ 64 ≡ 2 ^ i
one_shifted i h = shl_exact 1 i 64 (lit< tt) (omega arith) ∙ omega arith

-- w | (1 << i) has digit 1 at i, and else the digits of w
pub digit_insert : (w i k : ℕ) → i < 64 → digit (bit_or w ((1 * 2 ^ i) % 2 ^ 64)) k ≡ cond (eqb k i) 1 (digit w k)
digit_insert w i k h =
    ap (λ (x : ℕ). digit (bit_or w x) k) (one_shifted i h) ∙ digit_or w (2 ^ i) k
    ∙ ap (λ (x : ℕ). max (digit w k) x) (digit_one_bit i k) ∙ go (eqb k i)
  where
    go : (t : Bool) → max (digit w k) (cond t 1 0) ≡ cond t 1 (digit w k)
    go true = omega (arith, digit_lt w k)
    go false = omega arith

pub put_insert : (xs : List ℕ) (v : ℕ) → v < 64 * length xs
    → Put v 1 xs (set xs (v / 64) (bit_or (get_or xs (v / 64) 0) ((1 * 2 ^ (v % 64)) % 2 ^ 64)))
put_insert xs v h = put_word xs v 1 _ h (λ k l. digit_insert (get_or xs (v / 64) 0) (v % 64) k (omega arith))
