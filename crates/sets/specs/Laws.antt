-- Laws of sets lent as words, for those who call the operations: bits and membership, a part of a longer work area, and what each
-- operation makes of the set. All hold for any number of words.
use Rattle.std.specs.Prelude.{Bool, true, false, ◌&&◌, ◌||◌, not, cond, List, ◌≡◌, refl, ℕ, ◌+◌, ◌-◌, ◌*◌, ◌/◌, ◌%◌, ◌≤◌, ◌<◌, max, ltb, length, get_or, take, drop, replicate}
use Rattle.std.proofs.Common.{sym, ◌∙◌, subst₂, arith, eq-eqb, get_or-take, get_or-drop, ext_get_or}
use Rattle.std.proofs.Math.Path.{ap}
use Rattle.std.proofs.Math.Decide.{ℕ_discrete, dec_lt}
use Rattle.std.proofs.Math.Dec.{eqb}
use Rattle.std.proofs.lemmas.List.{length-replicate, get_or-replicate}
use Rattle.std.proofs.Math.ListN.{get_or-eq_default}
use Rattle.rules.specs.Counting.{some}
use Rattle.rules.specs.Words.{digit, bit, set_of}
use Rattle.set_bits.specs.After.{Put, Combined, Cleared, Filled}
use Rattle.basics.specs.Basics.{some_false}
use Rattle.set_bits.specs.Digits.{digit_zero}
use Rattle.sets.specs.Whole.{bit_lt, flag_of_digit}

-- ---- bits and membership

-- past the last word
pub bit_past : (xs : List ℕ) (v : ℕ) → 64 * length xs ≤ v → bit xs v ≡ 0
unfolding bit
bit_past xs v h =
    ap (λ (x : ℕ). digit x (v % 64)) (get_or-eq_default xs 0 {n = v / 64} (omega arith)) ∙ digit_zero (v % 64)

-- a bit is 1 for a member and else 0
pub bit_of_set : (xs : List ℕ) (v : ℕ) → bit xs v ≡ cond (set_of xs v) 1 0
unfolding set_of
bit_of_set xs v = sym (flag_of_digit (bit xs v) (bit_lt xs v))

pub member_bit : (xs : List ℕ) (v : ℕ) → set_of xs v ≡ true → bit xs v ≡ 1
member_bit xs v h = bit_of_set xs v ∙ ap (λ (t : Bool). cond t 1 0) h

pub other_bit : (xs : List ℕ) (v : ℕ) → set_of xs v ≡ false → bit xs v ≡ 0
other_bit xs v h = bit_of_set xs v ∙ ap (λ (t : Bool). cond t 1 0) h

pub bit_member : (xs : List ℕ) (v : ℕ) → bit xs v ≡ 1 → set_of xs v ≡ true
unfolding set_of
bit_member xs v h = eq-eqb (bit xs v) 1 h

pub bit_other : (xs : List ℕ) (v : ℕ) → bit xs v ≡ 0 → set_of xs v ≡ false
unfolding set_of
bit_other xs v h = ap (λ (x : ℕ). eqb x 1) h

-- members are below 64 times the number of words
pub bit_inside : (xs : List ℕ) (v : ℕ) → bit xs v ≡ 1 → v < 64 * length xs
bit_inside xs v h = go (dec_lt v (64 * length xs))
  where
    go : Dec (v < 64 * length xs) → v < 64 * length xs
    go (yes l) = l
    go (no n) = omega (arith, bit_past xs v (omega (arith, n)))

pub member_inside : (xs : List ℕ) (v : ℕ) → set_of xs v ≡ true → v < 64 * length xs
member_inside xs v h = bit_inside xs v (member_bit xs v h)

-- a set that `is_empty` finds empty has no member
pub no_member : (xs : List ℕ) → some (64 * length xs) (set_of xs) ≡ false → (v : ℕ) → set_of xs v ≡ false
no_member xs h v = go (dec_lt v (64 * length xs))
  where
    go : Dec (v < 64 * length xs) → set_of xs v ≡ false
    go (yes l) = some_false (64 * length xs) (set_of xs) h v l
    go (no n) = bit_other xs v (bit_past xs v (omega (arith, n)))

-- ---- a part of s words

pub bit_take : (s : ℕ) (xs : List ℕ) (v : ℕ) → v < 64 * s → bit (take s xs) v ≡ bit xs v
unfolding bit
bit_take s xs v h = ap (λ (x : ℕ). digit x (v % 64)) (get_or-take s xs (v / 64) 0 (omega arith))

pub bit_drop : (base : ℕ) (xs : List ℕ) (v : ℕ) → bit (drop base xs) v ≡ digit (get_or xs (base + v / 64) 0) (v % 64)
unfolding bit
bit_drop base xs v = ap (λ (x : ℕ). digit x (v % 64)) (get_or-drop base xs (v / 64) 0)

-- ---- what an operation makes of the set

-- `insert` is d at 1, `remove` at 0
pub put_set : (v d : ℕ) (before after : List ℕ) → Put v d before after → (u : ℕ) → set_of after u ≡ cond (eqb u v) (eqb d 1) (set_of before u)
unfolding set_of
put_set v d before after p u = ap (λ (x : ℕ). eqb x 1) (p.bits u) ∙ go (eqb u v)
  where
    go : (t : Bool) → eqb (cond t d (bit before u)) 1 ≡ cond t (eqb d 1) (eqb (bit before u) 1)
    go true = refl
    go false = refl

-- `fill` of a set without a member
pub filled_set : (n : ℕ) (before after : List ℕ) → Filled n before after → ((v : ℕ) → set_of before v ≡ false) → (v : ℕ) → set_of after v ≡ ltb v n
unfolding set_of
filled_set n before after f blank v =
    ap (λ (x : ℕ). eqb x 1) (f.bits v ∙ ap (λ (x : ℕ). cond (ltb v n) 1 x) (other_bit before v (blank v))) ∙ go (ltb v n)
  where
    go : (t : Bool) → eqb (cond t 1 0) 1 ≡ t
    go true = refl
    go false = refl

-- what holds of the four pairs of digits
by_digits : (P : ℕ → ℕ → Type 0) → P 0 0 → P 0 1 → P 1 0 → P 1 1 → (x y : ℕ) → x < 2 → y < 2 → P x y
by_digits P a b c d x y h k = go (ℕ_discrete x 0) (ℕ_discrete y 0)
  where
    one : (z : ℕ) → z < 2 → (z ≡ 0 → ⊥) → 1 ≡ z
    one z l n = omega (arith, n)

    go : Dec (x ≡ 0) → Dec (y ≡ 0) → P x y
    go (yes p) (yes q) = subst₂ P (sym p) (sym q) a
    go (yes p) (no q) = subst₂ P (sym p) (one y k q) b
    go (no p) (yes q) = subst₂ P (one x h p) (sym q) c
    go (no p) (no q) = subst₂ P (one x h p) (one y k q) d

module _ (f : ℕ → ℕ → ℕ) (into from s : ℕ) (before after : List ℕ) (c : Combined f into from s before after) where
  -- the set at `into`, by the test g that goes with f
  combined_set : (g : Bool → Bool → Bool) → ((x y : ℕ) → x < 2 → y < 2 → eqb (f x y) 1 ≡ g (eqb x 1) (eqb y 1))
      → (v : ℕ) → v < 64 * s → set_of (drop into after) v ≡ g (set_of (drop into before) v) (set_of (drop from before) v)
  unfolding set_of
  combined_set g e v h =
      ap (λ (x : ℕ). eqb x 1) (c.bits v h)
      ∙ e (bit (drop into before) v) (bit (drop from before) v) (bit_lt (drop into before) v) (bit_lt (drop from before) v)

module _ (into from s : ℕ) (before after : List ℕ) where
  pub union_set : Combined max into from s before after
      → (v : ℕ) → v < 64 * s → set_of (drop into after) v ≡ (set_of (drop into before) v || set_of (drop from before) v)
  union_set c =
      combined_set max into from s before after c ◌||◌ (by_digits (λ x y. eqb (max x y) 1 ≡ (eqb x 1 || eqb y 1)) refl refl refl refl)

  pub difference_set : Combined ◌-◌ into from s before after
      → (v : ℕ) → v < 64 * s → set_of (drop into after) v ≡ (set_of (drop into before) v && not (set_of (drop from before) v))
  difference_set c =
      combined_set ◌-◌ into from s before after c (λ a b. a && not b)
      (by_digits (λ x y. eqb (x - y) 1 ≡ (eqb x 1 && not (eqb y 1))) refl refl refl refl)

-- ---- cleared words

-- all words of a work area are cleared
pub cleared_all : (w₀ w : List ℕ) {w' : List ℕ} → length w ≡ length w₀ → Cleared 0 (length w) w w' → w' ≡ replicate (length w₀) 0
cleared_all w₀ w {w'} long c =
    ext_get_or 0 w' (replicate (length w₀) 0) (c.long ∙ long ∙ sym (length-replicate (length w₀) 0))
    (λ i l.
    c.zeros i (omega arith) (omega (arith, c.long)) ∙
    sym (get_or-replicate (length w₀) i 0 0 (omega (arith, c.long))))
