-- The steps of a walk: over a word that has no bit left, from a word to the next, and to a word's lowest set bit, which `word & (word - 1)` clears.
use Rattle.std.specs.Prelude.{cond, ◌≡◌, refl, eqb, length, get_or, drop}
use mathlib.Core.List.{List, [], ◌∷◌, ◌++◌}
use Rattle.std.proofs.Common.{sym, ◌∙◌, add-zero, add-one, arith, length-take, length-drop, drop_of_length-le, drop-cons, get_or-take, get_or-drop}
use Rattle.std.proofs.Math.Path.{ap, ap₂}
use Prim.Native.Nat.{ℕ, zero, suc, ◌+◌, ◌-◌, ◌*◌, ◌/◌, ◌%◌, ◌^◌, ◌≤◌, ◌<◌}
use Rattle.std.proofs.Math.Decide.{ℕ_discrete}
use Rattle.std.specs.Int.Bits.{bit_and, bit_or, and_step, and_self}
use Rattle.std.specs.Int.Count.{count_trailing_zeros, under}
use Rattle.std.proofs.Math.ListN.{get_or-eq_default}
use Rattle.rules.specs.Words.{digit}
use Rattle.sets.specs.Digits.{digit_low, digit_up, digit_zero}
use Rattle.sets.specs.Whole.{or_none}
use Rattle.walk.specs.Walk.{words_from, of_word, of_words, members, left}

-- the digits of the half, one place lower
of_word_up : (base w k d : ℕ) → of_word base w (suc k) d ≡ of_word (suc base) (w / 2) k d
unfolding of_word
of_word_up base w k zero = refl
of_word_up base w k (suc d) =
    let place : base + suc k ≡ suc base + k = omega arith in
    ap₂ (λ (x : ℕ) (l : List ℕ). cond (eqb x 1) ((base + suc k) ∷ l) l) (digit_up w k) (of_word_up base w (suc k) d)
    ∙ ap (λ (x : ℕ). cond (eqb (digit (w / 2) k) 1) (x ∷ of_word (suc base) (w / 2) (suc k) d) (of_word (suc base) (w / 2) (suc k) d)) place

-- the lowest digit apart
pub of_word_low : (base w d : ℕ)
    → of_word base w 0 (suc d) ≡ cond (eqb (w % 2) 1) (base ∷ of_word (suc base) (w / 2) 0 d) (of_word (suc base) (w / 2) 0 d)
unfolding of_word
of_word_low base w d =
    ap₂ (λ (x : ℕ) (l : List ℕ). cond (eqb x 1) ((base + 0) ∷ l) l) (digit_low w) (of_word_up base w 0 d)
    ∙ ap (λ (x : ℕ). cond (eqb (w % 2) 1) (x ∷ of_word (suc base) (w / 2) 0 d) (of_word (suc base) (w / 2) 0 d)) (add-zero base)

-- a word of no set bit
pub of_word_zero : (base k d : ℕ) → of_word base 0 k d ≡ []
unfolding of_word
of_word_zero base k zero = refl
of_word_zero base k (suc d) =
    ap₂ (λ (x : ℕ) (l : List ℕ). cond (eqb x 1) ((base + k) ∷ l) l) (digit_zero k) (of_word_zero base (suc k) d)

low_even : (base w d : ℕ) → w % 2 ≡ 0 → of_word base w 0 (suc d) ≡ of_word (suc base) (w / 2) 0 d
low_even base w d e =
    of_word_low base w d
    ∙ ap (λ (x : ℕ). cond (eqb x 1) (base ∷ of_word (suc base) (w / 2) 0 d) (of_word (suc base) (w / 2) 0 d)) e

low_odd : (base w d : ℕ) → w % 2 ≡ 1 → of_word base w 0 (suc d) ≡ base ∷ of_word (suc base) (w / 2) 0 d
low_odd base w d e =
    of_word_low base w d
    ∙ ap (λ (x : ℕ). cond (eqb x 1) (base ∷ of_word (suc base) (w / 2) 0 d) (of_word (suc base) (w / 2) 0 d)) e

-- w & (w - 1) is even, and its half goes by the halves of both
cleared_even : (w : ℕ) → bit_and w (w - 1) % 2 ≡ 0
cleared_even w = omega (arith, and_step w (w - 1))

cleared_half : (w : ℕ) → bit_and w (w - 1) / 2 ≡ bit_and (w / 2) ((w - 1) / 2)
cleared_half w = omega (arith, and_step w (w - 1))

-- the lowest set digit stands at the number of trailing zeros, and w & (w - 1) has the others
pub of_word_lowest : (base w d : ℕ) → w < 2 ^ d → (w ≡ 0 → ⊥)
    → of_word base w 0 d ≡ (base + count_trailing_zeros d w) ∷ of_word base (bit_and w (w - 1)) 0 d
unfolding count_trailing_zeros
of_word_lowest base w zero h n = absurd (n (omega arith))
of_word_lowest base w (suc d) h n = go (of_word_lowest (suc base) (w / 2) d) (ℕ_discrete (w % 2) 0)
  where
    others : (half : ℕ) → (w - 1) / 2 ≡ half → of_word (suc base) (bit_and (w / 2) half) 0 d ≡ of_word base (bit_and w (w - 1)) 0 (suc d)
    others half e =
        ap (λ (x : ℕ). of_word (suc base) x 0 d) (ap (λ (x : ℕ). bit_and (w / 2) x) (sym e) ∙ sym (cleared_half w))
        ∙ sym (low_even base (bit_and w (w - 1)) d (cleared_even w))

    go : (w / 2 < 2 ^ d → (w / 2 ≡ 0 → ⊥)
        → of_word (suc base) (w / 2) 0 d ≡ (suc base + count_trailing_zeros d (w / 2)) ∷ of_word (suc base) (bit_and (w / 2) (w / 2 - 1)) 0 d)
        → Dec (w % 2 ≡ 0)
        → of_word base w 0 (suc d) ≡ (base + under (w % 2) (count_trailing_zeros d (w / 2))) ∷ of_word base (bit_and w (w - 1)) 0 (suc d)
    go rest (yes e) =
        let place : suc base + count_trailing_zeros d (w / 2) ≡ base + suc (count_trailing_zeros d (w / 2)) = omega arith in
        low_even base w d e ∙ rest (omega arith) (λ z. n (omega arith))
        ∙ ap₂ ◌∷◌ (place ∙ ap (λ (x : ℕ). base + under x (count_trailing_zeros d (w / 2))) (sym e)) (others (w / 2 - 1) (omega arith))
    go rest (no o) =
        let odd : w % 2 ≡ 1 = omega (arith, o) in
        low_odd base w d odd
        ∙ ap₂ ◌∷◌ (sym (add-zero base) ∙ ap (λ (x : ℕ). base + under x (count_trailing_zeros d (w / 2))) (sym odd))
        (ap (λ (x : ℕ). of_word (suc base) x 0 d) (sym (and_self (w / 2))) ∙ others (w / 2) (omega arith))

-- a walk begins before the first word's bits
pub left_start : (xs : List ℕ) → left xs (record { at = 0; word = get_or xs 0 0 }) ≡ members xs
unfolding of_words
left_start [] = ap (λ (l : List ℕ). l ++ []) (of_word_zero 0 0 64)
left_start (x ∷ xs) = refl

-- the s words of the work area from a base on
module _ (s base : ℕ) (work : List ℕ) (fits : base + s ≤ length work) where
  abbrev xs : List ℕ
  xs = words_from s base work

  long : length xs ≡ s
  long = simp (length-take, length-drop) (omega arith)

  -- word i of the set, as the code reads it
  word_at : (i at : ℕ) → at ≡ base + i → i < s → get_or xs i 0 ≡ get_or work at 0
  word_at i at e h = get_or-take s (drop base work) i 0 h ∙ get_or-drop base work i 0 ∙ ap (λ (k : ℕ). get_or work k 0) (sym e)

  pub left_first : 0 < s → left (words_from s base work) (record { at = 0; word = get_or work base 0 }) ≡ members (words_from s base work)
  left_first h = ap (λ (x : ℕ). left xs (record { at = 0; word = x })) (sym (word_at 0 base (omega arith) h)) ∙ left_start xs

  -- also where there is no word
  pub left_none : s ≡ 0 → left (words_from s base work) (record { at = 0; word = 0 }) ≡ members (words_from s base work)
  left_none e =
      ap (λ (x : ℕ). left xs (record { at = 0; word = x })) (sym (get_or-eq_default xs 0 (omega (arith, long)))) ∙ left_start xs

  -- no bit is left in the last word
  pub left_done : (i : ℕ) → s ≤ i + 1 → left (words_from s base work) (record { at = i; word = 0 }) ≡ []
  unfolding of_words
  left_done i h =
      ap₂ (λ (l m : List ℕ). l ++ of_words (suc i) m) (of_word_zero (64 * i) 0 64)
      (drop_of_length-le xs {i = suc i} (omega (arith, long)))

  -- no bit is left in word i: on to the next word
  over : (i : ℕ) → i + 1 < s → left xs (record { at = i; word = 0 }) ≡ left xs (record { at = i + 1; word = get_or xs (i + 1) 0 })
  unfolding of_words
  over i h =
      ap (λ (l : List ℕ). l ++ of_words (suc i) (drop (suc i) xs)) (of_word_zero (64 * i) 0 64)
      ∙ ap (λ (j : ℕ). of_words j (drop j xs)) (sym (add-one i))
      ∙ ap (λ (l : List ℕ). of_words (i + 1) l) (drop-cons xs (i + 1) 0 (omega (arith, long)))

  pub left_over : (i : ℕ) → i + 1 < s
      → left (words_from s base work) (record { at = i; word = 0 })
      ≡ left (words_from s base work) (record { at = i + 1; word = get_or work (base + (i + 1)) 0 })
  left_over i h = over i h ∙ ap (λ (x : ℕ). left xs (record { at = i + 1; word = x })) (word_at (i + 1) (base + (i + 1)) refl h)

  -- the same where the next word is 0
  empty : (i j at : ℕ) → j ≡ i + 1 → at ≡ base + j → j < s → get_or work at 0 ≡ 0
      → left xs (record { at = i; word = 0 }) ≡ left xs (record { at = j; word = 0 })
  empty i j at q e h none =
      over i (omega arith)
      ∙ ap (λ (k : ℕ). left xs (record { at = k; word = get_or xs k 0 })) (sym q)
      ∙ ap (λ (x : ℕ). left xs (record { at = j; word = x })) (word_at j at e h ∙ none)

  -- no bit is left in word i, and none is in the next four
  pub left_four : (i : ℕ) → i + 4 < s
      → bit_or (bit_or (bit_or (get_or work (base + i + 1) 0) (get_or work (base + i + 2) 0)) (get_or work (base + i + 3) 0)) (get_or work (base + i + 4) 0) ≡ 0
      → left (words_from s base work) (record { at = i; word = 0 }) ≡ left (words_from s base work) (record { at = i + 4; word = 0 })
  left_four i h none =
      let w : ℕ → ℕ = λ k. get_or work (base + i + k) 0 in
      let (three, d) = or_none (bit_or (bit_or (w 1) (w 2)) (w 3)) (w 4) none in
      let (two, c) = or_none (bit_or (w 1) (w 2)) (w 3) three in
      let (a, b) = or_none (w 1) (w 2) two in
      empty i (i + 1) (base + i + 1) refl (omega arith) (omega arith) a
      ∙ empty (i + 1) (i + 2) (base + i + 2) (omega arith) (omega arith) (omega arith) b
      ∙ empty (i + 2) (i + 3) (base + i + 3) (omega arith) (omega arith) (omega arith) c
      ∙ empty (i + 3) (i + 4) (base + i + 4) (omega arith) (omega arith) h d

-- the next member
pub left_member : (xs : List ℕ) (i w : ℕ) → w < 2 ^ 64 → (w ≡ 0 → ⊥)
    → left xs (record { at = i; word = w }) ≡ (64 * i + count_trailing_zeros 64 w) ∷ left xs (record { at = i; word = bit_and w (w - 1) })
left_member xs i w h n = ap (λ (l : List ℕ). l ++ of_words (suc i) (drop (suc i) xs)) (of_word_lowest (64 * i) w 64 h n)
