-- The lowest set digit of a word: it stands at the number of trailing zeros, and `word & (word - 1)` has the others. So the
-- members that a word stands for come in rising order.
use Rattle.std.specs.Prelude.{Bool, true, false, ◌&&◌, List, [], ◌∷◌, ◌⊎◌, ◌≡◌, refl, ℕ, zero, suc, ◌+◌, ◌-◌, ◌*◌, ◌/◌, ◌%◌, ◌^◌, ◌≤◌, ◌<◌, eqb, get_or, length}
use Rattle.std.proofs.Math.Bool.{cond}
use Rattle.std.proofs.Common.{inl, inr, ⊎_elim, ◌∙◌, not-suc-le-zero, zero-add, arith, eq-eqb, ne_eqb}
use Rattle.std.proofs.Math.Path.{sym, ap, ap₂}
use Rattle.std.proofs.Math.Decide.{ℕ_discrete}
use Rattle.std.specs.Int.Bits.{bit_and}
use Rattle.std.specs.Int.Count.{count_trailing_zeros}
use Rattle.rules.specs.Counting.{Set, times}
use Rattle.rules.specs.Words.{digit, bit}
use Rattle.sets.specs.Digits.{digit_lt, digit_zero}
use Rattle.sets.specs.Whole.{bit_lt}
use Rattle.sets.specs.Laws.{bit_inside}
use Rattle.walk.specs.Walk.{members}
use Rattle.walk.specs.Steps.{left_start, left_member}
use Rattle.walk.specs.MemberLaws.{times_members, Rising, rising_members}
use Rattle.basics.specs.Basics.{times_member, member_place}

-- the word without its lowest set digit
abbrev pub others : ℕ → ℕ
others word = bit_and word (word - 1)

abbrev pub lowest_of : ℕ → ℕ
lowest_of word = count_trailing_zeros 64 word

-- the digits of one word
digit_one : (word k : ℕ) → k < 64 → bit (word ∷ []) k ≡ digit word k
unfolding bit
digit_one word k l =
    let first : k / 64 ≡ 0 = omega arith in
    let place : k % 64 ≡ k = omega arith in
    ap₂ (λ (a b : ℕ). digit (get_or (word ∷ []) a 0) b) first place

pub digit_cases : (x k : ℕ) → (digit x k ≡ 0) ⊎ (digit x k ≡ 1)
digit_cases x k = go (ℕ_discrete (digit x k) 0)
  where
    go : Dec (digit x k ≡ 0) → (digit x k ≡ 0) ⊎ (digit x k ≡ 1)
    go (yes z) = inl z
    go (no d) = inr (omega (arith, d, digit_lt x k))

module _ (word : ℕ) (fits : word < 2 ^ 64) (some : word ≡ 0 → ⊥) where
  split : members (word ∷ []) ≡ (64 * 0 + lowest_of word) ∷ members (others word ∷ [])
  split =
      sym (left_start (word ∷ [])) ∙
      left_member (word ∷ []) 0 word fits some ∙
      ap (λ (l : List ℕ). (64 * 0 + lowest_of word) ∷ l) (left_start (others word ∷ []))

  low_place : 64 * 0 + lowest_of word ≡ lowest_of word
  low_place = omega arith

  apart : (k : ℕ) → bit (word ∷ []) k ≡ cond (eqb k (lowest_of word)) 1 0 + bit (others word ∷ []) k
  unfolding times
  apart k =
      sym (times_members (word ∷ []) k) ∙
      ap (times k) split ∙
      ap₂ (λ (x y : ℕ). cond (eqb k x) 1 0 + y) low_place (times_members (others word ∷ []) k)

  -- the digits by the lowest and the others
  pub lowest_digits : (k : ℕ) → k < 64 → digit word k ≡ cond (eqb k (lowest_of word)) 1 0 + digit (others word) k
  lowest_digits k l =
      sym (digit_one word k l) ∙ apart k ∙ ap (λ (x : ℕ). cond (eqb k (lowest_of word)) 1 0 + x) (digit_one (others word) k l)

  rises : Rising (suc (64 * 0 + lowest_of word)) (members (others word ∷ []))
  rises = (rw split at (rising_members (word ∷ []))).1

  -- the others stand higher
  pub others_higher : (k : ℕ) → k < 64 → digit (others word) k ≡ 1 → lowest_of word < k
  others_higher k l e =
      let (j, less, is) = member_place (members (others word ∷ [])) (times_member k (members (others word ∷ [])) (omega (
        arith,
        times_members (others word ∷ []) k,
        digit_one (others word) k l,
      ))) in
      let h = above (suc (64 * 0 + lowest_of word)) (members (others word ∷ [])) rises j less in
      omega arith
    where
      above : (lo : ℕ) (l : List ℕ) → Rising lo l → (k : ℕ) → k < length l → lo ≤ get_or l k 0
      above lo [] r k h = absurd (not-suc-le-zero h)
      above lo (x ∷ l) r zero h = r.0
      above lo (x ∷ l) r (suc k) h = let up = above (suc x) l r.1 k (omega arith) in omega (arith, r.0)

  one_here : ◌≡◌ {A = ℕ} (cond (eqb (lowest_of word) (lowest_of word)) 1 0) 1
  one_here = rw (eq-eqb (lowest_of word) (lowest_of word) refl)

  -- and it is one of the 64
  pub lowest_small : lowest_of word < 64
  lowest_small =
      bit_inside (word ∷ []) (lowest_of word) (omega (arith, apart (lowest_of word), bit_lt (word ∷ []) (lowest_of word), one_here))

  -- its digit is set, and is the one that the others lack
  pub lowest_set : digit word (lowest_of word) ≡ 1
  lowest_set = omega (arith, lowest_digits (lowest_of word) lowest_small, digit_lt word (lowest_of word), one_here)

  pub lowest_gone : digit (others word) (lowest_of word) ≡ 0
  lowest_gone = omega (arith, lowest_digits (lowest_of word) lowest_small, lowest_set, one_here)

  pub others_same : (k : ℕ) → k < 64 → (k ≡ lowest_of word → ⊥) → digit (others word) k ≡ digit word k
  others_same k l d =
      sym
      (lowest_digits k l ∙
      ap (λ (b : Bool). cond b 1 0 + digit (others word) k) (ne_eqb k (lowest_of word) d) ∙
      zero-add (digit (others word) k))

  pub below_lowest : (k : ℕ) → k < lowest_of word → digit word k ≡ 0
  below_lowest k l =
      let small : k < 64 = omega (arith, lowest_small) in
      let same = others_same k small (λ e. omega arith) in
      ⊎_elim
      (λ z. z)
      (λ one. absurd (let h = others_higher k small (same ∙ one) in omega arith))
      (digit_cases word k)

-- the members that word `at` of a set stands for
abbrev pub in_word : ℕ → ℕ → Set
in_word at word u = eqb (u / 64) at && eqb (digit word (u % 64)) 1

-- of another word
pub off_word : (at word u : ℕ) → (u / 64 ≡ at → ⊥) → in_word at word u ≡ false
off_word at word u d = ap (λ (b : Bool). b && eqb (digit word (u % 64)) 1) (ne_eqb (u / 64) at d)

pub in_word_lem : (at word u : ℕ) → u / 64 ≡ at → in_word at word u ≡ eqb (digit word (u % 64)) 1
in_word_lem at word u e = ap (λ (b : Bool). b && eqb (digit word (u % 64)) 1) (eq-eqb (u / 64) at e)

pub word_none : (at u : ℕ) → in_word at 0 u ≡ false
word_none at u = ap (λ (x : ℕ). eqb (u / 64) at && eqb x 1) (digit_zero (u % 64)) ∙ nothing (eqb (u / 64) at)
  where
    nothing : (b : Bool) → (b && false) ≡ false
    nothing true = refl
    nothing false = refl

module _ (at word : ℕ) (fits : word < 2 ^ 64) (some : word ≡ 0 → ⊥) where
  abbrev low : ℕ
  low = lowest_of word

  abbrev v : ℕ
  v = 64 * at + low

  low_small : low < 64
  low_small = lowest_small word fits some

  pub first_member : in_word at word v ≡ true
  first_member =
      in_word_lem at word v (omega (arith, low_small)) ∙
      eq-eqb (digit word (v % 64)) 1 (ap (digit word) place ∙ lowest_set word fits some)
    where
      place : v % 64 ≡ low
      place = omega (arith, low_small)

  pub first_lowest : (u : ℕ) → u < v → in_word at word u ≡ false
  first_lowest u l = go (ℕ_discrete (u / 64) at)
    where
      go : Dec (u / 64 ≡ at) → in_word at word u ≡ false
      go (yes e) =
          in_word_lem at word u e ∙
          ap (λ (x : ℕ). eqb x 1) (below_lowest word fits some (u % 64) (omega arith))
      go (no d) = off_word at word u d

  -- the others are the members but the lowest
  pub first_gone : (u : ℕ) → in_word at (others word) u ≡ cond (eqb u v) false (in_word at word u)
  first_gone u = go (ℕ_discrete u v) (ℕ_discrete (u / 64) at)
    where
      go : Dec (u ≡ v) → Dec (u / 64 ≡ at) → in_word at (others word) u ≡ cond (eqb u v) false (in_word at word u)
      go (yes e) w =
          in_word_lem at (others word) u (omega (arith, low_small)) ∙
          ap (λ (k : ℕ). eqb (digit (others word) k) 1) place ∙
          ap (λ (x : ℕ). eqb x 1) (lowest_gone word fits some) ∙
          ap (λ (b : Bool). cond b false (in_word at word u)) (sym (eq-eqb u v e))
        where
          place : u % 64 ≡ low
          place = omega (arith, low_small)
      go (no d) (yes w) =
          in_word_lem at (others word) u w ∙
          ap (λ (x : ℕ). eqb x 1) (others_same word fits some (u % 64) (omega arith) (λ e. d (omega arith))) ∙
          sym (in_word_lem at word u w) ∙
          ap (λ (b : Bool). cond b false (in_word at word u)) (sym (ne_eqb u v d))
      go (no d) (no w) =
          off_word at (others word) u w ∙
          sym (off_word at word u w) ∙
          ap (λ (b : Bool). cond b false (in_word at word u)) (sym (ne_eqb u v d))
