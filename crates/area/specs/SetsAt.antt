-- The set that stands at a base of the work area, after each operation on words: a set whose words are kept is the same, and a
-- set that was copied, united, cleared or taken away is what the operation says.
use Rattle.std.specs.Prelude.{Bool, true, false, ◌&&◌, ◌||◌, not, List, ◌⊎◌, ◌≡◌, refl, ℕ, ◌+◌, ◌-◌, ◌*◌, ◌/◌, ◌%◌, ◌≤◌, ◌<◌, max, get_or, drop}
use Rattle.std.proofs.Common.{inl, inr, ap₂, ◌∙◌, add-zero, arith, length-take}
use Rattle.std.proofs.Math.Path.{sym, ap}
use Rattle.std.proofs.Math.Dec.{eqb}
use Rattle.rules.specs.Counting.{Set}
use Rattle.rules.specs.Tables.{words}
use Rattle.rules.specs.Words.{digit, set_of}
use Rattle.basics.specs.Basics.{clash, lt_or_ge}
use Rattle.sets.specs.After.{Combined, Cleared, other}
use Rattle.sets.specs.Digits.{digit_zero}
use Rattle.sets.specs.Laws.{bit_take, bit_drop, bit_past, bit_other, union_set, difference_set}
use Rattle.area.specs.Area.{words_at, set_at}

module _ (n base : ℕ) (work : List ℕ) where
  -- a bit of the set, by its word
  pub set_word : (v : ℕ) → v < 64 * words n → set_at n base work v ≡ eqb (digit (get_or work (base + v / 64) 0) (v % 64)) 1
  unfolding set_of
  set_word v h = ap (λ (x : ℕ). eqb x 1) (bit_take (words n) (drop base work) v h ∙ bit_drop base work v)

  -- and by the words from the base on
  pub set_part : (v : ℕ) → v < 64 * words n → set_at n base work v ≡ set_of (drop base work) v
  unfolding set_of
  set_part v h = ap (λ (x : ℕ). eqb x 1) (bit_take (words n) (drop base work) v h)

  -- no bit past the last word
  pub set_past : (v : ℕ) → 64 * words n ≤ v → set_at n base work v ≡ false
  set_past v h =
      bit_other (words_at n base work) v
      (bit_past (words_at n base work) v (omega (arith, length-take (words n) (drop base work))))

  -- a member is below 64 times the number of words
  pub set_inside : (v : ℕ) → set_at n base work v ≡ true → v < 64 * words n
  set_inside v p = go (lt_or_ge v (64 * words n))
    where
      go : (v < 64 * words n) ⊎ (64 * words n ≤ v) → v < 64 * words n
      go (inl l) = l
      go (inr h) = absurd (clash p (set_past v h))

-- what holds of each place of the words of two sets holds everywhere
by_words :
    (n : ℕ) (S T : Set) →
    ((v : ℕ) → v < 64 * words n → S v ≡ T v) →
    ((v : ℕ) → 64 * words n ≤ v → S v ≡ false) →
    ((v : ℕ) → 64 * words n ≤ v → T v ≡ false) →
    (v : ℕ) →
    S v ≡ T v
by_words n S T inside past past' v = go (lt_or_ge v (64 * words n))
  where
    go : (v < 64 * words n) ⊎ (64 * words n ≤ v) → S v ≡ T v
    go (inl l) = inside v l
    go (inr h) = past v h ∙ sym (past' v h)

-- a set whose words are kept
pub set_kept :
    (n base : ℕ) (before after : List ℕ) →
    ((i : ℕ) → base ≤ i → i < base + words n → get_or after i 0 ≡ get_or before i 0) →
    (v : ℕ) →
    set_at n base after v ≡ set_at n base before v
set_kept n base before after same =
    by_words n (set_at n base after) (set_at n base before)
    (λ v l.
    set_word n base after v l ∙
    ap (λ (x : ℕ). eqb (digit x (v % 64)) 1) (same (base + v / 64) (omega arith) (omega arith)) ∙
    sym (set_word n base before v l))
    (set_past n base after)
    (set_past n base before)

-- a set whose words are 0
pub set_zeros :
    (n base : ℕ) (work : List ℕ) →
    ((i : ℕ) → base ≤ i → i < base + words n → get_or work i 0 ≡ 0) →
    (v : ℕ) →
    set_at n base work v ≡ false
set_zeros n base work zeros =
    by_words n (set_at n base work) (λ v. false)
    (λ v l.
    set_word n base work v l ∙
    ap (λ (x : ℕ). eqb (digit x (v % 64)) 1) (zeros (base + v / 64) (omega arith) (omega arith)) ∙
    ap (λ (x : ℕ). eqb x 1) (digit_zero (v % 64)))
    (set_past n base work)
    (λ v h. refl)

-- a set whose words are cleared
pub set_cleared :
    (n at s base : ℕ) {before after : List ℕ} →
    Cleared at s before after →
    at ≤ base →
    base + words n ≤ at + s →
    (v : ℕ) →
    set_at n base after v ≡ false
set_cleared n at s base {after} c low high =
    set_zeros n base after (λ i l h. c.zeros i (omega arith) (omega arith))

-- the set at an offset of k words
offset_set : (base k : ℕ) (xs : List ℕ) (v : ℕ) → set_of (drop (base + k) xs) v ≡ set_of (drop base xs) (64 * k + v)
unfolding set_of
offset_set base k xs v =
    let place : base + k + v / 64 ≡ base + (64 * k + v) / 64 = omega arith in
    let same : v % 64 ≡ (64 * k + v) % 64 = omega arith in
    ap (λ (x : ℕ). eqb x 1)
    (bit_drop (base + k) xs v ∙
    ap₂ (λ (i j : ℕ). digit (get_or xs i 0) j) place same ∙
    sym (bit_drop base xs (64 * k + v)))

module _ (n into from s : ℕ) (before after : List ℕ) where
  -- a set that was copied, k words from where the copy begins
  pub set_copied :
      Combined other into from s before after →
      (k : ℕ) →
      k + words n ≤ s →
      (v : ℕ) →
      set_at n (into + k) after v ≡ set_at n (from + k) before v
  unfolding set_of
  set_copied c k room =
      by_words n (set_at n (into + k) after) (set_at n (from + k) before)
      (λ v l.
      set_part n (into + k) after v l ∙
      offset_set into k after v ∙
      moved (64 * k + v) (omega arith) ∙
      sym (offset_set from k before v) ∙
      sym (set_part n (from + k) before v l))
      (set_past n (into + k) after)
      (set_past n (from + k) before)
    where
      moved : (v : ℕ) → v < 64 * s → set_of (drop into after) v ≡ set_of (drop from before) v
      moved v l = ap (λ (x : ℕ). eqb x 1) (c.bits v l)

module _ (n into from : ℕ) (before after : List ℕ) where
  pub set_copied_here : Combined other into from (words n) before after → (v : ℕ) → set_at n into after v ≡ set_at n from before v
  set_copied_here c v =
      ap (λ (k : ℕ). set_at n k after v) (sym (add-zero into)) ∙
      set_copied n into from (words n) before after c 0 (omega arith) v ∙
      ap (λ (k : ℕ). set_at n k before v) (add-zero from)

  -- a set that another was united with
  pub set_united :
      Combined max into from (words n) before after →
      (v : ℕ) →
      set_at n into after v ≡ (set_at n into before v || set_at n from before v)
  set_united c =
      by_words n (set_at n into after) (λ v. set_at n into before v || set_at n from before v)
      (λ v l.
      set_part n into after v l ∙
      union_set into from (words n) before after c v l ∙
      ap₂ (λ (x y : Bool). x || y) (sym (set_part n into before v l)) (sym (set_part n from before v l)))
      (set_past n into after)
      (λ v h. ap₂ (λ (x y : Bool). x || y) (set_past n into before v h) (set_past n from before v h))

  -- a set that another was taken from
  pub set_reduced :
      Combined ◌-◌ into from (words n) before after →
      (v : ℕ) →
      set_at n into after v ≡ (set_at n into before v && not (set_at n from before v))
  set_reduced c =
      by_words n (set_at n into after) (λ v. set_at n into before v && not (set_at n from before v))
      (λ v l.
      set_part n into after v l ∙
      difference_set into from (words n) before after c v l ∙
      ap₂ (λ (x y : Bool). x && not y) (sym (set_part n into before v l)) (sym (set_part n from before v l)))
      (set_past n into after)
      (λ v h. ap₂ (λ (x y : Bool). x && not y) (set_past n into before v h) (set_past n from before v h))
