-- What the operations make of a layer: the laws that answer their contracts, and those that callers use.
use Rattle.std.specs.Prelude.{Bool, true, false, ◌||◌, cond, List, ◌≡◌, refl, ℕ, ◌+◌, ◌-◌, ◌*◌, ◌/◌, ◌%◌, ◌^◌, ◌≤◌, ◌<◌, length, take, set}
use Rattle.std.proofs.Math.Bool.{or-false}
use Rattle.std.proofs.Math.Logic.{⊎_elim}
use Rattle.std.proofs.Math.Path.{sym, ap}
use Rattle.std.proofs.Common.{◌∙◌, arith, eq-eqb, ne_eqb, length-set, length-take, get_or-set_same, get_or-set_other}
use Rattle.std.proofs.Math.Decide.{ℕ_discrete}
use Rattle.std.specs.Int.Bits.{bit_or}
use Rattle.std.proofs.Math.Dec.{eqb}
use Rattle.std.proofs.Math.ListN.{get_or}
use Rattle.rules.specs.Words.{digit, bit, set_of}
use Rattle.basics.specs.Basics.{lt_or_ge, clash}
use Rattle.sets.specs.Digits.{digit_zero}
use Rattle.sets.specs.Laws.{bit_past, bit_take, bit_other, put_set}
use Rattle.sets.specs.Single.{digit_insert, put_insert}
use Rattle.layer.specs.Lowest.{others, lowest_of, others_higher, others_same, below_lowest, lowest_small, lowest_set}
use Rattle.layer.specs.Lowest.{in_word, in_word_lem, off_word}
use Rattle.layer.specs.Layer.{room, marks, in_layer, LentLayer, Layer, Addable, Added, Poppable, Popped}

-- ---- members by their words

layer_past : (xs : List ℕ) (u : ℕ) → 64 * room xs ≤ u → in_layer xs u ≡ false
layer_past xs u h = bit_other (take (room xs) xs) u (bit_past (take (room xs) xs) u (omega (arith, length-take (room xs) xs)))

layer_bit : (xs : List ℕ) (u : ℕ) → u < 64 * room xs → in_layer xs u ≡ set_of xs u
unfolding set_of
layer_bit xs u h = ap (λ (x : ℕ). eqb x 1) (bit_take (room xs) xs u h)

-- a bit by its word
set_word : (xs ys : List ℕ) (u : ℕ) → get_or xs (u / 64) 0 ≡ get_or ys (u / 64) 0 → set_of xs u ≡ set_of ys u
unfolding set_of bit
set_word xs ys u e = ap (λ (x : ℕ). eqb (digit x (u % 64)) 1) e

-- a word of 0 has no bit
bit_blank : (xs : List ℕ) (u : ℕ) → get_or xs (u / 64) 0 ≡ 0 → bit xs u ≡ 0
unfolding bit
bit_blank xs u e = ap (λ (x : ℕ). digit x (u % 64)) e ∙ digit_zero (u % 64)

-- two layers whose words are alike but at the place of v, where a digit changes
alike :
    (xs ys : List ℕ) (v : ℕ) (t : Bool) →
    length ys ≡ length xs →
    v < 64 * room xs →
    ((u : ℕ) → u < 64 * room xs → set_of ys u ≡ cond (eqb u v) t (set_of xs u)) →
    (u : ℕ) → in_layer ys u ≡ cond (eqb u v) t (in_layer xs u)
alike xs ys v t long small h u = ⊎_elim below past (lt_or_ge u (64 * room xs))
  where
    below : u < 64 * room xs → in_layer ys u ≡ cond (eqb u v) t (in_layer xs u)
    below l =
        layer_bit ys u (omega arith) ∙ h u l ∙ ap (λ (b : Bool). cond (eqb u v) t b) (sym (layer_bit xs u l))

    past : 64 * room xs ≤ u → in_layer ys u ≡ cond (eqb u v) t (in_layer xs u)
    past l =
        layer_past ys u (omega arith) ∙
        sym (layer_past xs u l) ∙
        ap (λ (b : Bool). cond b t (in_layer xs u)) (sym (ne_eqb u v (λ e. omega arith)))

-- ---- one member more

module _ (xs : List ℕ) (v : ℕ) (given : Addable v xs) where
  abbrev s : ℕ
  s = room xs

  -- the word of v with its digit, and then the marks with the word's
  abbrev bigger : ℕ
  bigger = bit_or (get_or xs (v / 64) 0) ((1 * 2 ^ (v % 64)) % 2 ^ 64)

  abbrev put_in : List ℕ
  put_in = set xs (v / 64) bigger

  abbrev added_marks : ℕ
  added_marks = bit_or (get_or put_in s 0) ((1 * 2 ^ (v / 64)) % 2 ^ 64)

  abbrev added : List ℕ
  added = set put_in s added_marks

  pub word_below : v / 64 < s
  word_below = omega (arith, given.small)

  added_long : length added ≡ length xs
  added_long = length-set put_in s added_marks ∙ length-set xs (v / 64) bigger

  old_marks : get_or put_in s 0 ≡ marks xs
  old_marks = get_or-set_other xs (v / 64) s bigger 0 (λ e. omega (arith, word_below))

  marks_digit : (i : ℕ) → digit (marks added) i ≡ cond (eqb i (v / 64)) 1 (digit (marks xs) i)
  marks_digit i =
      ap (λ (k : ℕ). digit (get_or added (k - 1) 0) i) added_long ∙
      ap (λ (x : ℕ). digit x i)
      (get_or-set_same put_in s added_marks 0 (omega (arith, length-set xs (v / 64) bigger, given.layer.lent.some))) ∙
      digit_insert (get_or put_in s 0) (v / 64) i (omega (arith, word_below, given.layer.lent.few)) ∙
      ap (λ (x : ℕ). cond (eqb i (v / 64)) 1 (digit x i)) old_marks

  word_here : get_or added (v / 64) 0 ≡ bigger
  word_here =
      get_or-set_other put_in s (v / 64) added_marks 0 (λ e. omega (arith, word_below)) ∙
      get_or-set_same xs (v / 64) bigger 0 (omega (arith, word_below))

  word_there : (i : ℕ) → i < s → (i ≡ v / 64 → ⊥) → get_or added i 0 ≡ get_or xs i 0
  word_there i l d =
      get_or-set_other put_in s i added_marks 0 (λ e. omega arith) ∙ get_or-set_other xs (v / 64) i bigger 0 d

  here_some : get_or added (v / 64) 0 ≡ 0 → ⊥
  here_some z =
      let one = digit_insert (get_or xs (v / 64) 0) (v % 64) (v % 64) (omega arith) in
      let is : cond (eqb (v % 64) (v % 64)) 1 (digit (get_or xs (v / 64) 0) (v % 64)) ≡ 1 = rw (eq-eqb (v % 64) (v % 64) refl) in
      let none = ap (λ (x : ℕ). digit x (v % 64)) (sym word_here ∙ z) ∙ digit_zero (v % 64) in
      omega arith

  pub layer_added : Added v xs added
  layer_added =
      record {
        long = added_long;
        set = alike xs added v true added_long given.small bits;
        layer =
            record {
              lent =
                  record {
                    some = omega (arith, added_long, given.layer.lent.some);
                    few = omega (
                      arith,
                      added_long,
                      given.layer.lent.few,
                    );
                  };
              marked = λ i l e. marked_at i l e (ℕ_discrete i (v / 64));
              blank = λ i l e. blank_at i l e (ℕ_discrete i (v / 64));
            };
      }
    where
      same_word : (u : ℕ) → u < 64 * s → set_of added u ≡ set_of put_in u
      same_word u l =
          set_word added put_in u (get_or-set_other put_in s (u / 64) added_marks 0 (λ e. omega arith))

      bits : (u : ℕ) → u < 64 * s → set_of added u ≡ cond (eqb u v) true (set_of xs u)
      bits u l = same_word u l ∙ put_set v 1 xs put_in (put_insert xs v (omega (arith, given.small))) u

      marked_at : (i : ℕ) → i < 64 → digit (marks added) i ≡ 1 → Dec (i ≡ v / 64) → (i < room added) × (get_or added i 0 ≡ 0 → ⊥)
      marked_at i l e (yes is) = (
        omega (arith, added_long, word_below),
        λ z. here_some (ap (λ (k : ℕ). get_or added k 0) (sym is)
            ∙ z),
      )
      marked_at i l e (no d) =
          let old = sym (ap (λ (b : Bool). cond b 1 (digit (marks xs) i)) (ne_eqb i (v / 64) d)) ∙ sym (marks_digit i) ∙ e in
          let (less, some) = given.layer.marked i l old in
          (omega (arith, added_long), λ z. some (sym (word_there i less d) ∙ z))

      blank_at : (i : ℕ) → i < room added → digit (marks added) i ≡ 0 → Dec (i ≡ v / 64) → get_or added i 0 ≡ 0
      blank_at i l e (yes is) =
          absurd (let one = marks_digit i ∙ ap (λ (b : Bool). cond b 1 (digit (marks xs) i)) (eq-eqb i (v / 64) is)
          in omega arith)
      blank_at i l e (no d) =
          let old = sym (ap (λ (b : Bool). cond b 1 (digit (marks xs) i)) (ne_eqb i (v / 64) d)) ∙ sym (marks_digit i) ∙ e in
          let less : i < s = omega (arith, added_long) in
          word_there i less d ∙ given.layer.blank i less old

-- ---- the lowest word out

module _ (xs : List ℕ) (given : Poppable xs) (marks_fit : marks xs < 2 ^ 64) where
  abbrev pub at : ℕ
  at = lowest_of (marks xs)

  pub at_small : at < 64
  at_small = lowest_small (marks xs) marks_fit given.some

  -- a word whose digit in the marks is 1
  marked_here : (at < room xs) × (get_or xs at 0 ≡ 0 → ⊥)
  marked_here = given.layer.marked at at_small (lowest_set (marks xs) marks_fit given.some)

  pub at_below : at < room xs
  at_below = marked_here.0

  abbrev word : ℕ
  word = get_or xs at 0

  -- words below have none
  word_lower : (j : ℕ) → j < at → get_or xs j 0 ≡ 0
  word_lower j l =
      given.layer.blank j (omega (arith, at_below)) (below_lowest (marks xs) marks_fit given.some j l)

  abbrev emptied : List ℕ
  emptied = set xs at 0

  abbrev less : List ℕ
  less = set emptied (room xs) (others (marks xs))

  less_long : length less ≡ length xs
  less_long = length-set emptied (room xs) (others (marks xs)) ∙ length-set xs at 0

  less_here : get_or less at 0 ≡ 0
  less_here =
      get_or-set_other emptied (room xs) at (others (marks xs)) 0 (λ e. omega (arith, at_below)) ∙
      get_or-set_same xs at 0 0 (omega (arith, at_below))

  less_there : (j : ℕ) → j < room xs → (j ≡ at → ⊥) → get_or less j 0 ≡ get_or xs j 0
  less_there j l d =
      get_or-set_other emptied (room xs) j (others (marks xs)) 0 (λ e. omega arith) ∙ get_or-set_other xs at j 0 0 d

  less_marks : marks less ≡ others (marks xs)
  less_marks =
      ap (λ (k : ℕ). get_or less (k - 1) 0) less_long ∙
      get_or-set_same emptied (room xs) (others (marks xs)) 0 (omega (arith, length-set xs at 0, given.layer.lent.some))

  less_set : (u : ℕ) → in_layer xs u ≡ (in_word at word u || in_layer less u)
  unfolding set_of bit
  less_set u = ⊎_elim (λ l. below l (ℕ_discrete (u / 64) at)) past (lt_or_ge u (64 * room xs))
    where
      below : u < 64 * room xs → Dec (u / 64 ≡ at) → in_layer xs u ≡ (in_word at word u || in_layer less u)
      below l (yes e) =
          layer_bit xs u l ∙
          ap (λ (i : ℕ). eqb (digit (get_or xs i 0) (u % 64)) 1) e ∙
          sym (in_word_lem at word u e) ∙
          sym (or-false (in_word at word u)) ∙
          ap (λ (b : Bool). in_word at word u || b)
          (sym (layer_bit less u (omega (arith, less_long)) ∙ bit_other less u (bit_blank less u (ap (λ (i : ℕ). get_or less i 0) e ∙
          less_here))))
      below l (no d) =
          layer_bit xs u l ∙
          set_word xs less u (sym (less_there (u / 64) (omega arith) d)) ∙
          sym (layer_bit less u (omega (arith, less_long))) ∙
          ap (λ (b : Bool). b || in_layer less u) (sym (off_word at word u d))

      past : 64 * room xs ≤ u → in_layer xs u ≡ (in_word at word u || in_layer less u)
      past l =
          layer_past xs u l ∙
          sym (layer_past less u (omega (arith, less_long))) ∙
          ap (λ (b : Bool). b || in_layer less u) (sym (off_word at word u (λ e. omega (arith, at_below))))

  less_higher : (u : ℕ) → in_layer less u ≡ true → 64 * at + 64 ≤ u
  less_higher u p = ⊎_elim (λ l. absurd (clash p (none l (ℕ_discrete (u / 64) at)))) (λ l. l) (lt_or_ge u (64 * at + 64))
    where
      none : u < 64 * at + 64 → Dec (u / 64 ≡ at) → in_layer less u ≡ false
      none l w =
          layer_bit less u (omega (arith, less_long, at_below)) ∙ bit_other less u (bit_blank less u (blank w))
        where
          blank : Dec (u / 64 ≡ at) → get_or less (u / 64) 0 ≡ 0
          blank (yes e) = ap (λ (i : ℕ). get_or less i 0) e ∙ less_here
          blank (no d) = less_there (u / 64) (omega (arith, at_below)) d ∙ word_lower (u / 64) (omega (arith, d))

  pub layer_popped : Popped at word xs less
  layer_popped =
      record {
        long = less_long;
        small = at_small;
        some = marked_here.1;
        set = less_set;
        higher = less_higher;
        layer =
            record {
              lent =
                  record {
                    some = omega (arith, less_long, given.layer.lent.some);
                    few = omega (
                      arith,
                      less_long,
                      given.layer.lent.few,
                    );
                  };
              marked = λ j l e. marked_at j l (ap (λ (x : ℕ). digit x j) (sym less_marks) ∙ e);
              blank = λ j l e. blank_at j (omega (arith, less_long)) (ap (λ (x : ℕ). digit x j) (sym less_marks) ∙ e)
                  (ℕ_discrete j at);
            };
      }
    where
      marked_at : (j : ℕ) → j < 64 → digit (others (marks xs)) j ≡ 1 → (j < room less) × (get_or less j 0 ≡ 0 → ⊥)
      marked_at j l e =
          let higher = others_higher (marks xs) marks_fit given.some j l e in
          let apart : j ≡ at → ⊥ = λ z. omega arith in
          let (below, some) =
          given.layer.marked j l (sym (others_same (marks xs) marks_fit given.some j l apart) ∙ e) in
          (omega (arith, less_long), λ z. some (sym (less_there j below apart) ∙ z))

      blank_at : (j : ℕ) → j < room xs → digit (others (marks xs)) j ≡ 0 → Dec (j ≡ at) → get_or less j 0 ≡ 0
      blank_at j l e (yes is) = ap (λ (k : ℕ). get_or less k 0) is ∙ less_here
      blank_at j l e (no d) =
          less_there j l d ∙
          given.layer.blank j l
          (sym (others_same (marks xs) marks_fit given.some j (omega (arith, given.layer.lent.few)) d) ∙ e)

-- ---- for callers

-- a layer of zeros
pub zeros_layer : (xs : List ℕ) → LentLayer xs → ((i : ℕ) → i < length xs → get_or xs i 0 ≡ 0) → Layer xs
zeros_layer xs lent zeros =
    record {
      lent = lent;
      marked = λ i l e. absurd (let z = ap (λ (x : ℕ). digit x i) none ∙ digit_zero i in omega arith);
      blank = λ i l e. zeros i (omega arith);
    }
  where
    none : marks xs ≡ 0
    none = zeros (room xs) (omega (arith, lent.some))

-- where no word is marked the layer is empty
pub unmarked_empty : (xs : List ℕ) → Layer xs → marks xs ≡ 0 → (u : ℕ) → in_layer xs u ≡ false
unmarked_empty xs layer none u = ⊎_elim below (λ l. layer_past xs u l) (lt_or_ge u (64 * room xs))
  where
    below : u < 64 * room xs → in_layer xs u ≡ false
    below l =
        layer_bit xs u l ∙
        bit_other xs u
        (bit_blank xs u (layer.blank (u / 64) (omega arith) (ap (λ (x : ℕ). digit x (u / 64)) none ∙ digit_zero (u / 64))))
