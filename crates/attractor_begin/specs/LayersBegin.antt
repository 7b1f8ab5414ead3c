-- The layers at first: the target stands in the first one, marked, and the second is empty, as are the words of those met.
use Rattle.std.specs.Prelude.{false, List, ◌≡◌, refl, ℕ, ◌+◌, ◌-◌, ◌*◌, ◌%◌, ◌^◌, ◌≤◌, ◌<◌, length, get_or, take, drop, set}
use Rattle.std.proofs.Common.{inl, inr, ⊎_elim, sym, ap, subst, subst₂, ◌∙◌, arith, length-set, length-take, ext_get_or, get_or-take, get_or-drop, get_or-set_same, get_or-set_other}
use Rattle.std.proofs.Math.Decide.{ℕ_discrete}
use Rattle.std.specs.Int.Bits.{bit_or}
use Rattle.rules.specs.Words.{set_of}
use Rattle.basics.specs.Frame.{Beside, Unchanged}
use Rattle.area.specs.Lent.{part_length}
use Rattle.area.specs.Walked.{word_of}
use Rattle.layer.specs.Layer.{LentLayer, Layer, in_layer, room, marks}
use Rattle.layer.specs.Laws.{zeros_layer, unmarked_empty}
use Rattle.attractor_begin.specs.Marking.{Marking, marking_none, marking_word, marking_zero, marking_layer}

-- what `begin_layers` asks for: room for two layers and those met before the set
pub record LayersBeginnable (first set s : ℕ) (work : List ℕ) : Type 0 where
  pub few : s ≤ 64
  pub before_set : first + 2 * (s + 1) + s ≤ set
  pub high : set + s ≤ length work

-- s words and one more
abbrev pub layer_of : ℕ → ℕ → List ℕ → List ℕ
layer_of s base work = take (s + 1) (drop base work)

-- what it leaves
pub record LayersBegun (first set s : ℕ) (before after : List ℕ) : Type 0 where
  pub long : length after ≡ length before
  pub rest : Unchanged (Beside (2 * (s + 1) + s) first) before after
  pub layer : Layer (layer_of s first after)
  pub is : in_layer (layer_of s first after) ≡ set_of (take s (drop set before))
  pub next_layer : Layer (layer_of s (first + s + 1) after)
  pub next_none : (u : ℕ) → in_layer (layer_of s (first + s + 1) after) u ≡ false
  pub unmet : (i : ℕ) → first + 2 * (s + 1) ≤ i → i < first + 2 * (s + 1) + s → get_or after i 0 ≡ 0

-- where the second layer and those met stand, and the words of all
abbrev next_at : ℕ → ℕ → ℕ
next_at first s = first + s + 1

abbrev met_at : ℕ → ℕ → ℕ
met_at first s = next_at first s + s + 1

abbrev room_for : ℕ → ℕ
room_for s = 2 * (s + 1) + s

-- ---- words that are stored

-- a word stored in a part leaves those beside it
stored_inside :
    {at j : ℕ} (k place x : ℕ) (work : List ℕ) →
    at ≤ place →
    place < at + k →
    Beside k at j →
    get_or (set work place x) j 0 ≡ get_or work j 0
stored_inside {at} {j} k place x work low high o =
    get_or-set_other work place j x 0 (λ e. ⊎_elim (λ l. omega arith) (λ l. omega arith) o)

-- k words that stand at a place
pub record Stand (at k : ℕ) (word : ℕ → ℕ) (work : List ℕ) : Type 0 where
  pub is : (j : ℕ) → j < k → get_or work (at + j) 0 ≡ word j

-- they stay where another word is stored
stored_beside :
    {at k : ℕ} {word : ℕ → ℕ} {work : List ℕ} (place x : ℕ) →
    Beside k at place →
    Stand at k word work →
    Stand at k word (set work place x)
stored_beside {at} {k} {word} {work} place x o h =
    record {
      is = λ j l. get_or-set_other work place (at + j) x 0 (λ e. ⊎_elim (λ b. omega arith) (λ b. omega arith) o) ∙ h.is j l;
    }

-- one word more
stored_next :
    {at k : ℕ} {word : ℕ → ℕ} {work : List ℕ} (x : ℕ) →
    at + k < length work →
    x ≡ word k →
    Stand at k word work →
    Stand at (k + 1) word (set work (at + k) x)
stored_next {at} {k} {word} {work} x fits new h = record { is = λ j l. go j l (ℕ_discrete j k) }
  where
    go : (j : ℕ) → j < k + 1 → Dec (j ≡ k) → get_or (set work (at + k) x) (at + j) 0 ≡ word j
    go j l (yes e) =
        ap (λ (i : ℕ). get_or (set work (at + k) x) (at + i) 0) e ∙ get_or-set_same work (at + k) x 0 fits ∙ new ∙ ap word (sym e)
    go j l (no d) = get_or-set_other work (at + k) (at + j) x 0 (λ e. d (omega arith)) ∙ h.is j (omega (arith, d))

-- ---- one word after another

-- so far: i words of the target with their marks, and as many of 0 in the second layer and of those met
pub record Beginning (first target s i so_far : ℕ) (before work : List ℕ) : Type 0 where
  pub within : i ≤ s
  pub long : length work ≡ length before
  pub rest : Unchanged (Beside (room_for s) first) before work
  pub copied : Stand first i (word_of target before) work
  pub second : Stand (next_at first s) i (λ j. 0) work
  pub met : Stand (met_at first s) i (λ j. 0) work
  pub marking : Marking (word_of target before) so_far i

pub beginning_none : {first target s : ℕ} {work : List ℕ} → Beginning first target s 0 0 work work
beginning_none =
    record {
      within = omega arith;
      long = refl;
      rest = λ j o. refl;
      copied = record { is = λ j l. absurd (omega arith) };
      second = record { is = λ j l. absurd (omega arith) };
      met = record { is = λ j l. absurd (omega arith) };
      marking = marking_none;
    }

module _ {first target s i so_far : ℕ} {before work : List ℕ} (given : LayersBeginnable first target s before)
    (b : Beginning first target s i so_far before work) (more : i < s)
  where
    -- the target's words are as they were
    read : word_of target work i ≡ word_of target before i
    read = b.rest (target + i) (inr (omega (arith, given.before_set)))

    abbrev one : List ℕ
    one = set work (first + i) (word_of target work i)

    abbrev two : List ℕ
    two = set one (next_at first s + i) 0

    abbrev three : List ℕ
    three = set two (met_at first s + i) 0

    one_long : length one ≡ length before
    one_long = length-set work (first + i) (word_of target work i) ∙ b.long

    two_long : length two ≡ length before
    two_long = length-set one (next_at first s + i) 0 ∙ one_long

    more_words :
        (so-far' : ℕ) →
        Marking (word_of target before) so-far' (i + 1) →
        Beginning first target s (i + 1) so-far' before three
    more_words so-far' marking =
        record {
          within = omega arith;
          long = length-set two (met_at first s + i) 0 ∙ two_long;
          rest =
              λ j o.
              stored_inside (room_for s) (met_at first s + i) 0 two (omega arith) (omega arith) o ∙
              stored_inside (room_for s) (next_at first s + i) 0 one (omega arith) (omega arith) o ∙
              stored_inside (room_for s) (first + i) (word_of target work i) work (omega arith) (omega arith) o ∙
              b.rest j o;
          copied =
              stored_beside (met_at first s + i) 0 (inr (omega arith))
              (stored_beside (next_at first s + i) 0 (inr (omega arith))
              (stored_next (word_of target work i) (omega (arith, b.long, given.before_set, given.high)) read b.copied));
          second =
              stored_beside (met_at first s + i) 0 (inr (omega arith))
              (stored_next 0 (omega (arith, one_long, given.before_set, given.high)) refl
              (stored_beside (first + i) (word_of target work i) (inl (omega arith)) b.second));
          met =
              stored_next 0 (omega (arith, two_long, given.before_set, given.high)) refl
              (stored_beside (next_at first s + i) 0 (inl (omega arith))
              (stored_beside (first + i) (word_of target work i) (inl (omega arith)) b.met));
          marking = marking;
        }

    pub more_some :
        (word_of target work i ≡ 0 → ⊥) → Beginning first target s (i + 1) (bit_or so_far ((1 * 2 ^ i) % 2 ^ 64)) before three
    more_some some =
        more_words _ (marking_word (omega (arith, given.few)) b.marking (λ z. some (read ∙ z)))

    pub more_none : word_of target work i ≡ 0 → Beginning first target s (i + 1) so_far before three
    more_none none = more_words _ (marking_zero (omega (arith, given.few)) b.marking (sym read ∙ none))

-- ---- all words are passed

-- a word of a part
part_word : (k base i : ℕ) (work : List ℕ) → i < k → get_or (take k (drop base work)) i 0 ≡ get_or work (base + i) 0
part_word k base i work l = get_or-take k (drop base work) i 0 l ∙ get_or-drop base work i 0

module _ {first target s so_far : ℕ} {before work : List ℕ} (given : LayersBeginnable first target s before)
    (b : Beginning first target s s so_far before work)
  where
    abbrev marked : List ℕ
    marked = set work (first + s) so_far

    abbrev after : List ℕ
    after = set marked (next_at first s + s) 0

    marked_long : length marked ≡ length before
    marked_long = length-set work (first + s) so_far ∙ b.long

    after_long : length after ≡ length before
    after_long = length-set marked (next_at first s + s) 0 ∙ marked_long

    abbrev layer : List ℕ
    layer = layer_of s first after

    abbrev next_layer : List ℕ
    next_layer = layer_of s (next_at first s) after

    layer_long : length layer ≡ s + 1
    layer_long = part_length first (s + 1) after (omega (arith, after_long, given.before_set, given.high))

    next_long : length next_layer ≡ s + 1
    next_long = part_length (next_at first s) (s + 1) after (omega (arith, after_long, given.before_set, given.high))

    lent : (xs : List ℕ) → length xs ≡ s + 1 → LentLayer xs
    lent xs long = record { some = omega arith; few = omega (arith, given.few) }

    -- the first layer's words, and its marks
    layer_word : (j : ℕ) → j < s → get_or layer j 0 ≡ word_of target before j
    layer_word j l = part_word (s + 1) first j after (omega arith) ∙ stays.is j l
      where
        stays : Stand first s (word_of target before) after
        stays =
            stored_beside (next_at first s + s) 0 (inr (omega arith))
            (stored_beside (first + s) so_far (inr (omega arith)) b.copied)

    layer_room : room layer ≡ s
    layer_room = omega (arith, layer_long)

    layer_marks : marks layer ≡ so_far
    layer_marks =
        ap (λ (k : ℕ). get_or layer k 0) layer_room ∙
        part_word (s + 1) first s after (omega arith) ∙
        get_or-set_other marked (next_at first s + s) (first + s) 0 0 (λ e. omega arith) ∙
        get_or-set_same work (first + s) so_far 0 (omega (arith, b.long, given.before_set, given.high))

    layer_set : take (room layer) layer ≡ take s (drop target before)
    layer_set =
        ext_get_or 0 (take (room layer) layer) (take s (drop target before))
        (long ∙ sym (part_length target s before given.high))
        (λ j l.
        let less : j < s = omega (arith, long) in
        get_or-take (room layer) layer j 0 (omega (arith, layer_room)) ∙
        layer_word j less ∙
        sym (part_word s target j before less))
      where
        long : length (take (room layer) layer) ≡ s
        long = omega (arith, length-take (room layer) layer, layer_long)

    -- the second layer's words and its marks
    next_word : (j : ℕ) → j < s + 1 → get_or next_layer j 0 ≡ 0
    next_word j l = part_word (s + 1) (next_at first s) j after l ∙ cleared.is j l
      where
        cleared : Stand (next_at first s) (s + 1) (λ j. 0) after
        cleared =
            stored_next 0 (omega (arith, marked_long, given.before_set, given.high)) refl
            (stored_beside (first + s) so_far (inl (omega arith)) b.second)

    next_blank : Layer next_layer
    next_blank = zeros_layer next_layer (lent next_layer next_long) (λ j l. next_word j (omega (arith, next_long)))

    -- those met
    met_word : (j : ℕ) → j < s → get_or after (met_at first s + j) 0 ≡ 0
    met_word j l = stays.is j l
      where
        stays : Stand (met_at first s) s (λ j. 0) after
        stays =
            stored_beside (next_at first s + s) 0 (inl (omega arith))
            (stored_beside (first + s) so_far (inl (omega arith)) b.met)

    all_begun : LayersBegun first target s before after
    all_begun =
        record {
          long = after_long;
          rest =
              λ j o.
              stored_inside (room_for s) (next_at first s + s) 0 marked (omega arith) (omega arith) o ∙
              stored_inside (room_for s) (first + s) so_far work (omega arith) (omega arith) o ∙
              b.rest j o;
          layer =
              marking_layer layer (lent layer layer_long) (λ j l. layer_word j (omega (arith, layer_room)))
              (subst₂ (Marking (word_of target before)) (sym layer_marks) (sym layer_room) b.marking);
          is = ap set_of layer_set;
          next_layer = next_blank;
          next_none = unmarked_empty next_layer next_blank (next_word (room next_layer) (omega (arith, next_long)));
          unmet =
              λ j low high.
              let place : j ≡ met_at first s + (j - met_at first s) = omega arith in
              ap (λ (k : ℕ). get_or after k 0) place ∙ met_word (j - met_at first s) (omega arith);
        }

pub layers_begun :
    {first target s i so_far : ℕ} {before work : List ℕ} →
    LayersBeginnable first target s before →
    Beginning first target s i so_far before work →
    s ≤ i →
    LayersBegun first target s before (set (set work (first + s) so_far) (next_at first s + s) 0)
layers_begun {first} {target} {s} {i} {so_far} {before} {work} given b done =
    all_begun given (subst (λ (k : ℕ). Beginning first target s k so_far before work) (omega (arith, b.within)) b)
