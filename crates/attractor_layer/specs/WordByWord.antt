-- A layer, word by word: what holds before a word is popped lets it be popped and its members be taken, and holds again then.
use Rattle.std.specs.Prelude.{List, ◌++◌, ◌⊎◌, ◌≡◌, refl, ℕ, ◌+◌, ◌-◌, ◌*◌, ◌≤◌, ◌<◌, length, take, drop}
use Rattle.std.proofs.Common.{inl, inr, ⊎_elim, sym, ap, ap₂, subst, subst₂, ◌∙◌, le_refl, add-zero, add_assoc, arith}
use Rattle.std.proofs.Math.Path.{fun_ext}
use Rattle.rules.specs.Counting.{Set, count}
use Rattle.rules.specs.Game.{player_of}
use Rattle.rules.specs.Tables.{game_of, words, targets_of}
use Rattle.theory.specs.Steps.{at_first, Takes}
use Rattle.area.specs.Area.{distances, entries, layers, layer_words, met_at, set_at}
use Rattle.area.specs.Lent.{back, back_part}
use Rattle.layer.specs.Layer.{Layer, Poppable, Popped, in_layer, marks}
use Rattle.attractor_drawing.specs.Drawn.{Plan, inside, tables_with}
use Rattle.attractor_counters.specs.Counters.{own_of, counts_in}
use Rattle.attractor_look.specs.State.{State}
use Rattle.attractor_step.specs.Taking.{Standing, growing}
use Rattle.attractor_step.specs.Layers.{taken_of, LayersApart, Layered}
use Rattle.attractor_look.specs.InArea.{cells, layer_at, state_in}
use Rattle.attractor_look.specs.InAreaLaws.{Changes, back_changes, changes_cells}
use Rattle.attractor_look.specs.InAreaLaws.{changes_set, changes_layer, changes_counter, state_alike, layer_part, layer_long}
use Rattle.attractor_word.specs.Going.{Drawable, Going, now_at, taken_in, taken_at, this_low, this_high, layers_apart}
use Rattle.attractor_word.specs.OneWord.{From, Stands, Wordable, TookWord, with_word, left_none}
use Rattle.attractor_layer.specs.OneLayer.{LayerStands, layer_fits}

module _ {d : Plan} {this next far : ℕ} {before : List ℕ} {sofar taken₀ looks : ℕ} {after : List ℕ}
    (l : LayerStands d this next far before sofar taken₀ looks after) where
  abbrev n : ℕ
  n = length d.owners

  abbrev m : ℕ
  m = length d.targets

  abbrev V' : Set
  V' = inside d before

  abbrev T : Set
  T = set_at n d.set before

  abbrev own : Set
  own = own_of d

  abbrev counts : ℕ → ℕ
  counts = counts_in d before

  abbrev entry : ℕ → ℕ
  entry = cells n (entries n m) before

  abbrev given : Drawable d before
  given = l.given

  -- the looks of all layers
  abbrev all : ℕ
  all = sofar + looks

  abbrev c : Going d before this next far all (now_at n this after) after
  c = l.going

  abbrev state : State
  state = state_in d before next after

  abbrev now : Set
  now = now_at n this after

  abbrev taken : Set
  taken = taken_at n d.set this next after

  fits : this + layer_words n ≤ length after
  fits = layer_fits given c

  low_this : layers n m ≤ this
  low_this = this_low given c

  high_this : this + layer_words n ≤ met_at n m
  high_this = this_high given c

  next_apart : (next + layer_words n ≤ this) ⊎ (this + layer_words n ≤ next)
  next_apart =
      ⊎_elim (λ h. inr h) (λ h. inl h) (layers_apart given c)

  -- the lowest word of the layer is popped
  module _ {s : ℕ} (size : s ≡ words n) (more : marks (layer_at n this after) ≡ 0 → ⊥) {end : ℕ}
      (behind : end ≡ this + s + 1) where
    lent_is : take (end - this) (drop this after) ≡ layer_at n this after
    lent_is = layer_part n this after (omega arith)

    pub pop_ready : Poppable (take (end - this) (drop this after))
    pop_ready = subst Poppable (sym lent_is) (record { layer = c.layer; some = more })

    module _ {at word : ℕ} {ys : List ℕ} (popped' : Popped at word (take (end - this) (drop this after)) ys) where
      popped : Popped at word (layer_at n this after) ys
      popped = subst (λ (xs : List ℕ). Popped at word xs ys) lent_is popped'

      abbrev pub mid : List ℕ
      mid = take this after ++ (ys ++ drop (end - this) (drop this after))

      ys_long : length ys ≡ layer_words n
      ys_long = popped.long ∙ layer_long n this after fits

      is_back : mid ≡ back this (layer_words n) after ys
      is_back = ap (λ (k : ℕ). take this after ++ (ys ++ drop k (drop this after))) one_more
        where
          one_more : end - this ≡ (this + layer_words n) - this
          one_more = omega arith

      mid_changes : Changes this (layer_words n) after mid
      mid_changes = subst (Changes this (layer_words n) after) (sym is_back) (back_changes this (layer_words n)
          after ys fits ys_long)

      mid_layer : layer_at n this mid ≡ ys
      mid_layer = ap (λ (xs : List ℕ). layer_at n this xs) is_back ∙ back_part this (layer_words n) after ys fits ys_long

      mid_next : layer_at n next mid ≡ layer_at n next after
      mid_next = changes_layer mid_changes n next next_apart

      mid_state : state_in d before next mid ≡ state
      mid_state =
          state_alike
          (changes_set mid_changes n d.set (inr (omega (arith, high_this, given.placed.set_low))))
          (changes_counter mid_changes counts n m (inl (omega (arith, low_this))) (inr high_this))
          (changes_cells mid_changes n (distances n m) (inl (omega (arith, low_this))))
          (changes_cells mid_changes n (entries n m) (inl (omega (arith, low_this))))
          (ap in_layer mid_next)

      -- the members of the word are left, and what stands in the layer
      mid_left : now ≡ with_word at word (now_at n this mid)
      mid_left = fun_ext popped.set ∙ ap (λ (xs : List ℕ). with_word at word (in_layer xs)) (sym mid_layer)

      mid_taken : taken_in n d.set next (with_word at word (now_at n this mid)) mid ≡ taken
      mid_taken = ap₂ taken_of (sym mid_left) mid_state

      abbrev from : From
      from = record { before = before; this = this; looks = all; taken = count n taken }

      mid_going : Going d before this next far all (with_word at word (now_at n this mid)) mid
      mid_going =
          record {
            long = mid_changes.long ∙ c.long;
            table = λ i h. mid_changes.rest i (inl (omega (arith, low_this))) ∙ c.table i h;
            rest = λ i h o. mid_changes.rest i (inr (omega (arith, high_this))) ∙ c.rest i h o;
            sides = c.sides;
            layer = subst Layer (sym mid_layer) popped.layer;
            next_layer = subst Layer (sym mid_next) c.next_layer;
            parts = moved (λ (N : Set) (x : State). LayersApart N x) c.parts;
            stands =
                moved
                (λ (N : Set) (x : State). Standing n (targets_of d.offsets d.targets) V' T own (taken_of N x) x) c.stands;
            few = moved (λ (N : Set) (x : State). all ≤ 16384 * count n (taken_of N x)) c.few;
            far_some = c.far_some;
            run =
                λ priorities ok.
                let g = game_of (tables_with d priorities) in
                let a = player_of d.alpha in
                moved
                (λ (N : Set) (x : State).
                Takes g a V' (at_first T) (growing (taken_of N x) all x) × Layered g a V' T own entry (far - 1) N x)
                (c.run priorities ok);
          }
        where
          moved :
              (P : Set → State → Type 0) → P now state → P (with_word at word (now_at n this mid)) (state_in d before next mid)
          moved P p = subst₂ P mid_left (sym mid_state) p

      -- **the members of the word may be taken**
      word_stands : Stands d next at far from word 0 mid
      word_stands =
          record {
            given = given;
            higher = λ u p. popped.higher u (ap (λ (xs : List ℕ). in_layer xs u) (sym mid_layer) ∙ p);
            going =
                subst
                (λ (k : ℕ).
                Going d before this next far k (with_word at word (now_at n this mid)) mid)
                (sym (add-zero all)) mid_going;
            never_less = subst (λ (S : Set). count n taken ≤ count n S) (sym mid_taken) (le_refl (count n taken));
            grown = λ z. absurd (popped.some z);
          }

      pub take_word_ready : Wordable d next at word far mid
      take_word_ready = record { small = popped.small; from = from; stands = word_stands }

      -- all of them were taken
      module _ {fin : List ℕ} {met : ℕ}
          (took : TookWord d next at word far mid 0 met fin) where
        stands_then : Stands d next at far from 0 met fin
        stands_then = took from word_stands

        going_word : Going d before this next far (sofar + (looks + met)) (now_at n this fin) fin
        going_word =
            subst₂ (λ (k : ℕ) (N : Set). Going d before this next far k N fin)
            (add_assoc sofar looks met) (left_none at (now_at n this fin)) stands_then.going

        pub word_grows : count n taken < count n (taken_at n d.set this next fin)
        word_grows =
            subst (λ (N : Set). count n taken < count n (taken_in n d.set next N fin)) (left_none at (now_at n this fin))
            (stands_then.grown refl)

        -- **what held before the word was popped holds again**
        pub word_taken : LayerStands d this next far before sofar taken₀ (looks + met) fin
        word_taken =
            record {
              given = given;
              going = going_word;
              never_less = omega (arith, l.never_less, word_grows);
              grown = λ z. omega (arith, l.never_less, word_grows);
            }
