-- The attractor over the work area while a layer is taken: what holds before each member is taken, and that it then holds
-- again.
use Rattle.std.specs.Prelude.{Bool, true, false, ◌&&◌, ◌||◌, not, ◌⊎◌, ◌≡◌, refl, ℕ, suc, ◌+◌, ◌-◌, ◌*◌, ◌≤◌, ◌<◌, get_or, take}
use mathlib.Core.List.{List}
use Rattle.std.proofs.Common.{inl, ⊎_elim, sym, ap, ◌∙◌, eq-eqb}
use Rattle.std.proofs.Math.Logic.{inr}
use Rattle.std.proofs.Math.Path.{subst, fun_ext}
use native.Mathlib.Omega.{arith}
use Rattle.std.proofs.Math.ListN.{length}
use Rattle.rules.specs.Counting.{Set, count}
use Rattle.rules.specs.Game.{player_of}
use Rattle.rules.specs.Tables.{game_of, words, targets_of, Accepted}
use Rattle.theory.specs.Steps.{at_first, TakesOne, Takes}
use Rattle.basics.specs.Basics.{count_le, count_strict, or_left, or_right}
use Rattle.basics.specs.Frame.{Beside, Below, Unchanged}
use Rattle.theory.specs.Attractor.{Fits}
use Rattle.theory.specs.AttractorSteps.{takes_then}
use Rattle.predecessors.specs.Table.{start, row}
use Rattle.area.specs.Area.{counters, entries, layers, layer_words, met_at, free, set_at}
use Rattle.area.specs.Lent.{set_alike, slice_alike}
use Rattle.layer.specs.Layer.{Layer, in_layer}
use Rattle.attractor_drawing.specs.Drawn.{Plan, inside, tables_with}
use Rattle.attractor_counters.specs.Counters.{own_of, inside_count, counts_in}
use Rattle.attractor_look.specs.State.{State, looked}
use Rattle.attractor_look.specs.Looks.{Safe, onward_looked}
use Rattle.attractor_step.specs.Taking.{Standing, TakeReady, and_one, growing, taking_safe, taking_stands}
use Rattle.attractor_step.specs.Layers.{taken_of, but_one, LayersApart, parts_onward, taken_onward, Layered, layered_more}
use Rattle.attractor_look.specs.InArea.{cells, layer_at, state_at, state_in, SetRoom, Makes}
use Rattle.attractor_step.specs.TakeLoop.{Takeable, Took, row_length}
use Rattle.attractor_word.specs.Attracted.{Attractable, Listed, listed_kept, listed_row, owned}

-- the two places of a layer, either way round
abbrev pub Sides : ℕ → ℕ → ℕ → ℕ → Type 0
Sides n m this next =
    ((this ≡ layers n m) × (next ≡ layers n m + layer_words n)) ⊎ ((this ≡ layers n m + layer_words n) × (next ≡ layers n m))

-- a layer's members, and the members taken where `now` is left of this layer
abbrev pub now_at : ℕ → ℕ → List ℕ → Set
now_at n this work = in_layer (layer_at n this work)

abbrev pub taken_in : ℕ → ℕ → ℕ → Set → List ℕ → Set
taken_in n set next now work u = set_at n set work u && not (now u || now_at n next work u)

abbrev pub taken_at : ℕ → ℕ → ℕ → ℕ → List ℕ → Set
taken_at n set this next work = taken_in n set next (now_at n this work) work

-- the work area was lent as `attract` asks for
abbrev pub Drawable : Plan → List ℕ → Type 0
Drawable d work = Attractable d.owners d.offsets d.targets d.alpha d.within d.set work

-- while a layer is taken, with `now` left of it: every game of these tables has come here by the rules' steps, layer by layer
pub record Going (d : Plan) (before : List ℕ) (this next far looks : ℕ) (now : Set) (after : List ℕ) : Type 0 where
  pub long : length after ≡ length before
  pub table : Unchanged (Below (counters (length d.owners) (length d.targets))) before after
  pub rest :
      (i : ℕ) → free (length d.owners) (length d.targets) ≤ i → Beside (words (length d.owners)) d.set i →
      get_or after i 0 ≡ get_or before i 0
  pub sides : Sides (length d.owners) (length d.targets) this next
  pub layer : Layer (layer_at (length d.owners) this after)
  pub next_layer : Layer (layer_at (length d.owners) next after)
  pub parts : LayersApart now (state_in d before next after)
  pub stands :
      let n = length d.owners in
      Standing n (targets_of d.offsets d.targets) (inside d before) (set_at n d.set before) (own_of d)
      (taken_in n d.set next now after) (state_in d before next after)
  pub few : looks ≤ 16384 * count (length d.owners) (taken_in (length d.owners) d.set next now after)
  pub far_some : 1 ≤ far
  pub run :
      let n = length d.owners in
      (priorities : List ℕ) →
      Accepted (tables_with d priorities) →
      Takes (game_of (tables_with d priorities)) (player_of d.alpha) (inside d before) (at_first (set_at n d.set before))
      (growing (taken_in n d.set next now after) looks (state_in d before next after)) ×
      Layered (game_of (tables_with d priorities)) (player_of d.alpha) (inside d before) (set_at n d.set before)
      (own_of d) (cells n (entries n (length d.targets)) before) (far - 1) now (state_in d before next after)

module _ {d : Plan} {before : List ℕ} (given : Drawable d before) where
  abbrev n : ℕ
  n = length d.owners

  abbrev m : ℕ
  m = length d.targets

  abbrev V' : Set
  V' = inside d before

  abbrev T : Set
  T = set_at n d.set before

  abbrev own : Set
  own = own_of d

  abbrev counts : ℕ → ℕ
  counts = counts_in d before

  abbrev entry : ℕ → ℕ
  entry = cells n (entries n m) before

  pub fits :
      (priorities : List ℕ) → Accepted (tables_with d priorities) →
      Fits (game_of (tables_with d priorities)) V' T
  unfolding game_of
  fits priorities ok = record { part = given.nested.part; below = given.nested.below }

  module _ {this next far looks : ℕ} {now : Set} {after : List ℕ} (c : Going d before this next far looks now after) where
    abbrev state : State
    state = state_in d before next after

    abbrev taken : Set
    taken = taken_in n d.set next now after

    pub this_high : this + layer_words n ≤ met_at n m
    this_high = ⊎_elim (λ e. omega (arith, e.0)) (λ e. omega (arith, e.0)) c.sides

    pub this_low : layers n m ≤ this
    this_low = ⊎_elim (λ e. omega (arith, e.0)) (λ e. omega (arith, e.0)) c.sides

    next_high : next + layer_words n ≤ met_at n m
    next_high = ⊎_elim (λ e. omega (arith, e.1)) (λ e. omega (arith, e.1)) c.sides

    next_low : layers n m ≤ next
    next_low = ⊎_elim (λ e. omega (arith, e.1)) (λ e. omega (arith, e.1)) c.sides

    pub layers_apart : (this + layer_words n ≤ next) ⊎ (next + layer_words n ≤ this)
    layers_apart = ⊎_elim (λ e. inl (omega (arith, e.0, e.1))) (λ e. inr (omega (arith, e.0, e.1))) c.sides

    inside_now : inside d after ≡ V'
    inside_now =
        set_alike n d.within before after c.long
        (λ i l.
        c.rest (d.within + i) (omega (arith, given.placed.within_low))
        (⊎_elim (λ h. inl (omega arith)) (λ h. inr (omega arith)) given.placed.apart))

    -- a member w of what is left of this layer is taken
    module _ (w : ℕ) (here : now w ≡ true) where
      w_member : state.members w ≡ true
      w_member = c.parts.inside w here

      pub next_small : w < n
      next_small = given.nested.below w ((c.stands.marks w).member_inside w_member)

      listed_now : Listed n d.offsets d.targets after
      listed_now = listed_kept n d.offsets d.targets before after c.long c.table given.listed

      pub next_fits : w + 1 < length after
      next_fits = omega (arith, next_small, c.long, given.placed.within_low, given.placed.within_high)

      row_fits : n + 1 + start after (w + 1) ≤ length after
      row_fits = omega (
        arith,
        listed_now.top (w + 1) (omega (arith, next_small)),
        c.long,
        given.placed.within_low,
        given.placed.within_high,
      )

      row_is : length (row n after w) ≡ start after (w + 1) - start after w
      row_is = row_length n w after row_fits

      row_few : length (row n after w) ≤ 16384
      row_few = omega (arith, row_is, listed_now.top (w + 1) (omega (arith, next_small)), given.edges.few_edges)

      pub row_rises : start after w ≤ start after (w + 1)
      row_rises = listed_now.rising w next_small

      -- the looks stay few
      pub looks_few : looks + (start after (w + 1) - start after w) ≤ 67125248
      looks_few = omega (arith, c.few, row_few, row_is, count_le n taken, given.edges.few_vertices)

      fresh : taken w ≡ false
      fresh = ap (λ (b : Bool). state.members w && not (b || state.next w)) here ∙ and_nothing (state.members w)
        where
          and_nothing : (b : Bool) → (b && false) ≡ false
          and_nothing true = refl
          and_nothing false = refl

      ready : TakeReady n (targets_of d.offsets d.targets) taken w (row n after w) state
      ready = record { member = w_member; fresh = fresh; listed = listed_row n d.offsets d.targets after listed_now w next_small }

      room_now : SetRoom n m d.set next after
      room_now =
          record {
            low = given.placed.set_low;
            high = omega (arith, c.long, given.placed.set_high);
            next_low = next_low;
            next_high = next_high;
          }

      pub take_ready : Takeable d next after w far
      take_ready =
          record {
            edges = given.edges;
            placed =
                record {
                  within_low = given.placed.within_low;
                  within_high = omega (arith, c.long, given.placed.within_high);
                  set_low = given.placed.set_low;
                  set_high = omega (arith, c.long, given.placed.set_high);
                  apart = given.placed.apart;
                };
            room = room_now;
            layer = c.next_layer;
            small = next_small;
            rising = row_rises;
            top = listed_now.top (w + 1) (omega (arith, next_small));
            safe =
                subst
                (λ (S : Set).
                (k : ℕ) → k < length (row n after w) →
                Safe n S own
                (looked S own w far (take k (row n after w)) (state_at (inside_count d.offsets d.targets S) n m d.set next after))
                (get_or (row n after w) k 0))
                (sym inside_now)
                (taking_safe n (targets_of d.offsets d.targets) V' T own taken w far (row n after w) state c.stands ready);
          }

      -- and its row is looked at
      module _ (lowest : (u : ℕ) → u < w → now u ≡ false) (fin : List ℕ)
          (took : Took d next w far after fin) where
        abbrev later : State
        later = looked V' own w far (row n after w) state

        becomes : Makes counts d next (looked V' own w far (row n after w)) after fin
        becomes =
            subst
            (λ (S : Set). Makes (inside_count d.offsets d.targets S) d next (looked S own w far (row n after w)) after fin)
            inside_now
            took.becomes

        -- this layer stands as it stood
        pub fin_layer : layer_at n this fin ≡ layer_at n this after
        fin_layer =
            slice_alike (layer_words n) this after fin becomes.kept.long
            (λ i l.
            becomes.kept.rest (this + i)
            (inr (
              omega (arith, this_low),
              inl (omega (arith, this_high, given.placed.set_low)),
              ⊎_elim (λ h. inl (omega arith)) (λ h. inr (omega arith)) layers_apart,
              inl (omega (arith, this_high)),
            )))

        fin_taken : taken_in n d.set next (but_one w now) fin ≡ and_one w taken
        fin_taken =
            ap (taken_of (but_one w now)) becomes.state ∙
            fun_ext (taken_onward (onward_looked V' own w far (row n after w) state) c.parts here)

        pub taken_grows : count n taken < count n (taken_in n d.set next (but_one w now) fin)
        taken_grows =
            subst (λ (S : Set). count n taken < count n S) (sym fin_taken)
            (count_strict n taken (and_one w taken) (λ u l p. or_left (taken u) _ p) w next_small fresh
            (or_right (taken w) _ (eq-eqb w w refl)))

        later_stands : Standing n (targets_of d.offsets d.targets) V' T own (and_one w taken) later
        later_stands = taking_stands n (targets_of d.offsets d.targets) V' T own taken w far (row n after w) state c.stands ready

        -- what holds of the state that was made holds of the one that stands there
        moved :
            (P : Set → State → Type 0) → P (and_one w taken) later →
            P (taken_in n d.set next (but_one w now) fin) (state_in d before next fin)
        moved P p =
            subst (λ (X : Set). P X (state_in d before next fin)) (sym fin_taken)
            (subst (P (and_one w taken)) (sym becomes.state) p)

        pub going_more :
            Going d before this next far (looks + (start after (w + 1) - start after w)) (but_one w now) fin
        unfolding game_of
        going_more =
            record {
              long = becomes.kept.long ∙ c.long;
              table = λ i l. becomes.kept.rest i (inl l) ∙ c.table i l;
              rest =
                  λ i l o.
                  becomes.kept.rest i (inr (omega arith, o, inr (omega (arith, next_high)), inr (omega arith))) ∙
                  c.rest i l o;
              sides = c.sides;
              layer = subst Layer (sym fin_layer) c.layer;
              next_layer = becomes.layer c.next_layer;
              parts =
                  moved (λ (X : Set) (x : State). LayersApart (but_one w now) x)
                  (parts_onward (onward_looked V' own w far (row n after w) state) c.parts here);
              stands = moved (λ (X : Set) (x : State). Standing n (targets_of d.offsets d.targets) V' T own X x) later_stands;
              few = omega (arith, c.few, row_few, row_is, taken_grows);
              far_some = c.far_some;
              run = λ priorities ok. (runs priorities ok, lays priorities ok);
            }
          where
            runs :
                (priorities : List ℕ) (ok : Accepted (tables_with d priorities)) →
                Takes (game_of (tables_with d priorities)) (player_of d.alpha) V' (at_first T)
                (growing (taken_in n d.set next (but_one w now) fin) (looks + (start after (w + 1) - start after w))
                (state_in d before next fin))
            runs priorities ok =
                let g = game_of (tables_with d priorities) in
                let a = player_of d.alpha in
                takes_then (c.run priorities ok).0
                (subst
                (λ (X : Set). TakesOne g a V' (growing taken looks state) (growing X (looks + (start after (w + 1)
                - start after w)) (state_in d before next fin)))
                (sym fin_taken)
                (subst
                (λ (k : ℕ). TakesOne g a V' (growing taken looks state) (growing (and_one w taken) (looks + k)
                (state_in d before next fin)))
                row_is
                (subst
                (λ (S : Set).
                TakesOne g a S (growing taken looks (state_at (inside_count d.offsets d.targets S) n m d.set next after))
                (growing (and_one w taken) (looks + length (row n after w))
                (state_at (inside_count d.offsets d.targets S) n m d.set next fin)))
                inside_now
                (took.step g a T taken looks (owned d.owners d.offsets d.targets d.alpha given.side priorities ok)
                (subst
                (λ (S : Set).
                Standing n (targets_of d.offsets d.targets) S T own taken
                (state_at (inside_count d.offsets d.targets S) n m d.set next after))
                (sym inside_now)
                c.stands)
                (subst
                (λ (S : Set).
                TakeReady n (targets_of d.offsets d.targets) taken w (row n after w)
                (state_at (inside_count d.offsets d.targets S) n m d.set next after))
                (sym inside_now)
                ready)))))

            lays :
                (priorities : List ℕ) (ok : Accepted (tables_with d priorities)) →
                Layered (game_of (tables_with d priorities)) (player_of d.alpha) V' T own entry (far - 1)
                (but_one w now) (state_in d before next fin)
            lays priorities ok =
                let g = game_of (tables_with d priorities) in
                let a = player_of d.alpha in
                let back_far : suc (far - 1) ≡ far = omega (arith, c.far_some) in
                moved (λ (X : Set) (x : State). Layered g a V' T own entry (far - 1) (but_one w now) x)
                (subst
                (λ (k : ℕ). Layered g a V' T own entry (far - 1) (but_one w now) (looked V' own w k (row n after w) state))
                back_far
                (layered_more g a V' T own (fits priorities ok) (omega (arith, given.edges.few_vertices))
                (owned d.owners d.offsets d.targets d.alpha given.side priorities ok)
                entry (far - 1) now state c.stands (c.run priorities ok).1 w (row n after w) here lowest ready))
