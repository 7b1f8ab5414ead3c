-- Laws of the state as it stands in the work area: what a store at a counter, a distance or an entry makes of it, what a set or a
-- layer that was lent and comes back makes of it, and what stays.
use Rattle.std.specs.Prelude.{List, ◌++◌, ◌⊎◌, ◌≡◌, refl, ℕ, ◌+◌, ◌-◌, ◌≤◌, ◌<◌, length, get_or, take, drop, set}
use Rattle.std.proofs.Math.Logic.{inl, inr}
use Rattle.std.proofs.Common.{⊎_elim, sym, ap, ◌∙◌, eq-eqb, ne_eqb, lt-ltb, le-ltb, length-set, get_or-set_same, get_or-set_other}
use Rattle.std.proofs.Math.Path.{subst, fun_ext}
use Rattle.std.proofs.Math.Decide.{ℕ_discrete}
use native.Mathlib.Omega.{arith}
use Rattle.rules.specs.Tables.{words}
use Rattle.basics.specs.Basics.{lt_or_ge}
use Rattle.basics.specs.Frame.{Beside, Unchanged}
use Rattle.sets.specs.After.{Put}
use Rattle.area.specs.Area.{counters, distances, entries, layers, layer_words, met_at, set_at}
use Rattle.area.specs.Lent.{set_alike, slice_alike, part_is, part_length, words_enough}
use Rattle.area.specs.Lent.{back, back_long, back_front, back_behind, back_part}
use Rattle.area.specs.Lent.{inserted_set}
use Rattle.layer.specs.Layer.{Layer, in_layer, Addable, Added}
use Rattle.attractor_counters.specs.Counters.{counter_at, counter_alike, CountedDown}
use Rattle.attractor_look.specs.State.{State, put, with_one, joined, entered, counted}
use Rattle.attractor_look.specs.InArea.{cells, layer_at, state_at, SetsPlaced, Aside, TableKept, SetRoom, Becomes}

-- ---- cells

pub cells_at : (n base : ℕ) (work : List ℕ) (v : ℕ) → v < n → cells n base work v ≡ get_or work (base + v) 0
unfolding cells
cells_at n base work v l = rw (lt-ltb v n l)

cells_past : (n base : ℕ) (work : List ℕ) (v : ℕ) → n ≤ v → cells n base work v ≡ 0
unfolding cells
cells_past n base work v l = rw (le-ltb v n l)

pub cells_alike :
    (n base : ℕ) (work work' : List ℕ) → ((v : ℕ) → v < n → get_or work' (base + v) 0 ≡ get_or work (base + v) 0) →
    cells n base work' ≡ cells n base work
cells_alike n base work work' h =
    fun_ext
    (λ v.
    ⊎_elim
    (λ l. cells_at n base work' v l ∙ h v l ∙ sym (cells_at n base work v l))
    (λ l. cells_past n base work' v l ∙ sym (cells_past n base work v l))
    (lt_or_ge v n))

put_here : (v x : ℕ) (f : ℕ → ℕ) (u : ℕ) → u ≡ v → put v x f u ≡ x
put_here v x f u e = rw (eq-eqb u v e)

put_there : (v x : ℕ) (f : ℕ → ℕ) (u : ℕ) → (u ≡ v → ⊥) → put v x f u ≡ f u
put_there v x f u d = rw (ne_eqb u v d)

-- a store
pub cells_put :
    (n base v x : ℕ) (work : List ℕ) → v < n → base + v < length work →
    cells n base (set work (base + v) x) ≡ put v x (cells n base work)
cells_put n base v x work l fits = fun_ext (λ u. go u (ℕ_discrete u v))
  where
    go : (u : ℕ) → Dec (u ≡ v) → cells n base (set work (base + v) x) u ≡ put v x (cells n base work) u
    go u (yes e) =
        cells_at n base (set work (base + v) x) u (omega arith) ∙
        ap (λ (i : ℕ). get_or (set work (base + v) x) (base + i) 0) e ∙
        get_or-set_same work (base + v) x 0 fits ∙
        sym (put_here v x (cells n base work) u e)
    go u (no d) =
        ⊎_elim
        (λ k.
        cells_at n base (set work (base + v) x) u k ∙
        get_or-set_other work (base + v) (base + u) x 0 (λ e. d (omega arith)) ∙
        sym (cells_at n base work u k))
        (λ k. cells_past n base (set work (base + v) x) u k ∙ sym (cells_past n base work u k))
        (lt_or_ge u n) ∙
        sym (put_there v x (cells n base work) u d)

-- ---- words outside a part stay

pub record Changes (place k : ℕ) (before after : List ℕ) : Type 0 where
  pub long : length after ≡ length before
  pub rest : Unchanged (Beside k place) before after

module _ {place k : ℕ} {before after : List ℕ} (c : Changes place k before after) where
  pub changes_cells : (n base : ℕ) → (base + n ≤ place) ⊎ (place + k ≤ base) → cells n base after ≡ cells n base before
  changes_cells n base apart =
      cells_alike n base before after
      (λ v l. c.rest (base + v) (⊎_elim (λ h. inl (omega arith)) (λ h. inr (omega arith)) apart))

  pub changes_set : (n base : ℕ) → (base + words n ≤ place) ⊎ (place + k ≤ base) → set_at n base after ≡ set_at n base before
  changes_set n base apart =
      set_alike n base before after c.long
      (λ v l. c.rest (base + v) (⊎_elim (λ h. inl (omega arith)) (λ h. inr (omega arith)) apart))

  pub changes_layer : (n base : ℕ) → (base + layer_words n ≤ place) ⊎ (place + k ≤ base) →
      layer_at n base after ≡ layer_at n base before
  changes_layer n base apart =
      slice_alike (layer_words n) base before after c.long
      (λ v l. c.rest (base + v) (⊎_elim (λ h. inl (omega arith)) (λ h. inr (omega arith)) apart))

  -- words outside the counters and the set of those met
  pub changes_counter :
      (first : ℕ → ℕ) (n m : ℕ) → (counters n m + n ≤ place) ⊎ (place + k ≤ counters n m) →
      (met_at n m + words n ≤ place) ⊎ (place + k ≤ met_at n m) →
      counter_at first n m after ≡ counter_at first n m before
  changes_counter first n m apart met-apart =
      counter_alike first n m before after (changes_set n (met_at n m) met-apart)
      (λ v l. c.rest (counters n m + v) (⊎_elim (λ h. inl (omega arith)) (λ h. inr (omega arith)) apart))

pub store_changes : (place x : ℕ) (work : List ℕ) → Changes place 1 work (set work place x)
store_changes place x work =
    record {
      long = length-set work place x;
      rest = λ i o. get_or-set_other work place i x 0 (λ e. ⊎_elim (λ l. omega arith) (λ l. omega arith) o);
    }

pub back_changes : (a s : ℕ) (xs ys : List ℕ) → a + s ≤ length xs → length ys ≡ s → Changes a s xs (back a s xs ys)
back_changes a s xs ys fits as_long =
    record {
      long = back_long a s xs ys fits as_long;
      rest = λ i o. ⊎_elim (λ l. back_front a s xs ys fits as_long i l) (λ l. back_behind a s xs ys fits as_long i l) o;
    }

-- ---- what stays

pub kept_none : (n m base next : ℕ) (work : List ℕ) → TableKept n m base next work work
kept_none n m base next work = record { long = refl; rest = λ i o. refl }

pub kept_then : {n m base next : ℕ} {x y z : List ℕ} → TableKept n m base next x y → TableKept n m base next y z → TableKept n m base next x z
kept_then a b = record { long = b.long ∙ a.long; rest = λ i o. b.rest i o ∙ a.rest i o }

-- a set apart from the one at `base`
pub kept_set :
    (n m within base next : ℕ) (before after : List ℕ) → SetsPlaced n m within base before → SetRoom n m base next before →
    TableKept n m base next before after →
    set_at n within after ≡ set_at n within before
kept_set n m within base next before after p r k =
    set_alike n within before after k.long
    (λ i l.
    k.rest (within + i)
    (inr (
      omega (arith, p.within_low),
      ⊎_elim (λ h. inl (omega arith)) (λ h. inr (omega arith)) p.apart,
      inr (omega (arith, p.within_low, r.next_high)),
      inr (omega (arith, p.within_low)),
    )))

pub kept_room_lem : {n m base next : ℕ} {before after : List ℕ} → TableKept n m base next before after → SetRoom n m base next before →
    SetRoom n m base next after
kept_room_lem k r = record { low = r.low; high = omega (arith, k.long, r.high); next_low = r.next_low; next_high = r.next_high }

pub kept_placed :
    {n m within base next : ℕ} {before after : List ℕ} → TableKept n m base next before after → SetsPlaced n m within base before →
    SetsPlaced n m within base after
kept_placed k p =
    record {
      within_low = p.within_low;
      within_high = omega (arith, k.long, p.within_high);
      set_low = p.set_low;
      set_high = omega (arith, k.long, p.set_high);
      apart = p.apart;
    }

-- ---- what a step makes of the state

pub state_alike :
    {s t : State} → s.members ≡ t.members → s.counter ≡ t.counter → s.distance ≡ t.distance → s.entry ≡ t.entry →
    s.next ≡ t.next →
    s ≡ t
state_alike p q r e f = λ i. record { members = p i; counter = q i; distance = r i; entry = e i; next = f i }

pub becomes_same : (first : ℕ → ℕ) (n m base next : ℕ) (work : List ℕ) → Becomes first n m base next (λ s. s) work work
becomes_same first n m base next work = record { kept = kept_none n m base next work; state = refl; layer = λ l. l }

pub becomes_then :
    {first : ℕ → ℕ} {n m base next : ℕ} {f h : State → State} {x y z : List ℕ} →
    Becomes first n m base next f x y →
    Becomes first n m base next h y z →
    Becomes first n m base next (λ s. h (f s)) x z
becomes_then {h = h} a b =
    record { kept = kept_then a.kept b.kept; state = b.state ∙ ap h a.state; layer = λ l. b.layer (a.layer l) }

pub becomes_as :
    {first : ℕ → ℕ} {n m base next : ℕ} {f : State → State} (h : State → State) {x y : List ℕ} →
    Becomes first n m base next f x y →
    h (state_at first n m base next x) ≡ f (state_at first n m base next x) →
    Becomes first n m base next h x y
becomes_as h a e = record { kept = a.kept; state = a.state ∙ sym e; layer = a.layer }

module _ (first : ℕ → ℕ) (n m base next : ℕ) (work : List ℕ) (room : SetRoom n m base next work) where
  -- a store between the counters and the layers leaves the set, the layer and the rest as they are
  store_kept : (i x : ℕ) → counters n m ≤ i → i < layers n m → TableKept n m base next work (set work i x)
  store_kept i x low high =
      record {
        long = length-set work i x;
        rest = λ j o. get_or-set_other work i j x 0 (λ e. ⊎_elim (λ l. omega arith) (λ l. let h = l.0 in omega arith) o);
      }

  store_set : (i x : ℕ) → i < layers n m → set_at n base (set work i x) ≡ set_at n base work
  store_set i x high = changes_set (store_changes i x work) n base (inr (omega (arith, room.low)))

  store_layer : (i x : ℕ) → i < layers n m → layer_at n next (set work i x) ≡ layer_at n next work
  store_layer i x high = changes_layer (store_changes i x work) n next (inr (omega (arith, room.next_low)))

  store_cells :
      (b i x : ℕ) → (b + n ≤ i) ⊎ (i + 1 ≤ b) → cells n b (set work i x) ≡ cells n b work
  store_cells b i x apart = changes_cells (store_changes i x work) n b apart

  -- an entry is given
  pub store_entry : (v x : ℕ) → v < n → Becomes first n m base next (entered x v) work (set work (entries n m + v) x)
  unfolding entered
  store_entry v x l =
      record {
        kept = store_kept (entries n m + v) x (omega arith) (omega arith);
        state =
            state_alike
            (store_set (entries n m + v) x (omega arith))
            (changes_counter (store_changes (entries n m + v) x work) first n m (inl (omega arith)) (inr (omega arith)))
            (store_cells (distances n m) (entries n m + v) x (inl (omega arith)))
            (cells_put n (entries n m) v x work l (omega (arith, room.low, room.high)))
            (ap in_layer (store_layer (entries n m + v) x (omega arith)));
        layer = subst Layer (sym (store_layer (entries n m + v) x (omega arith)));
      }

  -- a counter falls
  pub count_becomes :
      {v left : ℕ} {work' : List ℕ} → CountedDown first n m v work work' left → Becomes first n m base next (counted v) work work'
  unfolding counted
  count_becomes {v} {left} {work'} down =
      record {
        kept =
            record {
              long = down.long;
              rest = λ i o. down.rest i (⊎_elim (λ l. inl l) (λ l. let h = l.0 in inr (omega arith, l.3)) o);
            };
        state =
            state_alike
            (set_alike n base work work' down.long
            (λ i l. down.rest (base + i) (inr (omega (arith, room.low), inr (omega (arith, room.low))))))
            (fun_ext down.counter)
            (same_cells (distances n m) (omega arith) (omega arith))
            (same_cells (entries n m) (omega arith) (omega arith))
            (ap in_layer same_layer);
        layer = subst Layer (sym same_layer);
      }
    where
      same_cells : (b : ℕ) → distances n m ≤ b → b + n ≤ layers n m → cells n b work' ≡ cells n b work
      same_cells b low high =
          cells_alike n b work work' (λ i l. down.rest (b + i) (inr (omega arith, inl (omega arith))))

      same_layer : layer_at n next work' ≡ layer_at n next work
      same_layer =
          slice_alike (layer_words n) next work work' down.long
          (λ i l. down.rest (next + i) (inr (omega (arith, room.next_low), inl (omega (arith, room.next_high)))))

-- a layer that was lent, with s words and one more

-- the part that is lent
pub layer_part : (n base : ℕ) {end : ℕ} (work : List ℕ) → end ≡ base + layer_words n → take (end - base) (drop base work)
    ≡ layer_at n base work
layer_part n base {end} work ends = ap (λ (k : ℕ). take k (drop base work)) cancels
  where
    cancels : end - base ≡ layer_words n
    cancels = omega arith

pub layer_long : (n base : ℕ) (work : List ℕ) → base + layer_words n ≤ length work → length (layer_at n base work) ≡ layer_words n
layer_long n base work high = part_length base (layer_words n) work high

-- the set comes back with v in it, v gets its distance, and the next layer comes back with v in it
module _ (n m base next : ℕ) (work : List ℕ) (room : SetRoom n m base next work) (s v far : ℕ) (ys : List ℕ)
    (size : s ≡ words n)
    {row : ℕ}
    (place : row ≡ distances n m)
    (small : v < n)
    (new : Put v 1 (take ((base + s) - base) (drop base work)) ys)
    {end : ℕ}
    (behind : end ≡ next + s + 1)
  where
    abbrev wider : List ℕ
    wider = back base s work ys

    abbrev stored : List ℕ
    stored = set wider (row + v) far

    fits : base + s ≤ length work
    fits = omega (arith, room.high)

    wider_changes : Changes base s work wider
    wider_changes =
        back_changes base s work ys fits (new.long ∙ ap length (part_is base s work) ∙ part_length base s work fits)

    stored_changes : Changes (row + v) 1 wider stored
    stored_changes = store_changes (row + v) far wider

    pub stored_long : length stored ≡ length work
    stored_long = stored_changes.long ∙ wider_changes.long

    -- the layer is as it was
    pub stored_layer : layer_at n next stored ≡ layer_at n next work
    stored_layer =
        changes_layer stored_changes n next (inr (omega (arith, room.next_low))) ∙
        changes_layer wider_changes n next (inl (omega (arith, room.next_high, room.low)))

    -- the part that is lent is that layer
    lent_is : take (end - next) (drop next stored) ≡ layer_at n next work
    lent_is = layer_part n next stored (omega arith) ∙ stored_layer

    -- as `add` asks
    pub add_ready : Layer (layer_at n next work) → Addable v (take (end - next) (drop next stored))
    add_ready layer =
        subst (Addable v) (sym lent_is)
        (record {
          layer = layer;
          small = omega (
            arith,
            layer_long n next work (omega (arith, room.next_high, room.low, room.high)),
            words_enough n v small,
          );
        })

    module _ (zs : List ℕ) (added' : Added v (take (end - next) (drop next stored)) zs) where
      abbrev joining : List ℕ
      joining = take next stored ++ (zs ++ drop (end - next) (drop next stored))

      added : Added v (layer_at n next work) zs
      added = subst (λ (xs : List ℕ). Added v xs zs) lent_is added'

      one_more : end - next ≡ (next + layer_words n) - next
      one_more = omega arith

      is_back : joining ≡ back next (layer_words n) stored zs
      is_back = ap (λ (k : ℕ). take next stored ++ (zs ++ drop k (drop next stored))) one_more

      layer_fits : next + layer_words n ≤ length stored
      layer_fits = omega (arith, stored_long, room.next_high, room.low, room.high)

      zs_long : length zs ≡ layer_words n
      zs_long = added.long ∙ layer_long n next work (omega (arith, room.next_high, room.low, room.high))

      joining_changes : Changes next (layer_words n) stored joining
      joining_changes =
          subst (Changes next (layer_words n) stored) (sym is_back) (back_changes next (layer_words n) stored zs layer_fits zs_long)

      new_layer : layer_at n next joining ≡ zs
      new_layer =
          ap (λ (l : List ℕ). layer_at n next l) is_back ∙ back_part next (layer_words n) stored zs layer_fits zs_long

      all_kept : (i : ℕ) → Aside n m base next i → get_or joining i 0 ≡ get_or work i 0
      all_kept i (inl l) =
          joining_changes.rest i (inl (omega (arith, room.next_low))) ∙
          stored_changes.rest i (inl (omega arith)) ∙
          wider_changes.rest i (inl (omega (arith, room.low)))
      all_kept i (inr (low, out, beside, unmet)) =
          joining_changes.rest i beside ∙
          stored_changes.rest i (inr (omega arith)) ∙
          wider_changes.rest i (⊎_elim (λ l. inl l) (λ l. inr (omega arith)) out)

      members_more : set_at n base joining ≡ with_one v (set_at n base work)
      members_more =
          changes_set joining_changes n base (inr (omega (arith, room.next_high, room.low))) ∙
          changes_set stored_changes n base (inr (omega (arith, room.low))) ∙
          fun_ext (inserted_set n s base v work ys size room.high new)

      cells_same :
          (b : ℕ) → b + n ≤ layers n m → (b + n ≤ row + v) ⊎ (row + v + 1 ≤ b) →
          cells n b joining ≡ cells n b work
      cells_same b h apart =
          changes_cells joining_changes n b (inl (omega (arith, room.next_low))) ∙
          changes_cells stored_changes n b apart ∙
          changes_cells wider_changes n b (inl (omega (arith, room.low)))

      distances_more : cells n (distances n m) joining ≡ put v far (cells n (distances n m) work)
      distances_more =
          changes_cells joining_changes n (distances n m) (inl (omega (arith, room.next_low))) ∙
          subst (λ (k : ℕ). cells n (distances n m) (set wider (k + v) far) ≡ put v far (cells n (distances n m) wider)) (sym place)
          (cells_put n (distances n m) v far wider small (omega (arith, room.low, room.high, wider_changes.long))) ∙
          ap (put v far) (changes_cells wider_changes n (distances n m) (inl (omega (arith, room.low))))

      counter_same : (first : ℕ → ℕ) → counter_at first n m joining ≡ counter_at first n m work
      counter_same first =
          changes_counter joining_changes first n m (inl (omega (arith, room.next_low))) (inr room.next_high) ∙
          changes_counter stored_changes first n m (inl (omega arith)) (inr (omega arith)) ∙
          changes_counter wider_changes first n m (inl (omega (arith, room.low))) (inl (omega (arith, room.low)))

      pub state_joined : (first : ℕ → ℕ) → Becomes first n m base next (joined far v) work joining
      unfolding joined
      state_joined first =
          record {
            kept = record { long = joining_changes.long ∙ stored_long; rest = all_kept };
            state =
                state_alike
                members_more
                (counter_same first)
                distances_more
                (cells_same (entries n m) (omega arith) (inr (omega arith)))
                (ap in_layer new_layer ∙ fun_ext added.set);
            layer = λ l. subst Layer (sym new_layer) added.layer;
          }
