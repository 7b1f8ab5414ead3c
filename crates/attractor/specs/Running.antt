-- The attractor over the work area, layer by layer: what holds before each layer is taken, that it then holds again of the next,
-- and what is left at the end.
use Rattle.std.specs.Prelude.{Bool, true, false, ◌&&◌, ◌||◌, not, List, ◌≡◌, refl, length, get_or}
use Rattle.std.proofs.Math.Bool.{or-false}
use Rattle.std.proofs.Math.Logic.{inl, inr, ⊎_elim}
use Rattle.std.proofs.Math.Path.{sym, subst, fun_ext}
use Rattle.std.proofs.Common.{ap, subst₂, ◌∙◌, le_refl, add-zero, arith}
use Prim.Native.Nat.{ℕ, suc, ◌+◌, ◌-◌, ◌*◌, ◌≤◌, ◌<◌}
use Rattle.rules.specs.Counting.{Set, count}
use Rattle.rules.specs.Game.{Player, Game, Edge, player_of, same}
use Rattle.rules.specs.Tables.{Tables, game_of, vertices, edges_in, words, targets_of, Accepted}
use Rattle.rules.specs.Attractor.{attractor, looks_of}
use Rattle.theory.specs.Steps.{at_first, Takes, Finished}
use Rattle.rules.specs.Distance.{distance, attractor_entry}
use Rattle.basics.specs.Basics.{clash, not_true_is_false, and_intro}
use Rattle.basics.specs.Sums.{count_of}
use Rattle.basics.specs.Frame.{Below, Behind, Unchanged}
use Rattle.theory.specs.Players.{same_true, true_same}
use Rattle.theory.specs.Bits.{Bits}
use Rattle.theory.specs.AttractorSteps.{steps_members, steps_looks}
use Rattle.accepted.specs.Tables.{accepted_total}
use Rattle.sets.specs.Laws.{other_bit}
use Rattle.area.specs.Area.{counters, distances, entries, free, set_at, words_at, entry_at, distance_at}
use Rattle.area.specs.Lent.{part_length}
use Rattle.layer.specs.Layer.{marks}
use Rattle.layer.specs.Laws.{unmarked_empty}
use Rattle.attractor_drawing.specs.Drawn.{Plan, inside, tables_with}
use Rattle.attractor_counters.specs.Counters.{own_of, counts_in}
use Rattle.attractor_look.specs.State.{State}
use Rattle.attractor_look.specs.Growth.{Mark}
use Rattle.attractor_step.specs.Taking.{growing}
use Rattle.attractor_step.specs.Layers.{neither, Layered, layered_turn}
use Rattle.attractor_look.specs.InArea.{cells, layer_at, state_in}
use Rattle.attractor_look.specs.InAreaLaws.{cells_at}
use Rattle.attractor_word.specs.Attracted.{Attracted, owned}
use Rattle.attractor_word.specs.Going.{Drawable, Going, now_at, taken_at, fits}
use Rattle.attractor_layer.specs.OneLayer.{LayerStands}

-- before each layer is taken: nobody is drawn into the next one yet
pub record Running (d : Plan) (before : List ℕ) (this next far looks : ℕ) (after : List ℕ) : Type 0 where
  pub going : Going d before this next far looks (now_at (length d.owners) this after) after
  pub deep : far ≤ count (length d.owners) (taken_at (length d.owners) d.set this next after) + 1
  pub next_none : (u : ℕ) → now_at (length d.owners) next after u ≡ false

module _ {d : Plan} {before : List ℕ} (given : Drawable d before) where
  abbrev n : ℕ
  n = length d.owners

  abbrev m : ℕ
  m = length d.targets

  abbrev V' : Set
  V' = inside d before

  abbrev T : Set
  T = set_at n d.set before

  abbrev own : Set
  own = own_of d

  abbrev counts : ℕ → ℕ
  counts = counts_in d before

  abbrev entry : ℕ → ℕ
  entry = cells n (entries n m) before

  module _ {this next far looks : ℕ} {after : List ℕ}
      (c : Going d before this next far looks (now_at n this after) after) where
    abbrev state : State
    state = state_in d before next after

    abbrev now : Set
    now = now_at n this after

    abbrev taken : Set
    taken = taken_at n d.set this next after

    -- the layer is done: nothing is left in it, and turning to the next takes none
    layer_done : marks (layer_at n this after) ≡ 0 → (u : ℕ) → now u ≡ false
    layer_done = unmarked_empty (layer_at n this after) c.layer

    pub turned : marks (layer_at n this after) ≡ 0 → taken_at n d.set next this after ≡ taken
    turned z =
        fun_ext
        (λ u.
        ap (λ (d : Bool). state.members u && not (state.next u || d)) (layer_done z u) ∙
        ap (λ (b : Bool). state.members u && not b) (or-false (state.next u)) ∙
        sym (ap (λ (b : Bool). state.members u && not (b || state.next u)) (layer_done z u)))

    -- the layer may be taken where it has a mark
    pub layer_stands :
        (marks (layer_at n this after) ≡ 0 → ⊥) →
        LayerStands d this next far before looks (count n taken) 0 after
    layer_stands more =
        record {
          given = given;
          going =
              subst (λ (k : ℕ). Going d before this next far k now after) (sym (add-zero looks)) c;
          never_less = le_refl (count n taken);
          grown = λ z. absurd (more z);
        }

    -- the layer is done, and the next one is taken
    module _ (deeper : far ≤ count n taken) where
      pub running_turn : marks (layer_at n this after) ≡ 0 → Running d before next this (far + 1) looks after
      unfolding game_of
      running_turn z =
          record {
            going =
                record {
                  long = c.long;
                  table = c.table;
                  rest = c.rest;
                  sides = ⊎_elim (λ e. inr (e.1, e.0)) (λ e. inl (e.1, e.0)) c.sides;
                  layer = c.next_layer;
                  next_layer = c.layer;
                  parts =
                      record {
                        inside = λ u p. c.parts.found u p;
                        found = λ u p. absurd (clash p (layer_done z u));
                        apart = λ u p. layer_done z u;
                      };
                  stands =
                      record {
                        marks =
                            λ u.
                            subst
                            (λ (S : Set).
                            Mark (V' u) (T u) (own u) (count_of (targets_of d.offsets d.targets u) V') (state.members u)
                            (state.counter u) (count_of (targets_of d.offsets d.targets u) S))
                            (sym (turned z)) (c.stands.marks u);
                        early = λ u p. c.stands.early u (ap (λ (S : Set). S u) (sym (turned z)) ∙ p);
                      };
                  few = subst (λ (S : Set). looks ≤ 16384 * count n S) (sym (turned z)) c.few;
                  far_some = omega arith;
                  run =
                      λ priorities ok.
                      let g = game_of (tables_with d priorities) in
                      let a = player_of d.alpha in (
                        subst
                            (λ (S : Set). Takes g a V' (at_first T) (growing S looks (state_in d before this after)))
                            (sym (turned z))
                            (c.run priorities ok).0,
                        subst
                            (λ (k : ℕ). Layered g a V' T own entry k (now_at n next after) (state_in d before this after))
                            same_far
                            (turn_lays priorities ok),
                      );
                };
            deep = subst (λ (S : Set). far + 1 ≤ count n S + 1) (sym (turned z)) (omega arith);
            next_none = layer_done z;
          }
        where
          same_far : suc (far - 1) ≡ far + 1 - 1
          same_far = omega (arith, c.far_some)

          turn_lays :
              (priorities : List ℕ) (ok : Accepted (tables_with d priorities)) →
              Layered (game_of (tables_with d priorities)) (player_of d.alpha) V' T own entry (suc (far - 1))
              (now_at n next after) (state_in d before this after)
          turn_lays priorities ok =
              layered_turn (game_of (tables_with d priorities)) (player_of d.alpha) V' T own (fits given priorities ok)
              (omega (arith, given.edges.few_vertices)) (owned d.owners d.offsets d.targets d.alpha given.side priorities ok)
              entry (far - 1) now state c.stands (c.run priorities ok).1 (layer_done z) (state_in d before this after)
              refl refl refl (layer_done z)

    -- no member is left
    module _ (done : (u : ℕ) → now u ≡ false) (next-done : (u : ℕ) → state.next u ≡ false) where
      below_only : (v : ℕ) → state.members v ≡ true → v < n
      below_only v p = given.nested.below v ((c.stands.marks v).member_inside p)

      -- **what is left is the attractor, with its distances and entries**
      pub running_all :
          (priorities : List ℕ) →
          Accepted (tables_with d priorities) →
          Attracted (tables_with d priorities) (player_of d.alpha) d.within d.set before after looks
      unfolding game_of
      running_all priorities ok =
          record {
            long = c.long;
            holds =
                record {
                  long = part_length d.set (words n) after (omega (arith, c.long, given.placed.set_high));
                  bits = λ v l. members_are v;
                  clear =
                      λ v l.
                      other_bit (words_at n d.set after) v
                      (not_true_is_false (state.members v) (λ p. let less = below_only v p in omega arith));
                };
            met = steps_looks g a V' T starts (fits given priorities ok) (c.run priorities ok).0 finished;
            distances =
                λ v p t.
                let i = members_are v ∙ p in
                sym (cells_at n (distances n m) after v (below_only v i)) ∙ (lay.near v i).2 t;
            entered =
                λ v p.
                let i = members_are v ∙ p.0 in
                sym (cells_at n (entries n m) after v (below_only v i)) ∙ lay.entered v i p.1 (is v ∙ true_same (g.owner v)
                a p.2);
            kept =
                λ v l h.
                sym (cells_at n (entries n m) after v l) ∙
                lay.kept v (λ i t o. h (sym (members_are v) ∙ i, t, same_true (g.owner v) a (sym (is v) ∙ o))) ∙
                cells_at n (entries n m) before v l;
            table = c.table;
            rest = c.rest;
          }
        where
          g : Game
          g = game_of (tables_with d priorities)

          a : Player
          a = player_of d.alpha

          is : (v : ℕ) → own v ≡ same (g.owner v) a
          is = owned d.owners d.offsets d.targets d.alpha given.side priorities ok

          starts : (v w : ℕ) → Edge g v w → v < g.size
          starts = (accepted_total (tables_with d priorities) ok).starts

          lay : Layered g a V' T own entry (far - 1) now state
          lay = (c.run priorities ok).1

          finished : Finished (growing taken looks state)
          finished v p = and_intro p (neither (now v) (state.next v) (done v) (next-done v))

          members_are : (v : ℕ) → state.members v ≡ attractor g a V' T v
          members_are =
              steps_members g a V' T starts (fits given priorities ok) (c.run priorities ok).0 finished

-- two work areas in which V, the target, the entries and all that stays are the same
pub record SameAreas (n m within set : ℕ) (x y : List ℕ) : Type 0 where
  pub long : length y ≡ length x
  pub inside : set_at n within y ≡ set_at n within x
  pub target : set_at n set y ≡ set_at n set x
  pub entry : (v : ℕ) → v < n → get_or y (entries n m + v) 0 ≡ get_or x (entries n m + v) 0
  pub table : Unchanged (Below (counters n m)) x y
  pub rest : Unchanged (Behind (free n m)) x y

-- what an attractor leaves of the one it leaves of the other
pub attracted_moved :
    {t : Tables} {a : Player} {within set : ℕ} {x y after : List ℕ} {looks : ℕ} →
    SameAreas (vertices t) (edges_in t) within set x y →
    Attracted t a within set y after looks →
    Attracted t a within set x after looks
attracted_moved {t} {a} {within} {set} {x} {y} {after} {looks} same c =
    record {
      long = c.long ∙ same.long;
      holds = subst₂ (λ (V' T : Set). Bits (vertices t) (attractor (game_of t) a V' T) (words_at (vertices t) set after))
          same.inside same.target c.holds;
      met = subst₂ (λ (V' T : Set). looks ≡ looks_of (game_of t) (attractor (game_of t) a V' T)) same.inside same.target
          c.met;
      distances =
          subst₂
          (λ (V' T : Set).
          (v : ℕ) →
          attractor (game_of t) a V' T v ≡ true →
          T v ≡ false →
          distance_at (vertices t) (edges_in t) after v ≡ distance (game_of t) a V' T v)
          same.inside same.target c.distances;
      entered =
          subst₂
          (λ (V' T : Set).
          (v : ℕ) →
          (attractor (game_of t) a V' T v ≡ true) × (T v ≡ false) × ((game_of t).owner v ≡ a) →
          entry_at (vertices t) (edges_in t) after v ≡ attractor_entry (game_of t) a V' T v)
          same.inside same.target c.entered;
      kept =
          λ v l h.
          subst₂
          (λ (V' T : Set).
          ((attractor (game_of t) a V' T v ≡ true) × (T v ≡ false) × ((game_of t).owner v ≡ a) → ⊥) →
          entry_at (vertices t) (edges_in t) after v ≡ entry_at (vertices t) (edges_in t) y v)
          same.inside same.target (c.kept v l) h ∙
          same.entry v l;
      table = λ i l. c.table i l ∙ same.table i l;
      rest = λ i l o. c.rest i l o ∙ same.rest i l;
    }
