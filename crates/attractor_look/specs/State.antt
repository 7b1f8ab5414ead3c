-- The attractor's state away from the work area: the members so far, the counters, distances and entries, the members found for
-- the next layer, and what one look and the looks along a row of the predecessor table make of it.
use Rattle.std.specs.Prelude.{true, false, cond, ◌&&◌, not, List, [], ◌∷◌, ◌++◌, ◌≡◌, refl, ℕ, ◌-◌, eqb}
use Rattle.std.proofs.Math.Logic.{⊎_elim}
use borrow.Author.Tests.{not-false, eq-eqb, ne_eqb}
use Rattle.rules.specs.Counting.{Set}
use Rattle.basics.specs.Basics.{bool_cases, clash, and_false_cases}

pub record State : Type 0 where
  pub members : Set
  -- of an opponent's vertex that is not in, the inside edges that were not met yet
  pub counter : ℕ → ℕ
  pub distance : ℕ → ℕ
  pub entry : ℕ → ℕ
  -- the members found while this layer is taken
  pub next : Set

-- x at v, and else what f gives
abbrev pub put : ℕ → ℕ → (ℕ → ℕ) → ℕ → ℕ
put v x f u = cond (eqb u v) x (f u)

-- S and v
abbrev pub with_one : ℕ → Set → Set
with_one v S u = cond (eqb u v) true (S u)

-- v comes in at a distance, and into the next layer
unfoldable pub joined : ℕ → ℕ → State → State
joined far v s =
    record {
      members = with_one v s.members;
      counter = s.counter;
      distance = put v far s.distance;
      entry = s.entry;
      next = with_one v s.next;
    }

-- v gets the entry w
unfoldable pub entered : ℕ → ℕ → State → State
entered w v s =
    record { members = s.members; counter = s.counter; distance = s.distance; entry = put v w s.entry; next = s.next }

-- one inside edge of v fewer is to be met
unfoldable pub counted : ℕ → State → State
counted v s =
    record {
      members = s.members;
      counter = put v (s.counter v - 1) s.counter;
      distance = s.distance;
      entry = s.entry;
      next = s.next;
    }

-- one look, at an entry v of w; who comes in is so far
unfoldable pub touched : Set → Set → ℕ → ℕ → ℕ → State → State
touched V' own w far v s =
    cond
    (V' v)
    (cond
    (s.members v)
    s
    (cond
    (own v)
    (joined far v (entered w v s))
    (cond (eqb (s.counter v - 1) 0) (joined far v (counted v s)) (counted v s))))
    s

-- one look at each entry of a row
unfoldable pub looked : Set → Set → ℕ → ℕ → List ℕ → State → State
looked V' own w far [] s = s
looked V' own w far (v ∷ vs) s = looked V' own w far vs (touched V' own w far v s)

pub looked_none : (V' own : Set) (w far : ℕ) (s : State) → looked V' own w far [] s ≡ s
unfolding looked
looked_none V' own w far s = refl

-- one look more at the end
pub looked_more :
    (V' own : Set) (w far v : ℕ) (vs : List ℕ) (s : State) →
    looked V' own w far (vs ++ (v ∷ [])) s ≡ touched V' own w far v (looked V' own w far vs s)
unfolding looked
looked_more V' own w far v [] s = refl
looked_more V' own w far v (u ∷ vs) s = looked_more V' own w far v vs (touched V' own w far u s)

-- a look by its tests: not in V' or in already, an own vertex, another's with its last inside edge, and another's that still
-- waits
module _ (V' own : Set) (w far v : ℕ) (s : State) where
  pub touched_passed : (V' v && not (s.members v)) ≡ false → touched V' own w far v s ≡ s
  unfolding touched
  touched_passed e =
      ⊎_elim
      (λ i. rw i (⊎_elim (λ o. absurd (clash i o)) (λ m. rw (not-false (s.members v) m)) (and_false_cases (V' v) _ e)))
      (λ i. rw i)
      (bool_cases (V' v))

  pub touched_entry : V' v ≡ true → s.members v ≡ false → own v ≡ true → touched V' own w far v s ≡ joined far v (entered w v s)
  unfolding touched
  touched_entry i m o = rw (i, m, o)

  pub touched_last :
      V' v ≡ true → s.members v ≡ false → own v ≡ false → s.counter v - 1 ≡ 0 → touched V' own w far v s ≡ joined far v
      (counted v s)
  unfolding touched
  touched_last i m o z = rw (i, m, o, eq-eqb (s.counter v - 1) 0 z)

  pub touched_count :
      V' v ≡ true → s.members v ≡ false → own v ≡ false → (s.counter v - 1 ≡ 0 → ⊥) → touched V' own w far v s ≡ counted v s
  unfolding touched
  touched_count i m o z = rw (i, m, o, ne_eqb (s.counter v - 1) 0 z)
