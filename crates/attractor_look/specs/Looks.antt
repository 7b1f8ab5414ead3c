-- One look keeps what holds of the attractor's state, and so do the looks along a row; and what they make of those who come in.
use Rattle.std.specs.Prelude.{Bool, cond, ◌≡◌, length, get_or, take}
use Rattle.std.proofs.Math.Bool.{true, false}
use mathlib.Core.List.{List, [], ◌∷◌, Memᴰ}
use Rattle.std.proofs.Common.{⊎_elim, ap, ◌∙◌, add-zero, not-suc-le-zero, le_of_suc-le-suc, arith, eq-eqb, ne_eqb, eqb-true}
use Rattle.std.proofs.Math.Path.{refl, sym, subst, fun_ext}
use Prim.Native.Nat.{ℕ, zero, suc, ◌+◌, ◌-◌, ◌≤◌, ◌<◌}
use Rattle.std.proofs.Math.Decide.{ℕ_discrete}
use Rattle.std.proofs.Math.Nat.{add_assoc}
use Rattle.std.proofs.lemmas.Bool.{eqb-false}
use Rattle.std.proofs.Math.Dec.{eqb}
use Rattle.rules.specs.Counting.{Set, times}
use Rattle.basics.specs.Basics.{bool_cases, clash}
use Rattle.basics.specs.Sums.{count_of}
use Rattle.attractor_counters.specs.Tally.{flag, flag_one, tally_mono}
use Rattle.attractor_look.specs.State.{State, put, with_one, joined, entered, counted, touched, looked}
use Rattle.attractor_look.specs.Growth.{Mark, mark_outside, mark_again, mark_own, mark_last, mark_count}

-- what a look at v makes of s, with the tests that decide
pub data Look (V' own : Set) (w far v : ℕ) (s : State) : State → Type 0 where
  outside : V' v ≡ false → Look V' own w far v s s
  again : s.members v ≡ true → Look V' own w far v s s
  by_entry : V' v ≡ true → s.members v ≡ false → own v ≡ true → Look V' own w far v s (joined far v (entered w v s))
  by_last :
      V' v ≡ true → s.members v ≡ false → own v ≡ false → s.counter v - 1 ≡ 0 → Look V' own w far v s (joined far v
      (counted v s))
  by_count : V' v ≡ true → s.members v ≡ false → own v ≡ false → (s.counter v - 1 ≡ 0 → ⊥) → Look V' own w far v s (counted v s)

module _ (V' own : Set) (w far v : ℕ) (s : State) where
  pub look_touched : Look V' own w far v s (touched V' own w far v s)
  unfolding touched
  look_touched = go (V' v) (s.members v) (own v) (eqb (s.counter v - 1) 0) refl refl refl refl
    where
      go :
          (i m o z : Bool) → V' v ≡ i → s.members v ≡ m → own v ≡ o → eqb (s.counter v - 1) 0 ≡ z →
          Look V' own w far v s
          (cond i (cond m s (cond o (joined far v (entered w v s)) (cond z (joined far v (counted v s)) (counted v s)))) s)
      go false m o z p q r e = outside p
      go true true o z p q r e = again q
      go true false true z p q r e = by_entry p q r
      go true false false true p q r e = by_last p q r (eqb-true (s.counter v - 1) 0 e)
      go true false false false p q r e = by_count p q r (eqb-false (s.counter v - 1) 0 e)

-- what holds of every vertex by the entries of it that were met; the vertices whose entries are being met, `taken`, are members
pub record Grown (n : ℕ) (targets : ℕ → List ℕ) (V' T own : Set) (taken : Set) (seen : ℕ → ℕ) (s : State) : Type 0 where
  pub marks : (u : ℕ) → Mark (V' u) (T u) (own u) (count_of (targets u) V') (s.members u) (s.counter u) (seen u)
  pub early : (u : ℕ) → taken u ≡ true → s.members u ≡ true

-- what a look at v must find, so that no counter falls below 0
pub record Safe (n : ℕ) (V' own : Set) (s : State) (v : ℕ) : Type 0 where
  pub below : v < n
  pub counts : V' v ≡ true → s.members v ≡ false → own v ≡ false → 0 < s.counter v

module _ (n : ℕ) (targets : ℕ → List ℕ) (V' T own : Set) (taken : Set) (w far : ℕ) where
  -- the state, by the entries met
  abbrev Good : (ℕ → ℕ) → State → Type 0
  Good seen s = Grown n targets V' T own taken seen s

  -- v has an entry of w that was not met yet
  pub record NextEntry (seen : ℕ → ℕ) (v : ℕ) : Type 0 where
    pub small : v < n
    pub unmet : seen v + 1 ≤ count_of (targets v) taken

  -- the taken lie in V'
  taken_inside : (seen : ℕ → ℕ) (s : State) → Good seen s → (u : ℕ) → taken u ≡ true → V' u ≡ true
  taken_inside seen s g u p = (g.marks u).member_inside (g.early u p)

  pub look_safe : (seen : ℕ → ℕ) (s : State) (v : ℕ) → Good seen s → NextEntry seen v → Safe n V' own s v
  look_safe seen s v g x =
      record {
        below = x.small;
        counts =
            λ i m o.
            let h = (g.marks v).other_out i m o in
            let most = tally_mono (targets v) taken V' (taken_inside seen s g) in
            let h' = x.unmet in
            omega arith;
      }

  -- the entries met, with v once more
  abbrev more : (ℕ → ℕ) → ℕ → ℕ → ℕ
  more seen v u = seen u + flag (eqb u v)

  module _ (seen : ℕ → ℕ) (v : ℕ) (s : State) (g : Good seen s) (x : NextEntry seen v) where
    -- every vertex, when v is as it should be and the others are as they were
    marks_more :
        (t : State) →
        ((u : ℕ) → (u ≡ v → ⊥) → (t.members u ≡ s.members u) × (t.counter u ≡ s.counter u)) →
        Mark (V' v) (T v) (own v) (count_of (targets v) V') (t.members v) (t.counter v) (seen v + 1) →
        (u : ℕ) → Mark (V' u) (T u) (own u) (count_of (targets u) V') (t.members u) (t.counter u) (more seen v u)
    marks_more t same here u = go (ℕ_discrete u v)
      where
        go : Dec (u ≡ v) → Mark (V' u) (T u) (own u) (count_of (targets u) V') (t.members u) (t.counter u) (more seen v u)
        go (yes e) = rw (eq-eqb u v e, e) here
        go (no d) = rw (ne_eqb u v d, add-zero, (same u d).0, (same u d).1) (g.marks u)

    one_other : (u : ℕ) → (u ≡ v → ⊥) → with_one v s.members u ≡ s.members u
    one_other u d = rw (ne_eqb u v d)

    one_here : with_one v s.members v ≡ true
    one_here = rw (eq-eqb v v refl)

    one_kept : (u : ℕ) → s.members u ≡ true → with_one v s.members u ≡ true
    one_kept u p = ⊎_elim (λ e. rw e) (λ e. rw e p) (bool_cases (eqb u v))

    put_other : (y : ℕ) (f : ℕ → ℕ) (u : ℕ) → (u ≡ v → ⊥) → put v y f u ≡ f u
    put_other y f u d = rw (ne_eqb u v d)

    put_here : (y : ℕ) (f : ℕ → ℕ) → put v y f v ≡ y
    put_here y f = rw (eq-eqb v v refl)

    pub grown_look : {t : State} → Look V' own w far v s t → Good (more seen v) t
    unfolding entered counted joined
    grown_look (outside o) = record { marks = marks_more s (λ u d. (refl, refl)) (mark_outside (g.marks v) o); early = g.early }
    grown_look (again m) = record { marks = marks_more s (λ u d. (refl, refl)) (mark_again (g.marks v) m); early = g.early }
    grown_look (by_entry i m o) =
        record {
          marks = marks_more (joined far v (entered w v s)) (λ u d. (one_other u d, refl)) (rw one_here (mark_own (g.marks v)
              i o));
          early = λ u p. one_kept u (g.early u p);
        }
    grown_look (by_last i m o z) =
        record {
          marks =
              marks_more (joined far v (counted v s)) (λ u d. (one_other u d, put_other (s.counter v - 1) s.counter u d))
              (rw one_here (mark_last (g.marks v) i m o z _));
          early = λ u p. one_kept u (g.early u p);
        }
    grown_look (by_count i m o z) =
        record {
          marks =
              marks_more (counted v s) (λ u d. (refl, put_other (s.counter v - 1) s.counter u d))
              (rw (put_here (s.counter v - 1) s.counter)
              (mark_count (g.marks v) i m o ((look_safe seen s v g x).counts i m o) z));
          early = g.early;
        }

  -- entries of w that were not met yet
  pub record Rest (seen : ℕ → ℕ) (vs : List ℕ) : Type 0 where
    pub small : (v : ℕ) → Memᴰ v vs → v < n
    pub unmet : (v : ℕ) → seen v + times v vs ≤ count_of (targets v) taken

  rest_first : (seen : ℕ → ℕ) (v : ℕ) (vs : List ℕ) → Rest seen (v ∷ vs) → NextEntry seen v
  unfolding times
  rest_first seen v vs r =
      record {
        small = r.small v (Memᴰ.head refl);
        unmet = let h = r.unmet v in let once = flag_one (eqb v v) (eq-eqb v v refl) in omega arith;
      }

  rest_after : (seen : ℕ → ℕ) (v : ℕ) (vs : List ℕ) → Rest seen (v ∷ vs) → Rest (more seen v) vs
  unfolding times
  rest_after seen v vs r =
      record {
        small = λ u m. r.small u (Memᴰ.tail m);
        unmet = λ u. let h = r.unmet u in omega arith;
      }

  -- **the looks along a row keep what holds of the state**
  pub grown_looked :
      (vs : List ℕ) (seen : ℕ → ℕ) (s : State) →
      Good seen s →
      Rest seen vs →
      Good (λ u. seen u + times u vs) (looked V' own w far vs s)
  unfolding looked times
  grown_looked [] seen s g r = subst (λ (f : ℕ → ℕ). Good f s) (fun_ext (λ u. sym (add-zero (seen u)))) g
  grown_looked (v ∷ vs) seen s g r =
      subst
      (λ (f : ℕ → ℕ). Good f (looked V' own w far vs (touched V' own w far v s)))
      (fun_ext (λ u. add_assoc (seen u) (flag (eqb u v)) (times u vs)))
      (grown_looked
      vs
      (more seen v)
      (touched V' own w far v s)
      (grown_look seen v s g (rest_first seen v vs r) (look_touched V' own w far v s))
      (rest_after seen v vs r))

  -- and each of them is safe
  pub looked_safe :
      (vs : List ℕ) (seen : ℕ → ℕ) (s : State) →
      Good seen s →
      Rest seen vs →
      (k : ℕ) →
      k < length vs →
      Safe n V' own (looked V' own w far (take k vs) s) (get_or vs k 0)
  unfolding looked
  looked_safe [] seen s g r k l = absurd (not-suc-le-zero l)
  looked_safe (v ∷ vs) seen s g r zero l = look_safe seen s v g (rest_first seen v vs r)
  looked_safe (v ∷ vs) seen s g r (suc k) l =
      looked_safe
      vs
      (more seen v)
      (touched V' own w far v s)
      (grown_look seen v s g (rest_first seen v vs r) (look_touched V' own w far v s))
      (rest_after seen v vs r)
      k
      (le_of_suc-le-suc l)

-- a later state while w is taken: no member leaves; who comes in is so far, in the next layer, and has w as entry where it is
-- own; of the others distance, entry and next layer stay
pub record LooksOnward (own : Set) (w far : ℕ) (s t : State) : Type 0 where
  pub members : (u : ℕ) → s.members u ≡ true → t.members u ≡ true
  pub stays :
      (u : ℕ) →
      (s.members u ≡ false → t.members u ≡ true → ⊥) →
      (t.distance u ≡ s.distance u) × (t.entry u ≡ s.entry u) × (t.next u ≡ s.next u)
  pub comes :
      (u : ℕ) →
      s.members u ≡ false →
      t.members u ≡ true →
      (t.distance u ≡ far) × (t.entry u ≡ cond (own u) w (s.entry u)) × (t.next u ≡ true)

onward_same : (own : Set) (w far : ℕ) (s : State) → LooksOnward own w far s s
onward_same own w far s =
    record { members = λ u m. m; stays = λ u h. (refl, refl, refl); comes = λ u o m. absurd (clash m o) }

onward_then : {own : Set} {w far : ℕ} {s t r : State} → LooksOnward own w far s t → LooksOnward own w far t r → LooksOnward own w far s r
onward_then {own} {w} {far} {s} {t} {r} a b =
    record {
      members = λ u m. b.members u (a.members u m);
      stays =
          λ u h.
          let (d, e, x) =
          b.stays u
          (λ o m.
          ⊎_elim
          (λ i. clash (a.members u i) o)
          (λ i. h i m)
          (bool_cases (s.members u))) in
          let (d', e', x') = a.stays u (λ o m. h o (b.members u m)) in
          (d ∙ d', e ∙ e', x ∙ x');
      comes = λ u o m. ⊎_elim (early u o m) (late u o m) (bool_cases (t.members u));
    }
  where
    early :
        (u : ℕ) → s.members u ≡ false → r.members u ≡ true → t.members u ≡ true →
        (r.distance u ≡ far) × (r.entry u ≡ cond (own u) w (s.entry u)) × (r.next u ≡ true)
    early u o m i =
        let (d, e, x) = b.stays u (λ out m. clash i out) in
        let (d', e', x') = a.comes u o i in
        (d ∙ d', e ∙ e', x ∙ x')

    late :
        (u : ℕ) → s.members u ≡ false → r.members u ≡ true → t.members u ≡ false →
        (r.distance u ≡ far) × (r.entry u ≡ cond (own u) w (s.entry u)) × (r.next u ≡ true)
    late u o m i =
        let (d, e, x) = b.comes u i m in
        let (d', e', x') = a.stays u (λ out m. clash m i) in
        (d, e ∙ ap (λ (y : ℕ). cond (own u) w y) e', x)

-- v comes in, its counter changed or not, and its entry
onward_joined :
    (own : Set) (w far v : ℕ) (s t : State) →
    t.members ≡ s.members →
    t.distance ≡ s.distance →
    t.next ≡ s.next →
    ((u : ℕ) → (u ≡ v → ⊥) → t.entry u ≡ s.entry u) →
    t.entry v ≡ cond (own v) w (s.entry v) →
    s.members v ≡ false →
    LooksOnward own w far s (joined far v t)
unfolding joined
onward_joined own w far v s t same-members same-distance same_next there here out =
    record {
      members =
          λ u m. ⊎_elim (λ e. rw e) (λ e. rw e (ap (λ (S : Set). S u) same-members ∙ m)) (bool_cases (eqb u v));
      stays = λ u h. stay u h (ℕ_discrete u v);
      comes = λ u o m. come u o m (ℕ_discrete u v);
    }
  where
    stay :
        (u : ℕ) → (s.members u ≡ false → with_one v t.members u ≡ true → ⊥) → Dec (u ≡ v) →
        (put v far t.distance u ≡ s.distance u) × (t.entry u ≡ s.entry u) × (with_one v t.next u ≡ s.next u)
    stay u h (yes e) = absurd (h (ap s.members e ∙ out) (rw (eq-eqb u v e)))
    stay u h (no d) =
        rw (ne_eqb u v d) (
          ap (λ (f : ℕ → ℕ). f u) same-distance,
          there u d,
          ap (λ (S : Set). S u) same_next,
        )

    come :
        (u : ℕ) → s.members u ≡ false → with_one v t.members u ≡ true → Dec (u ≡ v) →
        (put v far t.distance u ≡ far) × (t.entry u ≡ cond (own u) w (s.entry u)) × (with_one v t.next u ≡ true)
    come u o m (yes e) = rw (eq-eqb u v e) (
      refl,
      ap t.entry e ∙ here ∙ ap (λ (x : ℕ). cond (own x) w (s.entry x)) (sym e),
      refl,
    )
    come u o m (no d) = absurd (clash (rw (ne_eqb u v d) at m) (ap (λ (S : Set). S u) same-members ∙ o))

onward_look : {V' own : Set} {w far v : ℕ} {s t : State} → Look V' own w far v s t → LooksOnward own w far s t
unfolding entered counted
onward_look {own = own} {w = w} {far = far} {s = s} (outside o) = onward_same own w far s
onward_look {own = own} {w = w} {far = far} {s = s} (again m) = onward_same own w far s
onward_look {own = own} {w = w} {far = far} {v = v} {s = s} (by_entry i m o) =
    onward_joined own w far v s (entered w v s) refl refl refl
    (λ u d. rw (ne_eqb u v d))
    (rw (eq-eqb v v refl, o))
    m
onward_look {own = own} {w = w} {far = far} {v = v} {s = s} (by_last i m o z) =
    onward_joined own w far v s (counted v s) refl refl refl (λ u d. refl) (rw o) m
onward_look {own = own} {w = w} {far = far} {s = s} (by_count i m o z) =
    record { members = λ u m. m; stays = λ u h. (refl, refl, refl); comes = λ u o m. absurd (clash m o) }

pub onward_looked : (V' own : Set) (w far : ℕ) (vs : List ℕ) (s : State) → LooksOnward own w far s (looked V' own w far vs s)
unfolding looked
onward_looked V' own w far [] s = onward_same own w far s
onward_looked V' own w far (v ∷ vs) s =
    onward_then (onward_look (look_touched V' own w far v s)) (onward_looked V' own w far vs (touched V' own w far v s))
