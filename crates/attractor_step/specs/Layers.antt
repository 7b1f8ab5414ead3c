-- Layer by layer: while the members of distance d are taken in rising order, whoever comes in has distance d + 1 and, where it
-- is own, the rules' entry.
use Rattle.std.specs.Prelude.{Bool, true, false, ◌&&◌, ◌||◌, not, cond, List, ◌≡◌, refl, ℕ, suc, ◌≤◌, ◌<◌, eqb}
use Rattle.std.proofs.Math.Bool.{or-false}
use Rattle.std.proofs.Common.{⊎_elim, sym, ap, ap₂, ◌∙◌, arith, eq-eqb, ne_eqb, eqb-true}
use Rattle.std.proofs.Math.Decide.{ℕ_discrete}
use Rattle.std.proofs.lemmas.Bool.{not-true}
use Rattle.rules.specs.Counting.{Set}
use Rattle.rules.specs.Game.{Player, Game, Edge, same}
use Rattle.rules.specs.Attractor.{attractor}
use Rattle.rules.specs.Distance.{outside, distance, attractor_entry}
use Rattle.basics.specs.Basics.{bool_cases, clash, and_intro, and_left}
use Rattle.basics.specs.Basics.{and_right, or_left, or_right, or_cases, lt_or_ge}
use Rattle.basics.specs.Basics.{not_true_is_false, times_pos, times_member}
use Rattle.theory.specs.Players.{same_true, same_false}
use Rattle.theory.specs.Attractor.{Fits, draws_all, draws_more, grown_zero, attractor_is}
use Rattle.theory.specs.Distance.{distance_target, distance_draws, near_grown, grown_near, own_joins, other_joins, entry_first}
use Rattle.attractor_counters.specs.Tally.{tally_pos}
use Rattle.attractor_look.specs.State.{State, looked}
use Rattle.attractor_look.specs.Looks.{LooksOnward, onward_looked}
use Rattle.attractor_step.specs.Taking.{Standing, TakeReady, and_one, taking_stands, member_drawn, drawn_member, new_met}

-- the members in neither layer
abbrev pub taken_of : Set → State → Set
taken_of now s u = s.members u && not (now u || s.next u)

-- S without w
abbrev pub but_one : ℕ → Set → Set
but_one w S u = cond (eqb u w) false (S u)

pub neither : (b c : Bool) → b ≡ false → c ≡ false → not (b || c) ≡ true
neither b c p q = rw (p, q)

taken_cases : (now : Set) (s : State) (u : ℕ) → taken_of now s u ≡ true → (s.members u ≡ true) × (now u ≡ false) ×
    (s.next u ≡ false)
taken_cases now s u p =
    let none = not-true (now u || s.next u) (and_right (s.members u) _ p) in (
      and_left (s.members u) _ p,
      not_true_is_false (now u) (λ q. clash (or_left (now u) _ q) none),
      not_true_is_false (s.next u) (λ q. clash (or_right (now u) _ q) none),
    )

-- both layers are of members, apart from each other
pub record LayersApart (now : Set) (s : State) : Type 0 where
  pub inside : (u : ℕ) → now u ≡ true → s.members u ≡ true
  pub found : (u : ℕ) → s.next u ≡ true → s.members u ≡ true
  pub apart : (u : ℕ) → now u ≡ true → s.next u ≡ false

but_in : (w : ℕ) (now : Set) (u : ℕ) → but_one w now u ≡ true → now u ≡ true
but_in w now u p = ⊎_elim (λ e. absurd (clash p (rw e))) (λ e. rw e at p) (bool_cases (eqb u w))

module _ {own : Set} {w far : ℕ} {now : Set} {s t : State} (on : LooksOnward own w far s t) (c : LayersApart now s) (here : now w ≡ true)
  where
    old_next : (u : ℕ) → s.members u ≡ true → t.next u ≡ s.next u
    old_next u m = (on.stays u (λ out i. clash m out)).2

    pub parts_onward : LayersApart (but_one w now) t
    parts_onward =
        record {
          inside = λ u p. on.members u (c.inside u (but_in w now u p));
          found =
              λ u p.
              ⊎_elim
              (λ m. m)
              (λ o. absurd (clash (on.members u (c.found u (sym (on.stays u (λ out i. clash i o)).2 ∙ p))) o))
              (bool_cases (t.members u));
          apart = λ u p. old_next u (c.inside u (but_in w now u p)) ∙ c.apart u (but_in w now u p);
        }

    -- w is taken, and no other
    pub taken_onward : (u : ℕ) → taken_of (but_one w now) t u ≡ and_one w (taken_of now s) u
    taken_onward u = go (ℕ_discrete u w)
      where
        gone : (b c : Bool) → (b && not (c || true)) ≡ false
        gone true true = refl
        gone true false = refl
        gone false true = refl
        gone false false = refl

        taken_here : taken_of (but_one w now) t w ≡ true
        taken_here =
            and_intro (on.members w (c.inside w here))
            (neither (but_one w now w) (t.next w) (rw (eq-eqb w w refl)) (old_next w (c.inside w here) ∙ c.apart w here))

        unchanged : (t.members u && not (now u || t.next u)) ≡ taken_of now s u
        unchanged =
            ⊎_elim
            (λ was. ap₂ (λ (b c : Bool). b && not (now u || c)) (on.members u was ∙ sym was) (old_next u was))
            (λ out.
            ⊎_elim
            (λ i.
            ap (λ (b : Bool). t.members u && not (now u || b)) (on.comes u out i).2 ∙ gone (t.members u) (now u))
            (λ o. ap (λ (b : Bool). b && not (now u || t.next u)) o)
            (bool_cases (t.members u)) ∙
            sym (ap (λ (b : Bool). b && not (now u || s.next u)) out))
            (bool_cases (s.members u))

        taken_there : (u ≡ w → ⊥) → taken_of (but_one w now) t u ≡ taken_of now s u
        taken_there differs =
            ap (λ (b : Bool). t.members u && not (cond b false (now u) || t.next u)) (ne_eqb u w differs) ∙ unchanged

        go : Dec (u ≡ w) → taken_of (but_one w now) t u ≡ and_one w (taken_of now s) u
        go (yes e) =
            ap (taken_of (but_one w now) t) e ∙ taken_here ∙ sym (or_right (taken_of now s u) (eqb u w) (eq-eqb u w e))
        go (no n) = taken_there n ∙ sym (rw (ne_eqb u w n) (or-false (taken_of now s u)))

module _ (g : Game) (a : Player) (V' T own : Set) where
  abbrev S : Set
  S = attractor g a V' T

  abbrev D : ℕ → ℕ
  D = distance g a V' T

  -- the members of distance d that are still to be taken stand in `now`, and those found for d + 1 in the next layer; every
  -- member has its distance, every own one outside T its entry, and all other entries are as they were
  pub record Layered (entry : ℕ → ℕ) (d : ℕ) (now : Set) (s : State) : Type 0 where
    pub near : (u : ℕ) → s.members u ≡ true → (S u ≡ true) × (D u ≤ suc d) × (T u ≡ false → s.distance u ≡ D u)
    pub complete : (u : ℕ) → S u ≡ true → D u ≤ d → s.members u ≡ true
    pub now_in : (u : ℕ) → now u ≡ true → (s.members u ≡ true) × (D u ≡ d)
    pub next_in : (u : ℕ) → s.next u ≡ true → (s.members u ≡ true) × (D u ≡ suc d)
    pub in_next : (u : ℕ) → s.members u ≡ true → D u ≡ suc d → s.next u ≡ true
    pub entered : (u : ℕ) → s.members u ≡ true → T u ≡ false → own u ≡ true → s.entry u ≡ attractor_entry g a V' T u
    pub kept : (u : ℕ) → (s.members u ≡ true → T u ≡ false → own u ≡ true → ⊥) → s.entry u ≡ entry u

  module _ (fits : Fits g V' T) where
    -- T is the first layer
    pub layered_first :
        (entry : ℕ → ℕ) (s : State) → s.members ≡ T → ((u : ℕ) → s.next u ≡ false) → s.entry ≡ entry → Layered entry 0 T s
    layered_first entry s is none same_entry =
        record {
          near =
              λ u m.
              let t = sym (here u) ∙ m in (
                (attractor_is g a V' T fits).closed.target u t,
                let z = distance_target g a V' T fits u t in omega arith,
                λ out. absurd (clash t out),
              );
          complete = λ u p l. here u ∙ grown_zero g a V' T u (near_grown g a V' T fits 0 u p l);
          now_in = λ u t. (here u ∙ t, distance_target g a V' T fits u t);
          next_in = λ u p. absurd (clash p (none u));
          in_next = λ u m e. absurd (let z = distance_target g a V' T fits u (sym (here u) ∙ m) in omega arith);
          entered = λ u m t o. absurd (clash (sym (here u) ∙ m) t);
          kept = λ u h. ap (λ (f : ℕ → ℕ). f u) same_entry;
        }
      where
        here : (u : ℕ) → s.members u ≡ T u
        here u = ap (λ (X : Set). X u) is

    module _ (few : g.size ≤ outside) (owned : (v : ℕ) → own v ≡ same (g.owner v) a)
        (entry : ℕ → ℕ) (d : ℕ) (now : Set) (s : State)
        (st : Standing g.size g.targets V' T own (taken_of now s) s)
        (c : Layered entry d now s)
      where
        -- a member that is no further than d and not in this layer's rest is taken
        is_taken : (x : ℕ) → S x ≡ true → D x ≤ d → now x ≡ false → taken_of now s x ≡ true
        is_taken x p l out =
            and_intro (c.complete x p l)
            (neither (now x) (s.next x) out
            (not_true_is_false (s.next x) (λ q. let e = (c.next_in x q).1 in omega arith)))

        -- the taken are no further than d
        taken_near : (x : ℕ) → taken_of now s x ≡ true → (S x ≡ true) × (D x ≤ d)
        taken_near x p =
            let (m, out, no-next) = taken_cases now s x p in
            let (q, l, e) = c.near x m in (
              q,
              ⊎_elim (λ less. omega arith) (λ more. absurd (clash (c.in_next x m (omega arith)) no-next)) (lt_or_ge (D x)
                  (suc d)),
            )

        module _ (w : ℕ) (row : List ℕ) (here : now w ≡ true) (lowest : (u : ℕ) → u < w → now u ≡ false)
            (nx : TakeReady g.size g.targets (taken_of now s) w row s)
          where
            abbrev t : State
            t = looked V' own w (suc d) row s

            abbrev now' : Set
            now' = but_one w now

            on : LooksOnward own w (suc d) s t
            on = onward_looked V' own w (suc d) row s

            stands : Standing g.size g.targets V' T own (and_one w (taken_of now s)) t
            stands = taking_stands g.size g.targets V' T own (taken_of now s) w (suc d) row s st nx

            w_far : D w ≡ d
            w_far = (c.now_in w here).1

            w_in : S w ≡ true
            w_in = (c.near w nx.member).0

            -- one that comes in
            module _ (v : ℕ) (out : s.members v ≡ false) (m : t.members v ≡ true) where
              outside_target : T v ≡ false
              outside_target = not_true_is_false (T v) (λ p. clash ((st.marks v).target_in p) out)

              inside : V' v ≡ true
              inside = (stands.marks v).member_inside m

              edge : Edge g v w
              edge =
                  times_member w (g.targets v)
                  (rw (nx.listed.entries v) at (times_pos v row (new_met g a V' T own owned (taken_of now s) 0 w (suc d)
                  row s st nx v out m)))

              -- no edge of an own one led to a taken vertex
              untaken : own v ≡ true → (x : ℕ) → Edge g v x → taken_of now s x ≡ true → ⊥
              untaken o x e p =
                  let none = (st.marks v).own_out inside out o in
                  let some = tally_pos (g.targets v) (taken_of now s) x e p in
                  omega arith

              mine : own v ≡ true → (S v ≡ true) × (D v ≡ suc (D w))
              mine o =
                  own_joins g a V' T fits v w inside outside_target (same_true (g.owner v) a (sym (owned v) ∙ o)) edge w_in
                  (λ x e p.
                  ⊎_elim
                  (λ less.
                  absurd
                  (untaken o x e
                  (is_taken x p (omega (arith, w_far))
                  (not_true_is_false (now x) (λ q. let z = (c.now_in x q).1 in omega (arith, w_far))))))
                  (λ l. l)
                  (lt_or_ge (D x) (D w)))

              theirs : own v ≡ false → (S v ≡ true) × (D v ≡ suc (D w))
              theirs o =
                  let other = same_false (g.owner v) a (sym (owned v) ∙ o) in
                  let draw = member_drawn g a V' T own owned (and_one w (taken_of now s)) t stands v m outside_target in
                  other_joins g a V' T fits v w inside outside_target other edge ((st.marks w).member_inside nx.member)
                  (λ x e i.
                  ⊎_elim
                  (λ p. let (q, l) = taken_near x p in (q, omega (arith, w_far)))
                  (λ p. let is = eqb-true x w p in (ap S is ∙ w_in, let z = ap D is in omega arith))
                  (or_cases (taken_of now s x) _ (draws_all other draw x e i)))

              pub comes_far : (S v ≡ true) × (D v ≡ suc d)
              comes_far =
                  let (p, e) = ⊎_elim mine theirs (bool_cases (own v)) in (p, e ∙ ap suc w_far)

              pub comes_entry : own v ≡ true → attractor_entry g a V' T v ≡ w
              comes_entry o =
                  let (p, e) = mine o in
                  entry_first g a V' T fits few v w p outside_target (same_true (g.owner v) a (sym (owned v) ∙ o)) edge w_in e
                  (λ x less f q z. untaken o x f (is_taken x q (omega (arith, w_far)) (lowest x less)))

            -- of each vertex: it was in, it comes in, or it stays out
            each : {P : Type 0} (u : ℕ) →
                (s.members u ≡ true → P) →
                (s.members u ≡ false → t.members u ≡ true → P) →
                (s.members u ≡ false → t.members u ≡ false → P) →
                P
            each u was new not_in =
                ⊎_elim was (λ out. ⊎_elim (new out) (not_in out) (bool_cases (t.members u))) (bool_cases (s.members u))

            old : (u : ℕ) → s.members u ≡ true → (t.distance u ≡ s.distance u) × (t.entry u ≡ s.entry u) ×
                (t.next u ≡ s.next u)
            old u m = on.stays u (λ out i. clash m out)

            unborn : (u : ℕ) → t.members u ≡ false → (t.distance u ≡ s.distance u) × (t.entry u ≡ s.entry u) ×
                (t.next u ≡ s.next u)
            unborn u o = on.stays u (λ out i. clash i o)

            -- **after w is taken the same holds of what is left of the layer**
            pub layered_more : Layered entry d now' t
            layered_more =
                record {
                  near =
                      λ u m.
                      each u
                      (λ was. let (p, l, e) = c.near u was in (p, l, λ o. (old u was).0 ∙ e o))
                      (λ out i. let (p, e) = comes_far u out i in (p, omega arith, λ o. (on.comes u out i).0 ∙ sym e))
                      (λ out o. absurd (clash m o));
                  complete = λ u p l. on.members u (c.complete u p l);
                  now_in = λ u p. let (m, e) = c.now_in u (but_in w now u p) in (on.members u m, e);
                  next_in =
                      λ u p.
                      each u
                      (λ was. let (m, e) = c.next_in u (sym (old u was).2 ∙ p) in (on.members u m, e))
                      (λ out i. (i, (comes_far u out i).1))
                      (λ out o. absurd (clash (c.next_in u (sym (unborn u o).2 ∙ p)).0 out));
                  in_next =
                      λ u m e.
                      each u
                      (λ was. (old u was).2 ∙ c.in_next u was e)
                      (λ out i. (on.comes u out i).2)
                      (λ out o. absurd (clash m o));
                  entered =
                      λ u m o i.
                      each u
                      (λ was. (old u was).1 ∙ c.entered u was o i)
                      (λ out n. (on.comes u out n).1 ∙ (rw i (sym (comes_entry u out n i))))
                      (λ out n. absurd (clash m n));
                  kept =
                      λ u h.
                      each u
                      (λ was. (old u was).1 ∙ c.kept u (λ m. h (on.members u m)))
                      (λ out n.
                      ⊎_elim
                      (λ i. absurd (h n (outside_target u out n) i))
                      (λ i. (on.comes u out n).1 ∙ (rw i (c.kept u (λ m. absurd (clash m out)))))
                      (bool_cases (own u)))
                      (λ out n. (unborn u n).1 ∙ c.kept u (λ m. absurd (clash m out)));
                }

        -- the layer is done: the next one is taken, and a state with an empty one after it
        module _ (done : (u : ℕ) → now u ≡ false) (t : State)
            (same-members : t.members ≡ s.members)
            (same-distance : t.distance ≡ s.distance)
            (same_entry : t.entry ≡ s.entry)
            (none : (u : ℕ) → t.next u ≡ false)
          where
            was : (u : ℕ) → t.members u ≡ s.members u
            was u = ap (λ (X : Set). X u) same-members

            -- whoever is one further was drawn in
            all_in : (u : ℕ) → S u ≡ true → D u ≤ suc d → s.members u ≡ true
            all_in u p l = ⊎_elim (λ less. c.complete u p (omega arith)) far (lt_or_ge (D u) (suc d))
              where
                far : suc d ≤ D u → s.members u ≡ true
                far m =
                    let out = not_true_is_false (T u) (λ q. let z = distance_target g a V' T fits u q in omega arith) in
                    let (k, e, draw) = distance_draws g a V' T fits u p out in
                    drawn_member g a V' T own owned (taken_of now s) s st u
                    (draws_more
                    (λ x q. let (i, near) = grown_near g a V' T fits k x q in is_taken x i (omega arith) (done x))
                    draw)

            pub layered_turn : Layered entry (suc d) s.next t
            layered_turn =
                record {
                  near =
                      λ u m.
                      let (p, l, e) = c.near u (sym (was u) ∙ m) in
                      (p, omega arith, λ o. ap (λ (f : ℕ → ℕ). f u) same-distance ∙ e o);
                  complete = λ u p l. was u ∙ all_in u p l;
                  now_in = λ u p. let (m, e) = c.next_in u p in (was u ∙ m, e);
                  next_in = λ u p. absurd (clash p (none u));
                  in_next = λ u m e. absurd (let l = (c.near u (sym (was u) ∙ m)).1 in omega arith);
                  entered = λ u m o i. ap (λ (f : ℕ → ℕ). f u) same_entry ∙ c.entered u (sym (was u) ∙ m) o i;
                  kept = λ u h. ap (λ (f : ℕ → ℕ). f u) same_entry ∙ c.kept u (λ m. h (was u ∙ m));
                }
