-- Every way of going by the steps ends in the attractor, and has then looked once at each edge that ends in it; and there is such a way.
use Rattle.std.specs.Prelude.{true, false, ◌&&◌, ◌||◌, ◌⊎◌, ◌≡◌, ℕ, zero, suc, ◌+◌, ◌≤◌, ◌<◌, eqb, length}
use mathlib.Core.List.{Memᴰ}
use Rattle.std.proofs.Common.{inl, inr, ⊎_elim, ap, ap₂, ◌∙◌, arith, eqb-true, eq-eqb}
use Rattle.std.proofs.Math.Path.{refl, sym, fun_ext}
use Rattle.rules.specs.Counting.{Set, some, some_of, count, without}
use Rattle.rules.specs.Game.{Player, Game, Edge}
use Rattle.rules.specs.Attractor.{drawn, IsAttractor, attractor}
use Rattle.theory.specs.Steps.{Growing, at_first, TakesOne, Takes, stop, next, Finished}
use Rattle.rules.specs.Attractor.{looks_of}
use Rattle.basics.specs.Basics.{bool_cases, clash, bool_ext, and_intro, and_right, or_left, or_right, or_cases}
use Rattle.basics.specs.Basics.{not_false_is_true, member_cases, some_elim, some_false, some_of_intro, count_strict}
use Rattle.basics.specs.Basics.{without_intro, without_left, without_right}
use Rattle.basics.specs.Sums.{count_full}
use Rattle.theory.specs.Attractor.{Draws, by_own, by_other, draws, drawn_so, draws_along, draws_more, Fits}
use Rattle.theory.specs.Attractor.{attractor_is, attractor_below, attractor_unique}
use Rattle.theory.specs.AttractorLooks.{edge_source, entries_length, looks_none, looks_more, sources_of, sources_of_entries}

-- what holds after every step: T and whatever the taken vertices draw are members, the taken are members, no member lies outside the
-- attractor, and the looks are the edges that end in taken vertices
pub record Growth (g : Game) (a : Player) (V' T : Set) (s : Growing) : Type 0 where
  pub target : (v : ℕ) → T v ≡ true → s.members v ≡ true
  pub took : (v : ℕ) → s.taken v ≡ true → s.members v ≡ true
  pub complete : (v : ℕ) → Draws g a V' s.taken v → s.members v ≡ true
  pub bounded : (v : ℕ) → s.members v ≡ true → attractor g a V' T v ≡ true
  pub looked : s.looks ≡ looks_of g s.taken

-- one step
module _ {g : Game} {a : Player} {V' : Set} {s t : Growing} (step : TakesOne g a V' s t) where
  pub member_kept : (v : ℕ) → s.members v ≡ true → t.members v ≡ true
  member_kept v p = rw (step.members v) (or_left (s.members v) _ p)

  pub member_cases_of :
      (v : ℕ) → t.members v ≡ true → (s.members v ≡ true) ⊎ Draws g a V' t.taken v
  member_cases_of v p =
      ⊎_elim
      inl
      (λ q. inr (draws v (and_right (some_of step.sources (eqb v)) _ q)))
      (or_cases (s.members v) _ (rw (step.members v) at p))

  pub taken_kept : (v : ℕ) → s.taken v ≡ true → t.taken v ≡ true
  taken_kept v p = rw (step.taken v) (or_left (s.taken v) _ p)

  pub taken_new : t.taken step.vertex ≡ true
  taken_new = rw (step.taken step.vertex) (or_right (s.taken step.vertex) _ (eq-eqb step.vertex step.vertex refl))

  pub taken_cases : (v : ℕ) → t.taken v ≡ true → (s.taken v ≡ true) ⊎ (v ≡ step.vertex)
  taken_cases v p =
      ⊎_elim inl (λ q. inr (eqb-true v step.vertex q)) (or_cases (s.taken v) _ (rw (step.taken v) at p))

-- one step more at the end
pub takes_then :
    {g : Game} {a : Player} {V' : Set} {s t u : Growing} → Takes g a V' s t → TakesOne g a V' t u → Takes g a V' s u
takes_then stop last = next last stop
takes_then (next first rest) last = next first (takes_then rest last)

module _ (g : Game) (a : Player) (V' T : Set) (starts : (v w : ℕ) → Edge g v w → v < g.size) (fits : Fits g V' T) where
  -- it holds at first
  at_first_lem : Growth g a V' T (at_first T)
  unfolding at_first
  at_first_lem =
      record {
        target = λ v p. p;
        took = λ v p. absurd (clash p refl);
        complete = λ v d. absurd (none v d);
        bounded = (attractor_is g a V' T fits).closed.target;
        looked = sym (looks_none g);
      }
    where
      none : (v : ℕ) → Draws g a V' (λ u. false) v → ⊥
      none v (by_own i o e s) = clash s refl
      none v (by_other i o e j all) = clash (all _ e j) refl

  vertex_below : {s t : Growing} (step : TakesOne g a V' s t) → Growth g a V' T s → step.vertex < g.size
  vertex_below step before = attractor_below g a V' T step.vertex (before.bounded step.vertex step.member)

  -- a step keeps it
  grows : {s t : Growing} → TakesOne g a V' s t → Growth g a V' T s → Growth g a V' T t
  grows {s} {t} step before =
      record {
        target = λ v p. member_kept step v (before.target v p);
        took = λ v p. member_kept step v (was_member v p);
        complete = λ v d. ⊎_elim (among v d) (apart v d) (member_cases v step.sources);
        bounded = bounded;
        looked =
            step.looks ∙
            ap₂
            (λ (x y : ℕ). x + y)
            before.looked
            (entries_length g starts step.vertex step.sources step.entries) ∙
            sym (looks_more g s.taken t.taken step.vertex (vertex_below step before) step.fresh step.taken);
      }
    where
      -- whatever is taken now was a member before
      was_member : (v : ℕ) → t.taken v ≡ true → s.members v ≡ true
      was_member v p = ⊎_elim (before.took v) (λ e. rw e step.member) (taken_cases step v p)

      bounded : (v : ℕ) → t.members v ≡ true → attractor g a V' T v ≡ true
      bounded v p =
          ⊎_elim
          (before.bounded v)
          (λ d.
          (attractor_is g a V' T fits).closed.attracted v
          (drawn_so v (draws_more (λ w q. before.bounded w (was_member w q)) d)))
          (member_cases_of step v p)

      -- a vertex with an edge to the vertex taken is looked at, and drawn in where it may be
      among : (v : ℕ) → Draws g a V' t.taken v → Memᴰ v step.sources → t.members v ≡ true
      among v d m =
          rw (step.members v)
          (or_right (s.members v) _
          (and_intro (some_of_intro step.sources (eqb v) v m (eq-eqb v v refl)) (drawn_so v d)))

      -- one with none was complete before
      apart : (v : ℕ) → Draws g a V' t.taken v → (Memᴰ v step.sources → ⊥) → t.members v ≡ true
      apart v d out =
          member_kept step v
          (before.complete v
          (draws_along
          (λ w e q.
          ⊎_elim
          (λ old. old)
          (λ same.
          absurd (out (edge_source g v step.vertex step.sources step.entries (rw (← same) e))))
          (taken_cases step w q))
          d))

  grows_on : {s t : Growing} → Takes g a V' s t → Growth g a V' T s → Growth g a V' T t
  grows_on stop before = before
  grows_on (next step rest) before = grows_on rest (grows step before)

  pub growth : {s : Growing} → Takes g a V' (at_first T) s → Growth g a V' T s
  growth run = grows_on run at_first_lem

  -- **when no member is left to take, the members are the attractor**
  pub steps_attractor : {s : Growing} → Takes g a V' (at_first T) s → Finished s → IsAttractor g a V' T s.members
  steps_attractor run done =
      let after = growth run in
      record {
        closed =
            record { target = after.target; attracted = λ v p. after.complete v (draws_more done (draws v p)) };
        smallest = λ S' c v p. (attractor_is g a V' T fits).smallest S' c v (after.bounded v p);
      }

  pub steps_members : {s : Growing} → Takes g a V' (at_first T) s → Finished s → (v : ℕ) → s.members v ≡ attractor g a V' T v
  steps_members run done = attractor_unique (steps_attractor run done) (attractor_is g a V' T fits)

  -- **and each edge that ends in it was looked at once**
  pub steps_looks : {s : Growing} → Takes g a V' (at_first T) s → Finished s → s.looks ≡ looks_of g (attractor g a V' T)
  steps_looks {s} run done =
      let after = growth run in
      after.looked ∙
      ap
      (looks_of g)
      (fun_ext (λ v. bool_ext (s.taken v) (s.members v) (after.took v) (done v) ∙ steps_members run done v))

  -- a member that is not taken yet can be taken
  pub steps_go_on :
      (s : Growing) (v : ℕ) →
      s.members v ≡ true →
      s.taken v ≡ false →
      (t : Growing) × TakesOne g a V' s t
  steps_go_on s v p q =
      let taken : Set = λ u. s.taken u || eqb u v in (
        record {
          members = λ u. s.members u || some_of (sources_of g v) (eqb u) && drawn g a V' taken u;
          taken = taken;
          looks = s.looks + length (sources_of g v);
        },
        record {
          vertex = v;
          member = p;
          fresh = q;
          sources = sources_of g v;
          entries = sources_of_entries g starts v;
          looks = refl;
          taken = λ u. refl;
          members = λ u. refl;
        },
      )

  -- each step takes one vertex more
  takes_more :
      {s t : Growing} → TakesOne g a V' s t → Growth g a V' T s → count g.size s.taken < count g.size t.taken
  takes_more {s} {t} step before =
      count_strict
      g.size
      s.taken
      t.taken
      (λ w l. taken_kept step w)
      step.vertex
      (vertex_below step before)
      step.fresh
      (taken_new step)

  -- a member is left to take, or none is
  left_or_finished :
      (s : Growing) →
      Growth g a V' T s →
      ((v : ℕ) × (s.members v ≡ true) × (s.taken v ≡ false)) ⊎ Finished s
  left_or_finished s before =
      ⊎_elim
      (λ p. let (v, l, q) = some_elim g.size (without s.members s.taken) p in
      inl (v, without_left s.members s.taken v q, without_right s.members s.taken v q))
      (λ p.
      inr
      (λ v q.
      not_false_is_true
      (s.taken v)
      (λ out.
      clash
      (without_intro s.members s.taken v q out)
      (some_false g.size (without s.members s.taken) p v (attractor_below g a V' T v (before.bounded v q))))))
      (bool_cases (some g.size (without s.members s.taken)))

  -- with k or fewer vertices not taken it ends
  ends :
      (k : ℕ) (s : Growing) →
      Growth g a V' T s →
      g.size ≤ k + count g.size s.taken →
      (t : Growing) × Takes g a V' s t × Finished t
  ends zero s before enough =
      (s, stop, λ v p. count_full g.size s.taken (omega arith) v (attractor_below g a V' T v (before.bounded v p)))
  ends (suc k) s before enough =
      ⊎_elim
      (λ left.
      let (v, p, q) = left in
      let (t, step) = steps_go_on s v p q in
      let more = takes_more step before in
      let (u, run, done) = ends k t (grows step before) (omega arith) in
      (u, next step run, done))
      (λ done. (s, stop, done))
      (left_or_finished s before)

  -- **some way of going by the steps ends**
  pub steps_end : (t : Growing) × Takes g a V' (at_first T) t × Finished t
  steps_end = ends g.size (at_first T) at_first_lem (omega arith)
