-- Walks and reach along any relation R: joined, carried over to another relation, the vertices that a walk leaves and its highest
-- priority, and the few lemmas by which every argument about cycles goes. No cycle is ever turned to start elsewhere.
use Rattle.std.specs.Prelude.{true, false, ◌⊎◌, ◌≡◌, ℕ, zero, suc, ◌+◌, max, ◌≤◌, ◌<◌}
use mathlib.Core.List.{List, [], ◌∷◌, Memᴰ}
use Rattle.std.proofs.Common.{inl, inr, ap, ◌∙◌, le_refl, le_antisymm, lt_trans, lt_irrefl, add-suc, add-zero, arith}
use Rattle.std.proofs.Math.Logic.{⊎_elim}
use Rattle.std.proofs.Math.Path.{refl, sym}
use Rattle.std.proofs.Math.Nat.{le_of_eq, le_trans, le-max_left, le-max_right, max-le, max-eq_left, max-eq_right}
use Rattle.rules.specs.Counting.{Set, some_of}
use Rattle.rules.specs.Winning.{Walk, one, more, Cycle, Reach, here, step}
use Rattle.basics.specs.Basics.{bool_cases, clash, not_true_is_false, le_or_ge, some_of_elim, some_of_false}

-- a relation between vertices
abbrev pub Relation : Type 1
Relation = ℕ → ℕ → Type 0

-- every edge of R is an edge of Q
abbrev pub Carries : Relation → Relation → Type 0
Carries R Q = (v w : ℕ) → R v w → Q v w

-- an edge of R of which both ends have the property P
pub record Among (P : ℕ → Type 0) (R : Relation) (v w : ℕ) : Type 0 where
  pub edge : R v w
  pub start : P v
  pub end : P w

pub reach_append : {R : Relation} {v w u : ℕ} → Reach R v w → Reach R w u → Reach R v u
reach_append here r = r
reach_append (step e q) r = step e (reach_append q r)

-- reach, then one step
pub reach_step : {R : Relation} {v w u : ℕ} → Reach R v w → R w u → Reach R v u
reach_step q e = reach_append q (step e here)

pub reach_map : {R Q : Relation} {v w : ℕ} → Carries R Q → Reach R v w → Reach Q v w
reach_map f here = here
reach_map f (step e q) = step (f _ _ e) (reach_map f q)

-- a set that no edge leaves is not left by reach
pub reach_stays : {R : Relation} {v w : ℕ} (P : ℕ → Type 0) → ((x y : ℕ) → R x y → P x → P y) → P v → Reach R v w → P w
reach_stays P kept p here = p
reach_stays P kept p (step e q) = reach_stays P kept (kept _ _ e p) q

module _ {priority : ℕ → ℕ} where
  pub walk_append :
      {R : Relation} {v w u m k : ℕ} → Walk priority R v w m → Walk priority R w u k → Walk priority R v u (max m k)
  walk_append (one e) d = more e d
  walk_append {R} {k} (more {v} {m} e c) d =
      let joined : max (max (priority v) m) k ≡ max (priority v) (max m k) = omega arith in rw joined (more e (walk_append c d))

  pub walk_map : {R Q : Relation} {v w m : ℕ} → Carries R Q → Walk priority R v w m → Walk priority Q v w m
  walk_map f (one e) = one (f _ _ e)
  walk_map f (more e c) = more (f _ _ e) (walk_map f c)

  pub walk_reach : {R : Relation} {v w m : ℕ} → Walk priority R v w m → Reach R v w
  walk_reach (one e) = step e here
  walk_reach (more e c) = step e (walk_reach c)

  -- the first edge of a walk
  pub first_edge : {R : Relation} {v w m : ℕ} → Walk priority R v w m → (u : ℕ) × R v u
  first_edge (one {w} e) = (w, e)
  first_edge (more {w} e c) = (w, e)

  -- reach, then a walk: a walk, of a highest priority that is at least as high
  pub reach_walk : {R : Relation} {v w u m : ℕ} → Reach R v w → Walk priority R w u m → (k : ℕ) × (m ≤ k) × Walk priority R v u k
  reach_walk {m} here c = (m, le_refl m, c)
  reach_walk (step {v = x} e q) c =
      let (k, l, d) = reach_walk q c in (max (priority x) k, le_trans l (le-max_right (priority x) k), more e d)

  -- the vertices that a walk leaves, in order
  unfoldable pub left : {R : Relation} {v w m : ℕ} → Walk priority R v w m → List ℕ
  left (one {v} e) = v ∷ []
  left (more {v} e c) = v ∷ left c

  -- a walk leaves the vertex where it starts
  pub leaves_start : {R : Relation} {v w m : ℕ} (c : Walk priority R v w m) → Memᴰ v (left c)
  unfolding left
  leaves_start (one e) = mathlib.Core.List.Memᴰ.head refl
  leaves_start (more e c) = mathlib.Core.List.Memᴰ.head refl

  -- the highest priority is at least that of every vertex left
  pub highest_bounds : {R : Relation} {v w m : ℕ} (c : Walk priority R v w m) (u : ℕ) → Memᴰ u (left c) → priority u ≤ m
  unfolding left
  highest_bounds (one e) u l = le_of_eq (ap priority (mathlib.Core.List.Memᴰ.eq_of_singleton l))
  highest_bounds (more {v} {m} e c) u l =
      ⊎_elim
      (λ (q : u ≡ v). le_trans (le_of_eq (ap priority q)) (le-max_left (priority v) m))
      (λ (r : Memᴰ u (left c)). le_trans (highest_bounds c u r) (le-max_right (priority v) m))
      (mathlib.Core.List.Memᴰ.cases_cons l)

  -- the highest priority is that of some vertex left
  pub highest_attained : {R : Relation} {v w m : ℕ} (c : Walk priority R v w m) → (u : ℕ) × Memᴰ u (left c) × (priority u ≡ m)
  unfolding left
  highest_attained (one {v} e) = (v, mathlib.Core.List.Memᴰ.head refl, refl)
  highest_attained (more {v} {m} e c) =
      ⊎_elim
      (λ h. let (u, l, p) = highest_attained c in (u, mathlib.Core.List.Memᴰ.tail l, p ∙ sym (max-eq_right h)))
      (λ h. (v, mathlib.Core.List.Memᴰ.head refl, sym (max-eq_left h)))
      (le_or_ge (priority v) m)

  -- where no vertex left has a priority above k, the highest priority is not above k
  pub highest_le : {R : Relation} {v w m : ℕ} (k : ℕ) → ((x y : ℕ) → R x y → priority x ≤ k) → Walk priority R v w m → m ≤ k
  highest_le k small (one e) = small _ _ e
  highest_le k small (more e c) = max-le (small _ _ e) (highest_le k small c)

  -- where a vertex left has priority k and none has a higher one, k is the highest priority
  pub highest_is :
      {R : Relation} {v w m : ℕ} (k : ℕ) →
      ((x y : ℕ) → R x y → priority x ≤ k) →
      (c : Walk priority R v w m) (u : ℕ) →
      Memᴰ u (left c) →
      priority u ≡ k →
      m ≡ k
  highest_is k small c u l e = le_antisymm (highest_le k small c) (rw e at (highest_bounds c u l))

  -- what a walk leaves can be reached from its start, and its end can be reached from there
  pub left_reach : {R : Relation} {v w m : ℕ} (c : Walk priority R v w m) (u : ℕ) → Memᴰ u (left c) → Reach R v u × Reach R u w
  unfolding left
  left_reach (one e) u l = rw (mathlib.Core.List.Memᴰ.eq_of_singleton l) (here, step e here)
  left_reach {R} (more {v} {w} {u = x} e c) u l =
      ⊎_elim
      (λ (q : u ≡ v). rw q (here, step e (walk_reach c)))
      (λ (r : Memᴰ u (left c)). let (there, on) = left_reach c u r in (step e there, on))
      (mathlib.Core.List.Memᴰ.cases_cons l)

  -- a walk that leaves only vertices with the property P and ends in one is a walk among them
  pub walk_among :
      {R : Relation} {v w m : ℕ} (P : ℕ → Type 0) (c : Walk priority R v w m) →
      ((u : ℕ) → Memᴰ u (left c) → P u) → P w → Walk priority (Among P R) v w m
  unfolding left
  walk_among P (one {v} e) all last =
      one (record { edge = e; start = all v (mathlib.Core.List.Memᴰ.head refl); end = last })
  walk_among P (more {v} {w} e c) all last =
      more
      (record { edge = e; start = all v (mathlib.Core.List.Memᴰ.head refl); end = all w (mathlib.Core.List.Memᴰ.tail (leaves_start c)) })
      (walk_among P c (λ u l. all u (mathlib.Core.List.Memᴰ.tail l)) last)

  -- the walk leaves a vertex of S
  abbrev pub Meets : {R : Relation} {v w m : ℕ} → Set → Walk priority R v w m → Type 0
  Meets S c = (u : ℕ) × Memᴰ u (left c) × (S u ≡ true)

  -- hits: a walk that ends outside S leaves a vertex of S, or is a walk among vertices outside S
  pub walk_hits :
      {R : Relation} {v w m : ℕ} (S : Set) (c : Walk priority R v w m) →
      S w ≡ false →
      Meets S c ⊎ Walk priority (Among (λ u. S u ≡ false) R) v w m
  walk_hits S c last =
      ⊎_elim
      (λ p. inl (some_of_elim (left c) S p))
      (λ p. inr (walk_among (λ u. S u ≡ false) c (some_of_false (left c) S p) last))
      (bool_cases (some_of (left c) S))

  -- a cycle leaves a vertex of S, or is a cycle among vertices outside S
  pub hits :
      {R : Relation} {v m : ℕ} (S : Set) (c : Cycle priority R v m) →
      Meets S c ⊎ Cycle priority (Among (λ u. S u ≡ false) R) v m
  hits {v} S c = ⊎_elim (λ p. inl (v, leaves_start c, p)) (λ p. walk_hits S c p) (bool_cases (S v))

  -- stays: where no edge leads from P to outside P, a walk that starts in P is a walk among P
  pub stays :
      {R : Relation} {v w m : ℕ} (P : ℕ → Type 0) →
      ((x y : ℕ) → R x y → P x → P y) → P v → Walk priority R v w m → Walk priority (Among P R) v w m
  stays P kept p (one e) = one (record { edge = e; start = p; end = kept _ _ e p })
  stays P kept p (more e c) = more (record { edge = e; start = p; end = kept _ _ e p }) (stays P kept (kept _ _ e p) c)

  -- avoids: where no edge leads from outside P into P, a walk that ends in P is a walk among P
  pub avoids :
      {R : Relation} {v w m : ℕ} (P : ℕ → Type 0) →
      ((x y : ℕ) → R x y → P y → P x) → P w → Walk priority R v w m → P v × Walk priority (Among P R) v w m
  avoids P kept p (one e) = (kept _ _ e p, one (record { edge = e; start = kept _ _ e p; end = p }))
  avoids P kept p (more e c) =
      let (q, d) = avoids P kept p c in (kept _ _ e q, more (record { edge = e; start = kept _ _ e q; end = q }) d)

  -- a cycle lies within a set that no edge leaves, or outside it
  pub cycle_splits :
      {R : Relation} {v m : ℕ} (S : Set) →
      ((x y : ℕ) → R x y → S x ≡ true → S y ≡ true) →
      Cycle priority R v m →
      Cycle priority (Among (λ u. S u ≡ true) R) v m ⊎ Cycle priority (Among (λ u. S u ≡ false) R) v m
  cycle_splits {v} S kept c =
      ⊎_elim
      (λ p. inl (stays (λ u. S u ≡ true) kept p c))
      (λ p. inr (avoids (λ u. S u ≡ false) (λ x y e q. not_true_is_false (S x) (λ t. clash (kept x y e t) q)) p c).1)
      (bool_cases (S v))

  -- falls: a rank that sinks along every edge sinks along a walk
  pub falls :
      {R : Relation} {v w m : ℕ} (rank : ℕ → ℕ) → ((x y : ℕ) → R x y → rank y < rank x) → Walk priority R v w m → rank w < rank v
  falls rank sinks (one e) = sinks _ _ e
  falls rank sinks (more e c) = lt_trans (falls rank sinks c) (sinks _ _ e)

  -- so no cycle has a rank that sinks along its edges
  pub no_falling_cycle :
      {R : Relation} {v m : ℕ} (rank : ℕ → ℕ) → ((x y : ℕ) → R x y → rank y < rank x) → Cycle priority R v m → ⊥
  no_falling_cycle {v} rank sinks c = lt_irrefl (rank v) (falls rank sinks c)

  -- a sequence of vertices along R: from one of them to a later one there is a walk
  pub sequence_walk :
      {R : Relation} (f : ℕ → ℕ) → ((k : ℕ) → R (f k) (f (suc k))) → (i d : ℕ) → (m : ℕ) × Walk priority R (f i) (f (i + suc d)) m
  sequence_walk f along i zero = (priority (f i), rw (add-suc, add-zero) (one (along i)))
  sequence_walk {R} f along i (suc d) =
      let (m, c) = sequence_walk {R = R} f along i d in
      (max m (priority (f (i + suc d))), rw (add-suc i (suc d)) (walk_append c (one (along (i + suc d)))))

-- and each of them can be reached from the first
pub sequence_reach : {R : Relation} (f : ℕ → ℕ) → ((k : ℕ) → R (f k) (f (suc k))) → (i : ℕ) → Reach R (f 0) (f i)
sequence_reach f along zero = here
sequence_reach f along (suc i) = reach_step (sequence_reach f along i) (along i)
