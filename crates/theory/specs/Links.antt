-- The rules' links, which are tests between numbers below n, as relations: what spread and reached say, strongly connected parts,
-- the cycles that good_part and on_cycle look for, and distances.
use Rattle.std.specs.Prelude.{true, ◌&&◌, ◌||◌, ◌⊎◌, ◌≡◌}
use Rattle.std.proofs.Math.Bool.{not}
use Rattle.std.proofs.Math.Logic.{inl, inr, ⊎_elim}
use Rattle.std.proofs.Math.Path.{refl}
use Rattle.std.proofs.Common.{sym, ◌∙◌, le_refl, le_trans, le_antisymm, arith}
use Prim.Native.Nat.{ℕ, zero, suc, ◌+◌, max, ◌≤◌, ◌<◌}
use Rattle.std.proofs.Math.Nat.{le_of_suc-le-suc}
use borrow.Author.Tests.{eqb-true, eqb-false, eq-eqb, not-true, ltb-true, lt-ltb}
use Rattle.std.proofs.Math.Dec.{eqb, ltb}
use Rattle.rules.specs.Counting.{Set, some, lowest}
use Rattle.rules.specs.Game.{Game}
use Rattle.rules.specs.Winning.{Walk, one, more, Cycle, Reach, here, step}
use Rattle.rules.specs.Solitaire.{Links, spread, reached, same_part, good_part}
use Rattle.rules.specs.Checker.{on_cycle}
use Rattle.basics.specs.Basics.{bool_cases, clash, bool_ext, and_intro, and_left, and_right, or_left, or_right, or_cases}
use Rattle.basics.specs.Basics.{some_intro, some_elim, within_below, within_member, lowest_found, lowest_none, below_lowest, le_of_not_lt}
use Rattle.theory.specs.Walks.{Relation, Carries, Among, reach_append, reach_map, reach_stays, walk_map, walk_reach}
use Rattle.theory.specs.Walks.{reach_walk, leaves_start, highest_bounds, highest_attained, highest_le, left_reach}
use Rattle.theory.specs.Rounds.{Settled, rounds_settle}

-- a link between two numbers below n
abbrev pub Linked : ℕ → Links → Relation
Linked n links = Among (λ u. u < n) (λ v w. links v w ≡ true)

-- w can be reached from v along R in at most k steps
pub data Steps (R : ℕ → ℕ → Type 0) : ℕ → ℕ → ℕ → Type 0 where
  stay : {k v : ℕ} → Steps R k v v
  go : {k v w u : ℕ} → R v w → Steps R k w u → Steps R (suc k) v u

pub steps_snoc : {R : Relation} {k v w u : ℕ} → Steps R k v w → R w u → Steps R (suc k) v u
steps_snoc stay e = go e stay
steps_snoc (go d s) e = go d (steps_snoc s e)

pub steps_later : {R : Relation} {k v w : ℕ} → Steps R k v w → Steps R (suc k) v w
steps_later stay = stay
steps_later (go d s) = go d (steps_later s)

pub steps_reach : {R : Relation} {k v w : ℕ} → Steps R k v w → Reach R v w
steps_reach stay = here
steps_reach (go d s) = step d (steps_reach s)

-- no step, or a first one and one fewer
pub steps_first :
    {R : Relation} {k v u : ℕ} → Steps R k v u → (v ≡ u) ⊎ ((j : ℕ) × (w : ℕ) × (k ≡ suc j) × R v w × Steps R j w u)
steps_first stay = inl refl
steps_first (go {k} {w} e s) = inr (k, w, refl, e, s)

module _ (n : ℕ) (links : Links) where
  -- what spreads stays below n
  spread_below : (v k w : ℕ) → spread n links v k w ≡ true → w < n
  unfolding spread
  spread_below v zero w p = (within_member n _ w p).0
  spread_below v (suc k) w p = (within_member n _ w p).0

  spread_zero : (v w : ℕ) → spread n links v 0 w ≡ true → v ≡ w
  unfolding spread
  spread_zero v w p = eqb-true v w (within_member n _ w p).1

  spread_start : (v : ℕ) → v < n → spread n links v 0 v ≡ true
  unfolding spread
  spread_start v l = within_below n _ v l ∙ eq-eqb v v refl

  -- a round keeps what there was and adds the ends of its links
  spread_kept : (v k w : ℕ) → spread n links v k w ≡ true → spread n links v (suc k) w ≡ true
  unfolding spread
  spread_kept v k w p = within_below n _ w (spread_below v k w p) ∙ or_left (spread n links v k w) _ p

  spread_link : (v k u w : ℕ) → spread n links v k u ≡ true → Linked n links u w → spread n links v (suc k) w ≡ true
  unfolding spread
  spread_link v k u w p e =
      within_below n _ w e.end ∙
      or_right
      (spread n links v k w)
      _
      (some_intro n (λ x. spread n links v k x && links x w) u e.start (and_intro p e.edge))

  -- and nothing else
  spread_back :
      (v k w : ℕ) →
      spread n links v (suc k) w ≡ true →
      (spread n links v k w ≡ true) ⊎ ((u : ℕ) × (spread n links v k u ≡ true) × Linked n links u w)
  unfolding spread
  spread_back v k w p =
      let (l, q) = within_member n _ w p in
      ⊎_elim
      inl
      (λ r.
      let (u, m, t) = some_elim n (λ x. spread n links v k x && links x w) r in
      inr (
        u,
        and_left (spread n links v k u) (links u w) t,
        record { edge = and_right (spread n links v k u) (links u w) t; start = m; end = l },
      ))
      (or_cases (spread n links v k w) _ q)

  spread_later : (v j k w : ℕ) → spread n links v j w ≡ true → spread n links v (j + k) w ≡ true
  spread_later v j zero w p = let e : j + 0 ≡ j = omega arith in rw e p
  spread_later v j (suc k) w p =
      let e : j + suc k ≡ suc (j + k) = omega arith in rw e (spread_kept v (j + k) w (spread_later v j k w p))

  -- k rounds give what can be reached in at most k steps
  pub spread_steps : (v k w : ℕ) → spread n links v k w ≡ true → Steps (Linked n links) k v w
  spread_steps v zero w p = rw (spread_zero v w p) stay
  spread_steps v (suc k) w p =
      ⊎_elim
      (λ q. steps_later (spread_steps v k w q))
      (λ (u, q, e). steps_snoc (spread_steps v k u q) e)
      (spread_back v k w p)

  steps_spread_on :
      {k u w : ℕ} (v j : ℕ) → spread n links v j u ≡ true → Steps (Linked n links) k u w → spread n links v (j + k) w ≡ true
  steps_spread_on v j p (stay {k} {v = u}) = spread_later v j k u p
  steps_spread_on v j p (go {k} {v = u} {w} e s) =
      let eq : j + suc k ≡ suc j + k = omega arith in rw eq (steps_spread_on v (suc j) (spread_link v j u w p e) s)

  pub steps_spread : {k v w : ℕ} → v < n → Steps (Linked n links) k v w → spread n links v k w ≡ true
  steps_spread {k} {v} l s = let e : 0 + k ≡ k = omega arith in rw e at (steps_spread_on v 0 (spread_start v l) s)

  settled_still : (v k : ℕ) → Settled (spread n links v) k → Settled (spread n links v) (suc k)
  settled_still v k s w p =
      ⊎_elim (λ q. q) (λ (u, q, e). spread_link v k u w (s u q) e) (spread_back v (suc k) w p)

  -- What the test finds in n rounds can be reached along the links.
  pub reached_reach : {v w : ℕ} → reached n links v w ≡ true → Reach (Linked n links) v w
  reached_reach {v} {w} p = steps_reach (spread_steps v n w p)

  -- What can be reached along the links is found in n rounds.
  pub reach_reached : {v w : ℕ} → v < n → Reach (Linked n links) v w → reached n links v w ≡ true
  reach_reached {v} l r =
      let e : 0 + n ≡ n = omega arith in
      reach_stays
      (λ u. reached n links v u ≡ true)
      (λ x y e p.
      rounds_settle n (spread n links v) (spread_below v) (spread_kept v) (settled_still v) y (spread_link v n x y p e))
      (rw e at (spread_later v 0 n v (spread_start v l)))
      r

  -- both lie below n
  pub reached_end : (v w : ℕ) → reached n links v w ≡ true → w < n
  reached_end v w p = spread_below v n w p

  spread_from : (v k w : ℕ) → spread n links v k w ≡ true → v < n
  spread_from v zero w p = rw (spread_zero v w p) (spread_below v 0 w p)
  spread_from v (suc k) w p =
      ⊎_elim (λ q. spread_from v k w q) (λ (u, q, e). spread_from v k u q) (spread_back v k w p)

  pub reached_from : (v w : ℕ) → reached n links v w ≡ true → v < n
  reached_from v w p = spread_from v n w p

-- u and v reach one another along R: they are in the same strongly connected part
abbrev pub Together : Relation → ℕ → ℕ → Type 0
Together R v u = Reach R v u × Reach R u v

-- An equivalence.
pub together_refl : {R : Relation} (v : ℕ) → Together R v v
together_refl v = (here, here)

pub together_sym : {R : Relation} {v u : ℕ} → Together R v u → Together R u v
together_sym (there, back) = (back, there)

pub together_trans : {R : Relation} {v u w : ℕ} → Together R v u → Together R u w → Together R v w
together_trans (there, back) (on, again) = (reach_append there on, reach_append again back)

module _ (n : ℕ) (links : Links) where
  -- The test same_part says so.
  pub same_part_together : {v u : ℕ} → same_part n links v u ≡ true → Together (Linked n links) v u
  same_part_together {v} {u} p =
      let there = reached n links v u in
      let back = reached n links u v in
      (reached_reach n links (and_left there back p), reached_reach n links (and_right there back p))

  pub together_same_part : {v u : ℕ} → v < n → u < n → Together (Linked n links) v u → same_part n links v u ≡ true
  together_same_part l m (there, back) = and_intro (reach_reached n links l there) (reach_reached n links m back)

  pub same_part_below : (v u : ℕ) → same_part n links v u ≡ true → (v < n) × (u < n)
  same_part_below v u p =
      let there = and_left (reached n links v u) (reached n links u v) p in
      (reached_from n links v u there, reached_end n links v u there)

-- v lies on a cycle of R, and its part has a vertex of priority p
pub record OnCycle (priority : ℕ → ℕ) (R : ℕ → ℕ → Type 0) (p v : ℕ) : Type 0 where
  pub highest : ℕ
  pub cycle : Walk priority R v v highest
  pub vertex : ℕ
  pub part : Together R v vertex
  pub exactly : priority vertex ≡ p

module _ {priority : ℕ → ℕ} {R : Relation} {p v : ℕ} where
  -- A cycle may pass a vertex twice, so that one cycle goes through both, and has a highest priority of p where no edge starts above p.
  pub on_cycle_cycle : ((x y : ℕ) → R x y → priority x ≤ p) → OnCycle priority R p v → Cycle priority R v p
  on_cycle_cycle small on =
      let (m, low, from) = reach_walk on.part.1 on.cycle in
      let (k, high, whole) = reach_walk on.part.0 from in
      let passed = le_trans (highest_bounds from on.vertex (leaves_start from)) high in
      let least : p ≤ k = rw on.exactly at passed in
      rw (le_antisymm (highest_le p small whole) least) at whole

  -- A cycle of highest priority p passes a vertex of priority p.
  pub cycle_on_cycle : Cycle priority R v p → OnCycle priority R p v
  cycle_on_cycle c =
      let (u, l, e) = highest_attained c in
      record { highest = p; cycle = c; vertex = u; part = left_reach c u l; exactly = e }

-- an edge and then reach make a walk
pub edge_reach_walk :
    {priority : ℕ → ℕ} {R : Relation} {v w u : ℕ} → R v w → Reach R w u → (m : ℕ) × Walk priority R v u m
edge_reach_walk {priority} {v} e here = (priority v, one e)
edge_reach_walk {priority} {v} e (step d r) = let (m, c) = edge_reach_walk {priority = priority} d r in (max (priority v) m, more e c)

-- the first edge of a walk, and reach from there to its end
pub first_step : {priority : ℕ → ℕ} {R : Relation} {v u m : ℕ} → Walk priority R v u m → (w : ℕ) × R v w × Reach R w u
first_step (one {w} e) = (w, e, here)
first_step (more {w} e c) = (w, e, walk_reach c)

-- two different vertices of one part lie on a cycle
pub together_cycle :
    {priority : ℕ → ℕ} {R : Relation} {v u : ℕ} →
    (u ≡ v → ⊥) →
    Reach R v u →
    Reach R u v →
    (m : ℕ) × Cycle priority R v m
together_cycle differ here back = absurd (differ refl)
together_cycle differ (step e there) back = edge_reach_walk e (reach_append there back)

module _ (g : Game) (links : Links) (p v : ℕ) where
  -- the part of v has a vertex of priority p
  with_priority_elim :
      some g.size (λ u. same_part g.size links v u && eqb (g.priority u) p) ≡ true →
      (u : ℕ) × Together (Linked g.size links) v u × (g.priority u ≡ p)
  with_priority_elim q =
      let (u, l, t) = some_elim g.size _ q in (
        u,
        same_part_together g.size links (and_left _ (eqb (g.priority u) p) t),
        eqb-true (g.priority u) p (and_right (same_part g.size links v u) _ t),
      )

  with_priority_intro :
      (u : ℕ) →
      v < g.size →
      Together (Linked g.size links) v u →
      g.priority u ≡ p →
      some g.size (λ x. same_part g.size links v x && eqb (g.priority x) p) ≡ true
  with_priority_intro u l both e =
      let there = reach_reached g.size links l both.0 in
      let m = reached_end g.size links v u there in
      some_intro
      g.size
      _
      u
      m
      (and_intro (together_same_part g.size links l m both) (eq-eqb (g.priority u) p e))

  -- The test good_part finds the vertices on a cycle of which the part has a vertex of priority p.
  pub good_part_elim : good_part g links p v ≡ true → OnCycle g.priority (Linked g.size links) p v
  unfolding good_part
  good_part_elim q =
      let n = g.size in
      let first = some n (λ u. same_part n links v u && eqb (g.priority u) p) in
      let others = some n (λ u. not (eqb u v) && same_part n links v u) in
      let found = and_left first (links v v || others) q in
      let (u, both, e) = with_priority_elim found in
      let (w, l, t) = some_elim n _ found in
      let small = (same_part_below n links v w (and_left _ (eqb (g.priority w) p) t)).0 in
      let (m, c) : (m : ℕ) × Cycle g.priority (Linked n links) v m =
      ⊎_elim
      (λ loop. (g.priority v, one (record { edge = loop; start = small; end = small })))
      (λ other.
      let (x, k, s) = some_elim n (λ u. not (eqb u v) && same_part n links v u) other in
      let differ = eqb-false x v (not-true (eqb x v) (and_left (not (eqb x v)) (same_part n links v x) s)) in
      let (there, back) = same_part_together n links (and_right (not (eqb x v)) (same_part n links v x) s) in
      together_cycle differ there back)
      (or_cases (links v v) others (and_right first (links v v || others) q)) in
      record { highest = m; cycle = c; vertex = u; part = both; exactly = e }

  pub good_part_intro : OnCycle g.priority (Linked g.size links) p v → good_part g links p v ≡ true
  unfolding good_part
  good_part_intro on =
      let n = g.size in
      let (w, e, back) = first_step on.cycle in
      let small = e.start in
      and_intro
      (with_priority_intro on.vertex small on.part on.exactly)
      (⊎_elim
      (λ same. or_left (links v v) _ (rw (eqb-true w v same) at e.edge))
      (λ differ.
      or_right
      (links v v)
      _
      (some_intro
      n
      (λ u. not (eqb u v) && same_part n links v u)
      w
      e.end
      (and_intro {b = not (eqb w v)} (rw differ) (together_same_part n links small e.end (step e here, back)))))
      (bool_cases (eqb w v)))

  -- The test on_cycle finds the same.
  pub on_cycle_elim : on_cycle g links p v ≡ true → OnCycle g.priority (Linked g.size links) p v
  unfolding on_cycle
  on_cycle_elim q =
      let n = g.size in
      let first = some n (λ w. links v w && reached n links w v) in
      let second = some n (λ u. same_part n links v u && eqb (g.priority u) p) in
      let found = and_right first second q in
      let (u, both, e) = with_priority_elim found in
      let (x, k, t) = some_elim n _ found in
      let small = (same_part_below n links v x (and_left _ (eqb (g.priority x) p) t)).0 in
      let (w, l, s) = some_elim n (λ w. links v w && reached n links w v) (and_left first second q) in
      let back = reached_reach n links (and_right (links v w) (reached n links w v) s) in
      let (m, c) = edge_reach_walk (record { edge = and_left (links v w) _ s; start = small; end = l }) back in
      record { highest = m; cycle = c; vertex = u; part = both; exactly = e }

  pub on_cycle_intro : OnCycle g.priority (Linked g.size links) p v → on_cycle g links p v ≡ true
  unfolding on_cycle
  on_cycle_intro on =
      let n = g.size in
      let (w, e, back) = first_step on.cycle in
      and_intro
      (some_intro
      n
      (λ w. links v w && reached n links w v)
      w
      e.end
      (and_intro e.edge (reach_reached n links e.end back)))
      (with_priority_intro on.vertex e.start on.part on.exactly)

  -- So good_part and on_cycle agree.
  pub good_part_on_cycle : good_part g links p v ≡ on_cycle g links p v
  good_part_on_cycle =
      bool_ext
      (good_part g links p v)
      (on_cycle g links p v)
      (λ q. on_cycle_intro (good_part_elim q))
      (λ q. good_part_intro (on_cycle_elim q))

  -- On links that start only at priorities of at most p, good_part finds exactly the vertices on a cycle whose highest priority is p.
  pub good_part_cycle :
      ((x y : ℕ) → links x y ≡ true → g.priority x ≤ p) →
      good_part g links p v ≡ true →
      Cycle g.priority (Linked g.size links) v p
  good_part_cycle small q = on_cycle_cycle (λ x y e. small x y e.edge) (good_part_elim q)

  pub cycle_good_part : Cycle g.priority (Linked g.size links) v p → good_part g links p v ≡ true
  cycle_good_part c = good_part_intro (cycle_on_cycle c)

  -- And so does on_cycle.
  pub on_cycle_test_cycle :
      ((x y : ℕ) → links x y ≡ true → g.priority x ≤ p) →
      on_cycle g links p v ≡ true →
      Cycle g.priority (Linked g.size links) v p
  on_cycle_test_cycle small q = on_cycle_cycle (λ x y e. small x y e.edge) (on_cycle_elim q)

  pub cycle_on_cycle_test : Cycle g.priority (Linked g.size links) v p → on_cycle g links p v ≡ true
  cycle_on_cycle_test c = on_cycle_intro (cycle_on_cycle c)

-- a walk along a relation is one along any that it is carried to
pub on_cycle_map : {priority : ℕ → ℕ} {R Q : Relation} {p v : ℕ} → Carries R Q → OnCycle priority R p v → OnCycle priority Q p v
on_cycle_map f on =
    record {
      highest = on.highest;
      cycle = walk_map f on.cycle;
      vertex = on.vertex;
      part = (reach_map f on.part.0, reach_map f on.part.1);
      exactly = on.exactly;
    }

-- Links that agree below the size have the same good parts.
pub good_part_agrees :
    (g : Game) (links links' : Links) →
    ((x y : ℕ) → x < g.size → y < g.size → links x y ≡ links' x y) →
    (p v : ℕ) →
    good_part g links p v ≡ good_part g links' p v
good_part_agrees g links links' agree p v =
    bool_ext
    (good_part g links p v)
    (good_part g links' p v)
    (λ q. good_part_intro g links' p v (on_cycle_map to (good_part_elim g links p v q)))
    (λ q. good_part_intro g links p v (on_cycle_map from (good_part_elim g links' p v q)))
  where
    to : Carries (Linked g.size links) (Linked g.size links')
    to x y e =
        record { edge = sym (agree x y e.start e.end) ∙ e.edge; start = e.start; end = e.end }

    from : Carries (Linked g.size links') (Linked g.size links)
    from x y e = record { edge = agree x y e.start e.end ∙ e.edge; start = e.start; end = e.end }

-- how many steps v is from u along the links, and n + 1 where u cannot be reached
unfoldable pub distance : ℕ → Links → ℕ → ℕ → ℕ
distance n links u v = lowest (suc n) (λ k. spread n links v k u)

-- a link that leads nearer to u
unfoldable pub towards : ℕ → Links → ℕ → ℕ → ℕ
towards n links u v = lowest n (λ w. links v w && ltb (distance n links u w) (distance n links u v))

module _ (n : ℕ) (links : Links) (u : ℕ) where
  distance_found : (v k : ℕ) → k ≤ n → spread n links v k u ≡ true → distance n links u v ≤ k
  unfolding distance
  distance_found v k h p =
      le_of_not_lt (λ less. clash p (below_lowest (suc n) (λ j. spread n links v j u) k less))

  distance_steps : (v : ℕ) → reached n links v u ≡ true → Steps (Linked n links) (distance n links u v) v u × (distance n links u v ≤ n)
  unfolding distance
  distance_steps v p =
      let test : Set = λ k. spread n links v k u in
      let low = lowest_found (suc n) test (some_intro (suc n) test n (le_refl (suc n)) p) in
      (spread_steps n links v (lowest (suc n) test) u low.passes, le_of_suc-le-suc low.below)

  -- u can be reached from whatever is at most n steps away
  distance_reached : (v : ℕ) → v < n → distance n links u v ≤ n → reached n links v u ≡ true
  unfolding distance
  distance_reached v l h =
      let test : Set = λ k. spread n links v k u in
      ⊎_elim
      (λ p.
      reach_reached
      n
      links
      l
      (steps_reach (spread_steps n links v (lowest (suc n) test) u (lowest_found (suc n) test p).passes)))
      (λ p. let far = lowest_none (suc n) test p in absurd (omega arith))
      (bool_cases (some (suc n) test))

  -- from another vertex that reaches u some link leads nearer
  nearer :
      (v : ℕ) →
      (v ≡ u → ⊥) →
      reached n links v u ≡ true →
      (w : ℕ) × Linked n links v w × (distance n links u w < distance n links u v)
  nearer v differ p =
      let (s, h) = distance_steps v p in
      ⊎_elim
      (λ e. absurd (differ e))
      (λ (j, w, e, f, rest).
      let near = distance_found w j (omega arith) (steps_spread n links f.end rest) in (w, f, omega arith))
      (steps_first s)

  -- The link chosen leads from another vertex that reaches u to one that reaches u and is nearer.
  pub towards_nearer :
      (v : ℕ) →
      (v ≡ u → ⊥) →
      reached n links v u ≡ true →
      Linked n links v (towards n links u v) ×
      (reached n links (towards n links u v) u ≡ true) ×
      (distance n links u (towards n links u v) < distance n links u v)
  unfolding towards
  towards_nearer v differ p =
      let (w, f, near) = nearer v differ p in
      let test : Set = λ x. links v x && ltb (distance n links u x) (distance n links u v) in
      let low = lowest_found n test (some_intro n test w f.end (and_intro f.edge (lt-ltb _ _ near))) in
      let x = lowest n test in
      let less = ltb-true (distance n links u x) (distance n links u v) (and_right (links v x) _ low.passes) in
      let (s, h) = distance_steps v p in (
        record { edge = and_left (links v x) _ low.passes; start = f.start; end = low.below },
        distance_reached x low.below (omega arith),
        less,
      )
