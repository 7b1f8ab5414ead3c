-- Runs: from a vertex there is one exactly when the vertex is in the solitaire set, and so, in a game with one owner, exactly
-- when the owner wins it. The shortest way to a vertex of the cycle's highest priority, and the shortest way round from there,
-- are one.
use Rattle.std.specs.Prelude.{true, false, List, [], ◌∷◌, ◌++◌, ◌⊎◌, ◌≡◌, refl, ℕ, zero, suc, ◌+◌, max, ◌≤◌, ◌<◌, eqb, leb, length}
use Rattle.std.proofs.Common.{inl, inr, ⊎_elim, sym, ap, subst, ◌∙◌, le_refl, le_antisymm, arith, leb-true, le-leb, eqb-true, length-append}
use Rattle.std.proofs.Math.Nat.{le-max_left, max-le}
use Rattle.std.proofs.lemmas.Bool.{eqb-false}
use Rattle.rules.specs.Counting.{Set, count}
use Rattle.rules.specs.Game.{Player, Game, everywhere, Edge, Total, parity}
use Rattle.rules.specs.Loop.{Path, alone, next, highest_of, Run}
use Rattle.rules.specs.Solitaire.{Links, inside, reached, at_most, on_part, solitaire}
use Rattle.rules.specs.Winning.{Walk, one, more, Reach, here, step, Wins}
use Rattle.basics.specs.Basics.{bool_cases, and_intro, not_true_is_false, count_strict, count_le, count_pos}
use Rattle.theory.specs.Links.{Linked, reached_end, reach_reached, together_refl, edge_reach_walk, cycle_on_cycle}
use Rattle.theory.specs.Links.{good_part_intro}
use Rattle.theory.specs.Links.{first_step, distance, towards, towards_nearer}
use Rattle.theory.specs.Solitaire.{inside_elim, at_most_elim, on_part_cycle, solitaire_elim, solitaire_intro}
use Rattle.theory.specs.Solitaire.{solitaire_wins, wins_solitaire, wider}
use Rattle.theory.specs.Walks.{Relation, Carries, reach_append, reach_map, reach_walk}

pub path_map : {R Q : Relation} {v u : ℕ} {vs : List ℕ} → Carries R Q → Path R v u vs → Path Q v u vs
path_map f alone = alone
path_map f (next e r) = next (f _ _ e) (path_map f r)

pub path_reach : {R : Relation} {v u : ℕ} {vs : List ℕ} → Path R v u vs → Reach R v u
path_reach alone = here
path_reach (next e r) = step e (path_reach r)

-- a path and one edge more are a walk, of the highest priority on the path
pub path_walk :
    (g : Game) {v u w : ℕ} {vs : List ℕ} → Path (Edge g) v u vs → Edge g u w → Walk g.priority (Edge g) v w (highest_of g vs)
unfolding highest_of
path_walk g (alone {v}) e =
    let is : g.priority v ≡ max (g.priority v) 0 = omega arith in
    rw (sym is) (one e)
path_walk g (next d r) e = more d (path_walk g r e)

-- where no vertex of a path has a priority above that of its first, that is the highest
highest_low :
    (g : Game) (p : ℕ) {R : Relation} {v u : ℕ} {vs : List ℕ} →
    ((x y : ℕ) → R x y → g.priority x ≤ p) → g.priority u ≤ p → Path R v u vs → highest_of g vs ≤ p
unfolding highest_of
highest_low g p small last alone = max-le last (omega arith)
highest_low g p small last (next e r) = max-le (small _ _ e) (highest_low g p small last r)

highest_first : (g : Game) {R : Relation} {v u : ℕ} {vs : List ℕ} → Path R v u vs → g.priority v ≤ highest_of g vs
unfolding highest_of
highest_first g (alone {v}) = le-max_left (g.priority v) 0
highest_first g (next {v} {vs} e r) = le-max_left (g.priority v) (highest_of g vs)

-- **A path to u, and a way round from u among priorities of at most u's, which is of a's parity, are a run.**
pub run_of :
    (g : Game) (a : Player) (p : ℕ) {v u last : ℕ} {path cycle : List ℕ} →
    parity p ≡ a →
    g.priority u ≡ p →
    Path (Linked g.size (inside g (everywhere g))) v u path →
    Path (Linked g.size (inside g (at_most g p))) u last cycle →
    Linked g.size (inside g (at_most g p)) last u →
    (2 ≤ length cycle → last ≡ u → ⊥) →
    length path ≤ g.size →
    length cycle ≤ g.size →
    Run g a v path cycle
run_of g a p {v} {u} {last} {path} {cycle} mine exactly there round back once few few' =
    let small : (x y : ℕ) → Linked g.size (inside g (at_most g p)) x y → g.priority x ≤ p =
    λ x y e. (at_most_elim g p x (inside_elim g (at_most g p) x y e.edge).0).1 in
    let most = highest_low g p small (small last u back) round in
    let least = highest_first g round in
    let is : highest_of g cycle ≡ p = le_antisymm most (rw exactly at least) in
    record {
      first = u;
      last = last;
      leads = path_map (λ x y e. (inside_elim g (everywhere g) x y e.edge).2) there;
      round = path_map (λ x y e. (inside_elim g (at_most g p) x y e.edge).2) round;
      back = (inside_elim g (at_most g p) last u back.edge).2;
      once = once;
      parity_is = ap parity is ∙ mine;
      few = omega arith;
    }

-- **A vertex with a run is in the solitaire set.**
pub run_solitaire :
    (g : Game) → Total g → (a : Player) (v : ℕ) {path cycle : List ℕ} → Run g a v path cycle → solitaire g a v ≡ true
run_solitaire g total a v run =
    let cycle = path_walk g run.round run.back in
    let (x, e, rest) = first_step cycle in
    let (y, d, on) = first_step (path_walk g run.leads e) in
    solitaire_intro g total a v run.first _ (total.starts v y d) run.parity_is (path_reach run.leads) cycle

-- ---- the way to u, as long as it has not come there

data Approach (R : ℕ → ℕ → Type 0) (u : ℕ) : ℕ → List ℕ → Type 0 where
  there : Approach R u u []
  nearer : {v w : ℕ} {vs : List ℕ} → (v ≡ u → ⊥) → R v w → Approach R u w vs → Approach R u v (v ∷ vs)

approach_path : {R : Relation} {u v : ℕ} {vs : List ℕ} → Approach R u v vs → Path R v u (vs ++ (u ∷ []))
approach_path there = alone
approach_path (nearer d e a) = next e (approach_path a)

-- a first edge and the way back
approach_round :
    {R : Relation} {u y x : ℕ} {vs : List ℕ} →
    R y x →
    Approach R u x vs →
    (last : ℕ) × Path R y last (y ∷ vs) × R last u × (((last ≡ y) × (vs ≡ [])) ⊎ (last ≡ u → ⊥))
approach_round {y = y} e there = (y, alone, e, inl (refl, refl))
approach_round {y = y} e (nearer {v} d f a) =
    let (last, path, back, o) = approach_round f a in
    (last, next e path, back, inr (⊎_elim (λ (same, none) q. d (sym same ∙ q)) (λ h. h) o))

module _ (n : ℕ) (links : Links) (u : ℕ) where
  -- the vertices as near as v
  abbrev near : ℕ → Set
  near v w = leb (distance n links u w) (distance n links u v)

  -- the way has fewer vertices than are as near as its first
  approach_in :
      (k v : ℕ) → distance n links u v < k → reached n links v u ≡ true →
      (vs : List ℕ) × Approach (Linked n links) u v vs × (length vs < count n (near v))
  approach_in zero v less r = absurd (omega arith)
  approach_in (suc k) v less r = ⊎_elim at_u (away (λ w l again. approach_in k w l again)) (bool_cases (eqb v u))
    where
      at_u : eqb v u ≡ true → (vs : List ℕ) × Approach (Linked n links) u v vs × (length vs < count n (near v))
      at_u e =
          rw (eqb-true v u e)
          ([], there, count_pos n (near u) u (reached_end n links v u r) (le-leb _ _ (le_refl (distance n links u u))))

      away :
          ((w : ℕ) → distance n links u w < k → reached n links w u ≡ true →
          (vs : List ℕ) × Approach (Linked n links) u w vs × (length vs < count n (near w))) →
          eqb v u ≡ false →
          (vs : List ℕ) × Approach (Linked n links) u v vs × (length vs < count n (near v))
      away further e =
          let differ = eqb-false v u e in
          let (f, again, nears) = towards_nearer n links u v differ r in
          let w = towards n links u v in
          let (vs, a, short) = further w (omega arith) again in
          let more =
          count_strict n (near w) (near v)
          (λ x l q.
          let h = leb-true (distance n links u x) (distance n links u w) q in
          le-leb (distance n links u x) (distance n links u v) (omega arith))
          v f.start
          (not_true_is_false (near w v)
          (λ q. let h = leb-true (distance n links u v) (distance n links u w) q in omega arith))
          (le-leb _ _ (le_refl (distance n links u v))) in
          (v ∷ vs, nearer differ f a, omega arith)

  approach : (v : ℕ) → reached n links v u ≡ true → (vs : List ℕ) × Approach (Linked n links) u v vs × (length vs < n)
  approach v r =
      let (vs, a, short) = approach_in (suc (distance n links u v)) v (le_refl (suc (distance n links u v))) r in
      let most = count_le n (near v) in
      (vs, a, omega arith)

-- the last edge of a walk, and how it is reached
pub last_step : {priority : ℕ → ℕ} {R : Relation} {v u m : ℕ} → Walk priority R v u m → (z : ℕ) × Reach R v z × R z u
last_step (one {v} e) = (v, here, e)
last_step (more e c) = let (z, r, d) = last_step c in (z, step e r, d)

-- a vertex of the solitaire set reaches one that is in a good part for its own priority, which is of a's parity
pub solitaire_head :
    (g : Game) (a : Player) (v : ℕ) → solitaire g a v ≡ true →
    (u : ℕ) × (v < g.size) × (parity (g.priority u) ≡ a) × (on_part g (g.priority u) u ≡ true) ×
    Reach (Linked g.size (inside g (everywhere g))) v u
solitaire_head g a v q =
    let n = g.size in
    let (w, p, small, mine, r, c) = solitaire_elim g a v q in
    let on = cycle_on_cycle c in
    let u = on.vertex in
    let links = inside g (at_most g p) in
    let (m, k, from) = reach_walk on.part.1 c in
    let (x, e, rest) = first_step from in
    let (h, round) = edge_reach_walk {priority = g.priority} e (reach_append rest on.part.0) in
    let good = good_part_intro g links p u
    (record { highest = h; cycle = round; vertex = u; part = together_refl u; exactly = on.exactly }) in
    let part : on_part g p u ≡ true = and_intro (inside_elim g (at_most g p) u x e.edge).0 good in (
      u,
      small,
      ap parity on.exactly ∙ mine,
      subst (λ (k : ℕ). on_part g k u ≡ true) (sym on.exactly) part,
      reach_append r (reach_map (wider g p) on.part.0),
    )

-- **And every vertex of the solitaire set has one.**
pub solitaire_run :
    (g : Game) (a : Player) (v : ℕ) → solitaire g a v ≡ true → (path : List ℕ) × (cycle : List ℕ) × Run g a v path cycle
solitaire_run g a v q =
    let n = g.size in
    let (u, small, mine, on, r) = solitaire_head g a v q in
    let p = g.priority u in
    let (x, e, rest) = first_step (on_part_cycle g p u on) in
    let (vs, a-path, short) = approach n (inside g (everywhere g)) u v (reach_reached n (inside g (everywhere g)) small r) in
    let (ws, a-round, short') = approach n (inside g (at_most g p)) u x (reach_reached n (inside g (at_most g p)) e.end rest) in
    let (last, round, returns, o) = approach_round e a-round in
    let once : 2 ≤ length (u ∷ ws) → last ≡ u → ⊥ =
    λ two same. ⊎_elim (λ (is, none). let z = ap length none in omega arith) (λ h. h same) o in (
      vs ++ (u ∷ []),
      u ∷ ws,
      run_of g a p mine refl (approach_path a-path) round returns once (rw (length-append vs (u ∷ [])) (omega arith))
          (omega arith),
    )

module _ (g : Game) (total : Total g) (a : Player) (one : (v : ℕ) → v < g.size → g.owner v ≡ a) where
  -- **A vertex with a run is won by the one owner**, by demand 2.
  pub run_wins : (v : ℕ) {path cycle : List ℕ} → Run g a v path cycle → Wins g a v
  run_wins v run = solitaire_wins g total a one v (run_solitaire g total a v run)

  -- **And each vertex that the owner wins has a run.**
  pub wins_run : (v : ℕ) → v < g.size → Wins g a v → (path : List ℕ) × (cycle : List ℕ) × Run g a v path cycle
  wins_run v small w = solitaire_run g a v (wins_solitaire g total a one v small w)
