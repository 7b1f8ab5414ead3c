-- Accepted tables: what the refusals 1 to 8 leave, as plain facts, and that the game they stand for is total. Where its edges
-- stand in the table of targets is said for any tables.
use Rattle.std.specs.Prelude.{Bool, true, false, not, List, ◌≡◌, refl, ℕ, zero, suc, ◌+◌, ◌-◌, ◌≤◌, ◌<◌, min, eqb, ltb, length, take, drop}
use Rattle.std.proofs.Math.Logic.{⊎_elim}
use Rattle.std.proofs.Common.{sym, subst, ◌∙◌, zero-le, le_refl, le_trans, add-one, ltb-false, leb-false, eqb-true, length-take, length-drop, get_or-take, get_or-drop}
use Rattle.std.proofs.Math.Decide.{dec_le}
use native.Mathlib.Omega.{arith}
use Rattle.std.proofs.lemmas.Bool.{eqb-false, not-false}
use Rattle.std.proofs.Math.ListN.{get_or, get_or-eq_default}
use Rattle.rules.specs.Counting.{Set, some}
use Rattle.rules.specs.Game.{Edge, Total}
use Rattle.rules.specs.Outcome.{Verdict, none, refused, given, given_at, ◌then◌}
use Rattle.rules.specs.Words.{no_entry}
use Rattle.rules.specs.Tables.{Tables, vertices, edges_in, degree, targets_of, game_of, table_checks, Accepted}
use Rattle.rules.specs.Tables.{check1, check2, check3, check4, check5, check6, check7, check8}
use Rattle.basics.specs.Basics.{or_false_both, some_false, lt_or_ge, member_place, place_member}

-- the offset at i
abbrev pub offset : Tables → ℕ → ℕ
offset t i = get_or t.offsets i 0

-- what the refusals 1 to 8 leave
pub record Sound (t : Tables) : Type 0 where
  pub few_vertices : vertices t ≤ 4096
  pub priority_each : length t.priorities ≡ vertices t
  pub offset_each : length t.offsets ≡ vertices t + 1
  pub few_edges : edges_in t ≤ 16384
  pub owner_small : (v : ℕ) → v < vertices t → get_or t.owners v 0 ≤ 1
  pub priority_small : (v : ℕ) → v < vertices t → get_or t.priorities v 0 ≤ 255
  pub offset_first : offset t 0 ≡ 0
  pub offset_next : (i : ℕ) → i < vertices t → offset t i ≤ offset t (i + 1)
  pub offset_grows : (i j : ℕ) → i ≤ j → j ≤ vertices t → offset t i ≤ offset t j
  pub offset_last : offset t (vertices t) ≡ edges_in t
  pub target_below : (e : ℕ) → e < edges_in t → get_or t.targets e 0 < vertices t
  pub has_edge : (v : ℕ) → v < vertices t → 1 ≤ degree t.offsets v

-- where the first of two that applies is none, neither applies
pub then_none : (x y : Verdict) → (x then y) ≡ none → (x ≡ none) × (y ≡ none)
then_none none y e = (refl, e)
then_none (refused k p) y e = let z : ◌≡◌ {A = ℕ} 0 1 = cc in absurd (omega arith)

pub given_none : (k p : ℕ) (test : Bool) → given k p test ≡ none → test ≡ false
given_none k p true e = let z : ◌≡◌ {A = ℕ} 0 1 = cc in absurd (omega arith)
given_none k p false e = refl

pub given_at_none : (k n : ℕ) (test : Set) → given_at k n test ≡ none → (v : ℕ) → v < n → test v ≡ false
unfolding given_at
given_at_none k n test e = some_false n test (given_none k _ (some n test) e)

all_none :
    (a b c d e f g h : Verdict) →
    (a then b then c then d then e then f then g then h) ≡ none →
    (a ≡ none) × (b ≡ none) × (c ≡ none) × (d ≡ none) × (e ≡ none) × (f ≡ none) × (g ≡ none) × (h ≡ none)
all_none a b c d e f g h e1 =
    let (qa, e2) = then_none a (b then c then d then e then f then g then h) e1 in
    let (qb, e3) = then_none b (c then d then e then f then g then h) e2 in
    let (qc, e4) = then_none c (d then e then f then g then h) e3 in
    let (qd, e5) = then_none d (e then f then g then h) e4 in
    let (qe, e6) = then_none e (f then g then h) e5 in
    let (qf, e7) = then_none f (g then h) e6 in
    let (qg, qh) = then_none g h e7 in (qa, qb, qc, qd, qe, qf, qg, qh)

-- what each check says where it does not apply
pub check1_none : (n : ℕ) → check1 n ≡ none → n ≤ 4096
unfolding check1
check1_none n e = ltb-false 4096 n (given_none 1 0 (ltb 4096 n) e)

pub check2_none : (n p o : ℕ) → check2 n p o ≡ none → (p ≡ n) × (o ≡ n + 1)
unfolding check2
check2_none n p o e =
    let both = or_false_both (not (eqb p n)) (not (eqb o (n + 1))) (given_none 2 0 _ e) in
    (eqb-true p n (not-false _ both.0), eqb-true o (n + 1) (not-false _ both.1))

pub check3_none : (m : ℕ) → check3 m ≡ none → m ≤ 16384
unfolding check3
check3_none m e = ltb-false 16384 m (given_none 3 0 (ltb 16384 m) e)

pub check4_none : (n : ℕ) (owners : List ℕ) → check4 n owners ≡ none → (v : ℕ) → v < n → get_or owners v 0 ≤ 1
unfolding check4
check4_none n owners e v l = ltb-false _ _ (given_at_none 4 n _ e v l)

pub check5_none : (n : ℕ) (priorities : List ℕ) → check5 n priorities ≡ none → (v : ℕ) → v < n → get_or priorities v 0 ≤ 255
unfolding check5
check5_none n priorities e v l = ltb-false _ _ (given_at_none 5 n _ e v l)

pub record Offsets (n m : ℕ) (offsets : List ℕ) : Type 0 where
  pub first : get_or offsets 0 0 ≡ 0
  pub next : (i : ℕ) → i < n → get_or offsets i 0 ≤ get_or offsets (i + 1) 0
  pub last : get_or offsets n 0 ≡ m

pub check6_none : (n m : ℕ) (offsets : List ℕ) → check6 n m offsets ≡ none → Offsets n m offsets
unfolding check6
check6_none n m offsets e =
    let one = then_none (given 6 0 (not (eqb (get_or offsets 0 0) 0))) _ e in
    let two = then_none (given_at 6 n (λ i. ltb (get_or offsets (i + 1) 0) (get_or offsets i 0))) _ one.1 in
    record {
      first = eqb-true _ _ (not-false _ (given_none 6 0 _ one.0));
      next = λ i l. ltb-false _ _ (given_at_none 6 n _ two.0 i l);
      last = eqb-true _ _ (not-false _ (given_none 6 n _ two.1));
    }

pub check7_none : (n m : ℕ) (targets : List ℕ) → check7 n m targets ≡ none → (e : ℕ) → e < m → get_or targets e 0 < n
unfolding check7
check7_none n m targets e i l = leb-false _ _ (given_at_none 7 m _ e i l)

pub check8_none : (n : ℕ) (offsets : List ℕ) → check8 n offsets ≡ none → (v : ℕ) → v < n → 1 ≤ degree offsets v
unfolding check8
check8_none n offsets e v l =
    let h = eqb-false (degree offsets v) 0 (given_at_none 8 n (λ k. eqb (degree offsets k) 0) e v l) in
    omega arith

-- what never falls from one number to the next never falls
pub never_falls :
    (f : ℕ → ℕ) (n : ℕ) → ((i : ℕ) → i < n → f i ≤ f (i + 1)) → (i j : ℕ) → i ≤ j → j ≤ n → f i ≤ f j
never_falls f n h i zero l b = subst (λ (k : ℕ). f i ≤ f k) (omega arith) (le_refl (f i))
never_falls f n h i (suc j) l b = go (dec_le i j) (never_falls f n h i j)
  where
    go : Dec (i ≤ j) → (i ≤ j → j ≤ n → f i ≤ f j) → f i ≤ f (suc j)
    go (yes p) ih = le_trans (ih p (omega arith)) (rw add-one at (h j b))
    go (no p) ih = subst (λ (k : ℕ). f i ≤ f k) (omega arith) (le_refl (f i))

-- Accepted tables satisfy all that the refusals 1 to 8 ask.
pub accepted_sound : (t : Tables) → Accepted t → Sound t
unfolding Accepted table_checks
accepted_sound t ok =
    let n = vertices t in
    let m = edges_in t in
    let (c1, c2, c3, c4, c5, c6, c7, c8) =
    all_none
    (check1 n)
    (check2 n (length t.priorities) (length t.offsets))
    (check3 m)
    (check4 n t.owners)
    (check5 n t.priorities)
    (check6 n m t.offsets)
    (check7 n m t.targets)
    (check8 n t.offsets)
    ok in
    let (long-priorities, long-offsets) = check2_none n (length t.priorities) (length t.offsets) c2 in
    let offsets = check6_none n m t.offsets c6 in
    record {
      few_vertices = check1_none n c1;
      priority_each = long-priorities;
      offset_each = long-offsets;
      few_edges = check3_none m c3;
      owner_small = check4_none n t.owners c4;
      priority_small = check5_none n t.priorities c5;
      offset_first = offsets.first;
      offset_next = offsets.next;
      offset_grows = never_falls (offset t) n offsets.next;
      offset_last = offsets.last;
      target_below = check7_none n m t.targets c7;
      has_edge = check8_none n t.offsets c8;
    }

-- an edge from v stands in the table of targets between the offsets of v and v + 1
pub edge_place :
    (t : Tables) (v w : ℕ) →
    Edge (game_of t) v w →
    (e : ℕ) × (offset t v ≤ e) × (e < offset t (v + 1)) × (e < edges_in t) × (get_or t.targets e 0 ≡ w)
unfolding game_of targets_of degree
edge_place t v w edge =
    let from = offset t v in
    let k = degree t.offsets v in
    let (i, l, p) = member_place (take k (drop from t.targets)) edge in
    let long : i < min k (edges_in t - from) = rw (length-take, length-drop) at l in
    let short : i < k = omega arith in (
      from + i,
      omega arith,
      omega arith,
      omega arith,
      sym (get_or-drop from t.targets i 0) ∙ sym (get_or-take k (drop from t.targets) i 0 short) ∙ p,
    )

-- and what stands there is an edge from v
pub place_edge :
    (t : Tables) (v e : ℕ) →
    offset t v ≤ e →
    e < offset t (v + 1) →
    e < edges_in t →
    Edge (game_of t) v (get_or t.targets e 0)
unfolding game_of targets_of degree
place_edge t v e low high top =
    let from = offset t v in
    let k = degree t.offsets v in
    let i = e - from in
    let short : i < k = omega arith in
    let long : i < length (take k (drop from t.targets)) = rw (length-take, length-drop) (omega arith) in
    let found : get_or (take k (drop from t.targets)) i 0 ≡ get_or t.targets (from + i) 0 =
    get_or-take k (drop from t.targets) i 0 short ∙ get_or-drop from t.targets i 0 in
    let place : from + i ≡ e = omega arith in
    rw (found, place) at (place_member (take k (drop from t.targets)) i long)

module _ (t : Tables) (sound : Sound t) where
  -- no offset is above the number of edges
  pub offset_top : (i : ℕ) → i ≤ vertices t → offset t i ≤ edges_in t
  offset_top i h = rw sound.offset_last at (sound.offset_grows i (vertices t) h (le_refl (vertices t)))

  -- the offset after a vertex is above its own
  pub offset_rises : (v : ℕ) → v < vertices t → offset t v < offset t (v + 1)
  unfolding degree
  offset_rises v l = let least = sound.has_edge v l in omega arith

  -- past the last vertex there is no edge
  pub no_edges_above : (v w : ℕ) → vertices t ≤ v → Edge (game_of t) v w → ⊥
  no_edges_above v w above edge =
      let (e, low, high, top, found) = edge_place t v w edge in
      let none = get_or-eq_default t.offsets 0 {n = v + 1} (omega (arith, sound.offset_each)) in
      omega arith

  sound_total : Total (game_of t)
  unfolding game_of
  sound_total =
      record {
        starts = λ v w edge. ⊎_elim (λ l. l) (λ l. absurd (no_edges_above v w l edge)) (lt_or_ge v (vertices t));
        ends =
            λ v w edge. let (e, low, high, top, found) = edge_place t v w edge in rw found at (sound.target_below e top);
        leads =
            λ v small.
            let more = offset_rises v small in
            let top = offset_top (v + 1) (omega arith) in (
              get_or t.targets (offset t v) 0,
              place_edge t v (offset t v) (le_refl (offset t v)) more (omega arith),
            );
      }

-- The game of accepted tables is total: its edges run between its vertices, and each vertex has one.
pub accepted_total : (t : Tables) → Accepted t → Total (game_of t)
accepted_total t ok = sound_total t (accepted_sound t ok)

-- It has no more than 4,096 vertices.
pub accepted_size : (t : Tables) → Accepted t → (game_of t).size ≤ 4096
unfolding game_of
accepted_size t ok = (accepted_sound t ok).few_vertices

-- so no vertex or distance has the number for none
pub accepted_few : (t : Tables) → Accepted t → (game_of t).size ≤ no_entry
accepted_few t ok = let most = accepted_size t ok in omega arith

-- No priority is above 255.
pub accepted_priority : (t : Tables) → Accepted t → (v : ℕ) → (game_of t).priority v ≤ 255
unfolding game_of
accepted_priority t ok v =
    let sound = accepted_sound t ok in
    ⊎_elim
    (λ l. sound.priority_small v l)
    (λ l. rw (get_or-eq_default t.priorities 0 {n = v} (omega (arith, sound.priority_each))) zero-le)
    (lt_or_ge v (vertices t))
