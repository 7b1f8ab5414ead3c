-- Mending an incomplete export: what the refusals 1 to 6 leave, how long the new table of edges and the list are, and how to read
-- the list from its length.
use Rattle.std.specs.Prelude.{Bool, true, false, not, cond, ◌≡◌, refl, ℕ, zero, suc, ◌+◌, ◌-◌, ◌*◌, ◌/◌, ◌≤◌, ◌<◌, eqb, ltb, length, get_or, take, drop}
use mathlib.Core.List.Memᴰ
use mathlib.Core.List.{List, [], ◌∷◌, ◌++◌, Memᴰ}
use Rattle.std.proofs.Common.{⊎_elim, ap, ◌∙◌, le_refl, add-zero, add-suc, add-one, arith, eqb-true, length-append, length-drop, take-suc, get_or-drop}
use Rattle.std.proofs.lemmas.Bool.{eqb-false}
use Rattle.rules.specs.Counting.{Set, count}
use Rattle.rules.specs.Mending.{keep, kept_targets, altered, new_targets_of, new_targets_up_to, mended}
use Rattle.rules.specs.Mending.{dropped_up_to, altered_up_to, mending_list}
use Rattle.rules.specs.Outcome.{Verdict, none, ◌then◌}
use Rattle.rules.specs.Tables.{Tables, vertices, edges_in, degree, targets_of}
use Rattle.rules.specs.Tables.{check1, check2, check3, check4, check5, check6}
use Rattle.basics.specs.Basics.{bool_cases}
use Rattle.accepted.specs.Tables.{offset, never_falls, then_none}
use Rattle.accepted.specs.Tables.{check1_none, check2_none, check3_none, check4_none, check5_none, check6_none}

-- ---- entries that pass a test

pub keep_append :
    (test : ℕ → Bool) (xs ys : List ℕ) → keep test (xs ++ ys) ≡ keep test xs ++ keep test ys
unfolding keep
keep_append test [] ys = refl
keep_append test (x ∷ xs) ys =
    ⊎_elim
    (λ p. rw p (ap (λ (zs : List ℕ). x ∷ zs) (keep_append test xs ys)))
    (λ p. rw p (keep_append test xs ys))
    (bool_cases (test x))

-- what is kept passes the test
pub keep_passes : (test : ℕ → Bool) (xs : List ℕ) (w : ℕ) → Memᴰ w (keep test xs) → test w ≡ true
unfolding keep
keep_passes test [] w m = absurd (Memᴰ.not-nil m)
keep_passes test (x ∷ xs) w m =
    ⊎_elim
    (λ (p : test x ≡ true).
    ⊎_elim (λ (e : w ≡ x). ap test e ∙ p) (λ k. keep_passes test xs w k) (Memᴰ.cases_cons (rw p at m)))
    (λ (p : test x ≡ false). keep_passes test xs w (rw p at m))
    (bool_cases (test x))

-- where all pass, all are kept
pub keep_all :
    (test : ℕ → Bool) (xs : List ℕ) → ((w : ℕ) → Memᴰ w xs → test w ≡ true) → keep test xs ≡ xs
unfolding keep
keep_all test [] h = refl
keep_all test (x ∷ xs) h =
    rw (h x (Memᴰ.head refl)) (ap (λ (zs : List ℕ). x ∷ zs) (keep_all test xs (λ w m. h w (Memᴰ.tail m))))

-- ---- what the refusals 1 to 6 leave

-- the first of 1 to 6 that applies
abbrev pub export_checks : Tables → Verdict
export_checks t =
    check1 (vertices t) then
    check2 (vertices t) (length t.priorities) (length t.offsets) then
    check3 (edges_in t) then
    check4 (vertices t) t.owners then
    check5 (vertices t) t.priorities then
    check6 (vertices t) (edges_in t) t.offsets

-- of vertices and edges
pub record Shaped (t : Tables) : Type 0 where
  pub few_vertices : vertices t ≤ 4096
  pub offset_each : length t.offsets ≡ vertices t + 1
  pub few_edges : edges_in t ≤ 16384
  pub offset_first : offset t 0 ≡ 0
  pub offset_grows : (i j : ℕ) → i ≤ j → j ≤ vertices t → offset t i ≤ offset t j
  pub offset_last : offset t (vertices t) ≡ edges_in t

-- and of owners and priorities
pub record Mendable (t : Tables) : Type 0 where
  pub shaped : Shaped t
  pub priority_each : length t.priorities ≡ vertices t
  pub owner_small : (v : ℕ) → v < vertices t → get_or t.owners v 0 ≤ 1
  pub priority_small : (v : ℕ) → v < vertices t → get_or t.priorities v 0 ≤ 255

six_none :
    (a b c d e f : Verdict) →
    (a then b then c then d then e then f) ≡ none →
    (a ≡ none) × (b ≡ none) × (c ≡ none) × (d ≡ none) × (e ≡ none) × (f ≡ none)
six_none a b c d e f e1 =
    let (qa, e2) = then_none a (b then c then d then e then f) e1 in
    let (qb, e3) = then_none b (c then d then e then f) e2 in
    let (qc, e4) = then_none c (d then e then f) e3 in
    let (qd, e5) = then_none d (e then f) e4 in
    let (qe, qf) = then_none e f e5 in (qa, qb, qc, qd, qe, qf)

pub export_mendable : (t : Tables) → export_checks t ≡ none → Mendable t
export_mendable t ok =
    let n = vertices t in
    let m = edges_in t in
    let (c1, c2, c3, c4, c5, c6) =
    six_none
    (check1 n)
    (check2 n (length t.priorities) (length t.offsets))
    (check3 m)
    (check4 n t.owners)
    (check5 n t.priorities)
    (check6 n m t.offsets)
    ok in
    let (long-priorities, long-offsets) = check2_none n (length t.priorities) (length t.offsets) c2 in
    let offsets = check6_none n m t.offsets c6 in
    record {
      shaped =
          record {
            few_vertices = check1_none n c1;
            offset_each = long-offsets;
            few_edges = check3_none m c3;
            offset_first = offsets.first;
            offset_grows = never_falls (offset t) n offsets.next;
            offset_last = offsets.last;
          };
      priority_each = long-priorities;
      owner_small = check4_none n t.owners c4;
      priority_small = check5_none n t.priorities c5;
    }

-- ---- lengths

-- w is a vertex
abbrev pub is_vertex : Tables → Set
is_vertex t w = ltb w (vertices t)

-- the edge e leads to no vertex, and so it is dropped
abbrev pub is_dropped : Tables → Set
is_dropped t e = not (is_vertex t (get_or t.targets e 0))

-- one edge more is looked at: it is kept, or not
pub kept_more :
    (t : Tables) (from k : ℕ) →
    from + k < edges_in t →
    keep (is_vertex t) (take (suc k) (drop from t.targets)) ≡
    keep (is_vertex t) (take k (drop from t.targets)) ++
    cond (is_vertex t (get_or t.targets (from + k) 0)) (get_or t.targets (from + k) 0 ∷ []) []
unfolding keep
kept_more t from k l =
    let rest = drop from t.targets in
    let within : k < length rest = rw (length-drop from t.targets) (omega arith) in
    rw (take-suc rest k 0 within, keep_append (is_vertex t) (take k rest) (get_or rest k 0 ∷ []), get_or-drop from t.targets k 0)

-- one edge more is listed as dropped, or not
pub dropped_length_more :
    (t : Tables) (e : ℕ) →
    length (dropped_up_to t (suc e)) ≡ length (dropped_up_to t e) + cond (is_dropped t e) 1 0
unfolding dropped_up_to
dropped_length_more t e =
    length-append (dropped_up_to t e) _ ∙
    ⊎_elim (λ p. rw p) (λ p. rw p) (bool_cases (is_vertex t (get_or t.targets e 0)))

-- of k edges those are kept that are not dropped
pub kept_dropped :
    (t : Tables) (from k : ℕ) →
    from + k ≤ edges_in t →
    length (keep (is_vertex t) (take k (drop from t.targets))) + length (dropped_up_to t (from + k)) ≡
    k + length (dropped_up_to t from)
unfolding keep
kept_dropped t from zero l = rw (add-zero from)
kept_dropped t from (suc k) l =
    let e = from + k in
    let more = dropped_length_more t e in
    let before = kept_dropped t from k (omega arith) in
    ⊎_elim
    (λ (p : is_vertex t (get_or t.targets e 0) ≡ true).
    rw (add-suc from k, kept_more t from k (omega arith), p, length-append) (omega (arith, rw p at more)))
    (λ (p : is_vertex t (get_or t.targets e 0) ≡ false).
    rw (add-suc from k, kept_more t from k (omega arith), p, length-append) (omega (arith, rw p at more)))
    (bool_cases (is_vertex t (get_or t.targets e 0)))

-- an altered vertex has one edge instead of none
pub new_length :
    (t : Tables) (v : ℕ) → length (new_targets_of t v) ≡ length (kept_targets t v) + cond (altered t v) 1 0
unfolding new_targets_of altered
new_length t v =
    let kept = length (kept_targets t v) in
    ⊎_elim
    (λ (p : eqb kept 0 ≡ true). let z = eqb-true kept 0 p in rw p (omega arith))
    (λ (p : eqb kept 0 ≡ false). rw p (omega arith))
    (bool_cases (eqb kept 0))

-- every vertex has an edge afterwards
pub new_positive : (t : Tables) (v : ℕ) → 1 ≤ length (new_targets_of t v)
unfolding new_targets_of altered
new_positive t v =
    let kept = length (kept_targets t v) in
    ⊎_elim
    (λ (p : eqb kept 0 ≡ true). rw p (omega arith))
    (λ (p : eqb kept 0 ≡ false). let z = eqb-false kept 0 p in rw p (omega arith))
    (bool_cases (eqb kept 0))

pub new_length_more :
    (t : Tables) (v : ℕ) → length (new_targets_up_to t (suc v)) ≡ length (new_targets_up_to t v) + length (new_targets_of t v)
unfolding new_targets_up_to
new_length_more t v = length-append (new_targets_up_to t v) (new_targets_of t v)

-- the edges of a vertex stand within the table
pub degree_spans : (t : Tables) → Shaped t → (v : ℕ) → v < vertices t → offset t v + degree t.offsets v ≡ offset t (suc v)
unfolding degree
degree_spans t s v l =
    let grows : offset t v ≤ offset t (suc v) = s.offset_grows v (suc v) (omega arith) l in
    rw (add-one v) (omega arith)

pub offset_within : (t : Tables) → Shaped t → (i : ℕ) → i ≤ vertices t → offset t i ≤ edges_in t
offset_within t s i l = rw s.offset_last at (s.offset_grows i (vertices t) l (le_refl (vertices t)))

-- of a vertex's edges those are kept that are not dropped
pub kept_dropped_at :
    (t : Tables) → Shaped t → (v : ℕ) → v < vertices t →
    length (kept_targets t v) + length (dropped_up_to t (offset t (suc v))) ≡
    degree t.offsets v + length (dropped_up_to t (offset t v))
unfolding kept_targets targets_of
kept_dropped_at t s v l =
    let spans = degree_spans t s v l in
    let top = offset_within t s (suc v) l in
    rw spans at (kept_dropped t (offset t v) (degree t.offsets v) (omega arith))

-- of no vertices none
mended_length_none :
    (t : Tables) → Shaped t →
    length (new_targets_up_to t 0) + length (dropped_up_to t (offset t 0)) ≡ offset t 0 + 0
unfolding new_targets_up_to dropped_up_to
mended_length_none t s = rw s.offset_first

-- the edges of the first vertices, mended: those of before, without the dropped ones, and one for each altered vertex
pub mended_length_upto :
    (t : Tables) → Shaped t → (v : ℕ) → v ≤ vertices t →
    length (new_targets_up_to t v) + length (dropped_up_to t (offset t v)) ≡ offset t v + count v (altered t)
unfolding count
mended_length_upto t s zero l = mended_length_none t s
mended_length_upto t s (suc v) l =
    let spans = degree_spans t s v l in
    let here = kept_dropped_at t s v l in
    let before = mended_length_upto t s v (omega arith) in
    let more = new_length_more t v in
    let one = new_length t v in
    omega arith

-- and of all
pub mended_length :
    (t : Tables) → Shaped t →
    length (mended t).targets + length (dropped_up_to t (edges_in t)) ≡ edges_in t + count (vertices t) (altered t)
unfolding mended
mended_length t s = rw s.offset_last at (mended_length_upto t s (vertices t) (le_refl (vertices t)))

-- two entries for each altered vertex
pub altered_length : (t : Tables) (v : ℕ) → length (altered_up_to t v) ≡ 2 * count v (altered t)
unfolding altered_up_to count
altered_length t zero = refl
altered_length t (suc v) =
    let before = altered_length t v in
    ⊎_elim
    (λ (p : altered t v ≡ true). rw (p, length-append) (omega arith))
    (λ (p : altered t v ≡ false). rw (p, length-append) (omega arith))
    (bool_cases (altered t v))

pub list_length :
    (t : Tables) →
    length (mending_list t) ≡ length (dropped_up_to t (edges_in t)) + 2 * count (vertices t) (altered t)
unfolding mending_list
list_length t =
    length-append (dropped_up_to t (edges_in t)) (altered_up_to t (vertices t)) ∙
    ap (λ (k : ℕ). length (dropped_up_to t (edges_in t)) + k) (altered_length t (vertices t))

-- How to read the list: its length, the new m and the old one tell how many vertices were altered and how many edges dropped.
pub list_read_altered :
    (t : Tables) → Shaped t →
    count (vertices t) (altered t) ≡ (length (mending_list t) + length (mended t).targets - edges_in t) / 3
list_read_altered t s = let sizes = mended_length t s in let entries = list_length t in omega arith

pub list_read_dropped :
    (t : Tables) →
    length (dropped_up_to t (edges_in t)) ≡ length (mending_list t) - 2 * count (vertices t) (altered t)
list_read_dropped t = let entries = list_length t in omega arith
