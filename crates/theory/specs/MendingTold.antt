-- What the result and the list tell: two exports with the same owners and offsets that are mended to the same tables with the
-- same list have the same priorities and drop the same edges, and all their other targets are the same.
use Rattle.std.specs.Prelude.{Bool, true, List, [], ◌∷◌, ◌++◌, ◌≡◌, drop}
use Rattle.std.proofs.Math.Bool.{false}
use Rattle.std.proofs.Math.Logic.{⊎_elim}
use Rattle.std.proofs.Math.Path.{refl, sym, ap}
use Rattle.std.proofs.Common.{◌∙◌, le_refl, le_of_lt, not-suc-le-zero, le_of_suc-le-suc, arith, length-take, length-drop, take_at, drop_at}
use Prim.Native.Nat.{ℕ, zero, suc, ◌+◌, ◌-◌, ◌≤◌, ◌<◌, suc-le-suc, zero-le}
use borrow.Author.Tests.{eqb-true}
use Rattle.std.proofs.Math.Dec.{eqb}
use Rattle.std.proofs.Math.ListN.{length, get_or, take}
use Rattle.std.proofs.Math.Seq.{ext_get_or, get_or-take, get_or-drop}
use Rattle.rules.specs.Mending.{keep, kept_targets, altered, new_targets_of, mended, dropped_up_to, altered_up_to, mending_list}
use Rattle.rules.specs.Tables.{Tables, tables_of, vertices, edges_in, degree, targets_of, game_of}
use Rattle.basics.specs.Basics.{bool_cases, bool_ext, not_false_is_true, clash, lt_or_ge, count_cong}
use Rattle.accepted.specs.Tables.{offset}
use Rattle.theory.specs.Mending.{Shaped, Mendable, is_vertex, kept_dropped_at, degree_spans, offset_within}
use Rattle.theory.specs.Mending.{list_length, mended_length}
use Rattle.theory.specs.MendingKeeps.{mended_targets, unaltered_priority, listed_dropped, dropped_listed, altered_place}

-- ---- lists

-- two lists in two parts that are the same are the same part by part where the first parts have the same length
parts_same : (xs ys xs' ys' : List ℕ) → length xs ≡ length xs' → xs ++ ys ≡ xs' ++ ys' → (xs ≡ xs') × (ys ≡ ys')
parts_same xs ys xs' ys' long e = (
  sym (take_at xs ys (length xs') long) ∙ ap (λ (zs : List ℕ). take (length xs') zs) e ∙ take_at xs' ys' (length xs') refl,
  sym (drop_at xs ys (length xs') long) ∙ ap (λ (zs : List ℕ). drop (length xs') zs) e ∙ drop_at xs' ys' (length xs') refl,
)

-- where the same places pass the test and the same is kept, the entries there are the same
keep_tells :
    (test : ℕ → Bool) (xs ys : List ℕ) →
    length xs ≡ length ys →
    ((i : ℕ) → i < length xs → test (get_or xs i 0) ≡ test (get_or ys i 0)) →
    keep test xs ≡ keep test ys →
    (i : ℕ) → i < length xs → test (get_or xs i 0) ≡ true → get_or xs i 0 ≡ get_or ys i 0
unfolding keep
keep_tells test [] ys long agree e i l p = absurd (not-suc-le-zero l)
keep_tells test (x ∷ xs) [] long agree e i l p = absurd (omega arith)
keep_tells test (x ∷ xs) (y ∷ ys) long agree e i l p =
    ⊎_elim
    (λ (q : test x ≡ true).
    let r : test y ≡ true = sym (agree 0 (suc-le-suc zero-le)) ∙ q in
    let kept : x ∷ keep test xs ≡ y ∷ keep test ys = rw (q, r) at e in
    at_true i l p kept (keep_tells test xs ys (omega arith) (λ j k. agree (suc j) (suc-le-suc k))))
    (λ (q : test x ≡ false).
    let r : test y ≡ false = sym (agree 0 (suc-le-suc zero-le)) ∙ q in
    let kept : keep test xs ≡ keep test ys = rw (q, r) at e in
    at_false i l p q (keep_tells test xs ys (omega arith) (λ j k. agree (suc j) (suc-le-suc k)) kept))
    (bool_cases (test x))
  where
    at_true :
        (j : ℕ) → j < suc (length xs) → test (get_or (x ∷ xs) j 0) ≡ true →
        x ∷ keep test xs ≡ y ∷ keep test ys →
        (keep test xs ≡ keep test ys → (k : ℕ) → k < length xs → test (get_or xs k 0) ≡ true → get_or xs k 0 ≡ get_or ys k 0) →
        get_or (x ∷ xs) j 0 ≡ get_or (y ∷ ys) j 0
    at_true zero l p kept rest = cc
    at_true (suc j) l p kept rest = rest (cc) j (le_of_suc-le-suc l) p

    at_false :
        (j : ℕ) → j < suc (length xs) → test (get_or (x ∷ xs) j 0) ≡ true → test x ≡ false →
        ((k : ℕ) → k < length xs → test (get_or xs k 0) ≡ true → get_or xs k 0 ≡ get_or ys k 0) →
        get_or (x ∷ xs) j 0 ≡ get_or (y ∷ ys) j 0
    at_false zero l p q rest = absurd (clash p q)
    at_false (suc j) l p q rest = rest j (le_of_suc-le-suc l) p

-- ---- two exports

-- the lists have the same parts
list_parts :
    (t u : Tables) → Shaped t → Shaped u → vertices t ≡ vertices u → edges_in t ≡ edges_in u →
    length (mended t).targets ≡ length (mended u).targets → mending_list t ≡ mending_list u →
    (dropped_up_to t (edges_in t) ≡ dropped_up_to u (edges_in u)) × (altered_up_to t (vertices t) ≡ altered_up_to u (vertices u))
unfolding mending_list
list_parts t u s s' n m edges e =
    let entries = ap length e in
    let lt = list_length t in
    let lu = list_length u in
    let mt = mended_length t s in
    let mu = mended_length u s' in
    parts_same (dropped_up_to t (edges_in t)) (altered_up_to t (vertices t)) (dropped_up_to u (edges_in u)) (altered_up_to u (vertices u))
    (omega arith) e

module _
    (owners offsets priorities priorities' targets targets' : List ℕ)
    (s : Mendable (tables_of owners priorities offsets targets))
    (s' : Mendable (tables_of owners priorities' offsets targets'))
    (result : mended (tables_of owners priorities offsets targets) ≡ mended (tables_of owners priorities' offsets targets'))
    (list : mending_list (tables_of owners priorities offsets targets) ≡ mending_list (tables_of owners priorities' offsets targets'))
  where
    abbrev t : Tables
    t = tables_of owners priorities offsets targets

    abbrev u : Tables
    u = tables_of owners priorities' offsets targets'

    as_many : edges_in t ≡ edges_in u
    as_many = sym s.shaped.offset_last ∙ s'.shaped.offset_last

    parts :
        (dropped_up_to t (edges_in t) ≡ dropped_up_to u (edges_in u)) × (altered_up_to t (vertices t) ≡ altered_up_to u (vertices u))
    parts = list_parts t u s.shaped s'.shaped refl as_many (ap (λ (x : Tables). length x.targets) result) list

    -- The same edges are dropped,
    pub same_vertices : (e : ℕ) → e < edges_in t → is_vertex t (get_or targets e 0) ≡ is_vertex u (get_or targets' e 0)
    same_vertices e l =
        bool_ext _ _
        (λ p.
        not_false_is_true _
        (λ q. clash p (listed_dropped t (edges_in t) e (rw parts.0 (dropped_listed u (edges_in u) e (rw as_many at l) q)))))
        (λ p.
        not_false_is_true _
        (λ q. clash p (listed_dropped u (edges_in u) e (rw parts.0 at (dropped_listed t (edges_in t) e l q)))))

    dropped_same : (e : ℕ) → e ≤ edges_in t → dropped_up_to t e ≡ dropped_up_to u e
    unfolding dropped_up_to
    dropped_same zero l = refl
    dropped_same (suc e) l = rw (dropped_same e (le_of_lt l), same_vertices e l)

    -- so each vertex keeps as many
    kept_lengths : (v : ℕ) → v < vertices t → length (kept_targets t v) ≡ length (kept_targets u v)
    kept_lengths v l =
        let of-t = kept_dropped_at t s.shaped v l in
        let of-u = kept_dropped_at u s'.shaped v l in
        let below = ap length (dropped_same (offset t v) (offset_within t s.shaped v (le_of_lt l))) in
        let above = ap length (dropped_same (offset t (suc v)) (offset_within t s.shaped (suc v) l)) in
        omega arith

    -- and the same vertices are altered,
    pub same_altered : (v : ℕ) → v < vertices t → altered t v ≡ altered u v
    unfolding altered
    same_altered v l = ap (λ (k : ℕ). eqb k 0) (kept_lengths v l)

    -- the priorities are the same:
    same_priority : (v : ℕ) → v < vertices t → get_or priorities v 0 ≡ get_or priorities' v 0
    same_priority v l =
        ⊎_elim
        (λ (p : altered t v ≡ true).
        let before = count_cong v (altered t) (altered u) (λ k less. same_altered k (omega arith)) in
        let (_, old, _) = altered_place t (vertices t) v l p in
        let (_, old', _) = altered_place u (vertices u) v l (sym (same_altered v l) ∙ p) in
        sym old ∙ rw (parts.1, before) old')
        (λ (p : altered t v ≡ false).
        sym (unaltered_priority t v l p) ∙
        ap (λ (x : Tables). get_or x.priorities v 0) result ∙
        unaltered_priority u v l (sym (same_altered v l) ∙ p))
        (bool_cases (altered t v))

    pub same_priorities : priorities ≡ priorities'
    same_priorities =
        ext_get_or 0 priorities priorities' (s.priority_each ∙ sym s'.priority_each)
        (λ v l. same_priority v (rw s.priority_each at l))

    -- each vertex keeps the same targets
    same_new : (v : ℕ) → v < vertices t → new_targets_of t v ≡ new_targets_of u v
    same_new v l =
        sym (mended_targets t v l) ∙ ap (λ (x : Tables). (game_of x).targets v) result ∙ mended_targets u v l

    same_kept : (v : ℕ) → v < vertices t → kept_targets t v ≡ kept_targets u v
    unfolding new_targets_of altered
    same_kept v l =
        ⊎_elim
        (λ (p : altered t v ≡ true).
        let none : length (kept_targets t v) ≡ 0 = eqb-true _ _ p in
        let long = kept_lengths v l in
        ext_get_or 0 (kept_targets t v) (kept_targets u v) long (λ i less. absurd (omega arith)))
        (λ (p : altered t v ≡ false).
        let q : altered u v ≡ false = sym (same_altered v l) ∙ p in
        rw (p, q) at (same_new v l))
        (bool_cases (altered t v))

    -- the targets of one vertex's edges
    same_target_of :
        (v k : ℕ) → v < vertices t → k < degree offsets v → is_vertex t (get_or targets (offset t v + k) 0) ≡ true →
        get_or targets (offset t v + k) 0 ≡ get_or targets' (offset t v + k) 0
    unfolding kept_targets targets_of
    same_target_of v k l less p =
        let from = offset t v in
        let spans = degree_spans t s.shaped v l in
        let top = offset_within t s.shaped (suc v) l in
        let many = as_many in
        let xs = take (degree offsets v) (drop from targets) in
        let ys = take (degree offsets v) (drop from targets') in
        let long_xs : length xs ≡ degree offsets v = rw (length-take, length-drop) (omega arith) in
        let long_ys : length ys ≡ degree offsets v = rw (length-take, length-drop) (omega arith) in
        let at_xs : (i : ℕ) → i < degree offsets v → get_or xs i 0 ≡ get_or targets (from + i) 0 =
        λ i h. get_or-take (degree offsets v) (drop from targets) i 0 h ∙ get_or-drop from targets i 0 in
        let at_ys : (i : ℕ) → i < degree offsets v → get_or ys i 0 ≡ get_or targets' (from + i) 0 =
        λ i h. get_or-take (degree offsets v) (drop from targets') i 0 h ∙ get_or-drop from targets' i 0 in
        sym (at_xs k less) ∙
        keep_tells (is_vertex t) xs ys (long_xs ∙ sym long_ys)
        (λ i h.
        let small : i < degree offsets v = rw long_xs at h in
        ap (is_vertex t) (at_xs i small) ∙ same_vertices (from + i) (omega arith) ∙ ap (is_vertex t) (sym (at_ys i small)))
        (same_kept v l)
        k
        (rw long_xs less)
        (ap (is_vertex t) (at_xs k less) ∙ p) ∙
        at_ys k less

    -- all vertices below v
    same_targets_below :
        (v e : ℕ) → v ≤ vertices t → e < offset t v → is_vertex t (get_or targets e 0) ≡ true →
        get_or targets e 0 ≡ get_or targets' e 0
    same_targets_below zero e l below p = let first = s.shaped.offset_first in absurd (omega arith)
    same_targets_below (suc v) e l below p =
        ⊎_elim
        (λ (less : e < offset t v). same_targets_below v e (le_of_lt l) less p)
        (λ (from : offset t v ≤ e).
        let spans = degree_spans t s.shaped v l in
        let place : offset t v + (e - offset t v) ≡ e = omega arith in
        rw place at (same_target_of v (e - offset t v) l (omega arith) (rw place p)))
        (lt_or_ge e (offset t v))

    -- and all targets that were not dropped.
    pub same_targets :
        (e : ℕ) → e < edges_in t → is_vertex t (get_or targets e 0) ≡ true → get_or targets e 0 ≡ get_or targets' e 0
    same_targets e l = same_targets_below (vertices t) e (le_refl (vertices t)) (rw s.shaped.offset_last l)
