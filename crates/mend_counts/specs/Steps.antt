-- What mending's loops do in one turn, as facts about lists.
use Rattle.std.specs.Prelude.{Bool, true, false, cond, List, [], ◌∷◌, ◌++◌, ◌≡◌, refl, length, get_or, take, drop}
use Rattle.std.proofs.Common.{append-nil, ⊎_elim, sym, ap, ◌∙◌, le_refl, add-one, eq-eqb, ne_eqb, length-append, length-take, take-append-drop, take-take}
use Prim.Native.Nat.{ℕ, zero, suc, ◌+◌, ◌-◌, ◌≤◌, ◌<◌}
use native.Mathlib.Omega.{arith}
use Rattle.rules.specs.Counting.{count}
use Rattle.rules.specs.Mending.{keep, kept_targets, altered, new_targets_of, new_priority, new_targets_up_to, mended, dropped_up_to}
use Rattle.rules.specs.Mending.{altered_up_to}
use Rattle.parity_game.specs.Said.{odd_above_zero}
use Rattle.rules.specs.Tables.{Tables, vertices, edges_in, degree, targets_of}
use Rattle.basics.specs.Basics.{bool_cases}
use Rattle.accepted.specs.Tables.{offset, never_falls}
use Rattle.theory.specs.Mending.{is_vertex, kept_more, keep_append, new_length, dropped_length_more, new_length_more}
use Rattle.theory.specs.Mending.{altered_length}

-- ---- the edges of a vertex

-- what is kept of the edges from one place up to another
unfoldable pub kept_from : Tables → ℕ → ℕ → List ℕ
kept_from t from e = keep (is_vertex t) (take (e - from) (drop from t.targets))

pub kept_none : (t : Tables) (from : ℕ) → kept_from t from from ≡ []
unfolding kept_from keep
kept_none t from = let z : from - from ≡ 0 = omega arith in rw z

pub kept_all : (t : Tables) (v : ℕ) → kept_from t (offset t v) (offset t (v + 1)) ≡ kept_targets t v
unfolding kept_from kept_targets targets_of degree
kept_all t v = refl

module _ (t : Tables) (from e : ℕ) (low : from ≤ e) (high : e < edges_in t) where
  kept_next :
      kept_from t from (e + 1) ≡
      kept_from t from e ++ cond (is_vertex t (get_or t.targets e 0)) (get_or t.targets e 0 ∷ []) []
  unfolding kept_from
  kept_next =
      let here : from + (e - from) ≡ e = omega arith in
      let next : e + 1 - from ≡ suc (e - from) = omega arith in
      rw next (rw here at (kept_more t from (e - from) (omega arith)))

  -- an edge to a vertex is kept
  pub kept_one :
      is_vertex t (get_or t.targets e 0) ≡ true → kept_from t from (e + 1) ≡ kept_from t from e ++ (get_or t.targets e 0 ∷ [])
  kept_one p = kept_next ∙ rw p

  -- any other is not
  pub kept_skip : is_vertex t (get_or t.targets e 0) ≡ false → kept_from t from (e + 1) ≡ kept_from t from e
  kept_skip p = kept_next ∙ rw p (append-nil (kept_from t from e))

-- the same of how many
pub kept_one_more :
    (t : Tables) (from e : ℕ) → from ≤ e → e < edges_in t →
    is_vertex t (get_or t.targets e 0) ≡ true → length (kept_from t from e) + 1 ≡ length (kept_from t from (e + 1))
kept_one_more t from e low high p =
    sym (ap length (kept_one t from e low high p) ∙ length-append (kept_from t from e) (get_or t.targets e 0 ∷ []))

-- a list keeps no more entries than it has
keep_few : (test : ℕ → Bool) (xs : List ℕ) → length (keep test xs) ≤ length xs
unfolding keep
keep_few test [] = omega arith
keep_few test (x ∷ xs) =
    let rest = keep_few test xs in
    ⊎_elim
    (λ (p : test x ≡ true). rw p (omega arith))
    (λ (p : test x ≡ false). rw p (omega arith))
    (bool_cases (test x))

-- no more are kept than were looked at
pub kept_few : (t : Tables) (from e : ℕ) → length (kept_from t from e) ≤ e
unfolding kept_from
kept_few t from e =
    let few = keep_few (is_vertex t) (take (e - from) (drop from t.targets)) in
    let most = length-take (e - from) (drop from t.targets) in
    omega arith

-- ---- dropped edges

pub dropped_one :
    (t : Tables) (e : ℕ) → is_vertex t (get_or t.targets e 0) ≡ false → dropped_up_to t (e + 1) ≡ dropped_up_to t e ++ (e ∷ [])
unfolding dropped_up_to
dropped_one t e p = rw (add-one e, p)

pub dropped_skip :
    (t : Tables) (e : ℕ) → is_vertex t (get_or t.targets e 0) ≡ true → dropped_up_to t (e + 1) ≡ dropped_up_to t e
unfolding dropped_up_to
dropped_skip t e p = rw (add-one e, p) (append-nil (dropped_up_to t e))

pub dropped_one_more :
    (t : Tables) (e : ℕ) → is_vertex t (get_or t.targets e 0) ≡ false →
    length (dropped_up_to t e) + 1 ≡ length (dropped_up_to t (e + 1))
dropped_one_more t e p = sym (ap length (dropped_one t e p) ∙ length-append (dropped_up_to t e) (e ∷ []))

-- no more are dropped than were looked at
pub dropped_few : (t : Tables) (k : ℕ) → length (dropped_up_to t k) ≤ k
unfolding dropped_up_to
dropped_few t zero = omega arith
dropped_few t (suc k) =
    let before = dropped_few t k in
    ⊎_elim
    (λ (p : is_vertex t (get_or t.targets k 0) ≡ true). rw (p, length-append) (omega arith))
    (λ (p : is_vertex t (get_or t.targets k 0) ≡ false). rw (p, length-append) (omega arith))
    (bool_cases (is_vertex t (get_or t.targets k 0)))

-- ---- altered vertices

-- a vertex is altered exactly where no edge is kept
pub alone_altered : (t : Tables) (v k : ℕ) → k ≡ length (kept_targets t v) → k ≡ 0 → altered t v ≡ true
unfolding altered
alone_altered t v k e z = eq-eqb (length (kept_targets t v)) 0 (sym e ∙ z)

pub kept_unaltered : (t : Tables) (v k : ℕ) → k ≡ length (kept_targets t v) → (k ≡ 0 → ⊥) → altered t v ≡ false
unfolding altered
kept_unaltered t v k e h = ne_eqb (length (kept_targets t v)) 0 (λ z. h (e ∙ z))

pub altered_one_more : (t : Tables) (v : ℕ) → altered t v ≡ true → count v (altered t) + 1 ≡ count (v + 1) (altered t)
unfolding count
altered_one_more t v p = rw (add-one v, p)

pub altered_none_more : (t : Tables) (v : ℕ) → altered t v ≡ false → count v (altered t) ≡ count (v + 1) (altered t)
unfolding count
altered_none_more t v p = rw (add-one v, p) (omega arith)

-- ---- room

keep_part : (test : ℕ → Bool) (k : ℕ) (xs : List ℕ) → length (keep test (take k xs)) ≤ length (keep test xs)
keep_part test k xs =
    let whole = ap length (ap (keep test) (sym (take-append-drop k xs)) ∙ keep_append test (take k xs) (drop k xs)) in
    let parts = length-append (keep test (take k xs)) (keep test (drop k xs)) in
    omega arith

kept_up : (t : Tables) (from e to : ℕ) → e ≤ to → length (kept_from t from e) ≤ length (kept_from t from to)
unfolding kept_from
kept_up t from e to l =
    let rest = drop from t.targets in
    rw (take-take (e - from) (to - from) rest (omega arith)) at (keep_part (is_vertex t) (e - from) (take (to - from) rest))

-- an edge of v that is kept has room among its new edges
pub kept_room_lem :
    (t : Tables) (v e : ℕ) → offset t v ≤ e → e < offset t (v + 1) → e < edges_in t →
    is_vertex t (get_or t.targets e 0) ≡ true → length (kept_from t (offset t v) e) < length (new_targets_of t v)
kept_room_lem t v e low high within p =
    let one = kept_one_more t (offset t v) e low within p in
    let most = kept_up t (offset t v) (e + 1) (offset t (v + 1)) (omega arith) in
    let all = ap length (kept_all t v) in
    let new = new_length t v in
    omega arith

-- and so have a dropped edge and an altered vertex in the list, and a vertex's new edges among all
pub dropped_room :
    (t : Tables) (e k : ℕ) → e < k → is_vertex t (get_or t.targets e 0) ≡ false →
    length (dropped_up_to t e) < length (dropped_up_to t k)
dropped_room t e k l p =
    let one = dropped_one_more t e p in
    let most =
    never_falls (λ i. length (dropped_up_to t i)) k
    (λ i h. let more = dropped_length_more t i in rw (add-one i) (omega arith)) (e + 1) k (omega arith) (le_refl k) in
    omega arith

pub altered_room :
    (t : Tables) (v k : ℕ) → v < k → altered t v ≡ true → length (altered_up_to t v) + 2 ≤ length (altered_up_to t k)
unfolding count
altered_room t v k l p =
    let one = altered_one_more t v p in
    let most =
    never_falls (λ i. count i (altered t)) k (λ i h. rw (add-one i) (omega arith)) (v + 1) k (omega arith) (le_refl k) in
    let this = altered_length t v in
    let all = altered_length t k in
    omega arith

pub new_room :
    (t : Tables) (v k : ℕ) → v < k → length (new_targets_up_to t v) + length (new_targets_of t v) ≤ length (new_targets_up_to t k)
new_room t v k l =
    let one = new_length_more t v in
    let most =
    never_falls (λ i. length (new_targets_up_to t i)) k
    (λ i h. let more = new_length_more t i in rw (add-one i) (omega arith)) (suc v) k (omega arith) (le_refl k) in
    omega arith

-- one vertex more
pub altered_pair :
    (t : Tables) (v : ℕ) → altered t v ≡ true →
    altered_up_to t (v + 1) ≡ altered_up_to t v ++ v ∷ (get_or t.priorities v 0 ∷ [])
unfolding altered_up_to
altered_pair t v p = rw (add-one v, p)

pub altered_skip : (t : Tables) (v : ℕ) → altered t v ≡ false → altered_up_to t (v + 1) ≡ altered_up_to t v
unfolding altered_up_to
altered_skip t v p = rw (add-one v, p) (append-nil (altered_up_to t v))

pub new_next : (t : Tables) (v : ℕ) → new_targets_up_to t (v + 1) ≡ new_targets_up_to t v ++ new_targets_of t v
unfolding new_targets_up_to
new_next t v = rw (add-one v)

-- the new edges of a vertex: those that are kept, or a self loop
pub new_kept : (t : Tables) (v : ℕ) → altered t v ≡ false → new_targets_of t v ≡ kept_targets t v
unfolding new_targets_of
new_kept t v p = rw p

pub new_loop : (t : Tables) (v : ℕ) → altered t v ≡ true → new_targets_of t v ≡ v ∷ []
unfolding new_targets_of
new_loop t v p = rw p

-- ---- priorities

-- a vertex that keeps an edge keeps its priority
pub priority_kept : (t : Tables) (v : ℕ) → altered t v ≡ false → get_or t.priorities v 0 ≡ new_priority t v
unfolding new_priority
priority_kept t v p = rw p

-- a dead end gets its owner's losing one
pub priority_even :
    (t : Tables) (v : ℕ) → altered t v ≡ true → get_or t.owners v 0 ≡ 0 → 1 ≡ new_priority t v
unfolding new_priority
priority_even t v p e = rw (p, e)

pub priority_odd :
    (t : Tables) (v : ℕ) → altered t v ≡ true → (get_or t.owners v 0 ≡ 0 → ⊥) → 0 ≡ new_priority t v
unfolding new_priority
priority_odd t v p h = rw (p, sym (odd_above_zero (get_or t.owners v 0) h))

-- ---- offsets

-- where the new edges of v begin
abbrev pub new_offset : Tables → ℕ → ℕ
new_offset t v = length (new_targets_up_to t v)

pub new_fits :
    (t : Tables) (v : ℕ) → v < vertices t → new_offset t v + length (new_targets_of t v) ≤ length (mended t).targets
unfolding mended
new_fits t v l = new_room t v (vertices t) l

pub new_most : (t : Tables) (v : ℕ) → v ≤ vertices t → new_offset t v ≤ length (mended t).targets
unfolding mended
new_most t v l =
    never_falls (new_offset t) (vertices t)
    (λ i h. let more = new_length_more t i in rw (add-one i) (omega arith)) v (vertices t) l (le_refl (vertices t))
