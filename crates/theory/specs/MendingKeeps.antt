-- What mending keeps: the priority of every vertex that is not altered, and of every edge that is not dropped its target and its
-- order among its vertex's edges. The list names exactly the dropped edges, and the altered vertices each with its old priority.
use Rattle.std.specs.Prelude.{true, false, cond, ◌↔◌, ◌≡◌, ℕ, zero, suc, ◌+◌, ◌-◌, ◌*◌, ◌≤◌, ◌<◌, length, get_or, take, drop}
use mathlib.Core.List.Memᴰ
use mathlib.Core.List.{List, [], ◌∷◌, ◌++◌, append_assoc, append-nil, Memᴰ}
use Rattle.std.proofs.Common.{⊎_elim, sym, ◌∙◌, le_of_lt, add-zero, add-suc, not-suc-le-zero, arith, ltb-false, le-ltb, length-append, get_or-append-add}
use Rattle.std.proofs.Math.ListN.{get_or-append}
use Rattle.std.proofs.Math.Seq.{take-append_seam, drop-append_seam, get_or-append_seam}
use Rattle.rules.specs.Counting.{count}
use Rattle.rules.specs.Game.{player_of}
use Rattle.rules.specs.Mending.{keep, kept_targets, altered, new_targets_of, losing_priority, new_priority, new_targets_up_to, mended}
use Rattle.rules.specs.Mending.{dropped_up_to, altered_up_to}
use Rattle.rules.specs.Tables.{Tables, vertices, edges_in, targets_of, game_of}
use Rattle.basics.specs.Basics.{bool_cases, below_suc}
use Rattle.theory.specs.Mending.{is_vertex, altered_length}
use Rattle.theory.specs.MendingAccepted.{mended_priority, mended_offset, mended_degree}

-- ---- priorities

-- A vertex that is not altered keeps its priority,
pub unaltered_priority :
    (t : Tables) (v : ℕ) → v < vertices t → altered t v ≡ false →
    get_or (mended t).priorities v 0 ≡ get_or t.priorities v 0
unfolding new_priority
unaltered_priority t v l p = mended_priority t v l ∙ rw p

-- and one that is gets its owner's losing one.
pub altered_priority :
    (t : Tables) (v : ℕ) → v < vertices t → altered t v ≡ true →
    get_or (mended t).priorities v 0 ≡ losing_priority (player_of (get_or t.owners v 0))
unfolding new_priority
altered_priority t v l p = mended_priority t v l ∙ rw p

-- ---- edges

-- more vertices come after those that are there
pub upto_on :
    (t : Tables) (v k : ℕ) → (rest : List ℕ) × (new_targets_up_to t (v + k) ≡ new_targets_up_to t v ++ rest)
unfolding new_targets_up_to
upto_on t v zero = ([], rw (add-zero v) (sym (append-nil (new_targets_up_to t v))))
upto_on t v (suc k) =
    let (rest, e) = upto_on t v k in (
      rest ++ new_targets_of t (v + k),
      rw (add-suc v k, e) (append_assoc (new_targets_up_to t v) rest (new_targets_of t (v + k))),
    )

-- where they stand among the new targets
new_targets_place :
    (t : Tables) (v : ℕ) → v < vertices t →
    take (length (new_targets_of t v)) (drop (length (new_targets_up_to t v)) (mended t).targets) ≡ new_targets_of t v
unfolding mended new_targets_up_to
new_targets_place t v l =
    let (rest, e) = upto_on t (suc v) (vertices t - suc v) in
    let all : suc v + (vertices t - suc v) ≡ vertices t = omega arith in
    rw (
      rw all at e,
      append_assoc (new_targets_up_to t v) (new_targets_of t v) rest,
      drop-append_seam (new_targets_up_to t v) (new_targets_of t v ++ rest),
    )
    (take-append_seam (new_targets_of t v) rest)

-- The edges of a vertex in the mended game are the rule's.
pub mended_targets :
    (t : Tables) (v : ℕ) → v < vertices t → (game_of (mended t)).targets v ≡ new_targets_of t v
unfolding game_of targets_of
mended_targets t v l =
    rw (mended_offset t v (le_of_lt l), mended_degree t v l) (new_targets_place t v l)

-- Where a vertex is not altered they are those of before, without the dropped ones, in order.
pub unaltered_targets :
    (t : Tables) (v : ℕ) → v < vertices t → altered t v ≡ false →
    (game_of (mended t)).targets v ≡ keep (is_vertex t) ((game_of t).targets v)
unfolding new_targets_of kept_targets game_of
unaltered_targets t v l p = mended_targets t v l ∙ rw p

-- An altered vertex has a self loop, and had no edge to a vertex.
pub altered_targets :
    (t : Tables) (v : ℕ) → v < vertices t → altered t v ≡ true → (game_of (mended t)).targets v ≡ v ∷ []
unfolding new_targets_of
altered_targets t v l p = mended_targets t v l ∙ rw p

-- ---- the list

-- an edge that is listed is dropped
pub listed_dropped : (t : Tables) (k e : ℕ) → Memᴰ e (dropped_up_to t k) → is_vertex t (get_or t.targets e 0) ≡ false
unfolding dropped_up_to
listed_dropped t zero e m = absurd (Memᴰ.not-nil m)
listed_dropped t (suc k) e m =
    ⊎_elim
    (λ before. listed_dropped t k e before)
    (λ here.
    ⊎_elim
    (λ (p : is_vertex t (get_or t.targets k 0) ≡ true). absurd (Memᴰ.not-nil (rw p at here)))
    (λ (p : is_vertex t (get_or t.targets k 0) ≡ false). rw (Memᴰ.eq_of_singleton (rw p at here)) p)
    (bool_cases (is_vertex t (get_or t.targets k 0))))
    (Memᴰ.append_cases (dropped_up_to t k) m)

-- one that is dropped is listed
pub dropped_listed :
    (t : Tables) (k e : ℕ) → e < k → is_vertex t (get_or t.targets e 0) ≡ false → Memᴰ e (dropped_up_to t k)
unfolding dropped_up_to
dropped_listed t zero e l p = absurd (not-suc-le-zero l)
dropped_listed t (suc k) e l p =
    ⊎_elim
    (λ (q : e ≡ k).
    Memᴰ.append_right (dropped_up_to t k) (rw (rw q at p) (Memᴰ.head q)))
    (λ (less : e < k). Memᴰ.append_left _ (dropped_listed t k e less p))
    (below_suc l)

-- The list names exactly the edges whose target is not below n.
pub dropped_edges :
    (t : Tables) (e : ℕ) → e < edges_in t →
    Memᴰ e (dropped_up_to t (edges_in t)) ↔ (vertices t ≤ get_or t.targets e 0)
dropped_edges t e l = (
  λ m. ltb-false (get_or t.targets e 0) (vertices t) (listed_dropped t (edges_in t) e m),
  λ h. dropped_listed t (edges_in t) e l (le-ltb (get_or t.targets e 0) (vertices t) h),
)

-- An altered vertex stands after a pair for each altered one below it, and its old priority after it.
pub altered_place :
    (t : Tables) (k v : ℕ) → v < k → altered t v ≡ true →
    (get_or (altered_up_to t k) (2 * count v (altered t)) 0 ≡ v) ×
    (get_or (altered_up_to t k) (2 * count v (altered t) + 1) 0 ≡ get_or t.priorities v 0) ×
    (2 * count v (altered t) + 1 < length (altered_up_to t k))
unfolding altered_up_to
altered_place t zero v l p = absurd (not-suc-le-zero l)
altered_place t (suc k) v l p =
    ⊎_elim
    (λ (q : v ≡ k).
    let long = altered_length t k in
    let pair = k ∷ (get_or t.priorities k 0 ∷ []) in
    rw (q, rw q at p, sym long, length-append (altered_up_to t k) pair) (
      get_or-append_seam (altered_up_to t k) k (get_or t.priorities k 0 ∷ []) 0,
      get_or-append-add (altered_up_to t k) pair 1 0,
      omega arith,
    ))
    (λ (less : v < k).
    let (first, second, within) = altered_place t k v less p in
    let more = cond (altered t k) (k ∷ (get_or t.priorities k 0 ∷ [])) [] in (
      get_or-append (altered_up_to t k) more 0 (2 * count v (altered t)) (omega arith) ∙ first,
      get_or-append (altered_up_to t k) more 0 (2 * count v (altered t) + 1) within ∙ second,
      rw (length-append (altered_up_to t k) more) (omega arith),
    ))
    (below_suc l)
