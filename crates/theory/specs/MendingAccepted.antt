-- Mended tables pass document 01's checks, and tables that passed them already come back the same, with an empty list.
use Rattle.std.specs.Prelude.{true, false, ◌≡◌, eqb, ltb, leb, length, get_or}
use mathlib.Core.List.Memᴰ
use mathlib.Core.List.{List, [], Memᴰ}
use Rattle.std.proofs.Common.{⊎_elim, ◌∙◌, le_refl, le_of_lt, add-one, arith, length-drop, take-add, length-take-le}
use Rattle.std.proofs.Math.Path.{refl, sym, ap}
use Prim.Native.Nat.{ℕ, zero, suc, ◌+◌, ◌-◌, ◌≤◌, ◌<◌, min}
use borrow.Author.Tests.{ltb-true, lt-ltb, eq-eqb, le-ltb, lt-leb, ne_eqb}
use Rattle.std.proofs.Math.ListN.{take, length-take}
use Rattle.std.proofs.Math.Seq.{take_all, ext_get_or}
use Rattle.rules.specs.Counting.{Set}
use Rattle.rules.specs.Game.{Player, Even, Odd, player_of}
use Rattle.rules.specs.Mending.{kept_targets, altered, new_targets_of, losing_priority, new_priority, new_targets_up_to, mended}
use Rattle.rules.specs.Mending.{dropped_up_to, altered_up_to, mending_list}
use Rattle.rules.specs.Outcome.{none, given_at}
use Rattle.rules.specs.Tables.{Tables, tables_of, vertices, edges_in, degree, targets_of, game_of, table_checks, Accepted}
use Rattle.rules.specs.Tables.{check1, check2, check3, check4, check5, check6, check7, check8}
use Rattle.basics.specs.Basics.{bool_cases, false_some, length_listed, get_or_listed, place_member}
use Rattle.accepted.specs.Tables.{offset, Sound, never_falls, accepted_sound, accepted_total}
use Rattle.theory.specs.Mending.{keep_passes, keep_all, export_checks, Shaped, Mendable, export_mendable, is_vertex}
use Rattle.theory.specs.Mending.{new_positive, new_length_more, degree_spans, offset_within}

-- ---- tables that are sound are accepted

nowhere : (k n : ℕ) (test : Set) → ((v : ℕ) → v < n → test v ≡ false) → given_at k n test ≡ none
unfolding given_at
nowhere k n test h = rw (false_some n test h)

pub sound_accepted : (t : Tables) → Sound t → Accepted t
unfolding Accepted table_checks check1 check2 check3 check4 check5 check6 check7 check8
sound_accepted t s =
    let n = vertices t in
    let m = edges_in t in
    rw (
      le-ltb 4096 n s.few_vertices,
      eq-eqb (length t.priorities) n s.priority_each,
      eq-eqb (length t.offsets) (n + 1) s.offset_each,
      le-ltb 16384 m s.few_edges,
      nowhere 4 n (λ v. ltb 1 (get_or t.owners v 0)) (λ v l. le-ltb 1 _ (s.owner_small v l)),
      nowhere 5 n (λ v. ltb 255 (get_or t.priorities v 0)) (λ v l. le-ltb 255 _ (s.priority_small v l)),
      eq-eqb (get_or t.offsets 0 0) 0 s.offset_first,
      nowhere 6 n (λ i. ltb (get_or t.offsets (i + 1) 0) (get_or t.offsets i 0)) (λ i l. le-ltb _ _ (s.offset_next i l)),
      eq-eqb (get_or t.offsets n 0) m s.offset_last,
      nowhere 7 m (λ e. leb n (get_or t.targets e 0)) (λ e l. lt-leb n _ (s.target_below e l)),
      nowhere 8 n (λ v. eqb (degree t.offsets v) 0)
          (λ v l. let one = s.has_edge v l in ne_eqb (degree t.offsets v) 0 (λ e. absurd (omega arith))),
    )

-- ---- the result

-- every new edge leads to a vertex
new_below : (t : Tables) (v : ℕ) → v < vertices t → (w : ℕ) → Memᴰ w (new_targets_of t v) → w < vertices t
unfolding new_targets_of kept_targets
new_below t v l w m =
    ⊎_elim
    (λ (p : altered t v ≡ true). rw (Memᴰ.eq_of_singleton (rw p at m)) l)
    (λ (p : altered t v ≡ false). ltb-true w (vertices t) (keep_passes (is_vertex t) _ w (rw p at m)))
    (bool_cases (altered t v))

new_all_below :
    (t : Tables) (k : ℕ) → k ≤ vertices t → (w : ℕ) → Memᴰ w (new_targets_up_to t k) → w < vertices t
unfolding new_targets_up_to
new_all_below t zero l w m = absurd (Memᴰ.not-nil m)
new_all_below t (suc v) l w m =
    ⊎_elim
    (λ k. new_all_below t v (le_of_lt l) w k)
    (λ k. new_below t v l w k)
    (Memᴰ.append_cases (new_targets_up_to t v) m)

losing_small : (a : Player) → losing_priority a ≤ 255
losing_small Even = omega arith
losing_small Odd = omega arith

new_priority_small : (t : Tables) → Mendable t → (v : ℕ) → v < vertices t → new_priority t v ≤ 255
unfolding new_priority
new_priority_small t s v l =
    ⊎_elim
    (λ (p : altered t v ≡ true). rw p (losing_small (player_of (get_or t.owners v 0))))
    (λ (p : altered t v ≡ false). rw p (s.priority_small v l))
    (bool_cases (altered t v))

-- what stands in the new tables
pub mended_priority : (t : Tables) (v : ℕ) → v < vertices t → get_or (mended t).priorities v 0 ≡ new_priority t v
unfolding mended
mended_priority t v l = get_or_listed (vertices t) (new_priority t) v 0 l

pub mended_offset : (t : Tables) (v : ℕ) → v ≤ vertices t → offset (mended t) v ≡ length (new_targets_up_to t v)
unfolding mended
mended_offset t v l = get_or_listed (suc (vertices t)) (λ u. length (new_targets_up_to t u)) v 0 (omega arith)

-- as many edges as the rule gives
pub mended_degree : (t : Tables) (v : ℕ) → v < vertices t → degree (mended t).offsets v ≡ length (new_targets_of t v)
unfolding degree
mended_degree t v l =
    let this = mended_offset t v (le_of_lt l) in
    let next = mended_offset t (suc v) l in
    let more = new_length_more t v in
    rw (add-one v) (omega arith)

mended_grows : (t : Tables) (v : ℕ) → v < vertices t → offset (mended t) v ≤ offset (mended t) (v + 1)
mended_grows t v l =
    let this = mended_offset t v (le_of_lt l) in
    let next = mended_offset t (suc v) l in
    let more = new_length_more t v in
    rw (add-one v) (omega arith)

mended_first : (t : Tables) → offset (mended t) 0 ≡ 0
unfolding new_targets_up_to
mended_first t = mended_offset t 0 (omega arith)

mended_below :
    (t : Tables) (e : ℕ) → e < length (mended t).targets → get_or (mended t).targets e 0 < vertices t
unfolding mended
mended_below t e l = new_all_below t (vertices t) (le_refl (vertices t)) _ (place_member (new_targets_up_to t (vertices t)) e l)

mended_last : (t : Tables) → offset (mended t) (vertices t) ≡ length (mended t).targets
unfolding mended
mended_last t = mended_offset t (vertices t) (le_refl (vertices t))

mended_counts :
    (t : Tables) → (length (mended t).priorities ≡ vertices t) × (length (mended t).offsets ≡ vertices t + 1)
unfolding mended
mended_counts t = (length_listed (vertices t) _, length_listed (suc (vertices t)) _ ∙ sym (add-one (vertices t)))

mended_owners : (t : Tables) → (mended t).owners ≡ t.owners
unfolding mended
mended_owners t = refl

mended_sound : (t : Tables) → Mendable t → length (mended t).targets ≤ 16384 → Sound (mended t)
mended_sound t s few =
    let same : vertices (mended t) ≡ vertices t = ap length (mended_owners t) in
    let counts = mended_counts t in
    record {
      few_vertices = rw same s.shaped.few_vertices;
      priority_each = rw same counts.0;
      offset_each = rw same counts.1;
      few_edges = few;
      owner_small = λ v l. rw (mended_owners t) (s.owner_small v (rw same at l));
      priority_small =
          λ v l.
          let below : v < vertices t = rw same at l in
          rw (mended_priority t v below) (new_priority_small t s v below);
      offset_first = mended_first t;
      offset_next = λ v l. mended_grows t v (rw same at l);
      offset_grows = rw same (never_falls (offset (mended t)) (vertices t) (mended_grows t));
      offset_last = rw same (mended_last t);
      target_below = λ e l. rw same (mended_below t e l);
      has_edge =
          λ v l.
          let below : v < vertices t = rw same at l in
          rw (mended_degree t v below) (new_positive t v);
    }

-- The result passes document 01's checks.
pub mended_accepted :
    (t : Tables) → export_checks t ≡ none → length (mended t).targets ≤ 16384 → Accepted (mended t)
mended_accepted t ok few = sound_accepted (mended t) (mended_sound t (export_mendable t ok) few)

-- ---- tables that passed already

-- tables are the same where their entries are
pub tables_same :
    (a a' b b' c c' d d' : List ℕ) →
    a ≡ a' → b ≡ b' → c ≡ c' → d ≡ d' →
    tables_of a b c d ≡ tables_of a' b' c' d'
tables_same a a' b b' c c' d d' p q r s = rw (p, q, r, s)

module _ (t : Tables) (ok : Accepted t) where
  sound : Sound t
  sound = accepted_sound t ok

  shaped : Shaped t
  shaped =
      record {
        few_vertices = sound.few_vertices;
        offset_each = sound.offset_each;
        few_edges = sound.few_edges;
        offset_first = sound.offset_first;
        offset_grows = sound.offset_grows;
        offset_last = sound.offset_last;
      }

  -- every edge is kept
  kept_whole : (v : ℕ) → kept_targets t v ≡ targets_of t.offsets t.targets v
  unfolding kept_targets game_of
  kept_whole v = keep_all (is_vertex t) _ (λ w m. lt-ltb w (vertices t) ((accepted_total t ok).ends v w m))

  -- so no vertex is altered
  unaltered : (v : ℕ) → v < vertices t → altered t v ≡ false
  unfolding altered targets_of
  unaltered v l =
      let one = sound.has_edge v l in
      let spans = degree_spans t shaped v l in
      let top = offset_within t shaped (suc v) l in
      ne_eqb (length (kept_targets t v)) 0
      (λ e.
      let long : min (degree t.offsets v) (edges_in t - offset t v) ≡ 0 =
      rw (kept_whole v, length-take, length-drop) at e in
      omega arith)

  new_whole : (v : ℕ) → v < vertices t → new_targets_of t v ≡ targets_of t.offsets t.targets v
  unfolding new_targets_of
  new_whole v l = rw (unaltered v l) (kept_whole v)

  upto_whole : (v : ℕ) → v ≤ vertices t → new_targets_up_to t v ≡ take (offset t v) t.targets
  unfolding new_targets_up_to targets_of
  upto_whole zero l = rw sound.offset_first
  upto_whole (suc v) l =
      rw (upto_whole v (le_of_lt l), new_whole v l)
      (sym (take-add (offset t v) (degree t.offsets v) t.targets) ∙
      ap (λ (k : ℕ). take k t.targets) (degree_spans t shaped v l))

  priorities_same : (mended t).priorities ≡ t.priorities
  unfolding new_priority
  priorities_same =
      let long = (mended_counts t).0 in
      ext_get_or 0 (mended t).priorities t.priorities (long ∙ sym sound.priority_each)
      (λ v l. let below : v < vertices t = rw long at l in mended_priority t v below ∙ rw (unaltered v below))

  offsets_same : (mended t).offsets ≡ t.offsets
  offsets_same =
      let long = (mended_counts t).1 in
      ext_get_or 0 (mended t).offsets t.offsets (long ∙ sym sound.offset_each)
      (λ v l.
      let below : v < vertices t + 1 = rw long at l in
      let most : v ≤ vertices t = omega arith in
      mended_offset t v most ∙ ap length (upto_whole v most) ∙
      length-take-le (offset t v) t.targets (offset_within t shaped v most))

  targets_same : (mended t).targets ≡ t.targets
  unfolding mended
  targets_same =
      upto_whole (vertices t) (le_refl (vertices t)) ∙
      take_all (offset t (vertices t)) t.targets (rw sound.offset_last (le_refl (edges_in t)))

  nothing_dropped : (e : ℕ) → e ≤ edges_in t → dropped_up_to t e ≡ []
  unfolding dropped_up_to
  nothing_dropped zero l = refl
  nothing_dropped (suc e) l =
      rw (nothing_dropped e (le_of_lt l), lt-ltb (get_or t.targets e 0) (vertices t) (sound.target_below e l))

  nothing_altered : (v : ℕ) → v ≤ vertices t → altered_up_to t v ≡ []
  unfolding altered_up_to
  nothing_altered zero l = refl
  nothing_altered (suc v) l = rw (nothing_altered v (le_of_lt l), unaltered v l)

  -- A game that passed already comes back the same,
  pub accepted_unchanged : mended t ≡ t
  accepted_unchanged = tables_same _ _ _ _ _ _ _ _ (mended_owners t) priorities_same offsets_same targets_same

  -- with an empty list.
  pub accepted_list_empty : mending_list t ≡ []
  unfolding mending_list
  accepted_list_empty =
      rw (nothing_dropped (edges_in t) (le_refl (edges_in t)), nothing_altered (vertices t) (le_refl (vertices t)))
