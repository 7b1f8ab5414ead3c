-- What the edits go by: their two own refusals, that a refused edit leaves the record, and that the kept numbers, with one count
-- lowered and one raised, are a fresh count of the changed priorities.
use mathlib.Core.List.{List}
use Rattle.std.specs.Prelude.{◌≡◌, refl, ℕ, ◌<◌, leb, length, get_or, take, set}
use Rattle.std.proofs.Common.{sym, ◌∙◌, arith, leb-false, get_or-take, length-take-le}
use Rattle.std.proofs.Math.Path.{ap}
use Rattle.std.proofs.Math.Seq.{take-set-lt}
use Rattle.rules.specs.Outcome.{Outcome, Verdict, none, refused, given, outcome, answered, ◌then◌}
use Rattle.rules.specs.Counting.{times}
use Rattle.rules.specs.Record.{Record, Edit, set_priority, set_owner, turn_edge, Edits, kept_for, counts_of, fresh_count, tables_in}
use Rattle.rules.specs.Record.{record_checks, own_checks, edit_checks, changed, left_by, edited}
use Rattle.parity_game.specs.Laws.{Numbered, numbered_then, numbered_given, then_none, given_none, accepted_sound}
use Rattle.theory.specs.Counts.{moved, kept_moved, old_counted, length_fresh, take_fresh, counts_at, times_le}
use Rattle.theory.specs.Edits.{EditPassing, passing}
use Rattle.kept_numbers.specs.Steps.{Movable}

-- 41, then the number of a value that is not below its limit
abbrev pub own_asks : ℕ → ℕ → ℕ → ℕ → ℕ → Verdict
own_asks size entry value limit number = given 41 entry (leb size entry) then given number entry (leb limit value)

pub numbered_own : (size entry value limit number : ℕ) → 0 < number → Numbered (own_asks size entry value limit number)
numbered_own size entry value limit number h =
    numbered_then (given 41 entry (leb size entry)) (given number entry (leb limit value))
    (numbered_given 41 entry (leb size entry) (omega arith))
    (numbered_given number entry (leb limit value) h)

-- past them the entry is there and the value is below its limit
pub own_none :
    (size entry value limit number : ℕ) → own_asks size entry value limit number ≡ none → (entry < size) × (value < limit)
own_none size entry value limit number e =
    let (a, b) = then_none (given 41 entry (leb size entry)) (given number entry (leb limit value)) e in
    (leb-false size entry (given_none 41 entry _ a), leb-false limit value (given_none number entry _ b))

-- each edit asks these
pub asks_priority : (v p : ℕ) (r : Record) → own_asks r.n v p 256 42 ≡ own_checks (set_priority v p) r
unfolding own_checks
asks_priority v p r = refl

pub asks_owner : (v o : ℕ) (r : Record) → own_asks r.n v o 2 48 ≡ own_checks (set_owner v o) r
unfolding own_checks
asks_owner v o r = refl

pub asks_target : (e w : ℕ) (r : Record) → own_asks r.m e w r.n 43 ≡ own_checks (turn_edge e w) r
unfolding own_checks
asks_target e w r = refl

-- a refused edit leaves the record
edit_refused :
    (e : Edit) (r : Record) (o : Outcome) →
    o ≡ outcome (edit_checks e r) (answered 0) →
    (o.number ≡ 0 → ⊥) →
    Edits e r r o
unfolding edited
edit_refused e r o gave n = record { gives = gave; leaves = left (edit_checks e r) (λ z. n (ap (λ (x : Outcome). x.number) gave ∙ z)) }
  where
    left : (v : Verdict) → ((outcome v (answered 0)).number ≡ 0 → ⊥) → r ≡ left_by v e r
    left none h = absurd (h refl)
    left (refused k p) h = refl

-- by the record's checks
pub refused_record :
    (e : Edit) (r : Record) (o : Outcome) →
    o ≡ outcome (record_checks r then own_checks e r) (answered 0) →
    (o.number ≡ 0 → ⊥) →
    Edits e r r o
unfolding edit_checks
refused_record e r o gave n = edit_refused e r o gave n

-- or by its own
pub refused_own :
    (e : Edit) (r : Record) (o : Outcome) (own : Verdict) →
    record_checks r ≡ none →
    own ≡ own_checks e r →
    o ≡ outcome own (answered 0) →
    (o.number ≡ 0 → ⊥) →
    Edits e r r o
unfolding edit_checks
refused_own e r o own ok same gave n =
    edit_refused e r o (gave ∙ rw (ok, sym same)) n

-- and an edit past both is made
pub edit_made :
    (e : Edit) (r after : Record) (own : Verdict) →
    record_checks r ≡ none →
    own ≡ own_checks e r →
    own ≡ none →
    after ≡ changed e r →
    Edits e r after (answered 0)
unfolding edited edit_checks
edit_made e r after own ok same pass is =
    let own_ok : own_checks e r ≡ none = sym same ∙ pass in
    record { gives = rw (ok, own_ok); leaves = rw (ok, own_ok) is }

-- ---- the kept numbers after a priority is set

module _ (r : Record) (ok : record_checks r ≡ none) (v p : ℕ) (within : v < r.n) (low : p < 256) where
  h : EditPassing r
  h = passing r ok

  abbrev front : List ℕ
  front = take r.n r.priorities

  long : length front ≡ r.n
  long = length-take-le r.n r.priorities h.room.priority_room

  at_front : get_or front v 0 ≡ get_or r.priorities v 0
  at_front = get_or-take r.n r.priorities v 0 within

  inside : v < length front
  inside = rw long within

  -- the old priority has a place among the counts
  pub old_small : get_or r.priorities v 0 < 256
  old_small =
      let sound = accepted_sound (tables_in r) h.accepted in
      let small = sound.priority_small v (omega (arith, sound.priority_each, inside)) in
      omega (arith, at_front)

  kept_at : (q : ℕ) → q < 256 → get_or r.kept q 0 ≡ times q front
  kept_at q l =
      ap (λ (ks : List ℕ). get_or ks q 0) h.fresh ∙ sym (get_or-take 256 (fresh_count front) q 0 l) ∙
      ap (λ (ks : List ℕ). get_or ks q 0) (take_fresh front) ∙ counts_at front q l

  pub movable : Movable r.kept (get_or r.priorities v 0) p
  movable =
      record {
        long = ap (λ (ks : List ℕ). length ks) h.fresh ∙ length_fresh front;
        old_small = old_small;
        new_small = low;
        old_some =
            let some_one = old_counted front v p inside (rw at_front old_small) low in
            rw (kept_at (get_or r.priorities v 0) old_small) (rw at_front at some_one);
        new_few = let most = times_le p front in omega (arith, kept_at p low, long, h.room.few_vertices);
      }

  -- what is written is a fresh count
  pub recounted :
      kept_for (take 256 (moved r.kept (get_or r.priorities v 0) p)) ≡ fresh_count (take r.n (set r.priorities v p))
  unfolding fresh_count
  recounted =
      ap (λ (ks : List ℕ). kept_for (take 256 (moved ks (get_or r.priorities v 0) p))) h.fresh ∙
      ap (λ (q : ℕ). kept_for (take 256 (moved (fresh_count front) q p))) (sym at_front) ∙
      ap (λ (ks : List ℕ). kept_for ks) (kept_moved front v p inside (rw at_front old_small) low) ∙
      ap (λ (ps : List ℕ). kept_for (counts_of ps)) (sym (take-set-lt r.n r.priorities v p within))
