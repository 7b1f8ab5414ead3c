-- What the steps of mending and its callers go by: the checks in the order in which the code makes them, the sizes as it works
-- them out, what an answer and a refusal leave, and that an answer leaves tables that pass document 01's checks.
use Rattle.std.specs.Prelude.{Result, Err, ◌||◌, List, [], ◌≡◌, refl, ℕ, ◌+◌, ◌-◌, ◌*◌, ◌≤◌, ◌<◌, ltb, length}
use Rattle.std.proofs.Common.{sym, subst, ap, ◌∙◌, arith, lt-ltb, le-ltb, ltb-false}
use Rattle.rules.specs.Counting.{count}
use Rattle.rules.specs.Mending.{mended, altered, dropped_up_to, mending_list, MendingLent, check35, mending_checks, mending_leaves}
use Rattle.rules.specs.Mending.{overwritten, Mends}
use Rattle.rules.specs.Outcome.{Outcome, Verdict, none, refused, given, outcome, answered, ◌then◌}
use Rattle.rules.specs.Tables.{Tables, vertices, edges_in, Accepted, check1, check2, check3, check4, check5, check6}
use Rattle.parity_game.specs.Laws.{length_checks, then_assoc, then_none, given_none, check3_none, Numbered, numbered_then}
use Rattle.parity_game.specs.Laws.{numbered_given, numbered_lengths, numbered_check3, numbered_check4, numbered_check5}
use Rattle.parity_game.specs.Laws.{numbered_check6, zero_none}
use Rattle.parity_game.specs.declared.refusal.Refusal.{Refusal}
use Rattle.parity_game.specs.Said.{said, verdict}
use Rattle.parity_game.specs.Laws.{refused_outcome}
use Rattle.basics.specs.Basics.{or_false_both, count_le}
use Rattle.theory.specs.Mending.{export_checks, Shaped, mended_length, list_length}
use Rattle.theory.specs.MendingAccepted.{mended_accepted}
use Rattle.mend_counts.specs.Bare.{bare, bared, bared_count, bared_dropped}
use Rattle.mend_counts.specs.Steps.{dropped_few}

-- what is lent to write in
abbrev pub lent_of : List ℕ → List ℕ → List ℕ → List ℕ → MendingLent
lent_of priorities offsets targets list =
    record { priorities = priorities; offsets = offsets; targets = targets; list = list }

-- 35, given what is needed and the room of each output
unfoldable pub room_checks : ℕ → ℕ → ℕ → ℕ → ℕ → ℕ → ℕ → Verdict
room_checks n edges entries priorities offsets targets list =
    given 35 0 (ltb priorities n || ltb offsets (n + 1) || ltb targets edges || ltb list entries)

-- ---- 1 to 6, as the code checks them

abbrev pub export5 : Tables → Verdict
export5 t = check5 (vertices t) t.priorities then check6 (vertices t) (edges_in t) t.offsets

abbrev pub export4 : Tables → Verdict
export4 t = check4 (vertices t) t.owners then export5 t

pub export_grouped : (t : Tables) → export_checks t ≡ length_checks t then export4 t
export_grouped t =
    sym
    (then_assoc (check1 (vertices t)) _ (export4 t) ∙
    ap (λ (v : Verdict). check1 (vertices t) then v) (then_assoc (check2 _ _ _) (check3 (edges_in t)) (export4 t)))

pub numbered_export : (t : Tables) → Numbered (export_checks t)
numbered_export t =
    rw (export_grouped t)
    (numbered_then (length_checks t) (export4 t) (numbered_lengths t)
    (numbered_then (check4 (vertices t) t.owners) (export5 t) (numbered_check4 _ _)
    (numbered_then (check5 (vertices t) t.priorities) (check6 _ _ _) (numbered_check5 _ _) (numbered_check6 _ _ _))))

-- ---- the sizes

pub record ExportSizes (t : Tables) (dropped alone : ℕ) : Type 0 where
  pub few_dropped : dropped ≤ edges_in t
  pub few_altered : alone ≤ vertices t
  pub counted : dropped ≡ length (dropped_up_to t (edges_in t))
  pub edges : edges_in t - dropped + alone ≡ length (mended t).targets
  pub entries : dropped + 2 * alone ≡ length (mending_list t)

pub sizes_told :
    (t : Tables) (dropped alone : ℕ) → Shaped t →
    dropped ≡ length (dropped_up_to (bare t.owners [] t.targets) (edges_in t)) →
    alone ≡ count (vertices t) (altered (bared t)) →
    ExportSizes t dropped alone
sizes_told t dropped alone s d a =
    let gone : dropped ≡ length (dropped_up_to t (edges_in t)) = d ∙ ap length (bared_dropped t (edges_in t)) in
    let left : alone ≡ count (vertices t) (altered t) = a ∙ bared_count t (vertices t) in
    let few = dropped_few t (edges_in t) in
    let most = count_le (vertices t) (altered t) in
    let sizes = mended_length t s in
    let list = list_length t in
    record {
      few_dropped = omega arith;
      few_altered = omega arith;
      counted = gone;
      edges = omega arith;
      entries = omega arith;
    }

-- ---- the checks in groups

six_then :
    (a b c d e f w : Verdict) →
    (a then b then c then d then e then f then w) ≡ ((a then b then c then d then e then f) then w)
six_then (refused k p) b c d e f w = refl
six_then none (refused k p) c d e f w = refl
six_then none none (refused k p) d e f w = refl
six_then none none none (refused k p) e f w = refl
six_then none none none none (refused k p) f w = refl
six_then none none none none none f w = refl

-- what is left after 1 to 6
abbrev pub late_checks : Tables → MendingLent → Verdict
late_checks t lent = check3 (length (mended t).targets) then check35 t lent

pub mending_grouped : (t : Tables) (lent : MendingLent) → mending_checks t lent ≡ export_checks t then late_checks t lent
unfolding mending_checks
mending_grouped t lent =
    six_then (check1 _) (check2 _ _ _) (check3 _) (check4 _ _) (check5 _ _) (check6 _ _ _)
    (late_checks t lent)

module _ (t : Tables) (lent : MendingLent) (ok : export_checks t ≡ none) where
  pub late_left : mending_checks t lent ≡ late_checks t lent
  late_left = mending_grouped t lent ∙ rw ok

  -- more than 16,384 edges are refused with 3
  pub too_many : 16384 < length (mended t).targets → mending_checks t lent ≡ refused 3 0
  unfolding check3
  too_many l = late_left ∙ rw (lt-ltb 16384 (length (mended t).targets) l)

  -- and past that 35 decides, as the code checks it
  pub rooms_left :
      length (mended t).targets ≤ 16384 →
      mending_checks t lent ≡
      room_checks (vertices t) (length (mended t).targets) (length (mending_list t))
      (length lent.priorities) (length lent.offsets) (length lent.targets) (length lent.list)
  unfolding check3 check35 room_checks
  rooms_left l = late_left ∙ rw (le-ltb 16384 (length (mended t).targets) l)

-- the room of each output
pub record ExportRooms (n edges entries priorities offsets targets list : ℕ) : Type 0 where
  pub for_priorities : n ≤ priorities
  pub for_offsets : n + 1 ≤ offsets
  pub for_targets : edges ≤ targets
  pub for_list : entries ≤ list

pub numbered_rooms : (n edges entries p o t l : ℕ) → Numbered (room_checks n edges entries p o t l)
unfolding room_checks
numbered_rooms n edges entries p o t l =
    numbered_given 35 0 (ltb p n || ltb o (n + 1) || ltb t edges || ltb l entries) (omega arith)

pub rooms_fit :
    (n edges entries p o t l : ℕ) → room_checks n edges entries p o t l ≡ none → ExportRooms n edges entries p o t l
unfolding room_checks
rooms_fit n edges entries p o t l e =
    let two = ltb p n || ltb o (n + 1) in
    let three = two || ltb t edges in
    let (rest, fourth) = or_false_both three (ltb l entries) (given_none 35 0 (three || ltb l entries) e) in
    let (rest2, third) = or_false_both two (ltb t edges) rest in
    let (first, second) = or_false_both (ltb p n) (ltb o (n + 1)) rest2 in
    record {
      for_priorities = ltb-false p n first;
      for_offsets = ltb-false o (n + 1) second;
      for_targets = ltb-false t edges third;
      for_list = ltb-false l entries fourth;
    }

-- ---- what is given and left

-- a refusal is the same whatever an answer would have counted
pub refusal_same :
    (v : Verdict) (o : Outcome) (j k : ℕ) → o ≡ outcome v (answered j) → (o.number ≡ 0 → ⊥) → o ≡ outcome v (answered k)
refusal_same none o j k e h = absurd (h (ap (λ (x : Outcome). x.number) e))
refusal_same (refused n p) o j k e h = e

refusal_leaves :
    (v : Verdict) (t : Tables) (before : MendingLent) (k : ℕ) →
    ((outcome v (answered k)).number ≡ 0 → ⊥) → before ≡ mending_leaves v t before
refusal_leaves none t before k h = absurd (h refl)
refusal_leaves (refused n p) t before k h = refl

-- a refusal meets the contract where nothing was written
pub mends_refused :
    (t : Tables) (before : MendingLent) (o : Outcome) →
    o ≡ outcome (mending_checks t before) (answered (length (mending_list t))) →
    (o.number ≡ 0 → ⊥) →
    Mends t before before o
mends_refused t before o e h =
    record {
      gives = e;
      leaves =
          refusal_leaves (mending_checks t before) t before (length (mending_list t))
          (λ z. h (ap (λ (x : Outcome). x.number) e ∙ z));
    }

-- the same of what a check refused
pub mends_stopped :
    {t : Tables} {before : MendingLent} (x : Result ℕ Refusal) (f : Refusal) →
    x ≡ Err f →
    verdict (Err f) ≡ mending_checks t before →
    Mends t before before (said x)
mends_stopped {t} {before} x f gave was =
    rw gave (record {
      gives = refused_outcome f (mending_checks t before) (answered (length (mending_list t))) was;
      leaves = subst (λ (v : Verdict). before ≡ mending_leaves v t before) was refl;
    })

-- an answer meets it where the rule's tables and list were written
pub mends_answered :
    (t : Tables) (before : MendingLent) (priorities offsets targets list : List ℕ) →
    mending_checks t before ≡ none →
    priorities ≡ overwritten (mended t).priorities before.priorities →
    offsets ≡ overwritten (mended t).offsets before.offsets →
    targets ≡ overwritten (mended t).targets before.targets →
    list ≡ overwritten (mending_list t) before.list →
    Mends t before (lent_of priorities offsets targets list) (answered (length (mending_list t)))
mends_answered t before priorities offsets targets list passes p o e l =
    record { gives = rw passes; leaves = rw (passes, p, o, e, l) }

-- What mending gives and leaves is one thing: any two runs from the same entry agree.
pub mends_unique :
    (t : Tables) (before after after' : MendingLent) (o o' : Outcome) →
    Mends t before after o → Mends t before after' o' → (o ≡ o') × (after ≡ after')
mends_unique t before after after' o o' m m' = (m.gives ∙ sym m'.gives, m.leaves ∙ sym m'.leaves)

numbered_check35 : (t : Tables) (lent : MendingLent) → Numbered (check35 t lent)
unfolding check35 room_checks
numbered_check35 t lent = numbered_rooms (vertices t) (length (mended t).targets) (length (mending_list t)) _ _ _ _

numbered_checks : (t : Tables) (lent : MendingLent) → Numbered (mending_checks t lent)
numbered_checks t lent =
    rw (mending_grouped t lent)
    (numbered_then (export_checks t) (late_checks t lent) (numbered_export t)
    (numbered_then (check3 (length (mended t).targets)) (check35 t lent) (numbered_check3 _) (numbered_check35 t lent)))

module _ (t : Tables) (before after : MendingLent) (o : Outcome) (met : Mends t before after o) (zero : o.number ≡ 0) where
  passes : mending_checks t before ≡ none
  passes =
      zero_none (mending_checks t before) (answered (length (mending_list t))) (numbered_checks t before)
      (sym (ap (λ (x : Outcome). x.number) met.gives) ∙ zero)

  -- After an answer 1 to 6 refuse nothing,
  pub answered_export : export_checks t ≡ none
  answered_export =
      (then_none (export_checks t) (late_checks t before) (sym (mending_grouped t before) ∙ passes)).0

  -- and the mended tables pass document 01's checks.
  pub answered_accepted : Accepted (mended t)
  answered_accepted =
      let late = (then_none (export_checks t) (late_checks t before) (sym (mending_grouped t before) ∙ passes)).1 in
      let few = (then_none (check3 (length (mended t).targets)) (check35 t before) late).0 in
      mended_accepted t answered_export (check3_none (length (mended t).targets) few)
