-- What callers go by: what compaction gives is one thing, an answer leaves tables with the same winners, which a second
-- compaction does not change, and their kept numbers; and a refusal leaves what was lent as it was.
use Rattle.std.specs.Prelude.{Result, Err, List, [], ◌∷◌, map, ◌↔◌, ◌≡◌, refl, ℕ, ◌<◌, length}
use Rattle.std.proofs.Common.{sym, subst, ap, ◌∙◌, arith}
use Rattle.rules.specs.Compaction.{compacted, LentCompacted, compaction_checks, new_table, compacted_by, Compacts}
use Rattle.rules.specs.Counting.{Set}
use Rattle.rules.specs.Game.{Player}
use Rattle.rules.specs.Outcome.{Outcome, Verdict, none, refused, outcome, answered, ◌then◌}
use Rattle.rules.specs.Record.{kept_room, fresh_count}
use Rattle.rules.specs.Tables.{Tables, vertices, game_of, table_checks, check9, Accepted}
use Rattle.rules.specs.Winning.{Wins, WinningSets}
use Rattle.parity_game.specs.Laws.{Numbered, numbered_then, numbered_tables, numbered_check9, zero_none}
use Rattle.parity_game.specs.Laws.{then_none, outcome_pass}
use Rattle.parity_game.specs.declared.refusal.Refusal.{Refusal}
use Rattle.parity_game.specs.Said.{refusal, said, verdict}
use Rattle.parity_game.specs.Laws.{refused_outcome}
use Rattle.record.specs.Laws.{numbered_room, room_nine, room_passes}
use Rattle.theory.specs.Compaction.{with_priorities, compacted_accepted}
use Rattle.theory.specs.CompactionFewest.{compacted_twice}
use Rattle.theory.specs.Compaction.{compaction_keeps_winners, compaction_keeps_winning_sets, compaction_keeps_answers}

-- what is lent to write in
abbrev pub lent_of : List ℕ → List ℕ → LentCompacted
lent_of priorities kept = record { priorities = priorities; kept = kept }

-- 9 for the new table
abbrev pub table_room : Tables → LentCompacted → Verdict
table_room t lent = check9 (vertices t) [] (length lent.priorities ∷ [])

-- a refusal leaves what was lent as it was
refusal_leaves :
    (v : Verdict) (t : Tables) (before : LentCompacted) →
    ((outcome v (answered 0)).number ≡ 0 → ⊥) →
    before ≡ compacted_by v t before
refusal_leaves none t before h = absurd (h refl)
refusal_leaves (refused k p) t before h = refl

-- a refusal meets the contract where nothing was written
compacts_refused :
    (t : Tables) (before : LentCompacted) (o : Outcome) →
    o ≡ outcome (compaction_checks t before) (answered 0) →
    (o.number ≡ 0 → ⊥) →
    Compacts t before before o
compacts_refused t before o e h =
    record {
      gives = e;
      leaves = refusal_leaves (compaction_checks t before) t before (λ z. h (ap (λ (x : Outcome). x.number) e ∙ z));
    }

-- of accepted tables it is 9 for the new table,
pub compacts_table :
    (t : Tables) (before : LentCompacted) (o : Outcome) →
    Accepted t →
    o ≡ outcome (table_room t before then kept_room before.kept) (answered 0) →
    (o.number ≡ 0 → ⊥) →
    Compacts t before before o
unfolding Accepted
compacts_table t before o ok e =
    compacts_refused t before o
    (e ∙ sym (outcome_pass (table_checks t) (table_room t before then kept_room before.kept) (answered 0) ok))

-- which a check of it gives,
pub compacts_stopped :
    {t : Tables} {before : LentCompacted} (a : Result ℕ Refusal) (f : Refusal) →
    a ≡ Err f →
    Accepted t →
    verdict (Err f) ≡ table_room t before →
    Compacts t before before (said a)
unfolding Accepted
compacts_stopped {t} {before} a f gave ok was =
    let all : verdict (Err f) ≡ compaction_checks t before = rw (ok, sym was) refl in
    rw gave (record {
      gives = refused_outcome f (compaction_checks t before) (answered 0) all;
      leaves = subst (λ (v : Verdict). before ≡ compacted_by v t before) all refl;
    })

-- or for the new kept numbers
pub compacts_kept :
    (t : Tables) (before : LentCompacted) →
    Accepted t →
    table_room t before ≡ none →
    (length before.kept ≡ 258 → ⊥) →
    Compacts t before before (refusal 9 0)
compacts_kept t before ok sized n =
    compacts_table t before (refusal 9 0) ok (rw (sized, room_nine before.kept n)) (λ z. absurd (omega arith))

-- an answer meets it where the rule's table was written, and a fresh count of that
pub compacts_answered :
    (t : Tables) (before after : LentCompacted) →
    Accepted t →
    table_room t before ≡ none →
    length before.kept ≡ 258 →
    after.priorities ≡ new_table t →
    after.kept ≡ fresh_count after.priorities →
    Compacts t before after (answered 0)
unfolding Accepted
compacts_answered t before after ok sized long e counted =
    let passes : compaction_checks t before ≡ none = rw (ok, sized) (room_passes before.kept long) in
    let same : after ≡ lent_of (new_table t) (fresh_count (new_table t)) = rw (counted, e) refl in
    record { gives = rw passes; leaves = rw passes same }

-- What compaction gives and leaves is one thing: any two runs from the same entry agree.
pub compacts_unique :
    (t : Tables) (before after after' : LentCompacted) (o o' : Outcome) →
    Compacts t before after o →
    Compacts t before after' o' →
    (o ≡ o') × (after ≡ after')
compacts_unique t before after after' o o' c c' = (c.gives ∙ sym c'.gives, c.leaves ∙ sym c'.leaves)

numbered_checks : (t : Tables) (lent : LentCompacted) → Numbered (compaction_checks t lent)
numbered_checks t lent =
    numbered_then (table_checks t) (table_room t lent then kept_room lent.kept) (numbered_tables t)
    (numbered_then (table_room t lent) (kept_room lent.kept) (numbered_check9 (vertices t) [] (length lent.priorities ∷ []))
    (numbered_room lent.kept))

module _ (t : Tables) (before after : LentCompacted) (o : Outcome) (met : Compacts t before after o) (zero : o.number ≡ 0) where
  passes : compaction_checks t before ≡ none
  passes =
      zero_none (compaction_checks t before) (answered 0) (numbered_checks t before)
      (sym (ap (λ (x : Outcome). x.number) met.gives) ∙ zero)

  left : after ≡ lent_of (new_table t) (fresh_count (new_table t))
  left = met.leaves ∙ ap (λ (v : Verdict). compacted_by v t before) passes

  -- After an answer the tables were accepted,
  pub answered_accepted : Accepted t
  unfolding Accepted
  answered_accepted = (then_none (table_checks t) (table_room t before then kept_room before.kept) passes).0

  -- the new table is the rule's,
  pub answered_table : after.priorities ≡ map (compacted t.priorities) t.priorities
  answered_table = ap (λ (l : LentCompacted). l.priorities) left

  -- and the new kept numbers are a fresh count of it,
  pub answered_kept : after.kept ≡ fresh_count after.priorities
  answered_kept = rw left

  -- the tables with it are accepted,
  pub answered_new_accepted : Accepted (with_priorities t after.priorities)
  answered_new_accepted = rw answered_table (compacted_accepted t answered_accepted)

  -- winners stay,
  pub answered_winners : (a : Player) (v : ℕ) → Wins (game_of t) a v ↔ Wins (game_of (with_priorities t after.priorities)) a v
  answered_winners a v = rw answered_table (compaction_keeps_winners t answered_accepted a v)

  -- and so do winning sets,
  pub answered_winning_sets :
      (won : Player → Set) → WinningSets (game_of t) won ↔ WinningSets (game_of (with_priorities t after.priorities)) won
  answered_winning_sets won = rw answered_table (compaction_keeps_winning_sets t answered_accepted won)

  -- and a solver that finds the winning sets of both games finds the same sets.
  pub answered_answers :
      (won won' : Player → Set) →
      WinningSets (game_of t) won →
      WinningSets (game_of (with_priorities t after.priorities)) won' →
      (a : Player) (v : ℕ) →
      v < (game_of t).size →
      won a v ≡ won' a v
  answered_answers won won' sets sets' =
      compaction_keeps_answers t answered_accepted won won' sets (rw answered_table at sets')

-- Compacting what was compacted changes nothing.
pub answered_twice :
    (t : Tables) (before after before' after' : LentCompacted) (o o' : Outcome) →
    Compacts t before after o →
    o.number ≡ 0 →
    Compacts (with_priorities t after.priorities) before' after' o' →
    o'.number ≡ 0 →
    after'.priorities ≡ after.priorities
answered_twice t before after before' after' o o' once zero again zero' =
    let first = answered_table t before after o once zero in
    let second = answered_table (with_priorities t after.priorities) before' after' o' again zero' in
    second ∙ rw first (compacted_twice t.priorities)
