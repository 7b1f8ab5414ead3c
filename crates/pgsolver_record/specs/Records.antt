-- What the two functions that build a record give and leave, from what the reader gives and leaves.
use Rattle.std.specs.Prelude.{List, ◌≡◌, ℕ, length}
use Rattle.std.proofs.Math.Path.{sym, subst}
use Rattle.std.proofs.Common.{◌∙◌}
use Rattle.rules.specs.Outcome.{Outcome, Verdict, none, ◌then◌, Unless}
use Rattle.rules.specs.Portions.{Meaning, ClosingRecord, ClosedBy, ClosedRecord, rooms_with, end_checks, EndsReading, EndsRecord}
use Rattle.rules.specs.Reading.{WrittenRecord, ToldRecord, ReadsBy, ReadsText, ReadsRecord, room_checks, kept_beside, game, Told}
use Rattle.rules.specs.Record.{kept_room}
use Rattle.parity_game.specs.Said.{refusal}
use Rattle.accepted.specs.Tables.{then_none}
use Rattle.pgsolver_finish.specs.Finishing.{written_of}
use Rattle.pgsolver_serial.specs.Calls.{unless_unfit, unless_fit}
use Rattle.pgsolver_close.specs.Ending.{closing_of}
use Rattle.reading_kept.specs.Rooms.{number_said, number_some, number_none, kept_size, state_size, sizes_of, record_sizes_lem, end_sizes_lem}

abbrev pub written_record_of : List ℕ → List ℕ → List ℕ → List ℕ → List ℕ → List ℕ → ℕ → ℕ → WrittenRecord
written_record_of o p f t kept w n m = record { tables = written_of o p f t w n m; kept = kept }

abbrev pub closing_record_of : List ℕ → List ℕ → List ℕ → List ℕ → List ℕ → List ℕ → List ℕ → ℕ → ℕ → ClosingRecord
closing_record_of s o p f t kept w n m = record { closing = closing_of s o p f t w n m; kept = kept }

-- 9 and 10 of what is lent, by its lengths
abbrev pub record_sizes : WrittenRecord → Verdict
record_sizes r = kept_size (length r.kept) then sizes_of r.tables.rooms

abbrev pub end_sizes : ClosingRecord → Verdict
end_sizes r =
    let c = r.closing in
    (kept_size (length r.kept) then sizes_of (rooms_with c.lent c.work)) then state_size (length c.lent.state)

module _ (mostBytes : ℕ) (text : List ℕ) (before : WrittenRecord) (k : ℕ) (says : number_said k ≡ record_sizes before) where
  own : Verdict
  own = kept_room before.kept then room_checks before.tables.rooms

  is : own ≡ number_said k
  unfolding own
  is = record_sizes_lem before.kept before.tables.rooms ∙ sym says

  -- 9 or 10: nothing is written
  pub reads_unfit : (k ≡ 0 → ⊥) → ReadsRecord mostBytes text before before (refusal k 0)
  unfolding own
  reads_unfit h = unless_unfit own k before (ToldRecord mostBytes text before before (refusal k 0)) (is ∙ number_some k h)

  -- else what the reader wrote, and the kept numbers beside it
  pub reads_record :
      (after : WrittenRecord) (o : Outcome) →
      k ≡ 0 →
      ReadsText game mostBytes text before.tables after.tables o →
      after.kept ≡ kept_beside o after.tables.n after.tables.rooms.priorities →
      ReadsRecord mostBytes text before after o
  unfolding own
  reads_record after o zero reads kept =
      let fit : own ≡ none = is ∙ number_none k zero in
      let rooms = (then_none (kept_room before.kept) (room_checks before.tables.rooms) fit).1 in
      let told : Told game mostBytes text before.tables.rooms after.tables o =
      subst (λ (v : Verdict). ReadsBy v game mostBytes text before.tables after.tables o) rooms reads in
      unless_fit own o before after (ToldRecord mostBytes text before after o) fit (record { told = told; kept = kept })

module _ (S : Meaning) (before : ClosingRecord) (k : ℕ) (says : number_said k ≡ end_sizes before) where
  abbrev lent_checks : Verdict
  lent_checks = end_checks before.closing.lent before.closing.work

  all : Verdict
  all = kept_room before.kept then lent_checks

  are : all ≡ number_said k
  unfolding all
  are = end_sizes_lem before.kept before.closing.lent before.closing.work ∙ sym says

  pub ends_unfit : (k ≡ 0 → ⊥) → EndsRecord S before before (refusal k 0)
  unfolding all
  ends_unfit h = unless_unfit all k before (ClosedRecord S before before (refusal k 0)) (are ∙ number_some k h)

  pub ends_record :
      (after : ClosingRecord) (o : Outcome) →
      k ≡ 0 →
      EndsReading S before.closing after.closing o →
      after.kept ≡ kept_beside o after.closing.n after.closing.lent.priorities →
      EndsRecord S before after o
  unfolding all
  ends_record after o zero ends kept =
      let fit : all ≡ none = are ∙ number_none k zero in
      let rooms = (then_none (kept_room before.kept) lent_checks fit).1 in
      let closed : ClosedBy S before.closing after.closing o =
      subst
      (λ (v : Verdict). Unless v o before.closing after.closing (ClosedBy S before.closing after.closing o))
      rooms ends in
      unless_fit all o before after (ClosedRecord S before after o) fit (record { closed = closed; kept = kept })
