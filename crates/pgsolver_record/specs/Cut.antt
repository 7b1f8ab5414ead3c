-- Cutting a text at any bytes changes nothing in the record either: its kept numbers are those of the same tables.
use Rattle.std.specs.Prelude.{◌≡◌, refl, ℕ, List}
use Rattle.std.proofs.Common.{sym, ap, subst}
use Rattle.rules.specs.Outcome.{Outcome, Verdict, none, refused, ◌then◌, Unless}
use Rattle.rules.specs.Portions.{Meaning, LentBetween, Session, ClosingRecord, ClosedBy, ClosedRecord, written_in, end_checks}
use Rattle.rules.specs.Portions.{EndsReading, EndsRecord}
use Rattle.rules.specs.Reading.{WrittenRecord, ToldRecord, ReadsBy, ReadsText, ReadsRecord, room_checks, game}
use Rattle.rules.specs.Record.{kept_room}
use Rattle.pgsolver_close.specs.Checks.{end_unfit, end_fit}
use Rattle.pgsolver_close.specs.Cut.{session_long, cut_anyhow}

abbrev pub written_record_in : ClosingRecord → WrittenRecord
written_record_in c = record { tables = written_in c.closing; kept = c.kept }

-- past the rooms' checks the end writes what the reader does, and the kept numbers beside it
ended :
    (S : Meaning) (mostBytes : ℕ) (bytes : List ℕ) (before after : ClosingRecord) (o : Outcome) →
    room_checks (written_in before.closing).rooms ≡ none →
    (EndsReading S before.closing after.closing o →
    ReadsText game mostBytes bytes (written_in before.closing) (written_in after.closing) o) →
    end_checks before.closing.lent before.closing.work ≡ none →
    ClosedRecord S before after o →
    ToldRecord mostBytes bytes (written_record_in before) (written_record_in after) o
ended S mostBytes bytes before after o fit whole passes closed =
    let ends : EndsReading S before.closing after.closing o =
    subst
    (λ (v : Verdict). Unless v o before.closing after.closing (ClosedBy S before.closing after.closing o)) (sym passes)
    closed.closed in
    record {
      told =
          subst (λ (v : Verdict). ReadsBy v game mostBytes bytes (written_in before.closing) (written_in after.closing) o) fit
          (whole ends);
      kept = closed.kept;
    }

-- The end gives and leaves what the rules say of reading a record from all the bytes that came at once, 9 and 10 among it.
pub cut_record_anyhow :
    {S : Meaning} {mostBytes : ℕ} {first : LentBetween} {bytes : List ℕ} (before after : ClosingRecord) (o : Outcome) →
    Session S mostBytes first bytes before.closing.lent →
    EndsRecord S before after o →
    ReadsRecord mostBytes bytes (written_record_in before) (written_record_in after) o
cut_record_anyhow {S} {mostBytes} {first} {bytes} before after o session ends =
    go (kept_room before.kept) (room_checks (written_in before.closing).rooms) refl ends
  where
    go :
        (k v : Verdict) →
        room_checks (written_in before.closing).rooms ≡ v →
        Unless (k then end_checks before.closing.lent before.closing.work) o before after (ClosedRecord S before after o) →
        Unless (k then v) o (written_record_in before) (written_record_in after)
        (ToldRecord mostBytes bytes (written_record_in before) (written_record_in after) o)
    go (refused k p) v e it = (it.0, ap written_record_in it.1)
    go none none e it =
        let passes = end_fit before.closing.lent before.closing.work e (session_long before.closing.lent session) in
        ended S mostBytes bytes before after o e (cut_anyhow before.closing after.closing o session) passes
        (subst (λ (x : Verdict). Unless x o before after (ClosedRecord S before after o)) passes it)
    go none (refused k p) e it =
        let nothing =
        subst (λ (x : Verdict). Unless x o before after (ClosedRecord S before after o))
        (end_unfit before.closing.lent before.closing.work k p e) it in
        (nothing.0, ap written_record_in nothing.1)
