-- C7 as it is written, by computing; and a compacted game, which is written and read again.
use Rattle.std.specs.Prelude.{List, [], ◌∷◌, ◌≡◌, refl, ℕ, ◌<◌}
use Rattle.rules.specs.Decimal.{digits_in, decimal}
use Rattle.rules.specs.Reading.{Limits}
use Rattle.rules.specs.Tables.{Tables, vertices, degree, targets_of, Accepted}
use Rattle.rules.specs.Writing.{targets_text, record_text, records_text, header_text, text_of}
use Rattle.theory.specs.Compaction.{compacted_tables, compacted_accepted}
use Rattle.theory.specs.Worked.{C7}
use Rattle.writing.specs.Written.{KeepsLimits, ReadAgain, written_reads}

-- `parity 1;`, `0 2 0 1;` and `1 0 1 0,1;`, a line each
abbrev pub worked_lines : List ℕ
worked_lines =
    112 ∷ 97 ∷ 114 ∷ 105 ∷ 116 ∷ 121 ∷ 32 ∷ 49 ∷ 59 ∷ 10 ∷ 48 ∷ 32 ∷ 50 ∷ 32 ∷ 48 ∷ 32 ∷ 49 ∷ 59 ∷ 10 ∷ 49 ∷ 32 ∷ 48 ∷ 32 ∷ 49 ∷
    32 ∷ 48 ∷ 44 ∷ 49 ∷ 59 ∷ 10 ∷ []

pub worked_written : text_of C7.tables ≡ worked_lines
unfolding C7 text_of header_text records_text record_text targets_text targets_of degree decimal digits_in
worked_written = refl

-- A compacted game is read again from what was written of it.
pub compacted_again :
    (l : Limits) (t : Tables) →
    Accepted t →
    0 < vertices t →
    KeepsLimits l (compacted_tables t) →
    ReadAgain l (compacted_tables t)
compacted_again l t ok some keeps = written_reads l (compacted_tables t) (compacted_accepted t ok) some keeps
