-- What callers go by: what writing gives is one thing, an answer means that the front of the array is the text, which is read
-- again as the same tables, a refusal leaves the array as it was, and 131,085 bytes are always enough.
use Rattle.std.specs.Prelude.{List, ◌≡◌, ℕ, ◌≤◌, eqb, ltb, length, take, drop}
use Rattle.std.proofs.Common.{sym, ap, ◌∙◌, arith}
use borrow.Author.Tests.{eqb-false}
use Rattle.std.proofs.Math.Seq.{take-append_seam}
use Rattle.rules.specs.Outcome.{Outcome, none, answered, ◌then◌}
use Rattle.rules.specs.Reading.{Limits}
use Rattle.rules.specs.Tables.{Tables, vertices, table_checks, Accepted}
use Rattle.rules.specs.Writing.{text_of, check33, check34, writing_checks, Writes}
use Rattle.parity_game.specs.Laws.{Numbered, numbered_then, numbered_given, numbered_tables, zero_none, then_none, given_none}
use Rattle.writing.specs.Written.{KeepsLimits, ReadAgain, written_reads}
use Rattle.writing.specs.Lengths.{text_bounded}
use Rattle.pgsolver_line.specs.Written.{PutWritten, above}
use Rattle.pgsolver_put.specs.Texts.{checks_pass}

-- What writing gives and leaves is one thing: any two runs from the same entry agree.
pub writes_unique :
    (t : Tables) (before after after' : List ℕ) (o o' : Outcome) →
    Writes t before after o →
    Writes t before after' o' →
    (o ≡ o') × (after ≡ after')
writes_unique t before after after' o o' w w' = (w.gives ∙ sym w'.gives, w.leaves ∙ sym w'.leaves)

numbered_checks : (t : Tables) (k : ℕ) → Numbered (writing_checks t k)
unfolding check33 check34
numbered_checks t k =
    numbered_then (table_checks t) (check33 t then check34 t k) (numbered_tables t)
    (numbered_then (check33 t) (check34 t k) (numbered_given 33 0 (eqb (vertices t) 0) (omega arith))
    (numbered_given 34 (length (text_of t)) (ltb k (length (text_of t))) (omega arith)))

module _ (t : Tables) (before after : List ℕ) (o : Outcome) (met : Writes t before after o) where
  module _ (fine : o.number ≡ 0) where
    passes : writing_checks t (length before) ≡ none
    passes =
        zero_none (writing_checks t (length before)) (answered (length (text_of t))) (numbered_checks t (length before))
        (sym (ap (λ (x : Outcome). x.number) met.gives) ∙ fine)

    -- After an answer the tables are accepted and have a vertex,
    pub answered_written : PutWritten t
    unfolding Accepted check33
    answered_written =
        let one = then_none (table_checks t) (check33 t then check34 t (length before)) passes in
        let two = then_none (check33 t) (check34 t (length before)) one.1 in
        let some = eqb-false (vertices t) 0 (given_none 33 0 (eqb (vertices t) 0) two.0) in
        record { accepted = one.0; some = above (vertices t) some }

    -- the front of the array is the text,
    pub answered_text : take o.count after ≡ text_of t
    answered_text =
        ap (λ (x : Outcome). take x.count after) met.gives ∙
        rw (passes, met.leaves) (rw passes (take-append_seam (text_of t) (drop (length (text_of t)) before)))

    -- and it is read again as the same tables, in all limits that game and text keep.
    pub answered_again : (l : Limits) → KeepsLimits l t → ReadAgain l t
    answered_again l keeps = written_reads l t answered_written.accepted answered_written.some keeps

  -- 131,085 bytes are always enough for accepted tables with a vertex.
  pub enough_room : PutWritten t → 131085 ≤ length before → o ≡ answered (length (text_of t))
  enough_room w room =
      met.gives ∙
      rw (checks_pass t (length before) w (omega (arith, text_bounded t w.accepted)))
