-- The two public functions, one after the other: the reader, given the text that the writer gives, answers and leaves the same
-- tables, wherever its rooms are lawful and game and text keep its limits.
use Rattle.std.specs.Prelude.{List, ◌≡◌, refl, ℕ, ◌-◌, ◌<◌}
use Rattle.std.proofs.Common.{ap, subst, ◌∙◌}
use Rattle.rules.specs.Outcome.{Outcome, Verdict, none, outcome, answered}
use Rattle.rules.specs.Pgsolver.{Entry, Header, highest}
use Rattle.rules.specs.Reading.{Asks, text, game, list_asked, read_checks, tables_read, limits_of, room_checks, Rooms, Told}
use Rattle.rules.specs.Reading.{Limits, Written, written, ReadsBy, ReadsText}
use Rattle.rules.specs.Tables.{Tables, vertices, Accepted}
use Rattle.rules.specs.Writing.{text_of}
use Rattle.grammar.specs.OneReading.{reads_one}
use Rattle.writing.specs.Entries.{entries_of}
use Rattle.writing.specs.Written.{KeepsLimits, ReadAgain, written_reads}

-- accepted tables are not refused, whether document 01's list is asked or not
list_passes : (asks : Asks) (t : Tables) → Accepted t → list_asked asks t ≡ none
unfolding Accepted
list_passes text t ok = refl
list_passes game t ok = ok

module _ (asks : Asks) (mostBytes : ℕ) (t : Tables) (ok : Accepted t) (some : 0 < vertices t) where
  -- what the written records pass
  passes : {l : Limits} → ReadAgain l t → read_checks asks none (highest (vertices t - 1)) (entries_of t) ≡ none
  passes again = rw (again.identifiers, again.tables) (list_passes asks t ok)

  told_back :
      (before : Rooms) (after : Written) (o : Outcome) →
      KeepsLimits (limits_of mostBytes before) t →
      Told asks mostBytes (text_of t) before after o →
      (o ≡ answered 0) × (after ≡ written none t before)
  told_back before after o keeps told =
      let again = written_reads (limits_of mostBytes before) t ok some keeps in
      let (v, h, es) = reads_one told.reads again.reads in
      let checks : read_checks asks told.verdict told.header told.entries ≡ none =
      ap (λ (x : Verdict). read_checks asks x told.header told.entries) v ∙
      ap (λ (x : Header). read_checks asks none x told.entries) h ∙
      ap (λ (x : List Entry). read_checks asks none (highest (vertices t - 1)) x) es ∙
      passes again in
      let tables : tables_read told.entries ≡ t = ap tables_read es ∙ again.tables in (
        told.gives ∙ ap (λ (x : Verdict). outcome x (answered 0)) checks,
        told.leaves ∙
            ap (λ (x : Verdict). written x (tables_read told.entries) before) checks ∙
            ap (λ (x : Tables). written none x before) tables,
      )

  -- The reader answers, and leaves the same tables.
  pub read_back :
      (before after : Written) (o : Outcome) →
      room_checks before.rooms ≡ none →
      KeepsLimits (limits_of mostBytes before.rooms) t →
      ReadsText asks mostBytes (text_of t) before after o →
      (o ≡ answered 0) × (after ≡ written none t before.rooms)
  read_back before after o lawful keeps reads =
      told_back before.rooms after o keeps
      (subst (λ (v : Verdict). ReadsBy v asks mostBytes (text_of t) before after o) lawful reads)
