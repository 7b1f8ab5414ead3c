-- After an answer the record that was written passes 1 to 8 and 47, and its tables are those that the text says: so every
-- function that takes a record accepts it.
use Rattle.std.specs.Prelude.{Bool, not, ◌||◌, List, map, ◌≡◌, refl, ℕ, ◌+◌, ◌-◌, ◌≤◌, eqb, ltb, length, take, replicate}
use Rattle.std.proofs.Common.{sym, ap, subst, ◌∙◌, arith, eq-eqb, length-append, take_at}
use Rattle.rules.specs.Counting.{times}
use Rattle.rules.specs.Outcome.{Outcome, Verdict, none, refused, given, given_at, answered, ◌then◌, Unless}
use Rattle.rules.specs.Pgsolver.{Header, Entry}
use Rattle.rules.specs.Portions.{Meaning, reading, LentBetween, rooms_with, end_checks, ClosingRecord, ClosedRecord, EndsRecord, written_in}
use Rattle.rules.specs.Reading.{Limits, Reads, beyond, stuck, whole, Rooms, Written, limits_of, reading_words, room_checks, padded}
use Rattle.rules.specs.Reading.{written, wrong_highest, check31, read_checks, tables_read, game, Told, kept_beside}
use Rattle.rules.specs.Reading.{WrittenRecord, ToldRecord, ReadsRecord}
use Rattle.rules.specs.Record.{Record, record_of, tables_in, record_checks, fresh_count, kept_room}
use Rattle.rules.specs.Tables.{Tables, tables_of, table_checks, Accepted}
use Rattle.theory.specs.Edits.{Roomy, passes}
use Rattle.parity_game.specs.Laws.{Numbered, numbered_then, numbered_given, numbered_given_at, numbered_tables, zero_none}
use Rattle.parity_game.specs.Laws.{then_none, accepted_sound}

-- the record that a reading leaves
abbrev pub record_read : Written → List ℕ → Record
record_read w kept =
    record_of w.n w.m w.rooms.owners w.rooms.priorities w.rooms.offsets w.rooms.targets kept

pub record RecordPassed (l : Limits) (bytes : List ℕ) (r : Record) : Type 0 where
  pub header : Header
  pub entries : List Entry
  pub says : Reads l bytes none header entries
  pub tables : tables_in r ≡ tables_read entries
  pub accepted : record_checks r ≡ none

-- ---- accepted tables at the front of their rooms, with a fresh count

front : (xs : List ℕ) (k room : ℕ) → length xs ≡ k → take k (padded room xs) ≡ xs
front xs k room e = take_at xs (replicate (room - length xs) 0) k e

within : (xs : List ℕ) (k room : ℕ) → length xs ≡ k → k ≤ length (padded room xs)
within xs k room e = omega (arith, length-append xs (replicate (room - length xs) 0))

module _ (t : Tables) (r : Rooms) (ok : Accepted t) (kept : List ℕ) where
  abbrev held : Record
  held = record_read (written none t r) kept

  held_tables : tables_in held ≡ t
  held_tables =
      let sound = accepted_sound t ok in
      let n = length t.owners in
      let os = front t.owners n (length r.owners) refl in
      let ps = front t.priorities n (length r.priorities) sound.priority_each in
      let fs = front t.offsets (n + 1) (length r.offsets) sound.offset_each in
      let ts = front t.targets (length t.targets) (length r.targets) refl in
      λ i. tables_of (os i) (ps i) (fs i) (ts i)

  held_room : Roomy held
  held_room =
      let sound = accepted_sound t ok in
      let n = length t.owners in
      record {
        few_vertices = sound.few_vertices;
        owner_room = within t.owners n (length r.owners) refl;
        priority_room = within t.priorities n (length r.priorities) sound.priority_each;
        offset_room = within t.offsets (n + 1) (length r.offsets) sound.offset_each;
        few_edges = sound.few_edges;
        target_room = within t.targets (length t.targets) (length r.targets) refl;
      }

  held_passes : kept ≡ fresh_count (take held.n held.priorities) → record_checks held ≡ none
  held_passes fresh =
      passes held
      (record {
        room = held_room;
        accepted = subst (λ (x : Tables). Accepted x) (sym held_tables) ok;
        fresh = fresh;
      })

-- ---- number 0 is an answer

numbered_31 : (h : Header) (es : List Entry) → Numbered (check31 h es)
unfolding check31
numbered_31 h es =
    let wrong = wrong_highest h (length es) in
    let once : ℕ → Bool = λ i. not (eqb (times i (map (λ e. e.identifier) es)) 1) in
    numbered_then (given_at 31 (length es) once) (given 31 (length es) wrong) (numbered_given_at 31 (length es) once (omega arith))
    (numbered_given 31 (length es) wrong (omega arith))

numbered_reads : {l : Limits} {bytes : List ℕ} {v : Verdict} {h : Header} {es : List Entry} → Reads l bytes v h es → Numbered v
numbered_reads (beyond o a b) = omega arith
numbered_reads (stuck s a) = omega arith
numbered_reads (whole x a) = tt

numbered_rooms : (r : Rooms) → Numbered (room_checks r)
unfolding room_checks
numbered_rooms r =
    let as_many = eqb (length r.priorities) (length r.owners) in
    let one_more = eqb (length r.offsets) (length r.owners + 1) in
    let sizes = not as_many || not one_more in
    let short = ltb (length r.work) (reading_words r) in
    numbered_then (given 9 0 sizes) (given 10 0 short) (numbered_given 9 0 sizes (omega arith))
    (numbered_given 10 0 short (omega arith))

numbered_end : (l : LentBetween) (work : List ℕ) → Numbered (end_checks l work)
unfolding end_checks
numbered_end l work =
    let short = ltb (length l.state) 32 in
    numbered_then (room_checks (rooms_with l work)) (given 10 0 short) (numbered_rooms (rooms_with l work))
    (numbered_given 10 0 short (omega arith))

numbered_kept : (kept : List ℕ) → Numbered (kept_room kept)
unfolding kept_room
numbered_kept kept = numbered_given 9 0 (not (eqb (length kept) 258)) (omega arith)

unless_zero :
    {A : Type 0} (v : Verdict) (o : Outcome) (before after : A) (Else : Type 0) →
    Numbered v →
    o.number ≡ 0 →
    Unless v o before after Else →
    Else
unless_zero none o before after Else h zero it = it
unless_zero (refused k p) o before after Else h zero it =
    let is : o.number ≡ k = ap (λ (x : Outcome). x.number) it.0 in absurd (omega arith)

-- ---- what the text says

told_passes :
    (mostBytes : ℕ) (bytes : List ℕ) (rooms : Rooms) (after : Written) (kept : List ℕ) (o : Outcome) →
    Told game mostBytes bytes rooms after o →
    kept ≡ kept_beside o after.n after.rooms.priorities →
    o.number ≡ 0 →
    RecordPassed (limits_of mostBytes rooms) bytes (record_read after kept)
unfolding Accepted
told_passes mostBytes bytes rooms after kept o told beside zero =
    let es = told.entries in
    let all = read_checks game told.verdict told.header es in
    let rest = check31 told.header es then table_checks (tables_read es) in
    let numbered : Numbered all =
    numbered_then told.verdict rest (numbered_reads told.reads)
    (numbered_then (check31 told.header es) (table_checks (tables_read es)) (numbered_31 told.header es)
    (numbered_tables (tables_read es))) in
    let pass : all ≡ none = zero_none all (answered 0) numbered (sym (ap (λ (x : Outcome). x.number) told.gives) ∙ zero) in
    let read = then_none told.verdict rest pass in
    let ok = (then_none (check31 told.header es) (table_checks (tables_read es)) read.1).1 in
    let is : after ≡ written none (tables_read es) rooms =
    told.leaves ∙ ap (λ (x : Verdict). written x (tables_read es) rooms) pass in
    let fresh : kept ≡ fresh_count (take after.n after.rooms.priorities) = rw (eq-eqb o.number 0 zero) at beside in
    let Goal : Written → Type 0 =
    λ w. kept ≡ fresh_count (take w.n w.rooms.priorities) → RecordPassed (limits_of mostBytes rooms) bytes (record_read w kept) in
    subst Goal (sym is)
    (λ counted.
    record {
      header = told.header;
      entries = es;
      says =
          subst (λ (x : Verdict). Reads (limits_of mostBytes rooms) bytes x told.header es) read.0 told.reads;
      tables = held_tables (tables_read es) rooms ok kept;
      accepted = held_passes (tables_read es) rooms ok kept counted;
    })
    fresh

-- A whole text: where number 0 is given, the record that was written passes, and its tables are those that the text says.
pub read_record_passes :
    (mostBytes : ℕ) (bytes : List ℕ) (before after : WrittenRecord) (o : Outcome) →
    ReadsRecord mostBytes bytes before after o →
    o.number ≡ 0 →
    RecordPassed (limits_of mostBytes before.tables.rooms) bytes (record_read after.tables after.kept)
read_record_passes mostBytes bytes before after o reads zero =
    let own = kept_room before.kept then room_checks before.tables.rooms in
    let it =
    unless_zero own o before after (ToldRecord mostBytes bytes before after o)
    (numbered_then (kept_room before.kept) (room_checks before.tables.rooms) (numbered_kept before.kept)
    (numbered_rooms before.tables.rooms))
    zero reads in
    told_passes mostBytes bytes before.tables.rooms after.tables after.kept o it.told it.kept zero

-- The same of a text that came in portions, at its end.
pub end_record_passes :
    (S : Meaning) (mostBytes : ℕ) (bytes : List ℕ) (before after : ClosingRecord) (o : Outcome) →
    EndsRecord S before after o →
    S (reading mostBytes bytes) before.closing.lent →
    o.number ≡ 0 →
    RecordPassed (limits_of mostBytes (written_in before.closing).rooms) bytes (record_read (written_in after.closing) after.kept)
end_record_passes S mostBytes bytes before after o ends stands zero =
    let end = end_checks before.closing.lent before.closing.work in
    let it =
    unless_zero (kept_room before.kept then end) o before after (ClosedRecord S before after o)
    (numbered_then (kept_room before.kept) end (numbered_kept before.kept)
    (numbered_end before.closing.lent before.closing.work))
    zero ends in
    told_passes mostBytes bytes (written_in before.closing).rooms (written_in after.closing) after.kept o
    (it.closed.ends mostBytes bytes stands).told
    it.kept
    zero
