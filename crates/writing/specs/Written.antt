-- Writing and reading undo each other: what was written is read as the same tables, what was read and had the written form is
-- written as the same bytes, and two games never have the same text.
use Rattle.std.specs.Prelude.{List, [], ◌∷◌, ◌++◌, ◌≡◌, refl, length, get_or}
use Rattle.std.proofs.Common.{sym, ap, subst, ◌∙◌, arith}
use Prim.Native.Nat.{ℕ, zero, suc, ◌+◌, ◌-◌, ◌≤◌, ◌<◌}
use Rattle.rules.specs.Outcome.{Verdict, none}
use Rattle.rules.specs.Pgsolver.{Entry, Header, highest, Text}
use Rattle.rules.specs.Reading.{Limits, Reads, check31, tables_read}
use Rattle.rules.specs.Tables.{Tables, vertices, edges_in, targets_of, Accepted}
use Rattle.rules.specs.Writing.{record_text, records_text, text_of}
use Rattle.accepted.specs.Tables.{Sound, accepted_sound}
use Rattle.grammar.specs.Machine.{Machine, at_first, between_records, no_entry_yet}
use Rattle.grammar.specs.Free.{Goes, goes_same}
use Rattle.grammar.specs.Standing.{having}
use Rattle.grammar.specs.Reaches.{reaches}
use Rattle.grammar.specs.Viable.{text_stands}
use Rattle.writing.specs.Lengths.{record_bytes_lem, offsets_within, targets_many, targets_some, targets_low}
use Rattle.writing.specs.Entries.{entry_at, entries_from, entries_of, entries_many, entries_next, targets_before}
use Rattle.writing.specs.Entries.{written_identifiers, tables_again}
use Rattle.writing.specs.Passes.{Passes, passes_on, passes_goes, passes_reads, passes_header, SmallRecord, passes_record}

-- game and text keep these limits
pub record KeepsLimits (l : Limits) (t : Tables) : Type 0 where
  pub bytes : length (text_of t) ≤ l.bytes
  pub vertices : vertices t ≤ l.vertices
  pub edges : edges_in t ≤ l.edges

-- the limits that are just kept
abbrev closest : Tables → Limits
closest t = record { bytes = length (text_of t); vertices = vertices t; edges = edges_in t }

closest_kept : (t : Tables) → KeepsLimits (closest t) t
closest_kept t = record { bytes = omega arith; vertices = omega arith; edges = omega arith }

-- ---- the machine passes over the text

-- after these records
abbrev standing : Tables → List Entry → Machine
standing t es = having between_records (highest (vertices t - 1)) es no_entry_yet

module _ (l : Limits) (t : Tables) (ok : Accepted t) (keeps : KeepsLimits l t) where
  sound : Sound t
  sound = accepted_sound t ok

  small_record :
      (v : ℕ) →
      v < vertices t →
      SmallRecord l (entries_from t 0 v) v (get_or t.priorities v 0) (get_or t.owners v 0)
      (targets_of t.offsets t.targets v)
  small_record v less =
      record {
        vertex_room = omega (arith, entries_many t 0 v, keeps.vertices);
        edge_room =
            omega (
              arith,
              targets_before t ok v (omega arith),
              targets_many t ok v less,
              offsets_within t ok v less,
              keeps.edges,
            );
        some = targets_some t ok v less;
        identifier_small = omega (arith, sound.few_vertices);
        priority_small = omega (arith, sound.priority_small v less);
        owner_small = omega (arith, sound.owner_small v less);
        targets_small = λ i low. omega (arith, targets_low t ok v less i low, sound.few_vertices);
      }

  passes_one :
      (v : ℕ) →
      v < vertices t →
      Passes l (standing t (entries_from t 0 v)) (record_text t v) (standing t (entries_from t 0 (suc v)))
  passes_one v less =
      subst (λ (es : List Entry). Passes l (standing t (entries_from t 0 v)) (record_text t v) (standing t es))
      (sym (entries_next t v))
      (subst
      (λ (s : List ℕ).
      Passes l (standing t (entries_from t 0 v)) s (standing t (entries_from t 0 v ++ (entry_at t v ∷ []))))
      (sym (record_bytes_lem t v))
      (passes_record (vertices t - 1) (entries_from t 0 v) v (get_or t.priorities v 0) (get_or t.owners v 0)
      (targets_of t.offsets t.targets v)
      (small_record v less)))

  passes_records : (v : ℕ) → v ≤ vertices t → Passes l (standing t []) (records_text t v) (standing t (entries_from t 0 v))
  unfolding records_text entries_from
  passes_records zero most = Passes.ends
  passes_records (suc v) most = passes_on (passes_records v (omega arith)) (passes_one v most)

  passes_text : Passes l at_first (text_of t) (standing t (entries_of t))
  unfolding text_of
  passes_text =
      passes_on (passes_header l (vertices t) (omega (arith, sound.few_vertices))) (passes_records (vertices t) (omega arith))

-- ---- what was written is read

-- Reading what was written gives the same tables.
pub record ReadAgain (l : Limits) (t : Tables) : Type 0 where
  pub reads : Reads l (text_of t) none (highest (vertices t - 1)) (entries_of t)
  pub identifiers : check31 (highest (vertices t - 1)) (entries_of t) ≡ none
  pub tables : tables_read (entries_of t) ≡ t

pub written_reads : (l : Limits) (t : Tables) → Accepted t → 0 < vertices t → KeepsLimits l t → ReadAgain l t
written_reads l t ok some keeps =
    record {
      reads = passes_reads keeps.bytes (omega (arith, entries_many t 0 (vertices t))) (passes_text l t ok keeps);
      identifiers = written_identifiers t some;
      tables = tables_again t ok;
    }

-- ---- what was read is written

-- a text of the grammar that has the written form has the written records
text_entries :
    {h : Header} {es : List Entry} (t : Tables) → Accepted t → Text (text_of t) h es → es ≡ entries_of t
text_entries t ok read =
    ap (λ (x : Machine). x.entries)
    (goes_same (reaches (text_stands read)) (passes_goes (passes_text (closest t) t ok (closest_kept t))))

read_text : {l : Limits} {text : List ℕ} {h : Header} {es : List Entry} → Reads l text none h es → Text text h es
read_text read = none_text read refl
  where
    none_text :
        {l : Limits} {text : List ℕ} {v : Verdict} {h : Header} {es : List Entry} →
        Reads l text v h es →
        v ≡ none →
        Text text h es
    none_text (Reads.beyond o n m) e = let z : ◌≡◌ {A = ℕ} 0 1 = cc in absurd (omega arith)
    none_text (Reads.stuck s p) e = let z : ◌≡◌ {A = ℕ} 0 1 = cc in absurd (omega arith)
    none_text (Reads.whole r p) e = r

-- the tables read from a text that has the written form of some tables are those
pub read_tables :
    {l : Limits} {h : Header} {es : List Entry} (t : Tables) → Accepted t → Reads l (text_of t) none h es → tables_read es ≡ t
read_tables t ok read = ap tables_read (text_entries t ok (read_text read)) ∙ tables_again t ok

-- Writing what was read gives the same bytes, where the text already had this form.
pub read_writes :
    {l : Limits} {text : List ℕ} {h : Header} {es : List Entry} (t : Tables) →
    Accepted t →
    text ≡ text_of t →
    Reads l text none h es →
    text_of (tables_read es) ≡ text
read_writes {l} {text} {h} {es} t ok same read =
    ap text_of (read_tables t ok (subst (λ (s : List ℕ). Reads l s none h es) same read)) ∙ sym same

-- ---- one game for a text

-- Two accepted games never have the same text unless they are the same.
pub texts_differ : (t t' : Tables) → Accepted t → Accepted t' → text_of t ≡ text_of t' → t ≡ t'
texts_differ t t' ok ok' same =
    sym (tables_again t ok) ∙ ap tables_read entries ∙ tables_again t' ok'
  where
    entries : entries_of t ≡ entries_of t'
    entries =
        ap (λ (x : Machine). x.entries)
        (goes_same (passes_goes (passes_text (closest t) t ok (closest_kept t)))
        (subst
        (λ (s : List ℕ). Goes at_first s (standing t' (entries_of t')))
        (sym same)
        (passes_goes (passes_text (closest t') t' ok' (closest_kept t')))))
