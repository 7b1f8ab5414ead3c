-- Where the machine without limits stands after some bytes, in the pieces of the grammar: what each state means. A number may
-- begin, is being read, or is read and separators follow; a name is being read, or is read.
use Rattle.std.specs.Prelude.{List, [], ◌∷◌, ◌++◌, ◌≡◌, refl, ℕ, suc, ◌+◌, ◌<◌, length, take}
use Rattle.rules.specs.Pgsolver.{quote, parity_word, Entry, with_target, Header, unsaid, highest, Blank, Gap, Number, Quoted}
use Rattle.rules.specs.Pgsolver.{Fields, Records}
use Rattle.rules.specs.Reading.{targets_in, Awaits, Kind, as_highest, as_identifier, as_priority, as_owner, as_target}
use Rattle.grammar.specs.Machine.{Machine, at_first, no_entry_yet, to, reading, Phase, at_start, in_word, past_word, in_highest}
use Rattle.grammar.specs.Machine.{past_highest, between_records, in_identifier, past_identifier, in_priority, past_priority}
use Rattle.grammar.specs.Machine.{in_owner, past_owner, in_target, past_target, past_comma, in_name, past_name}

-- before the next record: separators alone so far, or behind a semicolon
abbrev pub rest_phase : Header → List Entry → Phase
rest_phase unsaid [] = at_start
rest_phase unsaid (e ∷ es) = between_records
rest_phase (highest k) es = between_records

-- before a target: the first of a record, or another
abbrev pub field_phase : List ℕ → Phase
field_phase [] = past_owner
field_phase (w ∷ ws) = past_comma

-- a record of which the identifier is read, and one of which the priority is read too
abbrev pub numbered : ℕ → Entry
numbered i = record { identifier = i; priority = 0; owner = 0; targets = [] }

abbrev pub ranked_as : ℕ → ℕ → Entry
ranked_as i p = record { identifier = i; priority = p; owner = 0; targets = [] }

-- in no number, with these whole records and this one begun
abbrev pub having : Phase → Header → List Entry → Entry → Machine
having phase h es e = record { phase = phase; header = h; entries = es; current = e; value = 0 }

abbrev pub resting : Header → List Entry → Machine
resting h es = having (rest_phase h es) h es no_entry_yet

abbrev pub fielding : Header → List Entry → Entry → Machine
fielding h es e = having (field_phase e.targets) h es e

-- the phase in a number of a kind
abbrev pub in_phase : Kind → Phase
in_phase as_highest = in_highest
in_phase as_identifier = in_identifier
in_phase as_priority = in_priority
in_phase as_owner = in_owner
in_phase as_target = in_target

-- a number of this kind may begin, after n identifiers and m targets; the bytes so far, and the state
pub data Before : Kind → ℕ → ℕ → List ℕ → Machine → Type 0 where
  worded : {a b : List ℕ} → Blank a → Gap b → Before as_highest 0 0 (a ++ (parity_word ++ b)) (to past_word at_first)
  rested :
      {s : List ℕ} {h : Header} {es : List Entry} →
      Records s h es →
      Before as_identifier (length es) (targets_in es) s (resting h es)
  identified :
      {s a b : List ℕ} {h : Header} {es : List Entry} {i : ℕ} →
      Records s h es →
      Number a i →
      Gap b →
      Before as_priority (suc (length es)) (targets_in es) (s ++ (a ++ b))
      (having past_identifier h es (numbered i))
  ranked :
      {s a b c d : List ℕ} {h : Header} {es : List Entry} {i p : ℕ} →
      Records s h es →
      Number a i →
      Gap b →
      Number c p →
      Gap d →
      Before as_owner (suc (length es)) (targets_in es) (s ++ (a ++ (b ++ (c ++ d))))
      (having past_priority h es (ranked_as i p))
  fielded :
      {s r : List ℕ} {h : Header} {es : List Entry} {e : Entry} →
      Records s h es →
      Fields r e →
      Before as_target (suc (length es)) (targets_in es + length e.targets) (s ++ r) (fielding h es e)

-- a record up to the separators behind its last target so far
pub data Aimed : List ℕ → Header → List Entry → Entry → Type 0 where
  aimed :
      {s r t b : List ℕ} {h : Header} {es : List Entry} {e : Entry} {w : ℕ} →
      Records s h es →
      Fields r e →
      Number t w →
      Blank b →
      Aimed (s ++ (r ++ (t ++ b))) h es (with_target e w)

-- where the machine stands
pub data Stands : List ℕ → Machine → Type 0 where
  word : {a : List ℕ} (k : ℕ) → Blank a → k < 6 → Stands (a ++ take (suc k) parity_word) (to (in_word (suc k)) at_first)
  before : {k : Kind} {n m : ℕ} {s : List ℕ} {x : Machine} → Before k n m s x → Stands s x
  within :
      {k : Kind} {n m v : ℕ} {s d : List ℕ} {x : Machine} →
      Before k n m s x →
      Number d v →
      Stands (s ++ d) (reading (in_phase k) v x)
  headed :
      {a b c d : List ℕ} {k : ℕ} →
      Blank a →
      Gap b →
      Number c k →
      Gap d →
      Stands (a ++ (parity_word ++ (b ++ (c ++ d)))) (having past_highest (highest k) [] no_entry_yet)
  targeted :
      {s r t g : List ℕ} {h : Header} {es : List Entry} {e : Entry} {w : ℕ} →
      Records s h es →
      Fields r e →
      Number t w →
      Gap g →
      Stands (s ++ (r ++ (t ++ g))) (having past_target h es (with_target e w))
  naming :
      {s q : List ℕ} {h : Header} {es : List Entry} {e : Entry} →
      Aimed s h es e →
      Quoted q →
      Stands (s ++ (quote ∷ q)) (having in_name h es e)
  named :
      {s q b : List ℕ} {h : Header} {es : List Entry} {e : Entry} →
      Aimed s h es e →
      Quoted q →
      Blank b →
      Stands (s ++ (quote ∷ (q ++ (quote ∷ b)))) (having past_name h es e)

-- ---- such places are those of the rules

pub awaits : {k : Kind} {n m : ℕ} {s : List ℕ} {x : Machine} → Before k n m s x → Awaits s k n m
awaits (worded a b) = Awaits.before_highest a b
awaits (rested r) = Awaits.before_identifier r
awaits (identified r a b) = Awaits.before_priority r a b
awaits (ranked r a b c d) = Awaits.before_owner r a b c d
awaits (fielded r f) = Awaits.before_target r f

pub awaited : {k : Kind} {n m : ℕ} {s : List ℕ} → Awaits s k n m → (x : Machine) × Before k n m s x
awaited (Awaits.before_highest a b) = (_, worded a b)
awaited (Awaits.before_identifier r) = (_, rested r)
awaited (Awaits.before_priority r a b) = (_, identified r a b)
awaited (Awaits.before_owner r a b c d) = (_, ranked r a b c d)
awaited (Awaits.before_target r f) = (_, fielded r f)

-- ---- the phases of what has grown

-- behind a record
pub rest_after : (h : Header) (es : List Entry) (e : Entry) → rest_phase h (es ++ (e ∷ [])) ≡ between_records
rest_after unsaid [] e = refl
rest_after unsaid (x ∷ es) e = refl
rest_after (highest k) es e = refl

-- behind a comma
pub field_after : (ws : List ℕ) (w : ℕ) → field_phase (ws ++ (w ∷ [])) ≡ past_comma
field_after [] w = refl
field_after (x ∷ ws) w = refl
