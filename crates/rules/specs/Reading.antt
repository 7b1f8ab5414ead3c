-- Reading a text: 30 and 32 with their places and which of the two is given, 31, what the tables hold, and what the public function
-- gives back and leaves, for every input. The grammar itself is in Pgsolver.antt.
use Rattle.std.specs.Prelude.{Bool, false, ◌||◌, not, cond, List, [], ◌∷◌, ◌++◌, map, ◌⊎◌, ◌≡◌, ℕ, zero, suc, ◌+◌, ◌-◌, min, ◌≤◌, ◌<◌, eqb, ltb, length, take, drop, replicate}
use Rattle.rules.specs.Counting.{times, listed}
use Rattle.rules.specs.Outcome.{Outcome, Verdict, none, refused, given, given_at, outcome, answered, ◌then◌, Unless}
use Rattle.rules.specs.Pgsolver.{Blank, Gap, Number, Entry, Fields, Header, unsaid, highest, Records, Text, Viable, parity_word}
use Rattle.rules.specs.Record.{fresh_count, kept_room}
use Rattle.rules.specs.Tables.{Tables, table_checks}

-- ---- 30 and 32

-- the most bytes, vertices and edges that are read
pub record Limits : Type 0 where
  pub bytes : ℕ
  pub vertices : ℕ
  pub edges : ℕ

-- what A1's program reads
abbrev pub limits_of_a1 : Limits
limits_of_a1 = record { bytes = 16384; vertices = 128; edges = 512 }

-- no number is above this
abbrev pub highest_number : ℕ
highest_number = 65535

-- 30 at place k: the first byte after which no text of the grammar can follow, or the text's length if it ends too soon or has no
-- record
pub data Stuck (text : List ℕ) : ℕ → Type 0 where
  byte : (k : ℕ) → k < length text → Viable (take k text) → (Viable (take (suc k) text) → ⊥) → Stuck text k
  end : Viable text → ((h : Header) (es : List Entry) → Text text h es → ⊥) → Stuck text (length text)

-- how many targets the records have
unfoldable pub targets_in : List Entry → ℕ
targets_in [] = 0
targets_in (e ∷ es) = length e.targets + targets_in es

-- what a number stands for
pub data Kind : Type 0 where
  as_highest as_identifier as_priority as_owner as_target : Kind

-- a number of this kind may begin after the bytes s, in which stand n identifiers and m targets
pub data Awaits : List ℕ → Kind → ℕ → ℕ → Type 0 where
  before_highest : {a b : List ℕ} → Blank a → Gap b → Awaits (a ++ (parity_word ++ b)) as_highest 0 0
  before_identifier : {s : List ℕ} {h : Header} {es : List Entry} → Records s h es → Awaits s as_identifier (length es) (targets_in es)
  before_priority :
      {s a b : List ℕ} {h : Header} {es : List Entry} {i : ℕ} →
      Records s h es →
      Number a i →
      Gap b →
      Awaits (s ++ (a ++ b)) as_priority (suc (length es)) (targets_in es)
  before_owner :
      {s a b c d : List ℕ} {h : Header} {es : List Entry} {i p : ℕ} →
      Records s h es →
      Number a i →
      Gap b →
      Number c p →
      Gap d →
      Awaits (s ++ (a ++ (b ++ (c ++ d)))) as_owner (suc (length es)) (targets_in es)
  before_target :
      {s r : List ℕ} {h : Header} {es : List Entry} {e : Entry} →
      Records s h es →
      Fields r e →
      Awaits (s ++ r) as_target (suc (length es)) (targets_in es + length e.targets)

-- such a number is beyond a limit: an identifier too many, a target too many, or a value above 65,535
pub data TooMuch (l : Limits) (k : Kind) (n m v : ℕ) : Type 0 where
  vertex : k ≡ as_identifier → l.vertices ≤ n → TooMuch l k n m v
  edge : k ≡ as_target → l.edges ≤ m → TooMuch l k n m v
  value : highest_number < v → TooMuch l k n m v

-- bytes that end in digits of a number beyond a limit
pub data Beyond (l : Limits) : List ℕ → Type 0 where
  number :
      {before digits : List ℕ} {k : Kind} {n m v : ℕ} →
      Awaits before k n m →
      Number digits v →
      TooMuch l k n m v →
      Beyond l (before ++ digits)

-- byte k goes beyond a limit
pub record Over (l : Limits) (text : List ℕ) (k : ℕ) : Type 0 where
  pub there : k < length text
  pub limit : (l.bytes ≤ k) ⊎ Beyond l (take (suc k) text)

-- of 30 and 32 the earlier byte, and 32 at the same byte; else the text is one of the grammar and keeps the limits
pub data Reads (l : Limits) (text : List ℕ) : Verdict → Header → List Entry → Type 0 where
  beyond :
      {k : ℕ} →
      Over l text k →
      ((j : ℕ) → j < k → Over l text j → ⊥) →
      ((j : ℕ) → j < k → Stuck text j → ⊥) →
      Reads l text (refused 32 k) unsaid []
  stuck : {k : ℕ} → Stuck text k → ((j : ℕ) → j ≤ k → Over l text j → ⊥) → Reads l text (refused 30 k) unsaid []
  whole :
      {h : Header} {es : List Entry} → Text text h es → ((j : ℕ) → Over l text j → ⊥) → Reads l text none h es

-- ---- 31

-- N is not n − 1
abbrev pub wrong_highest : Header → ℕ → Bool
wrong_highest unsaid n = false
wrong_highest (highest k) n = not (eqb (k + 1) n)

-- with n records, identifiers 0 to n − 1 each appear once and N is n − 1; else the lowest of 0 to n − 1 that is not there exactly
-- once, else n
unfoldable pub check31 : Header → List Entry → Verdict
check31 h es =
    given_at 31 (length es) (λ i. not (eqb (times i (map (λ e. e.identifier) es)) 1)) then
    given 31 (length es) (wrong_highest h (length es))

-- ---- the tables

-- the first record with an identifier
unfoldable pub entry_of : List Entry → ℕ → Entry
entry_of [] i = record { identifier = i; priority = 0; owner = 0; targets = [] }
entry_of (e ∷ es) i = cond (eqb e.identifier i) e (entry_of es i)

-- the targets of the first k identifiers, one after another, their order kept
unfoldable pub targets_up_to : List Entry → ℕ → List ℕ
targets_up_to es zero = []
targets_up_to es (suc i) = targets_up_to es i ++ (entry_of es i).targets

-- by identifier; an owner above 255 is kept as 255
unfoldable pub tables_read : List Entry → Tables
tables_read es =
    record {
      owners = listed (length es) (λ i. min 255 (entry_of es i).owner);
      priorities = listed (length es) (λ i. (entry_of es i).priority);
      offsets = listed (suc (length es)) (λ i. length (targets_up_to es i));
      targets = targets_up_to es (length es);
    }

-- ---- the public functions

-- the four tables that are written, and the work area
pub record Rooms : Type 0 where
  pub owners : List ℕ
  pub priorities : List ℕ
  pub offsets : List ℕ
  pub targets : List ℕ
  pub work : List ℕ

-- the words of the work area that are used
abbrev pub reading_words : Rooms → ℕ
reading_words r = length r.owners + length r.targets

-- the rooms are the limits, and no game is above document 01's
abbrev pub limits_of : ℕ → Rooms → Limits
limits_of mostBytes r =
    record { bytes = mostBytes; vertices = min 4096 (length r.owners); edges = min 16384 (length r.targets) }

-- 9: rooms that do not fit each other; 10: a work area that is too short
unfoldable pub room_checks : Rooms → Verdict
room_checks r =
    given 9 0
    (not (eqb (length r.priorities) (length r.owners)) || not (eqb (length r.offsets) (length r.owners + 1))) then
    given 10 0 (ltb (length r.work) (reading_words r))

-- a table at the front of its room, and zero behind it
abbrev pub padded : ℕ → List ℕ → List ℕ
padded room xs = xs ++ replicate (room - length xs) 0

-- what stands in the rooms: these tables, and the used words of the work area zero
abbrev pub holding : Tables → Rooms → Rooms
holding t r =
    record {
      owners = padded (length r.owners) t.owners;
      priorities = padded (length r.priorities) t.priorities;
      offsets = padded (length r.offsets) t.offsets;
      targets = padded (length r.targets) t.targets;
      work = replicate (reading_words r) 0 ++ drop (reading_words r) r.work;
    }

abbrev pub no_tables : Tables
no_tables = record { owners = []; priorities = []; offsets = []; targets = [] }

-- the rooms and the sizes n and m
pub record Written : Type 0 where
  pub rooms : Rooms
  pub n : ℕ
  pub m : ℕ

-- what a verdict on a text that was looked at leaves: the tables and their sizes, or zero everywhere
abbrev pub written : Verdict → Tables → Rooms → Written
written none t r = record { rooms = holding t r; n = length t.owners; m = length t.targets }
written (refused k p) t r = record { rooms = holding no_tables r; n = 0; m = 0 }

-- whether document 01's list is asked too, or the text alone is read
pub data Asks : Type 0 where
  text game : Asks

abbrev pub list_asked : Asks → Tables → Verdict
list_asked text t = none
list_asked game t = table_checks t

-- 30 or 32, 31, then document 01's list
abbrev pub read_checks : Asks → Verdict → Header → List Entry → Verdict
read_checks asks v h es = v then check31 h es then list_asked asks (tables_read es)

-- after the rooms' checks: what the text says decides
pub record Told (asks : Asks) (mostBytes : ℕ) (bytes : List ℕ) (before : Rooms) (after : Written) (o : Outcome) : Type 0 where
  pub verdict : Verdict
  pub header : Header
  pub entries : List Entry
  pub reads : Reads (limits_of mostBytes before) bytes verdict header entries
  pub gives : o ≡ outcome (read_checks asks verdict header entries) (answered 0)
  pub leaves : after ≡ written (read_checks asks verdict header entries) (tables_read entries) before

-- by cases on the rooms' checks: 9 and 10 write nothing, the sizes neither
abbrev pub ReadsBy : Verdict → Asks → ℕ → List ℕ → Written → Written → Outcome → Type 0
ReadsBy (refused k p) asks mostBytes bytes before after o =
    (o ≡ record { number = k; place = p; count = 0 }) × (after ≡ before)
ReadsBy none asks mostBytes bytes before after o = Told asks mostBytes bytes before.rooms after o

-- the public function
abbrev pub ReadsText : Asks → ℕ → List ℕ → Written → Written → Outcome → Type 0
ReadsText asks mostBytes bytes before after o = ReadsBy (room_checks before.rooms) asks mostBytes bytes before after o

-- ---- a record read

-- the kept numbers that are written beside the tables: a fresh count after an answer, zero everywhere after a refusal
abbrev pub kept_beside : Outcome → ℕ → List ℕ → List ℕ
kept_beside o n priorities = cond (eqb o.number 0) (fresh_count (take n priorities)) (replicate 258 0)

pub record WrittenRecord : Type 0 where
  pub tables : Written
  pub kept : List ℕ

pub record ToldRecord (mostBytes : ℕ) (bytes : List ℕ) (before after : WrittenRecord) (o : Outcome) : Type 0 where
  pub told : Told game mostBytes bytes before.tables.rooms after.tables o
  pub kept : after.kept ≡ kept_beside o after.tables.n after.tables.rooms.priorities

-- the public function that reads a game: 9 is also a kept that is not 258 long
abbrev pub ReadsRecord : ℕ → List ℕ → WrittenRecord → WrittenRecord → Outcome → Type 0
ReadsRecord mostBytes bytes before after o =
    Unless (kept_room before.kept then room_checks before.tables.rooms) o before after (ToldRecord mostBytes bytes before after o)
