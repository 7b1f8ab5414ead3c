-- The game record of document 02's A7: sizes, tables with room to spare, and the kept numbers: how many vertices have each priority,
-- how many different ones there are, and the highest. The three edits of a record, their refusals, and what each function gives
-- back and leaves, for every input.
use Rattle.std.specs.Prelude.{Bool, not, ◌||◌, ◌&&◌, List, [], ◌∷◌, ◌++◌, ◌≡◌, ℕ, ◌+◌, eqb, ltb, leb, length, get_or, take, set}
use Rattle.rules.specs.Counting.{Set, every, count, times, listed, greatest}
use Rattle.rules.specs.Outcome.{Outcome, Verdict, none, refused, given, outcome, answered, ◌then◌, Unless}
use Rattle.rules.specs.Tables.{Tables, tables_of, check1, table_checks}

pub record Record : Type 0 where
  pub n : ℕ
  pub m : ℕ
  pub owners : List ℕ
  pub priorities : List ℕ
  pub offsets : List ℕ
  pub targets : List ℕ
  pub kept : List ℕ

abbrev pub record_of : ℕ → ℕ → List ℕ → List ℕ → List ℕ → List ℕ → List ℕ → Record
record_of n m owners priorities offsets targets kept =
    record {
      n = n;
      m = m;
      owners = owners;
      priorities = priorities;
      offsets = offsets;
      targets = targets;
      kept = kept;
    }

-- only the first n, n, n + 1 and m entries count
abbrev pub tables_in : Record → Tables
tables_in r = tables_of (take r.n r.owners) (take r.n r.priorities) (take (r.n + 1) r.offsets) (take r.m r.targets)

-- how many vertices have priority 0 to 255
unfoldable pub counts_of : List ℕ → List ℕ
counts_of priorities = listed 256 (λ p. times p priorities)

-- the priorities that some vertex has, by the counts
abbrev pub counted : List ℕ → Set
counted counts p = not (eqb (get_or counts p 0) 0)

-- how many different ones there are
unfoldable pub different_in : List ℕ → ℕ
different_in counts = count 256 (counted counts)

-- the highest, or 0 where there is no vertex
unfoldable pub highest_in : List ℕ → ℕ
highest_in counts = greatest 256 (counted counts) (λ p. p)

-- the counts, then those two
unfoldable pub kept_for : List ℕ → List ℕ
kept_for counts = counts ++ (different_in counts ∷ (highest_in counts ∷ []))

-- what a fresh count of priorities gives: 258 numbers
unfoldable pub fresh_count : List ℕ → List ℕ
fresh_count priorities = kept_for (counts_of priorities)

-- two lists of numbers are the same
unfoldable pub same_list : List ℕ → List ℕ → Bool
same_list xs ys = eqb (length xs) (length ys) && every (length ys) (λ i. eqb (get_or xs i 0) (get_or ys i 0))

-- 2: n above the room of owners or priorities, or n + 1 above that of offsets
unfoldable pub room2 : ℕ → ℕ → ℕ → ℕ → Verdict
room2 n ownerRoom priorityRoom offsetRoom = given 2 0 (ltb ownerRoom n || ltb priorityRoom n || ltb offsetRoom (n + 1))

-- 3: m above 16,384 or above the room of targets
unfoldable pub room3 : ℕ → ℕ → Verdict
room3 m targetRoom = given 3 0 (ltb 16384 m || ltb targetRoom m)

-- 1 to 3, by the sizes and the room
abbrev pub size_checks : Record → Verdict
size_checks r =
    check1 r.n then
    room2 r.n (length r.owners) (length r.priorities) (length r.offsets) then
    room3 r.m (length r.targets)

-- 1 to 8
unfoldable pub record_tables : Record → Verdict
record_tables r = size_checks r then table_checks (tables_in r)

-- 47: kept numbers that a fresh count of the priorities does not give
unfoldable pub kept_check : List ℕ → List ℕ → Verdict
kept_check priorities kept = given 47 0 (not (same_list kept (fresh_count priorities)))

abbrev pub check47 : Record → Verdict
check47 r = kept_check (take r.n r.priorities) r.kept

-- 1 to 8, then 47
unfoldable pub record_checks : Record → Verdict
record_checks r = record_tables r then check47 r

-- a function that takes a record: where 1 to 8 or 47 refuse it nothing is written, and past them it does what is said of its tables
abbrev pub ByRecord : {A : Type 0} → Record → Outcome → A → A → (Tables → Type 0) → Type 0
ByRecord r o before after Does = Unless (record_checks r) o before after (Does (tables_in r))

-- 9: a kept to be written that is not 258 long
unfoldable pub kept_room : List ℕ → Verdict
kept_room kept = given 9 0 (not (eqb (length kept) 258))

pub data Edit : Type 0 where
  set_priority : ℕ → ℕ → Edit
  set_owner : ℕ → ℕ → Edit
  turn_edge : ℕ → ℕ → Edit

-- 41: no such vertex or edge; 42: a priority above 255; 48: an owner not 0 or 1; 43: a target not below n
unfoldable pub own_checks : Edit → Record → Verdict
own_checks (set_priority v p) r = given 41 v (leb r.n v) then given 42 v (ltb 255 p)
own_checks (set_owner v o) r = given 41 v (leb r.n v) then given 48 v (ltb 1 o)
own_checks (turn_edge e w) r = given 41 e (leb r.m e) then given 43 e (leb r.n w)

unfoldable pub edit_checks : Edit → Record → Verdict
edit_checks e r = record_checks r then own_checks e r

-- a record with other priorities, which are counted anew, with other owners, or with other targets
abbrev pub with_priorities : Record → List ℕ → Record
with_priorities r priorities =
    record_of r.n r.m r.owners priorities r.offsets r.targets (fresh_count (take r.n priorities))

abbrev pub with_owners : Record → List ℕ → Record
with_owners r owners = record_of r.n r.m owners r.priorities r.offsets r.targets r.kept

abbrev pub with_targets : Record → List ℕ → Record
with_targets r targets = record_of r.n r.m r.owners r.priorities r.offsets targets r.kept

-- the one entry replaced
abbrev pub changed : Edit → Record → Record
changed (set_priority v p) r = with_priorities r (set r.priorities v p)
changed (set_owner v o) r = with_owners r (set r.owners v o)
changed (turn_edge e w) r = with_targets r (set r.targets e w)

-- what a verdict leaves: a refused edit changes nothing
abbrev pub left_by : Verdict → Edit → Record → Record
left_by none e r = changed e r
left_by (refused k p) e r = r

unfoldable pub edited : Edit → Record → Record
edited e r = left_by (edit_checks e r) e r

-- a sequence of edits, refused ones included
unfoldable pub edited_by : List Edit → Record → Record
edited_by [] r = r
edited_by (e ∷ es) r = edited_by es (edited e r)

-- the public functions that edit
pub record Edits (e : Edit) (before after : Record) (o : Outcome) : Type 0 where
  pub gives : o ≡ outcome (edit_checks e before) (answered 0)
  pub leaves : after ≡ edited e before

-- a fresh count: 1 to 8, then 9 for a kept that is not 258 long; kept is an output, so there is no 47
unfoldable pub fresh_checks : Record → Verdict
fresh_checks r = record_tables r then kept_room r.kept

abbrev pub kept_by : Verdict → Record → List ℕ
kept_by none r = fresh_count (take r.n r.priorities)
kept_by (refused k p) r = r.kept

-- the public function that counts
pub record CountsFresh (before : Record) (kept : List ℕ) (o : Outcome) : Type 0 where
  pub gives : o ≡ outcome (fresh_checks before) (answered 0)
  pub leaves : kept ≡ kept_by (fresh_checks before) before
