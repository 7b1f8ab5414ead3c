-- Compaction, as document 02's A8 has it: the lowest priority used becomes 0 or 1 by its parity; each next different one becomes
-- the last new number plus 1 if parity differs, and the same number if not. And what the function gives back and leaves, for
-- every input.
use Rattle.std.specs.Prelude.{cond, List, [], ◌∷◌, map, ◌≡◌, ℕ, zero, suc, ◌+◌, ◌%◌, eqb, length, get_or}
use Rattle.rules.specs.Counting.{Set, some}
use Rattle.rules.specs.Outcome.{Outcome, Verdict, none, refused, outcome, answered, ◌then◌}
use Rattle.rules.specs.Record.{kept_room, fresh_count}
use Rattle.rules.specs.Tables.{Tables, vertices, table_checks, check9}

-- some vertex has this priority
abbrev pub used : List ℕ → Set
used priorities p = some (length priorities) (λ v. eqb (get_or priorities v 0) p)

-- the new number of the highest used priority so far, if there is one
pub data Last : Type 0 where
  nothing : Last
  last : ℕ → Last

-- the new number of priority p after that
unfoldable pub next_number : Last → ℕ → ℕ
next_number nothing p = p % 2
next_number (last q) p = q + cond (eqb (q % 2) (p % 2)) 0 1

-- the last new number given to a used priority below p
unfoldable pub last_below : Set → ℕ → Last
last_below isUsed zero = nothing
last_below isUsed (suc p) =
    let before = last_below isUsed p in cond (isUsed p) (last (next_number before p)) before

-- the new number of a used priority
unfoldable pub compacted : List ℕ → ℕ → ℕ
compacted priorities p = next_number (last_below (used priorities) p) p

-- what is lent to write in: the new priority table, and its kept numbers
pub record LentCompacted : Type 0 where
  pub priorities : List ℕ
  pub kept : List ℕ

-- 1 to 9, for tables and what is lent
abbrev pub compaction_checks : Tables → LentCompacted → Verdict
compaction_checks t lent =
    table_checks t then check9 (vertices t) [] (length lent.priorities ∷ []) then kept_room lent.kept

-- the rule's new table
abbrev pub new_table : Tables → List ℕ
new_table t = map (compacted t.priorities) t.priorities

-- what a verdict leaves: all as it was after a refusal, else the new table and a fresh count of it
abbrev pub compacted_by : Verdict → Tables → LentCompacted → LentCompacted
compacted_by none t before = record { priorities = new_table t; kept = fresh_count (new_table t) }
compacted_by (refused k p) t before = before

-- the public function
pub record Compacts (t : Tables) (before after : LentCompacted) (o : Outcome) : Type 0 where
  pub gives : o ≡ outcome (compaction_checks t before) (answered 0)
  pub leaves : after ≡ compacted_by (compaction_checks t before) t before
