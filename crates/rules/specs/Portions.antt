-- Files over a serial line: a text that comes in portions, with a small state between. What start, a portion and the end give and
-- leave is told of the bytes that came so far. What a state holds is free: `Meaning` is what the reader takes state and tables to
-- stand for, and where they stand for nothing only what is said of every call holds.
use Rattle.std.specs.Prelude.{◌||◌, not, List, [], ◌++◌, ◌≡◌, ℕ, ◌+◌, ◌<◌, eqb, ltb, length, drop, replicate}
use Rattle.rules.specs.Outcome.{Outcome, Verdict, none, refused, given, outcome, answered, ◌then◌, Unless}
use Rattle.rules.specs.Pgsolver.{unsaid, Viable}
use Rattle.rules.specs.Reading.{Limits, Over, Reads, Rooms, Written, limits_of, reading_words, room_checks, Told, game, kept_beside}
use Rattle.rules.specs.Record.{kept_room}

-- ---- the bytes so far

-- what they get while more may come: 30 or 32 where one of them is refused, and nothing while some text can follow within the limits
pub data SoFar (l : Limits) (bytes : List ℕ) : Verdict → Type 0 where
  stopped : {k p : ℕ} → p < length bytes → Reads l bytes (refused k p) unsaid [] → SoFar l bytes (refused k p)
  onward : Viable bytes → ((j : ℕ) → Over l bytes j → ⊥) → SoFar l bytes none

-- how far a reading is: at most so many bytes are read, and these came; or an outcome is there, with the sizes n and m
pub data Progress : Type 0 where
  reading : ℕ → List ℕ → Progress
  over : Outcome → ℕ → ℕ → Progress

-- what is handed from call to call
pub record LentBetween : Type 0 where
  pub state : List ℕ
  pub owners : List ℕ
  pub priorities : List ℕ
  pub offsets : List ℕ
  pub targets : List ℕ

abbrev pub Meaning : Type 1
Meaning = Progress → LentBetween → Type 0

-- the words of the state that are used
abbrev pub state_words : ℕ
state_words = 32

abbrev pub rooms_with : LentBetween → List ℕ → Rooms
rooms_with r work =
    record { owners = r.owners; priorities = r.priorities; offsets = r.offsets; targets = r.targets; work = work }

abbrev pub limits_with : ℕ → LentBetween → Limits
limits_with mostBytes r = limits_of mostBytes (rooms_with r [])

-- 9: rooms that do not fit each other; 10: a state that is too short
unfoldable pub lent_checks : LentBetween → Verdict
lent_checks r =
    given 9 0
    (not (eqb (length r.priorities) (length r.owners)) || not (eqb (length r.offsets) (length r.owners + 1))) then
    given 10 0 (ltb (length r.state) state_words)

-- at the end 10 is also a work area that is too short
unfoldable pub end_checks : LentBetween → List ℕ → Verdict
end_checks r work = room_checks (rooms_with r work) then given 10 0 (ltb (length r.state) state_words)

-- every call keeps the lengths, and the words of the state that are not used
pub record KeptBetween (before after : LentBetween) : Type 0 where
  pub owners : length after.owners ≡ length before.owners
  pub priorities : length after.priorities ≡ length before.priorities
  pub offsets : length after.offsets ≡ length before.offsets
  pub targets : length after.targets ≡ length before.targets
  pub state : length after.state ≡ length before.state
  pub behind : drop state_words after.state ≡ drop state_words before.state

-- every entry of the tables is zero
pub record Emptied (before after : LentBetween) : Type 0 where
  pub owners : after.owners ≡ replicate (length before.owners) 0
  pub priorities : after.priorities ≡ replicate (length before.priorities) 0
  pub offsets : after.offsets ≡ replicate (length before.offsets) 0
  pub targets : after.targets ≡ replicate (length before.targets) 0

-- ---- start

pub record Started (S : Meaning) (mostBytes : ℕ) (before after : LentBetween) (o : Outcome) : Type 0 where
  pub gives : o ≡ answered 0
  pub stands : S (reading mostBytes []) after
  pub kept : KeptBetween before after

abbrev pub StartsText : Meaning → ℕ → LentBetween → LentBetween → Outcome → Type 0
StartsText S mostBytes before after o = Unless (lent_checks before) o before after (Started S mostBytes before after o)

-- ---- a portion

-- 30 and 32 are given by the portion in which their byte stands, every entry is zero at once, and the outcome is there
abbrev pub Goes : Meaning → ℕ → List ℕ → LentBetween → LentBetween → Outcome → Verdict → Type 0
Goes S mostBytes bytes before after o none = (o ≡ answered 0) × S (reading mostBytes bytes) after
Goes S mostBytes bytes before after o (refused k p) =
    (o ≡ outcome (refused k p) (answered 0)) × Emptied before after × S (over o 0 0) after

pub record Further (S : Meaning) (mostBytes : ℕ) (bytes : List ℕ) (before after : LentBetween) (o : Outcome) : Type 0 where
  pub verdict : Verdict
  pub so_far : SoFar (limits_with mostBytes before) bytes verdict
  pub goes : Goes S mostBytes bytes before after o verdict

-- after a refusal or the end a portion changes nothing and gives that outcome again
pub record Portioned (S : Meaning) (portion : List ℕ) (before after : LentBetween) (o : Outcome) : Type 0 where
  pub further :
      (mostBytes : ℕ) (bytes : List ℕ) →
      S (reading mostBytes bytes) before →
      Further S mostBytes (bytes ++ portion) before after o
  pub again : (g : Outcome) (n m : ℕ) → S (over g n m) before → (o ≡ g) × (after ≡ before)
  pub kept : KeptBetween before after

abbrev pub ReadsPortion : Meaning → List ℕ → LentBetween → LentBetween → Outcome → Type 0
ReadsPortion S portion before after o = Unless (lent_checks before) o before after (Portioned S portion before after o)

-- ---- the end

pub record Closing : Type 0 where
  pub lent : LentBetween
  pub work : List ℕ
  pub n : ℕ
  pub m : ℕ

abbrev pub written_in : Closing → Written
written_in c = record { rooms = rooms_with c.lent c.work; n = c.n; m = c.m }

abbrev pub used_in : Closing → ℕ
used_in c = reading_words (rooms_with c.lent c.work)

-- what the text gets by the rules of reading it whole, and then that outcome is there
pub record Announced (S : Meaning) (mostBytes : ℕ) (bytes : List ℕ) (before after : Closing) (o : Outcome) : Type 0 where
  pub told : Told game mostBytes bytes (written_in before).rooms (written_in after) o
  pub stands : S (over o after.n after.m) after.lent

-- where an outcome is there already it is given again, with n and m; state and tables stay
pub record ClosedBy (S : Meaning) (before after : Closing) (o : Outcome) : Type 0 where
  pub ends :
      (mostBytes : ℕ) (bytes : List ℕ) →
      S (reading mostBytes bytes) before.lent →
      Announced S mostBytes bytes before after o
  pub again :
      (g : Outcome) (n m : ℕ) →
      S (over g n m) before.lent →
      (o ≡ g) ×
      (after ≡
      record {
        lent = before.lent;
        work = replicate (used_in before) 0 ++ drop (used_in before) before.work;
        n = n;
        m = m;
      })
  pub kept : KeptBetween before.lent after.lent
  pub behind : drop (used_in before) after.work ≡ drop (used_in before) before.work

abbrev pub EndsReading : Meaning → Closing → Closing → Outcome → Type 0
EndsReading S before after o = Unless (end_checks before.lent before.work) o before after (ClosedBy S before after o)

-- a closing with the kept numbers of a record
pub record ClosingRecord : Type 0 where
  pub closing : Closing
  pub kept : List ℕ

pub record ClosedRecord (S : Meaning) (before after : ClosingRecord) (o : Outcome) : Type 0 where
  pub closed : ClosedBy S before.closing after.closing o
  pub kept : after.kept ≡ kept_beside o after.closing.n after.closing.lent.priorities

-- the public function: 9 is also a kept that is not 258 long; called again it writes kept again, with n and m
abbrev pub EndsRecord : Meaning → ClosingRecord → ClosingRecord → Outcome → Type 0
EndsRecord S before after o =
    Unless (kept_room before.kept then end_checks before.closing.lent before.closing.work) o before after
    (ClosedRecord S before after o)

-- ---- all together

-- a start and then portions, each handed what the call before it left: the bytes that came, and what is lent now
pub data Session (S : Meaning) (mostBytes : ℕ) (first : LentBetween) : List ℕ → LentBetween → Type 0 where
  started :
      (after : LentBetween) (o : Outcome) →
      lent_checks first ≡ none →
      StartsText S mostBytes first after o →
      Session S mostBytes first [] after
  portion :
      (bytes p : List ℕ) (before after : LentBetween) (o : Outcome) →
      Session S mostBytes first bytes before →
      ReadsPortion S p before after o →
      Session S mostBytes first (bytes ++ p) after
