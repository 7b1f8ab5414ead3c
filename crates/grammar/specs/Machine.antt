-- A machine that reads a text byte by byte: the class of a byte, then one step by class and phase. It is what the reader's code
-- computes; the grammar of the rules knows nothing of it.
use Rattle.std.specs.Prelude.{Bool, true, false, ◌&&◌, ◌||◌, cond, List, [], ◌∷◌, ◌++◌, ℕ, suc, ◌+◌, ◌-◌, ◌*◌, eqb, ltb, leb, length, get_or}
use Rattle.rules.specs.Outcome.{Verdict, none, refused}
use Rattle.rules.specs.Pgsolver.{separates, is_digit, quote, comma, semicolon, parity_word, Entry, with_target, Header, unsaid, highest}
use Rattle.rules.specs.Reading.{Limits, highest_number, targets_in}

-- ---- classes

pub data Class : Type 0 where
  separator_byte digit_byte comma_byte semicolon_byte quote_byte letter_byte other_byte : Class

abbrev pub is_letter : ℕ → Bool
is_letter b = leb 65 b && leb b 90 || leb 97 b && leb b 122

-- the class that each byte falls into
unfoldable pub class_of : ℕ → Class
class_of b =
    cond (separates b) separator_byte
    (cond (is_digit b) digit_byte
    (cond (eqb b comma) comma_byte
    (cond (eqb b semicolon) semicolon_byte (cond (eqb b quote) quote_byte (cond (is_letter b) letter_byte other_byte)))))

-- ---- phases

-- where in a text the machine is: in a piece, or past it
pub data Phase : Type 0 where
  -- separators alone so far
  at_start : Phase
  -- so many letters of `parity`, one to six
  in_word : ℕ → Phase
  -- the separator behind it
  past_word : Phase
  in_highest past_highest : Phase
  -- behind the semicolon of the header or of a record
  between_records : Phase
  in_identifier past_identifier in_priority past_priority in_owner past_owner in_target past_target past_comma in_name past_name : Phase

-- what the machine has read: the whole records, the one that it is in, and the number that it is in
pub record Machine : Type 0 where
  pub phase : Phase
  pub header : Header
  pub entries : List Entry
  pub current : Entry
  pub value : ℕ

abbrev pub no_entry_yet : Entry
no_entry_yet = record { identifier = 0; priority = 0; owner = 0; targets = [] }

-- before the first byte
abbrev pub at_first : Machine
at_first = record { phase = at_start; header = unsaid; entries = []; current = no_entry_yet; value = 0 }

-- ---- what a step does

-- in another phase
abbrev pub to : Phase → Machine → Machine
to phase s =
    record { phase = phase; header = s.header; entries = s.entries; current = s.current; value = s.value }

-- in a number whose value so far is v
abbrev pub reading : Phase → ℕ → Machine → Machine
reading phase v s =
    record { phase = phase; header = s.header; entries = s.entries; current = s.current; value = v }

-- N is read
abbrev pub headed : Phase → Machine → Machine
headed phase s =
    record { phase = phase; header = highest s.value; entries = s.entries; current = s.current; value = 0 }

-- a number of the record is read
abbrev pub with : Phase → Entry → Machine → Machine
with phase e s = record { phase = phase; header = s.header; entries = s.entries; current = e; value = 0 }

abbrev pub identified : Machine → Machine
identified s =
    with past_identifier (record { identifier = s.value; priority = 0; owner = 0; targets = [] }) s

abbrev pub ranked : Machine → Machine
ranked s =
    with past_priority (record { identifier = s.current.identifier; priority = s.value; owner = 0; targets = [] }) s

abbrev pub owned : Machine → Machine
owned s =
    with past_owner
    (record { identifier = s.current.identifier; priority = s.current.priority; owner = s.value; targets = [] })
    s

abbrev pub aimed : Phase → Machine → Machine
aimed phase s = with phase (with_target s.current s.value) s

-- the record is whole
abbrev pub closed : Machine → Machine
closed s =
    record {
      phase = between_records;
      header = s.header;
      entries = s.entries ++ (s.current ∷ []);
      current = no_entry_yet;
      value = 0;
    }

-- ---- one step

-- the machine goes on; no text of the grammar can follow; or the byte goes beyond a limit
pub data Went : Type 0 where
  on : Machine → Went
  off : Went
  over : Went

-- one case for each class, in this order
abbrev pub by_class : Class → Went → Went → Went → Went → Went → Went → Went → Went
by_class separator_byte s d c e q l o = s
by_class digit_byte s d c e q l o = d
by_class comma_byte s d c e q l o = c
by_class semicolon_byte s d c e q l o = e
by_class quote_byte s d c e q l o = q
by_class letter_byte s d c e q l o = l
by_class other_byte s d c e q l o = o

-- the value of a number with one digit more
abbrev pub longer : ℕ → ℕ → ℕ
longer v b = 10 * v + (b - 48)

-- how many targets have been read
abbrev pub targets_read : Machine → ℕ
targets_read s = targets_in s.entries + length s.current.targets

-- a digit more, unless it takes the number above 65,535
abbrev pub more : Phase → Machine → ℕ → Went
more phase s b = cond (ltb highest_number (longer s.value b)) over (on (reading phase (longer s.value b) s))

-- the first digit of a number, where the limit leaves room for it
abbrev pub begins : Bool → Phase → Machine → ℕ → Went
begins room phase s b = cond room (on (reading phase (b - 48) s)) over

-- one step from a phase
unfoldable pub step_from : Phase → Limits → Machine → ℕ → Class → Went
step_from at_start l s b c =
    by_class c (on s) (begins (ltb (length s.entries) l.vertices) in_identifier s b) off off off
    (cond (eqb b (get_or parity_word 0 0)) (on (to (in_word 1) s)) off)
    off
step_from (in_word k) l s b c =
    by_class c (cond (eqb k 6) (on (to past_word s)) off) off off off off
    (cond (eqb b (get_or parity_word k 0)) (on (to (in_word (suc k)) s)) off)
    off
step_from past_word l s b c = by_class c (on s) (begins true in_highest s b) off off off off off
step_from in_highest l s b c =
    by_class c (on (headed past_highest s)) (more in_highest s b) off (on (headed between_records s)) off off off
step_from past_highest l s b c = by_class c (on s) off off (on (to between_records s)) off off off
step_from between_records l s b c =
    by_class c (on s) (begins (ltb (length s.entries) l.vertices) in_identifier s b) off off off off off
step_from in_identifier l s b c = by_class c (on (identified s)) (more in_identifier s b) off off off off off
step_from past_identifier l s b c = by_class c (on s) (begins true in_priority s b) off off off off off
step_from in_priority l s b c = by_class c (on (ranked s)) (more in_priority s b) off off off off off
step_from past_priority l s b c = by_class c (on s) (begins true in_owner s b) off off off off off
step_from in_owner l s b c = by_class c (on (owned s)) (more in_owner s b) off off off off off
step_from past_owner l s b c =
    by_class c (on s) (begins (ltb (targets_read s) l.edges) in_target s b) off off off off off
step_from in_target l s b c =
    by_class c (on (aimed past_target s)) (more in_target s b) (on (aimed past_comma s)) (on (closed (aimed past_target s)))
    (on (aimed in_name s))
    off
    off
step_from past_target l s b c = by_class c (on s) off (on (to past_comma s)) (on (closed s)) (on (to in_name s)) off off
step_from past_comma l s b c =
    by_class c (on s) (begins (ltb (targets_read s) l.edges) in_target s b) off off off off off
step_from in_name l s b c = by_class c (on s) (on s) (on s) (on s) (on (to past_name s)) (on s) (on s)
step_from past_name l s b c = by_class c (on s) off off (on (closed s)) off off off

-- one step at place k: a byte beyond the limit on bytes is over, whatever it is
unfoldable pub step_at : Limits → ℕ → Machine → ℕ → Went
step_at l k s b = cond (ltb k l.bytes) (step_from s.phase l s b (class_of b)) over

-- ---- the whole text

-- still reading, or a verdict
pub data Run : Type 0 where
  live : Machine → Run
  ended : Verdict → Run

unfoldable pub next : Limits → ℕ → Run → ℕ → Run
next l k (ended v) b = ended v
next l k (live s) b = elim (step_at l k s b) [ on t ↦ live t | off ↦ ended (refused 30 k) | over ↦ ended (refused 32 k) ]

-- the bytes from place k on
unfoldable pub run_from : Limits → ℕ → Run → List ℕ → Run
run_from l k r [] = r
run_from l k r (b ∷ bs) = run_from l (suc k) (next l k r b) bs

-- a text may end between records, once there is one
abbrev pub may_end : Phase → List Entry → Bool
may_end at_start es = false
may_end (in_word k) es = false
may_end past_word es = false
may_end in_highest es = false
may_end past_highest es = false
may_end between_records es = ltb 0 (length es)
may_end in_identifier es = false
may_end past_identifier es = false
may_end in_priority es = false
may_end past_priority es = false
may_end in_owner es = false
may_end past_owner es = false
may_end in_target es = false
may_end past_target es = false
may_end past_comma es = false
may_end in_name es = false
may_end past_name es = false

-- what the end of the text, at place k, makes of a run
pub record Read : Type 0 where
  pub verdict : Verdict
  pub header : Header
  pub entries : List Entry

abbrev pub nothing_read : Verdict → Read
nothing_read v = record { verdict = v; header = unsaid; entries = [] }

unfoldable pub end_of : ℕ → Run → Read
end_of k (ended v) = nothing_read v
end_of k (live s) =
    cond (may_end s.phase s.entries)
    (record { verdict = none; header = s.header; entries = s.entries })
    (nothing_read (refused 30 k))

-- the whole reading
abbrev pub reading_of : Limits → List ℕ → Read
reading_of l text = end_of (length text) (run_from l 0 (live at_first) text)
