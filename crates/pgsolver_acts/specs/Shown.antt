-- What the code's own types mean in the words of the machine, and what its steps do to a state.
use Rattle.std.specs.Prelude.{Bool, true, false, ℕ, ◌+◌, ◌%◌, length}
use Rattle.rules.specs.Pgsolver.{Header, unsaid, highest}
use Rattle.rules.specs.Reading.{targets_in}
use Rattle.grammar.specs.Machine as Machine
use Rattle.grammar.specs.Machine.{targets_read}
use Rattle.pgsolver_acts.specs.declared.class.Class.{Class}
use Rattle.pgsolver_acts.specs.declared.class.Class.TheVariants.{Separator, Digit, Comma, Semicolon, Quote, Letter, Other}
use Rattle.pgsolver_acts.specs.declared.state.Phase.{Phase}
use Rattle.pgsolver_acts.specs.declared.state.Phase.TheVariants.{AtStart, InWord, PastWord, InHighest, PastHighest}
use Rattle.pgsolver_acts.specs.declared.state.Phase.TheVariants.{BetweenRecords}
use Rattle.pgsolver_acts.specs.declared.state.Phase.TheVariants.{InIdentifier, PastIdentifier, InPriority}
use Rattle.pgsolver_acts.specs.declared.state.Phase.TheVariants.{PastPriority, InOwner, PastOwner}
use Rattle.pgsolver_acts.specs.declared.state.Phase.TheVariants.{InTarget, PastTarget, PastComma, InName, PastName}
use Rattle.pgsolver_acts.specs.declared.state.State.{State}

abbrev pub class_in : Class → Machine.Class
class_in Separator = Machine.separator_byte
class_in Digit = Machine.digit_byte
class_in Comma = Machine.comma_byte
class_in Semicolon = Machine.semicolon_byte
class_in Quote = Machine.quote_byte
class_in Letter = Machine.letter_byte
class_in Other = Machine.other_byte

-- ---- the state that the code keeps of a machine

abbrev pub phase_of : Machine.Phase → Phase
phase_of Machine.at_start = AtStart
phase_of (Machine.in_word k) = InWord k
phase_of Machine.past_word = PastWord
phase_of Machine.in_highest = InHighest
phase_of Machine.past_highest = PastHighest
phase_of Machine.between_records = BetweenRecords
phase_of Machine.in_identifier = InIdentifier
phase_of Machine.past_identifier = PastIdentifier
phase_of Machine.in_priority = InPriority
phase_of Machine.past_priority = PastPriority
phase_of Machine.in_owner = InOwner
phase_of Machine.past_owner = PastOwner
phase_of Machine.in_target = InTarget
phase_of Machine.past_target = PastTarget
phase_of Machine.past_comma = PastComma
phase_of Machine.in_name = InName
phase_of Machine.past_name = PastName

abbrev pub is_said : Header → Bool
is_said unsaid = false
is_said (highest k) = true

-- N, or 0 where the text does not say it
abbrev pub said_of : Header → ℕ
said_of unsaid = 0
said_of (highest k) = k

abbrev pub state_of : Machine.Machine → State
state_of s =
    record {
      phase = phase_of s.phase;
      said = is_said s.header;
      highest = said_of s.header;
      records = length s.entries;
      edges = targets_read s;
      identifier = s.current.identifier;
      priority = s.current.priority;
      owner = s.current.owner;
      begins = targets_in s.entries;
      value = s.value;
    }

-- ---- what the code's steps do to it

-- one more; a count is far below 32,768
abbrev pub counted : ℕ → ℕ
counted k = k % 32768 + 1

abbrev pub to_phase : Phase → State → State
to_phase phase s =
    record {
      phase = phase;
      said = s.said;
      highest = s.highest;
      records = s.records;
      edges = s.edges;
      identifier = s.identifier;
      priority = s.priority;
      owner = s.owner;
      begins = s.begins;
      value = s.value;
    }

abbrev pub reading_on : Phase → ℕ → State → State
reading_on phase v s =
    record {
      phase = phase;
      said = s.said;
      highest = s.highest;
      records = s.records;
      edges = s.edges;
      identifier = s.identifier;
      priority = s.priority;
      owner = s.owner;
      begins = s.begins;
      value = v;
    }

abbrev pub headed_on : Phase → State → State
headed_on phase s =
    record {
      phase = phase;
      said = true;
      highest = s.value;
      records = s.records;
      edges = s.edges;
      identifier = s.identifier;
      priority = s.priority;
      owner = s.owner;
      begins = s.begins;
      value = 0;
    }

abbrev pub identified_on : State → State
identified_on s =
    record {
      phase = PastIdentifier;
      said = s.said;
      highest = s.highest;
      records = s.records;
      edges = s.edges;
      identifier = s.value;
      priority = 0;
      owner = 0;
      begins = s.begins;
      value = 0;
    }

abbrev pub ranked_on : State → State
ranked_on s =
    record {
      phase = PastPriority;
      said = s.said;
      highest = s.highest;
      records = s.records;
      edges = s.edges;
      identifier = s.identifier;
      priority = s.value;
      owner = 0;
      begins = s.begins;
      value = 0;
    }

abbrev pub owned_on : State → State
owned_on s =
    record {
      phase = PastOwner;
      said = s.said;
      highest = s.highest;
      records = s.records;
      edges = s.edges;
      identifier = s.identifier;
      priority = s.priority;
      owner = s.value;
      begins = s.begins;
      value = 0;
    }

abbrev pub aimed_on : Phase → State → State
aimed_on phase s =
    record {
      phase = phase;
      said = s.said;
      highest = s.highest;
      records = s.records;
      edges = counted s.edges;
      identifier = s.identifier;
      priority = s.priority;
      owner = s.owner;
      begins = s.begins;
      value = 0;
    }

abbrev pub closed_on : State → State
closed_on s =
    record {
      phase = BetweenRecords;
      said = s.said;
      highest = s.highest;
      records = counted s.records;
      edges = s.edges;
      identifier = 0;
      priority = 0;
      owner = 0;
      begins = s.edges;
      value = 0;
    }
