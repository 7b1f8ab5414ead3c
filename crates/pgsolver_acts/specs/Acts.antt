-- What each class of byte asks for in each phase, as the code says it.
use Rattle.std.specs.Prelude.{cond, eqb}
use Rattle.grammar.specs.Machine as Machine
use Rattle.pgsolver_acts.specs.declared.state.Phase.{Phase}
use Rattle.pgsolver_acts.specs.declared.state.Phase.TheVariants.{AtStart, InWord, PastWord, InHighest, PastHighest}
use Rattle.pgsolver_acts.specs.declared.state.Phase.TheVariants.{BetweenRecords}
use Rattle.pgsolver_acts.specs.declared.state.Phase.TheVariants.{InIdentifier, PastIdentifier, InPriority}
use Rattle.pgsolver_acts.specs.declared.state.Phase.TheVariants.{PastPriority, InOwner, PastOwner}
use Rattle.pgsolver_acts.specs.declared.state.Phase.TheVariants.{InTarget, PastTarget, PastComma, InName, PastName}
use Rattle.pgsolver_acts.specs.declared.acts.Act.{Act}
use Rattle.pgsolver_acts.specs.declared.acts.Act.TheVariants.{Stay, Off, To, Spell, Begin, BeginIdentifier}
use Rattle.pgsolver_acts.specs.declared.acts.Act.TheVariants.{BeginTarget, More}
use Rattle.pgsolver_acts.specs.declared.acts.Act.TheVariants.{Head, Identify, Rank, Own, Aim, AimClose, Close}

-- a separator
abbrev pub on_separator : Phase → Act
on_separator AtStart = Stay
on_separator (InWord k) = cond (eqb k 6) (To PastWord) Off
on_separator PastWord = Stay
on_separator InHighest = Head PastHighest
on_separator PastHighest = Stay
on_separator BetweenRecords = Stay
on_separator InIdentifier = Identify
on_separator PastIdentifier = Stay
on_separator InPriority = Rank
on_separator PastPriority = Stay
on_separator InOwner = Own
on_separator PastOwner = Stay
on_separator InTarget = Aim PastTarget
on_separator PastTarget = Stay
on_separator PastComma = Stay
on_separator InName = Stay
on_separator PastName = Stay

-- a digit
abbrev pub on_digit : Phase → Act
on_digit AtStart = BeginIdentifier
on_digit (InWord k) = Off
on_digit PastWord = Begin InHighest
on_digit InHighest = More
on_digit PastHighest = Off
on_digit BetweenRecords = BeginIdentifier
on_digit InIdentifier = More
on_digit PastIdentifier = Begin InPriority
on_digit InPriority = More
on_digit PastPriority = Begin InOwner
on_digit InOwner = More
on_digit PastOwner = BeginTarget
on_digit InTarget = More
on_digit PastTarget = Off
on_digit PastComma = BeginTarget
on_digit InName = Stay
on_digit PastName = Off

-- a comma
abbrev pub on_comma : Phase → Act
on_comma AtStart = Off
on_comma (InWord k) = Off
on_comma PastWord = Off
on_comma InHighest = Off
on_comma PastHighest = Off
on_comma BetweenRecords = Off
on_comma InIdentifier = Off
on_comma PastIdentifier = Off
on_comma InPriority = Off
on_comma PastPriority = Off
on_comma InOwner = Off
on_comma PastOwner = Off
on_comma InTarget = Aim PastComma
on_comma PastTarget = To PastComma
on_comma PastComma = Off
on_comma InName = Stay
on_comma PastName = Off

-- a semicolon
abbrev pub on_semicolon : Phase → Act
on_semicolon AtStart = Off
on_semicolon (InWord k) = Off
on_semicolon PastWord = Off
on_semicolon InHighest = Head BetweenRecords
on_semicolon PastHighest = To BetweenRecords
on_semicolon BetweenRecords = Off
on_semicolon InIdentifier = Off
on_semicolon PastIdentifier = Off
on_semicolon InPriority = Off
on_semicolon PastPriority = Off
on_semicolon InOwner = Off
on_semicolon PastOwner = Off
on_semicolon InTarget = AimClose
on_semicolon PastTarget = Close
on_semicolon PastComma = Off
on_semicolon InName = Stay
on_semicolon PastName = Close

-- a quote
abbrev pub on_quote : Phase → Act
on_quote AtStart = Off
on_quote (InWord k) = Off
on_quote PastWord = Off
on_quote InHighest = Off
on_quote PastHighest = Off
on_quote BetweenRecords = Off
on_quote InIdentifier = Off
on_quote PastIdentifier = Off
on_quote InPriority = Off
on_quote PastPriority = Off
on_quote InOwner = Off
on_quote PastOwner = Off
on_quote InTarget = Aim InName
on_quote PastTarget = To InName
on_quote PastComma = Off
on_quote InName = To PastName
on_quote PastName = Off

-- a letter
abbrev pub on_letter : Phase → Act
on_letter AtStart = Spell 0
on_letter (InWord k) = Spell k
on_letter PastWord = Off
on_letter InHighest = Off
on_letter PastHighest = Off
on_letter BetweenRecords = Off
on_letter InIdentifier = Off
on_letter PastIdentifier = Off
on_letter InPriority = Off
on_letter PastPriority = Off
on_letter InOwner = Off
on_letter PastOwner = Off
on_letter InTarget = Off
on_letter PastTarget = Off
on_letter PastComma = Off
on_letter InName = Stay
on_letter PastName = Off

-- one of the rest
abbrev pub on_other : Phase → Act
on_other AtStart = Off
on_other (InWord k) = Off
on_other PastWord = Off
on_other InHighest = Off
on_other PastHighest = Off
on_other BetweenRecords = Off
on_other InIdentifier = Off
on_other PastIdentifier = Off
on_other InPriority = Off
on_other PastPriority = Off
on_other InOwner = Off
on_other PastOwner = Off
on_other InTarget = Off
on_other PastTarget = Off
on_other PastComma = Off
on_other InName = Stay
on_other PastName = Off

abbrev pub act_on : Machine.Class → Phase → Act
act_on Machine.separator_byte phase = on_separator phase
act_on Machine.digit_byte phase = on_digit phase
act_on Machine.comma_byte phase = on_comma phase
act_on Machine.semicolon_byte phase = on_semicolon phase
act_on Machine.quote_byte phase = on_quote phase
act_on Machine.letter_byte phase = on_letter phase
act_on Machine.other_byte phase = on_other phase
