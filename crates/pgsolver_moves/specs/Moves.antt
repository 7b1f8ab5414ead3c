-- What is done to the code's state when a class asks for it, over numbers alone.
use Rattle.std.specs.Prelude.{Result, Ok, Err, Bool, true, cond, ℕ, ◌+◌, ◌*◌, ◌%◌, eqb, ltb, leb, get_or}
use Rattle.rules.specs.Pgsolver.{parity_word}
use Rattle.rules.specs.Reading.{highest_number}
use Rattle.pgsolver_acts.specs.declared.state.Phase.{Phase}
use Rattle.pgsolver_acts.specs.declared.state.Phase.TheVariants.{InWord}
use Rattle.pgsolver_acts.specs.declared.state.Phase.TheVariants.{InIdentifier}
use Rattle.pgsolver_acts.specs.declared.state.Phase.TheVariants.{InTarget, PastTarget}
use Rattle.pgsolver_acts.specs.declared.state.State.{State}
use Rattle.pgsolver_acts.specs.declared.acts.Act.{Act}
use Rattle.pgsolver_acts.specs.declared.acts.Act.TheVariants.{Stay, Off, To, Spell, Begin, BeginIdentifier}
use Rattle.pgsolver_acts.specs.declared.acts.Act.TheVariants.{BeginTarget, More}
use Rattle.pgsolver_acts.specs.declared.acts.Act.TheVariants.{Head, Identify, Rank, Own, Aim, AimClose, Close}
use Rattle.pgsolver_moves.specs.declared.moves.Move.{Move}
use Rattle.pgsolver_moves.specs.declared.moves.Move.TheVariants as Moves
use Rattle.pgsolver_moves.specs.declared.moves.Stop.{Stop}
use Rattle.pgsolver_moves.specs.declared.moves.Stop.TheVariants as Stops
use Rattle.pgsolver_acts.specs.Shown.{to_phase, reading_on, headed_on, identified_on, ranked_on, owned_on, aimed_on, closed_on}

-- the value of a digit, and of a number with one digit more
abbrev pub digit_of : ℕ → ℕ
digit_of b = b % 16

abbrev pub grown : ℕ → ℕ → ℕ
grown v b = 10 * v + digit_of b

abbrev pub more_on : State → ℕ → Result Move Stop
more_on s b =
    cond (ltb highest_number (grown s.value b)) (Err Stops.Over) (Ok (Moves.On (reading_on s.phase (grown s.value b) s)))

abbrev pub begins_on : Bool → Phase → State → ℕ → Result Move Stop
begins_on room phase s b = cond room (Ok (Moves.On (reading_on phase (digit_of b) s))) (Err Stops.Over)

abbrev pub spelled_on : State → ℕ → ℕ → Result Move Stop
spelled_on s k b =
    cond (leb 6 k) (Err Stops.Off) (cond (eqb b (get_or parity_word k 0)) (Ok (Moves.On (to_phase (InWord (k + 1)) s))) (Err Stops.Off))

abbrev pub move_of : Act → State → ℕ → ℕ → ℕ → Result Move Stop
move_of Stay s b vertices edges = Ok (Moves.On s)
move_of Off s b vertices edges = Err Stops.Off
move_of (To phase) s b vertices edges = Ok (Moves.On (to_phase phase s))
move_of (Spell k) s b vertices edges = spelled_on s k b
move_of (Begin phase) s b vertices edges = begins_on true phase s b
move_of BeginIdentifier s b vertices edges = begins_on (ltb s.records vertices) InIdentifier s b
move_of BeginTarget s b vertices edges = begins_on (ltb s.edges edges) InTarget s b
move_of More s b vertices edges = more_on s b
move_of (Head phase) s b vertices edges = Ok (Moves.On (headed_on phase s))
move_of Identify s b vertices edges = Ok (Moves.On (identified_on s))
move_of Rank s b vertices edges = Ok (Moves.On (ranked_on s))
move_of Own s b vertices edges = Ok (Moves.On (owned_on s))
move_of (Aim phase) s b vertices edges = Ok (Moves.Aim (aimed_on phase s))
move_of AimClose s b vertices edges = Ok (Moves.AimClose (closed_on (aimed_on PastTarget s)))
move_of Close s b vertices edges = Ok (Moves.Close (closed_on s))
