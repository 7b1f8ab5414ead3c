-- What the code's own types mean in the words of the rules: the player that a `Player` is, and the number, place and count of
-- the table for each `Refusal` (13 is the solvers' own), and what an `Answer` and a check say.
use Rattle.std.specs.Prelude.{◌≡◌, refl, ℕ, zero, suc, Result, Ok, Err}
use Rattle.rules.specs.Game as Game
use Rattle.rules.specs.Outcome.{Outcome, answered, Verdict, none, refused}
use Rattle.parity_game.specs.declared.player.Player.{Player}
use Rattle.parity_game.specs.declared.player.Player.TheVariants.{Even, Odd}
use Rattle.parity_game.specs.declared.refusal.Refusal.{Refusal}
use Rattle.parity_game.specs.declared.refusal.Refusal.TheVariants.{TooManyVertices, TableLengths, TooManyEdges, BadOwner, BadPriority, BadOffset, BadTarget, DeadEnd, BadSize, ShortWork, OwnersDiffer, StrayBit, NotOneWinner, BadEntry, LeavesSet, LosingCycle, NoStrategy, BadText, BadIdentifier, BeyondLimit, NoVertex, ShortText, ShortOutput, NoSuchEntry, HighPriority, NoSuchTarget, NoSuchVertex, ShortList, NoLoop, KeptDiffer, NoSuchOwner, Again}

abbrev pub is : Player → Game.Player
is Even = Game.Player.Even
is Odd = Game.Player.Odd

-- number k at a place, with count 0
abbrev pub refusal : ℕ → ℕ → Outcome
refusal k place = record { number = k; place = place; count = 0 }

-- the number, place and count of the table for each refusal
abbrev pub refusal_of : Refusal → Outcome
refusal_of TooManyVertices = refusal 1 0
refusal_of TableLengths = refusal 2 0
refusal_of TooManyEdges = refusal 3 0
refusal_of (BadOwner v) = refusal 4 v.0
refusal_of (BadPriority v) = refusal 5 v.0
refusal_of (BadOffset at) = refusal 6 at
refusal_of (BadTarget at) = refusal 7 at
refusal_of (DeadEnd v) = refusal 8 v.0
refusal_of BadSize = refusal 9 0
refusal_of ShortWork = refusal 10 0
refusal_of OwnersDiffer = refusal 11 0
refusal_of (StrayBit at) = refusal 12 at
refusal_of (NotOneWinner at) = refusal 21 at
refusal_of (BadEntry v) = refusal 22 v.0
refusal_of (LeavesSet v) = refusal 23 v.0
refusal_of (LosingCycle v) = refusal 24 v.0
refusal_of (NoStrategy v) = refusal 25 v.0
refusal_of (BadText at) = refusal 30 at
refusal_of (BadIdentifier at) = refusal 31 at
refusal_of (BeyondLimit at) = refusal 32 at
refusal_of NoVertex = refusal 33 0
refusal_of (ShortText at) = refusal 34 at
refusal_of ShortOutput = refusal 35 0
refusal_of (NoSuchEntry at) = refusal 41 at
refusal_of (HighPriority at) = refusal 42 at
refusal_of (NoSuchTarget at) = refusal 43 at
refusal_of (NoSuchVertex at) = refusal 44 at
refusal_of ShortList = refusal 45 0
refusal_of (NoLoop v) = refusal 46 v.0
refusal_of KeptDiffer = refusal 47 0
refusal_of (NoSuchOwner at) = refusal 48 at
refusal_of (Again k place) = refusal k place

-- what an answer says: a count, or a refusal
abbrev pub said : Result ℕ Refusal → Outcome
said (Ok k) = answered k
said (Err e) = refusal_of e

-- what a check says: nothing, or the number and place of what it refuses
abbrev pub verdict : Result Unit Refusal → Verdict
verdict (Ok _) = none
verdict (Err e) = refused (refusal_of e).number (refusal_of e).place

pub odd_above_zero : (n : ℕ) → (n ≡ 0 → ⊥) → Game.Player.Odd ≡ Game.player_of n
odd_above_zero zero h = absurd (h refl)
odd_above_zero (suc n) h = refl
