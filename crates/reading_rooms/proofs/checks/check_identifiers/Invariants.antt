-- `check_identifiers` meets its contract. The loop's invariant: each identifier passed was seen once.
use mathlib.Core.Bool.{Bool, not}
use mathlib.Core.List.{List}
use Prim.Native.Nat.{ℕ}
use lib.Dec.{eqb}
use lib.ListN.{get_or}
use Rattle.grammar.specs.Waiting.{seen}
use Rattle.parity_game.specs.Search.{FailsBelow}
use Rattle.reading_rooms.proofs.checks.check_identifiers.Given as goal

abbrev pub wrong : List ℕ → ℕ → Bool
wrong offsets i = not (eqb (seen (get_or offsets i 0)) 1)

abbrev pub invariant-loop-i : goal.invariant-loop-i
invariant-loop-i l = FailsBelow l.i (wrong l.offsets)
