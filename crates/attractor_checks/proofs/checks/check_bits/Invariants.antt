-- `check_bits` meets its contract: no bit passed is a stray one, and the first that is decides.
use Rattle.parity_game.specs.Search.{FailsBelow}
use Rattle.attractor_checks.specs.Door.{stray}
use Rattle.attractor_checks.proofs.checks.check_bits.Given as goal

abbrev pub invariant-loop-b : goal.invariant-loop-b
invariant-loop-b l = FailsBelow l.b (stray l.n l.within l.target)
