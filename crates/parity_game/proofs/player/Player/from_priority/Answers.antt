-- `from_priority` meets its contract.
use mathlib.Core.Path.{ap, sym}
use Rattle.rules.specs.Game.{player_of}
use Rattle.parity_game.specs.Said.{odd_above_zero}
use Rattle.parity_game.proofs.player.Player.from_priority.Goals as goal

pub returns-then-p-eq0 : goal.returns-then-p-eq0
returns-then-p-eq0 c = ap player_of (sym c.if-p-eq0.true)

pub returns-else-p-eq0 : goal.returns-else-p-eq0
returns-else-p-eq0 c = odd_above_zero _ c.if-p-eq0.false
