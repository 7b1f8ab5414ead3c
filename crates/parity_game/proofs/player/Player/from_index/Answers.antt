-- `from_index` meets its contract.
use Rattle.parity_game.specs.Said.{odd_above_zero}
use Rattle.parity_game.proofs.player.Player.from_index.Goals as goal

pub returns-else-i-eq0 : goal.returns-else-i-eq0
returns-else-i-eq0 c = odd_above_zero _ c.if-i-eq0.false
