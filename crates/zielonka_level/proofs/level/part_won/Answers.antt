-- `part_won` meets its contract.
use mathlib.Core.Path.{ap}
use Rattle.rules.specs.Game.{Even, Odd}
use Rattle.parity_game.specs.Said.{is}
use Rattle.zielonka_level.specs.PiecesHold.{part_of}
use Rattle.zielonka_level.proofs.level.part_won.Goals as goal

pub returns-in-Even : goal.returns-in-Even
returns-in-Even c n size = part_of Even (ap is c.in-Even.is) (c.without.ensures n size)

pub returns-in-Odd : goal.returns-in-Odd
returns-in-Odd c n size = part_of Odd (ap is c.in-Odd.is) (c.meet.ensures n size)
