-- `give` meets its contract.
use mathlib.Core.Path.{ap}
use Rattle.rules.specs.Game.{Even, Odd}
use Rattle.parity_game.specs.Said.{is}
use Rattle.zielonka_level.specs.PiecesHold.{gave_even, gave_odd, gave_of}
use Rattle.zielonka_level.proofs.level.give.Goals as goal

pub returns-in-Even : goal.returns-in-Even
returns-in-Even c n size =
    gave_of Even (ap is c.in-Even.is) (gave_even c.difference_with.ensures n size)

pub returns-in-Odd : goal.returns-in-Odd
returns-in-Odd c n size =
    gave_of Odd (ap is c.in-Odd.is) (gave_odd c.union_with.ensures n size)
