-- `opponent_of` meets its contract.
use mathlib.Core.Path.{ap, ◌∙◌}
use Rattle.rules.specs.Game.{opponent}
use Rattle.zielonka_level.proofs.level.opponent_of.Goals as goal

pub returns : goal.returns
returns c = c.opponent.ensures ∙ ap opponent c.from_priority.ensures
