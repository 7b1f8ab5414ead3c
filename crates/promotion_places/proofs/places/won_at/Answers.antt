-- `won_at` meets its contract: for each player its own set.
use mathlib.Core.Path.{sym, ap}
use Prim.Native.Nat.{ℕ}
use Rattle.parity_game.specs.Said.{is}
use Rattle.parity_game.specs.declared.player.Player.{Player}
use Rattle.promotion_places.specs.Layout.{won_behind}
use Rattle.promotion_places.proofs.places.won_at.Lts as lts
use Rattle.promotion_places.proofs.places.won_at.Reads as reads
use Rattle.promotion_places.proofs.places.won_at.Goals as goal

abbrev AtStart : Type 0
AtStart = lts.Start reads.Pre reads.Post

-- where the set of a player stands
abbrev behind : AtStart → Player → ℕ
behind g q = won_behind g.args.s g.args.held (is q)

pub returns-in-Even : goal.returns-in-Even
returns-in-Even c = ap (behind c.before) (sym c.in-Even.is)

pub returns-in-Odd : goal.returns-in-Odd
returns-in-Odd c = ap (behind c.before) (sym c.in-Odd.is)
