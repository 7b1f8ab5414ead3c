-- `set_words` meets its contract.
use native.Mathlib.Omega.{arith}
use Rattle.rules.specs.Tables.{words}
use Rattle.parity_game.proofs.sizes.set_words.Goals as goal

pub returns : goal.returns
unfolding words
returns c = omega arith
