-- `check_table` meets its contract.
use borrow.Author.Tests.{eq-eqb, ne_eqb}
use Rattle.rules.specs.Counting.{every_of}
use Rattle.rules.specs.Tables.{check9}
use Rattle.parity_game.proofs.sizes.check_table.Goals as goal

pub returns-then-table-n : goal.returns-then-table-n
unfolding check9 every_of
returns-then-table-n c = simp (ne_eqb _ _ c.if-table-n.true)

pub returns : goal.returns
unfolding check9 every_of
returns c = simp (eq-eqb _ _ c.if-table-n.false)
