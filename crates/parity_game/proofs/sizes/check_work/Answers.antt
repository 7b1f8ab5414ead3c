-- `check_work` meets its contract.
use borrow.Author.Tests.{lt-ltb, le-ltb}
use Rattle.rules.specs.Tables.{check10}
use Rattle.parity_game.proofs.sizes.check_work.Goals as goal

pub returns-then-work-work_words : goal.returns-then-work-work_words
unfolding check10
returns-then-work-work_words c = simp (lt-ltb _ _ (rw c.work_words.ensures at c.if-work-work_words.true))

pub returns : goal.returns
unfolding check10
returns c = simp (le-ltb _ _ (rw c.work_words.ensures at c.if-work-work_words.false))
