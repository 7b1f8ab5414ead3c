-- `check_set` meets its contract.
use mathlib.Core.Path.{◌∙◌, sym}
use borrow.Author.Tests.{eq-eqb, ne_eqb}
use Rattle.rules.specs.Counting.{every_of}
use Rattle.rules.specs.Tables.{check9}
use Rattle.parity_game.proofs.sizes.check_set.Goals as goal

pub returns-then-set-set_words : goal.returns-then-set-set_words
unfolding check9 every_of
returns-then-set-set_words c = simp (ne_eqb _ _ (λ e. c.if-set-set_words.true (e ∙ sym c.set_words.ensures)))

pub returns : goal.returns
unfolding check9 every_of
returns c = simp (eq-eqb _ _ (c.if-set-set_words.false ∙ c.set_words.ensures))
