-- `pass_over`: what is left is kept while four words at a time have no bit.
use mathlib.Core.Path.{◌∙◌}
use Rattle.walk.specs.Steps.{left_four}
use borrow.Author.Rules.{rules}
use Rattle.walk.proofs.members.pass_over.Goals as goal

pub loop-at-preserved : goal.loop-at-preserved
loop-at-preserved c =
    let a = c.args in
    let l = c.loop-at in (
      l.invariant.0 ∙ left_four a.s a.base a.work.now c.requires.0 l.at c.loop-at-test.true c.if-work-i-ne0.false,
      search rules,
    )
