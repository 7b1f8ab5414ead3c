-- `next`: what is left is kept while words with no bit left are passed over. Then the lowest set bit is the next member.
use mathlib.Core.Path.{refl, ◌∙◌}
use native.Mathlib.Omega.{arith}
use Rattle.walk.specs.Steps.{left_done, left_over, left_member}
use Rattle.walk.specs.Walk.{words_from}
use borrow.Author.Rules.{rules}
use Rattle.walk.proofs.members.Members.next.Goals as goal
use Rattle.walk.proofs.members.Members.next.Goals.{then-word-eq0, else-word-eq0}

pub loop-word-init : goal.loop-word-init
loop-word-init c =
    elim c.if-word-eq0.branch [
      | then-word-eq0 w ↦ (rw (w.if-word-eq0.true, w.at-is) w.pass_over-at.ensures.0, omega arith)
      | else-word-eq0 w ↦ (rw w.at-is refl, omega arith)
    ]

pub returns-then-s-at : goal.returns-then-s-at
returns-then-s-at c = (
  rw c.loop-word-test.true at c.loop-word.invariant.0 ∙
      left_done c.args.s c.args.base c.args.work.now c.requires.0 c.loop-word.at c.if-s-at.true,
  refl,
)

pub loop-word-preserved : goal.loop-word-preserved
loop-word-preserved c = (
  rw c.loop-word-test.true at c.loop-word.invariant.0 ∙
      left_over c.args.s c.args.base c.args.work.now c.requires.0 c.loop-word.at c.if-s-at.false,
  search rules,
)

pub returns : goal.returns
returns c =
    let l = c.loop-word in (
      l.invariant.0 ∙ left_member (words_from c.args.s c.args.base c.args.work.now) l.at l.word (search rules) c.loop-word-test.false,
      l.invariant.1,
    )
