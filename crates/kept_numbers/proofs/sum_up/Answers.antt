-- `sum_up` meets its contract. The loop's invariant: the counts passed are looked at.
use mathlib.Core.Path.{◌≡◌}
use native.Mathlib.Omega.{arith}
use Rattle.kept_numbers.specs.Steps.{summed_none, summed_some, summed_zero, summed_all}
use borrow.Author.Rules.{rules}
use Rattle.kept_numbers.proofs.sum_up.Goals as goal
use Rattle.kept_numbers.proofs.sum_up.Goals.{then-kept-p-ne0, else-kept-p-ne0}

pub loop-p-init : goal.loop-p-init
loop-p-init c = (search rules, search rules, summed_none _)

pub loop-p-preserved : goal.loop-p-preserved
loop-p-preserved c =
    let at = c.before.before.before.before in
    let kept = at.args.kept.now in
    elim c.if-kept-p-ne0.branch [
      | then-kept-p-ne0 w ↦
          rw (w.different-is, w.highest-is) (
            search rules,
            search rules,
            summed_some at.loop-p.p kept at.loop-p.different at.loop-p.highest at.loop-p.invariant.2 w.if-kept-p-ne0.true,
          )
      | else-kept-p-ne0 w ↦
          rw (w.different-is, w.highest-is) (
            search rules,
            search rules,
            summed_zero at.loop-p.p kept at.loop-p.different at.loop-p.highest at.loop-p.invariant.2 w.if-kept-p-ne0.false,
          )
    ]

pub returns : goal.returns
returns c =
    let at = c.before in
    let done : at.loop-p.p ≡ 256 = omega arith in
    summed_all at.args.kept.now at.loop-p.different at.loop-p.highest at.requires (rw done at at.loop-p.invariant.2)
