-- `recount` meets its contract: one count is lowered, one raised, and they are summed up.
use mathlib.Core.Path.{◌∙◌}
use Prim.Native.Nat.{◌+◌, ◌-◌}
use native.Mathlib.Omega.{arith}
use lib.ListN.{get_or, length-set}
use Rattle.theory.specs.Counts.{lowered}
use Rattle.kept_numbers.specs.Steps.{lowered_few}
use Rattle.kept_numbers.proofs.recount.Goals as goal

pub bounds-kept-new : goal.bounds-kept-new
bounds-kept-new c = simp length-set (omega (arith, c.requires.long, c.requires.new_small))

pub overflow_add-kept : goal.overflow_add-kept
overflow_add-kept c =
    let at = c.before.before.before in
    record { fits = omega (arith, lowered_few at.args.kept.now at.args.old at.args.new at.requires) }

pub bounds-kept-new-2 : goal.bounds-kept-new-2
bounds-kept-new-2 c = simp length-set (omega (arith, c.requires.long, c.requires.new_small))

pub shape_of-kept : goal.shape_of-kept
shape_of-kept c =
    let args = c.args in
    let kept = args.kept.now in
    let down = lowered kept args.old in
    c.sum_up.auto.kept ∙ length-set down args.new (get_or down args.new 0 + 1) ∙
    length-set kept args.old (get_or kept args.old 0 - 1)
