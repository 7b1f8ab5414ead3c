-- `reckonbough_check` meets its contract: the record is checked first, and past that what is told and left is what `check`
-- answers and leaves for the entries that count.
use mathlib.Core.Path.{sym}
use Prim.Native.Nat.{◌+◌}
use native.Mathlib.Omega.{arith}
use Rattle.std.proofs.Common.{length-take}
use Rattle.parity_game.specs.Said.{said}
use Rattle.rules.specs.Checker.{Checks}
use Rattle.theory.specs.Edits.{passing}
use Rattle.record.specs.ByRecord.{refusal_first, done_first}
use Rattle.reckonbough_checker.proofs.certificate.reckonbough_check.Goals as goal

pub slice_bounds-check-end : goal.slice_bounds-check-end
slice_bounds-check-end c =
    omega (arith, length-take c.args.n c.args.owners.now, (passing _ (sym c.in-Ok.ensures)).room.owner_room)

pub slice_bounds-check-end-in-Ok : goal.slice_bounds-check-end-in-Ok
slice_bounds-check-end-in-Ok c =
    omega (arith, length-take c.args.n c.args.priorities.now, (passing _ (sym c.in-Ok.ensures)).room.priority_room)

pub overflow_add-n : goal.overflow_add-n
overflow_add-n c = omega (arith, (passing _ (sym c.in-Ok.ensures)).room.few_vertices)

pub slice_bounds-check-end-in-Ok-2 : goal.slice_bounds-check-end-in-Ok-2
slice_bounds-check-end-in-Ok-2 c =
    omega (arith, length-take (c.args.n + 1) c.args.offsets.now, (passing _ (sym c.in-Ok.ensures)).room.offset_room)

pub slice_bounds-check-end-in-Ok-3 : goal.slice_bounds-check-end-in-Ok-3
slice_bounds-check-end-in-Ok-3 c =
    omega (arith, length-take c.args.m c.args.targets.now, (passing _ (sym c.in-Ok.ensures)).room.target_room)

pub check-done-requires : goal.check-done-requires
check-done-requires c = let p = passing _ (sym c.in-Ok.ensures) in (p.accepted, p.fresh)

-- what is told and left past the check of the record
pub returns-in-Ok : goal.returns-in-Ok
returns-in-Ok c =
    let at = c.args in
    done_first _ _ _
    (λ o t. Checks t at.even.now at.odd.now at.strategy.now at.work.now c.check-done.new.work o)
    (said c.check-done.result)
    (sym c.in-Ok.ensures)
    c.check-done.ensures
    c.tell.ensures

pub returns-in-Err : goal.returns-in-Err
returns-in-Err c =
    let at = c.args in
    refusal_first _ _ (λ o t. Checks t at.even.now at.odd.now at.strategy.now at.work.now at.work.now o) c.in-Err.refused c.in-Err.ensures
    c.tell-in-Err.ensures
