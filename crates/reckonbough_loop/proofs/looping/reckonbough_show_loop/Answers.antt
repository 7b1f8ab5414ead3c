-- `reckonbough_show_loop` meets its contract: the record is checked first, and past that what is told and written is what
-- `show_loop` answers and writes for the entries that count.
use mathlib.Core.Path.{sym}
use Prim.Native.Nat.{◌+◌}
use native.Mathlib.Omega.{arith}
use Rattle.std.proofs.Common.{length-take}
use Rattle.parity_game.specs.Said.{said}
use Rattle.rules.specs.Loop.{LentRun, ShowsLoop}
use Rattle.show_loop.specs.Running.{lent_of}
use Rattle.theory.specs.Edits.{passing}
use Rattle.record.specs.ByRecord.{refusal_first, done_first}
use Rattle.reckonbough_loop.proofs.looping.reckonbough_show_loop.Goals as goal

pub slice_bounds-show_loop-end : goal.slice_bounds-show_loop-end
slice_bounds-show_loop-end c =
    omega (arith, length-take c.args.n c.args.owners.now, (passing _ (sym c.in-Ok.ensures)).room.owner_room)

pub slice_bounds-show_loop-end-in-Ok : goal.slice_bounds-show_loop-end-in-Ok
slice_bounds-show_loop-end-in-Ok c =
    omega (arith, length-take c.args.n c.args.priorities.now, (passing _ (sym c.in-Ok.ensures)).room.priority_room)

pub overflow_add-n : goal.overflow_add-n
overflow_add-n c = omega (arith, (passing _ (sym c.in-Ok.ensures)).room.few_vertices)

pub slice_bounds-show_loop-end-in-Ok-2 : goal.slice_bounds-show_loop-end-in-Ok-2
slice_bounds-show_loop-end-in-Ok-2 c =
    omega (arith, length-take (c.args.n + 1) c.args.offsets.now, (passing _ (sym c.in-Ok.ensures)).room.offset_room)

pub slice_bounds-show_loop-end-in-Ok-3 : goal.slice_bounds-show_loop-end-in-Ok-3
slice_bounds-show_loop-end-in-Ok-3 c =
    omega (arith, length-take c.args.m c.args.targets.now, (passing _ (sym c.in-Ok.ensures)).room.target_room)

pub show_loop-done-requires : goal.show_loop-done-requires
show_loop-done-requires c = let p = passing _ (sym c.in-Ok.ensures) in (p.accepted, p.fresh)

-- what is told and left past the check of the record
pub returns-in-Ok : goal.returns-in-Ok
returns-in-Ok c =
    let at = c.args in
    let did = c.show_loop-done.new in
    let before : LentRun = lent_of at.path.now at.cycle.now at.work.now 0 in
    let after : LentRun = lent_of did.path did.cycle did.work did.path_length in
    done_first _ before after (λ o t. ShowsLoop t at.vertex before after o) (said c.show_loop-done.result) (sym c.in-Ok.ensures)
    c.show_loop-done.ensures
    c.tell.ensures

pub returns-in-Err : goal.returns-in-Err
returns-in-Err c =
    let at = c.args in
    let lent : LentRun = lent_of at.path.now at.cycle.now at.work.now 0 in
    refusal_first _ lent (λ o t. ShowsLoop t at.vertex lent lent o) c.in-Err.refused c.in-Err.ensures
    c.tell-in-Err.ensures
