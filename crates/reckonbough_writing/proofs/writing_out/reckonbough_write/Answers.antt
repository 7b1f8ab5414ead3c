-- `reckonbough_write` meets its contract: past the record's checks there is room for the parts that it lends, and their tables are
-- accepted.
use Rattle.std.proofs.Common.{rules, arith, sym}
use Rattle.parity_game.specs.Said.{said}
use Rattle.rules.specs.Writing.{Writes}
use Prim.Native.Nat.{ℕ}
use mathlib.Core.List.{List}
use Rattle.theory.specs.Edits.{passing}
use Rattle.record.specs.ByRecord.{refusal_first, done_first}
use Rattle.reckonbough_writing.proofs.writing_out.reckonbough_write.Goals as goal

pub slice_bounds-write-end : goal.slice_bounds-write-end
slice_bounds-write-end c = let room = (passing _ (sym c.in-Ok.ensures)).room in search rules

pub slice_bounds-write-end-in-Ok : goal.slice_bounds-write-end-in-Ok
slice_bounds-write-end-in-Ok c = let room = (passing _ (sym c.in-Ok.ensures)).room in search rules

pub overflow_add-n : goal.overflow_add-n
overflow_add-n c = let room = (passing _ (sym c.in-Ok.ensures)).room in record { fits = omega arith }

pub slice_bounds-write-end-in-Ok-2 : goal.slice_bounds-write-end-in-Ok-2
slice_bounds-write-end-in-Ok-2 c = let room = (passing _ (sym c.in-Ok.ensures)).room in search rules

pub slice_bounds-write-end-in-Ok-3 : goal.slice_bounds-write-end-in-Ok-3
slice_bounds-write-end-in-Ok-3 c = let room = (passing _ (sym c.in-Ok.ensures)).room in search rules

pub write-done-requires : goal.write-done-requires
write-done-requires c = (passing _ (sym c.in-Ok.ensures)).accepted

-- what is told and left past the check of the record
pub returns-in-Ok : goal.returns-in-Ok
returns-in-Ok c =
    let at = c.args in
    let did = c.write-done.new in
    let before : List ℕ = at.text.now in
    let after : List ℕ = did.text in
    done_first _ before after (λ o t. Writes t before after o) (said c.write-done.result) (sym c.in-Ok.ensures)
    c.write-done.ensures
    c.tell.ensures

pub returns-in-Err : goal.returns-in-Err
returns-in-Err c =
    let at = c.args in
    let lent : List ℕ = at.text.now in
    refusal_first _ lent (λ o t. Writes t lent lent o) c.in-Err.refused c.in-Err.ensures
    c.tell-in-Err.ensures
