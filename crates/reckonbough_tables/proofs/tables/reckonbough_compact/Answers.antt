-- `reckonbough_compact` meets its contract: past the record's checks there is room for the parts that it lends, and their tables are
-- accepted.
use Rattle.std.proofs.Common.{rules, arith, sym}
use Rattle.parity_game.specs.Said.{said}
use Rattle.rules.specs.Compaction.{LentCompacted, Compacts}
use Rattle.compaction.specs.Laws.{lent_of}
use Rattle.theory.specs.Edits.{passing}
use Rattle.record.specs.ByRecord.{refusal_first, done_first}
use Rattle.reckonbough_tables.proofs.tables.reckonbough_compact.Goals as goal

pub slice_bounds-compact-end : goal.slice_bounds-compact-end
slice_bounds-compact-end c = let room = (passing _ (sym c.in-Ok.ensures)).room in search rules

pub slice_bounds-compact-end-in-Ok : goal.slice_bounds-compact-end-in-Ok
slice_bounds-compact-end-in-Ok c = let room = (passing _ (sym c.in-Ok.ensures)).room in search rules

pub overflow_add-n : goal.overflow_add-n
overflow_add-n c = let room = (passing _ (sym c.in-Ok.ensures)).room in record { fits = omega arith }

pub slice_bounds-compact-end-in-Ok-2 : goal.slice_bounds-compact-end-in-Ok-2
slice_bounds-compact-end-in-Ok-2 c = let room = (passing _ (sym c.in-Ok.ensures)).room in search rules

pub slice_bounds-compact-end-in-Ok-3 : goal.slice_bounds-compact-end-in-Ok-3
slice_bounds-compact-end-in-Ok-3 c = let room = (passing _ (sym c.in-Ok.ensures)).room in search rules

pub compact-done-requires : goal.compact-done-requires
compact-done-requires c = (passing _ (sym c.in-Ok.ensures)).accepted

-- what is told and left past the check of the record
pub returns-in-Ok : goal.returns-in-Ok
returns-in-Ok c =
    let at = c.args in
    let did = c.compact-done.new in
    let before : LentCompacted = lent_of at.new_priorities.now at.new_kept.now in
    let after : LentCompacted = lent_of did.new_priorities did.new_kept in
    done_first _ before after (λ o t. Compacts t before after o) (said c.compact-done.result) (sym c.in-Ok.ensures)
    c.compact-done.ensures
    c.tell.ensures

pub returns-in-Err : goal.returns-in-Err
returns-in-Err c =
    let at = c.args in
    let lent : LentCompacted = lent_of at.new_priorities.now at.new_kept.now in
    refusal_first _ lent (λ o t. Compacts t lent lent o) c.in-Err.refused c.in-Err.ensures
    c.tell-in-Err.ensures
