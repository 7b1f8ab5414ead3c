-- `read` meets its contract: 9 and 10 write nothing, and else the reader's tables with the kept numbers beside them.
use mathlib.Core.Path.{refl, sym, ◌∙◌}
use Rattle.std.proofs.lemmas.Result.{err_from_is_err_and}
use Rattle.reading_kept.specs.Rooms.{record_sizes_lem}
use Rattle.pgsolver_serial.specs.Calls.{unless_refused}
use Rattle.pgsolver_record.specs.Records.{written_record_of, reads_record}
use Rattle.pgsolver_record.proofs.whole.read.Goals as goal

pub returns-in_err-check_record_rooms : goal.returns-in_err-check_record_rooms
returns-in_err-check_record_rooms c =
    let p = err_from_is_err_and c.from_residual.result c.from_residual.ensures.1 in
    let before =
    written_record_of c.args.owners.now c.args.priorities.now c.args.offsets.now c.args.targets.now c.args.kept.now
    c.args.work.now c.args.n.now c.args.m.now in
    rw (p.1, p.2)
    (unless_refused _ c.in_err-check_record_rooms.field-0.0 before _
    (c.in_err-check_record_rooms.ensures ∙ sym (record_sizes_lem before.kept before.tables.rooms)))

pub returns : goal.returns
returns c =
    reads_record c.args.most_bytes c.args.text.now
    (written_record_of c.args.owners.now c.args.priorities.now c.args.offsets.now c.args.targets.now c.args.kept.now
    c.args.work.now c.args.n.now c.args.m.now)
    0 c.in_ok-check_record_rooms.ensures _ _ refl c.read-r.ensures c.write_beside.ensures
