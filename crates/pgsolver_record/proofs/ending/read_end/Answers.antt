-- `read_end` meets its contract: 9 and 10 write nothing, and else what the end leaves with the kept numbers beside it.
use mathlib.Core.Path.{refl, sym, ◌∙◌}
use Rattle.std.proofs.lemmas.Result.{err_from_is_err_and}
use Rattle.reading_kept.specs.Rooms.{end_sizes_lem}
use Rattle.pgsolver_serial.specs.Calls.{unless_refused}
use Rattle.pgsolver_serial.specs.Stands.{Stands}
use Rattle.pgsolver_record.specs.Records.{closing_record_of, ends_record}
use Rattle.pgsolver_record.proofs.ending.read_end.Goals as goal

pub returns-in_err-check_end_rooms : goal.returns-in_err-check_end_rooms
returns-in_err-check_end_rooms c =
    let p = err_from_is_err_and c.from_residual.result c.from_residual.ensures.1 in
    let before =
    closing_record_of c.args.state.now c.args.owners.now c.args.priorities.now c.args.offsets.now c.args.targets.now
    c.args.kept.now c.args.work.now c.args.n.now c.args.m.now in
    rw (p.1, p.2)
    (unless_refused _ c.in_err-check_end_rooms.field-0.0 before _
    (c.in_err-check_end_rooms.ensures ∙ sym (end_sizes_lem before.kept before.closing.lent before.closing.work)))

pub returns : goal.returns
returns c =
    ends_record Stands
    (closing_record_of c.args.state.now c.args.owners.now c.args.priorities.now c.args.offsets.now c.args.targets.now
    c.args.kept.now c.args.work.now c.args.n.now c.args.m.now)
    0 c.in_ok-check_end_rooms.ensures _ _ refl c.read_end-r.ensures c.write_beside.ensures
