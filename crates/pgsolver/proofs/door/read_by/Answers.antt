-- `read_by` meets its contract: 9 and 10 write nothing, and else the text decides.
use mathlib.Core.Path.{sym, ◌∙◌}
use Rattle.std.proofs.lemmas.Result.{err_from_is_err_and}
use Rattle.reading_rooms.specs.Said.{size_checks_lem}
use Rattle.pgsolver_finish.specs.Finishing.{asks_in, written_of}
use Rattle.parity_game.specs.Said.{said}
use Rattle.pgsolver.specs.Reading.{reads_unfit, reads_fit}
use Rattle.pgsolver.proofs.door.read_by.Goals as goal

pub returns-in_err-check_rooms : goal.returns-in_err-check_rooms
returns-in_err-check_rooms c =
    let p = err_from_is_err_and c.from_residual.result c.from_residual.ensures.1 in
    rw (p.1, p.2)
    (reads_unfit (asks_in c.args.asks) c.args.most_bytes c.args.text.now
    (written_of c.args.owners.now c.args.priorities.now c.args.offsets.now c.args.targets.now c.args.work.now c.args.n.now
    c.args.m.now)
    c.in_err-check_rooms.field-0.0
    (c.in_err-check_rooms.ensures ∙ sym (size_checks_lem _)))

pub returns : goal.returns
returns c =
    reads_fit (asks_in c.args.asks) c.args.most_bytes c.args.text.now
    (written_of c.args.owners.now c.args.priorities.now c.args.offsets.now c.args.targets.now c.args.work.now c.args.n.now
    c.args.m.now)
    _
    (said c.read_fitting.result)
    (size_checks_lem _ ∙ sym c.in_ok-check_rooms.ensures)
    c.read_fitting.ensures
