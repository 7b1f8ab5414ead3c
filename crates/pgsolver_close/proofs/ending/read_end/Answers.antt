-- `read_end` meets its contract: 9 and 10 write nothing, and else the words decide.
use mathlib.Core.Path.{sym, ◌∙◌}
use Rattle.std.proofs.lemmas.Result.{err_from_is_err_and}
use Rattle.rules.specs.Portions.{end_checks}
use Rattle.reading_rooms.specs.Said.{size_checks_lem}
use Rattle.pgsolver_serial.specs.Calls.{unless_unfit, unless_refused, unless_fit}
use Rattle.pgsolver_close.specs.Checks.{end_unfit, end_short, end_fit}
use Rattle.pgsolver_close.specs.Ending.{closing_of}
use Rattle.pgsolver_close.proofs.ending.read_end.Goals as goal

pub returns-in_err-check_rooms : goal.returns-in_err-check_rooms
returns-in_err-check_rooms c =
    let p = err_from_is_err_and c.from_residual.result c.from_residual.ensures.1 in
    let e =
    closing_of c.args.state.now c.args.owners.now c.args.priorities.now c.args.offsets.now c.args.targets.now c.args.work.now
    c.args.n.now c.args.m.now in
    rw (p.1, p.2)
    (unless_refused (end_checks e.lent e.work) c.in_err-check_rooms.field-0.0 e _
    (sym (end_unfit e.lent e.work _ _ (size_checks_lem _ ∙ sym c.in_err-check_rooms.ensures))))

pub returns-then-state-lt32 : goal.returns-then-state-lt32
returns-then-state-lt32 c =
    let e =
    closing_of c.args.state.now c.args.owners.now c.args.priorities.now c.args.offsets.now c.args.targets.now c.args.work.now
    c.args.n.now c.args.m.now in
    unless_unfit (end_checks e.lent e.work) 10 e _
    (end_short e.lent e.work (size_checks_lem _ ∙ sym c.in_ok-check_rooms.ensures) c.if-state-lt32.true)

pub returns : goal.returns
returns c =
    let e =
    closing_of c.args.state.now c.args.owners.now c.args.priorities.now c.args.offsets.now c.args.targets.now c.args.work.now
    c.args.n.now c.args.m.now in
    unless_fit (end_checks e.lent e.work) _ _ _ _
    (end_fit e.lent e.work (size_checks_lem _ ∙ sym c.in_ok-check_rooms.ensures) c.if-state-lt32.false)
    c.end_fitting.ensures
