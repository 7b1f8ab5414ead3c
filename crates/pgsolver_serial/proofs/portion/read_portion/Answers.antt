-- `read_portion` meets its contract: 9 and 10 write nothing, and else the words decide.
use Rattle.std.proofs.lemmas.Result.{err_from_is_err_and}
use mathlib.Core.Path.{sym}
use Rattle.rules.specs.Portions.{lent_checks}
use Rattle.pgsolver_serial.specs.Stands.{lent_of}
use Rattle.pgsolver_serial.specs.Calls.{lent_checks_lem, unless_refused, unless_fit}
use Rattle.pgsolver_serial.proofs.portion.read_portion.Goals as goal

pub returns-in_err-check_rooms : goal.returns-in_err-check_rooms
returns-in_err-check_rooms c =
    let p = err_from_is_err_and c.from_residual.result c.from_residual.ensures.1 in
    let before =
    lent_of c.args.state.now c.args.owners.now c.args.priorities.now c.args.offsets.now c.args.targets.now in
    rw (p.1, p.2)
    (unless_refused (lent_checks before) c.in_err-check_rooms.field-0.0 before _
    (sym (lent_checks_lem before _ c.in_err-check_rooms.ensures)))

pub returns : goal.returns
returns c =
    let before =
    lent_of c.args.state.now c.args.owners.now c.args.priorities.now c.args.offsets.now c.args.targets.now in
    unless_fit (lent_checks before) _ _ _ _ (lent_checks_lem before _ c.in_ok-check_rooms.ensures) c.portion_fitting.ensures
