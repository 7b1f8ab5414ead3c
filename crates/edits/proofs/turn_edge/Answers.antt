-- `turn_edge` meets its contract: the record's checks, its own, then one target is written.
use Rattle.std.proofs.Common.{rules, sym, refl, arith}
use Rattle.rules.specs.Record.{own_checks}
use Rattle.theory.specs.Edits.{passing}
use Rattle.edits.specs.Laws.{own_none}
use Rattle.edits.proofs.Checked.{record_refuses, own_refuses, edit_makes}
use Rattle.edits.proofs.turn_edge.Goals as goal

pub returns-in_err-check_record : goal.returns-in_err-check_record
returns-in_err-check_record c =
    record_refuses c.from_residual.result c.in_err-check_record.field-0.0 (search rules) c.in_err-check_record.ensures

pub returns-in_err-check_own : goal.returns-in_err-check_own
unfolding own_checks
returns-in_err-check_own c =
    own_refuses c.from_residual-in_err-check_own.result c.in_err-check_own.field-0.0 (search rules) c.in_ok-check_record.ensures c.in_err-check_own.ensures

pub overflow_cast-targets : goal.overflow_cast-targets
overflow_cast-targets c =
    let room = (passing _ (sym c.in_ok-check_record.ensures)).room in
    let below = own_none c.args.m c.args.edge c.args.target c.args.n 43 (sym c.in_ok-check_own.ensures) in record { fits = omega arith }

pub offset_bounds-targets-edge : goal.offset_bounds-targets-edge
offset_bounds-targets-edge c =
    let room = (passing _ (sym c.in_ok-check_record.ensures)).room in
    let below = own_none c.args.m c.args.edge c.args.target c.args.n 43 (sym c.in_ok-check_own.ensures) in record { fits = omega arith }

pub bounds-targets-edge : goal.bounds-targets-edge
bounds-targets-edge c =
    let room = (passing _ (sym c.in_ok-check_record.ensures)).room in
    let below = own_none c.args.m c.args.edge c.args.target c.args.n 43 (sym c.in_ok-check_own.ensures) in omega arith

pub returns : goal.returns
unfolding own_checks
returns c = edit_makes c.in_ok-check_record.ensures c.in_ok-check_own.ensures refl
