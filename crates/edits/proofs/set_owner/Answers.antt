-- `set_owner` meets its contract: the record's checks, its own, then one owner is written.
use Rattle.std.proofs.Common.{rules, sym, refl, arith}
use Rattle.rules.specs.Record.{own_checks}
use Rattle.theory.specs.Edits.{passing}
use Rattle.edits.specs.Laws.{own_none}
use Rattle.edits.proofs.Checked.{record_refuses, own_refuses, edit_makes}
use Rattle.edits.proofs.set_owner.Goals as goal

pub returns-in_err-check_record : goal.returns-in_err-check_record
returns-in_err-check_record c =
    record_refuses c.from_residual.result c.in_err-check_record.field-0.0 (search rules) c.in_err-check_record.ensures

pub returns-in_err-check_own : goal.returns-in_err-check_own
unfolding own_checks
returns-in_err-check_own c =
    own_refuses c.from_residual-in_err-check_own.result c.in_err-check_own.field-0.0 (search rules) c.in_ok-check_record.ensures c.in_err-check_own.ensures

pub overflow_cast-owners : goal.overflow_cast-owners
overflow_cast-owners c =
    let below = own_none c.args.n c.args.vertex c.args.owner 2 48 (sym c.in_ok-check_own.ensures) in record { fits = omega arith }

pub bounds-owners-vertex : goal.bounds-owners-vertex
bounds-owners-vertex c =
    let below = own_none c.args.n c.args.vertex c.args.owner 2 48 (sym c.in_ok-check_own.ensures) in
    let room = (passing _ (sym c.in_ok-check_record.ensures)).room in omega arith

pub returns : goal.returns
unfolding own_checks
returns c = edit_makes c.in_ok-check_record.ensures c.in_ok-check_own.ensures refl
