-- `set_priority` meets its contract: the record's checks, its own, then one priority and the kept numbers.
use Rattle.std.proofs.Common.{rules, sym, ap, ◌∙◌, arith, set}
use Rattle.rules.specs.Record.{record_of, own_checks}
use Rattle.theory.specs.Edits.{passing}
use Rattle.edits.specs.Laws.{own_none, movable, recounted}
use Rattle.edits.proofs.Checked.{record_refuses, own_refuses, edit_makes}
use Rattle.edits.proofs.set_priority.Goals as goal

pub returns-in_err-check_record : goal.returns-in_err-check_record
returns-in_err-check_record c =
    record_refuses c.from_residual.result c.in_err-check_record.field-0.0 (search rules) c.in_err-check_record.ensures

pub returns-in_err-check_own : goal.returns-in_err-check_own
unfolding own_checks
returns-in_err-check_own c =
    own_refuses c.from_residual-in_err-check_own.result c.in_err-check_own.field-0.0 (search rules) c.in_ok-check_record.ensures c.in_err-check_own.ensures

pub offset_bounds-priorities-vertex : goal.offset_bounds-priorities-vertex
offset_bounds-priorities-vertex c =
    let room = (passing _ (sym c.in_ok-check_record.ensures)).room in
    let below = own_none c.args.n c.args.vertex c.args.priority 256 42 (sym c.in_ok-check_own.ensures) in record { fits = omega arith }

pub bounds-priorities-vertex : goal.bounds-priorities-vertex
bounds-priorities-vertex c =
    let room = (passing _ (sym c.in_ok-check_record.ensures)).room in
    let below = own_none c.args.n c.args.vertex c.args.priority 256 42 (sym c.in_ok-check_own.ensures) in omega arith

pub recount-requires : goal.recount-requires
recount-requires c =
    let below = own_none c.args.n c.args.vertex c.args.priority 256 42 (sym c.in_ok-check_own.ensures) in
    movable _ (sym c.in_ok-check_record.ensures) c.args.vertex c.args.priority below.0 below.1

pub offset_bounds-priorities-vertex-2 : goal.offset_bounds-priorities-vertex-2
offset_bounds-priorities-vertex-2 c =
    let room = (passing _ (sym c.in_ok-check_record.ensures)).room in
    let below = own_none c.args.n c.args.vertex c.args.priority 256 42 (sym c.in_ok-check_own.ensures) in record { fits = omega arith }

pub bounds-priorities-vertex-2 : goal.bounds-priorities-vertex-2
bounds-priorities-vertex-2 c =
    let room = (passing _ (sym c.in_ok-check_record.ensures)).room in
    let below = own_none c.args.n c.args.vertex c.args.priority 256 42 (sym c.in_ok-check_own.ensures) in omega arith

pub returns : goal.returns
unfolding own_checks
returns c =
    let args = c.args in
    let below = own_none c.args.n c.args.vertex c.args.priority 256 42 (sym c.in_ok-check_own.ensures) in
    edit_makes c.in_ok-check_record.ensures c.in_ok-check_own.ensures
    (ap (record_of args.n args.m args.owners.now (set args.priorities.now args.vertex args.priority) args.offsets.now args.targets.now)
    (c.recount.ensures ∙ recounted _ (sym c.in_ok-check_record.ensures) args.vertex args.priority below.0 below.1))
