-- `fresh_count` meets its contract: 1 to 8, then 9, then the count is written.
use Rattle.std.proofs.Common.{rules, sym, ◌≡◌, Err, []}
use Rattle.rules.specs.Record.{record_of, record_tables}
use Rattle.theory.specs.Edits.{tables_pass}
use Rattle.record.specs.Laws.{fresh_stopped, fresh_nine, fresh_passes, fresh_written}
use Rattle.record.proofs.fresh_count.Goals as goal

pub returns-in_err-check_room : goal.returns-in_err-check_room
unfolding record_tables
returns-in_err-check_room c =
    let r = record_of c.args.n c.args.m c.args.owners.now c.args.priorities.now c.args.offsets.now c.args.targets.now c.args.kept.now in
    let out : c.from_residual.result ≡ Err c.in_err-check_room.field-0.0 = search rules in
    rw out (fresh_stopped r c.in_err-check_room.field-0.0 c.in_err-check_room.ensures)

pub returns-then-kept-ne-KEPT : goal.returns-then-kept-ne-KEPT
unfolding record_tables
returns-then-kept-ne-KEPT c =
    let r = record_of c.args.n c.args.m c.args.owners.now c.args.priorities.now c.args.offsets.now c.args.targets.now c.args.kept.now in
    fresh_nine r (sym c.in_ok-check_room.ensures) c.if-kept-ne-KEPT.true

pub slice_bounds-write_fresh-end : goal.slice_bounds-write_fresh-end
slice_bounds-write_fresh-end c =
    let r = record_of c.args.n c.args.m c.args.owners.now c.args.priorities.now c.args.offsets.now c.args.targets.now [] in
    let room = (tables_pass r (sym c.in_ok-check_room.ensures)).0.priority_room in search rules

pub returns : goal.returns
unfolding record_tables
returns c =
    let r = record_of c.args.n c.args.m c.args.owners.now c.args.priorities.now c.args.offsets.now c.args.targets.now c.args.kept.now in
    fresh_written r _ (fresh_passes r (sym c.in_ok-check_room.ensures) c.if-kept-ne-KEPT.false) c.write_fresh.ensures
