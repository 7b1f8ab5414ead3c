-- `check_record` meets its contract: past 1 to 8 there is room for the part that 47 goes over.
use Rattle.std.proofs.Common.{rules, sym, []}
use Rattle.rules.specs.Record.{record_of}
use Rattle.theory.specs.Edits.{tables_pass}
use Rattle.record.proofs.check_record.Goals as goal

pub slice_bounds-check_kept-end : goal.slice_bounds-check_kept-end
slice_bounds-check_kept-end c =
    let r = record_of c.args.n c.args.m c.args.owners.now c.args.priorities.now c.args.offsets.now c.args.targets.now [] in
    let room = (tables_pass r (sym c.in_ok-check_room.ensures)).0.priority_room in search rules
