-- `check_room` meets its contract: the sizes that passed give room for the parts that the tables' checks go over.
use Rattle.std.proofs.Common.{sym, []}
use Rattle.rules.specs.Record.{record_of}
use Rattle.theory.specs.Edits.{roomy}
use Rattle.record.proofs.check_room.Goals as goal

pub check_fronts-requires : goal.check_fronts-requires
check_fronts-requires c =
    let r = record_of c.args.n c.args.m c.args.owners.now c.args.priorities.now c.args.offsets.now c.args.targets.now [] in
    roomy r (sym c.in_ok-check_sizes.ensures)
