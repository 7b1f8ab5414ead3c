-- `write_list` meets its contract: the two parts, one after the other, are the list.
use Rattle.rules.specs.Tables.{Tables}
use Rattle.mend_list.specs.Listing.{first_room, second_room, parts_make_list}
use Rattle.mend_list.proofs.list.write_list.Lts as lts
use Rattle.mend_list.proofs.list.write_list.Reads as reads
use Rattle.mend_list.proofs.list.write_list.Tie as tie
use Rattle.mend_list.proofs.list.write_list.Goals as goal

abbrev AtAfterWriteDroppedArg : Type 0
AtAfterWriteDroppedArg = lts.After-write_dropped-arg tie.the-claims reads.Pre reads.Post

abbrev AtStart : Type 0
AtStart = lts.Start tie.the-claims reads.Pre reads.Post

abbrev tables : AtStart → Tables
tables c =
    record {
      owners = c.args.owners.now;
      priorities = c.args.priorities.now;
      offsets = c.args.offsets.now;
      targets = c.args.targets.now;
    }

abbrev start : AtAfterWriteDroppedArg → AtStart
start c = c.before.before.before.before.before.before

pub write_dropped-requires : goal.write_dropped-requires
write_dropped-requires c =
    let begun = start c.before in (
      begun.requires.mendable.shaped.few_edges,
      first_room (tables begun) begun.args.dropped begun.args.list.now
          begun.requires,
    )

pub write_altered-requires : goal.write_altered-requires
write_altered-requires c =
    let first = c.before.before.before.before in
    let begun = start first.before in (
      begun.requires.mendable,
      second_room (tables begun) begun.args.dropped begun.args.list.now begun.requires _ first.write_dropped.ensures,
    )

pub returns : goal.returns
returns c =
    let second = c.before.before.before in
    let first = second.before.before.before.before in
    let begun = start first.before in
    parts_make_list (tables begun) begun.args.dropped begun.args.list.now begun.requires _ _
    first.write_dropped.ensures
    second.write_altered.ensures
