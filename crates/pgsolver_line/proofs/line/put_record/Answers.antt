-- `put_record` meets its contract: the numbers and the targets, one behind the other.
use native.Mathlib.Omega.{arith}
use Rattle.pgsolver_line.specs.Records.{record_pieces, record_put}
use Rattle.pgsolver_line.proofs.line.put_record.Lts as lts
use Rattle.pgsolver_line.proofs.line.put_record.Reads as reads
use Rattle.pgsolver_line.proofs.line.put_record.Tie as tie
use Rattle.pgsolver_line.proofs.line.put_record.Goals as goal

abbrev AtAfterPutFields : Type 0
AtAfterPutFields = lts.After-put_fields tie.the-claims reads.Pre reads.Post

abbrev AtStart : Type 0
AtStart = lts.Start tie.the-claims reads.Pre reads.Post

-- where the function begins
abbrev start : AtAfterPutFields → AtStart
start c = c.before.before.before.before

pub put_fields-at-requires : goal.put_fields-at-requires
put_fields-at-requires c =
    let at = c.before.before.before.before in
    omega (arith, at.requires.1, record_pieces at.args.v at.args.priority at.args.owner at.args.targets.now)

pub put_targets-requires : goal.put_targets-requires
put_targets-requires c =
    let one = c.before.before.before.before in
    let at = start one in
    let p = one.put_fields-at.ensures in
    let long = record_pieces at.args.v at.args.priority at.args.owner at.args.targets.now in
    (at.requires.0, omega (arith, at.requires.1, p.place, p.long, long))

pub returns : goal.returns
returns c =
    let two = c.before.before.before in
    let one = two.before.before.before.before in
    let at = start one in
    record_put at.args.v at.args.priority at.args.owner at.args.targets.now one.put_fields-at.ensures
    two.put_targets.ensures
