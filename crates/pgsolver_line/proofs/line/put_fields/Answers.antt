-- `put_fields` meets its contract: three pieces, one behind the other.
use native.Mathlib.Omega.{arith}
use Rattle.pgsolver_line.specs.Records.{fields_pieces, fields_put}
use Rattle.pgsolver_line.proofs.line.put_fields.Lts as lts
use Rattle.pgsolver_line.proofs.line.put_fields.Reads as reads
use Rattle.pgsolver_line.proofs.line.put_fields.Tie as tie
use Rattle.pgsolver_line.proofs.line.put_fields.Goals as goal

abbrev AtAfterPutEnded : Type 0
AtAfterPutEnded = lts.After-put_ended tie.the-claims reads.Pre reads.Post

abbrev AtAfterPutEnded2 : Type 0
AtAfterPutEnded2 = lts.After-put_ended2 tie.the-claims reads.Pre reads.Post

abbrev AtStart : Type 0
AtStart = lts.Start tie.the-claims reads.Pre reads.Post

-- where the function begins, and the first number put
abbrev start : AtAfterPutEnded → AtStart
start c = c.before.before.before.before.before

abbrev first : AtAfterPutEnded2 → AtAfterPutEnded
first c = c.before.before.before.before.before.before

pub put_ended-at-requires : goal.put_ended-at-requires
put_ended-at-requires c =
    let at = c.before.before.before in
    omega (arith, at.requires, fields_pieces at.args.identifier at.args.priority at.args.owner)

pub put_ended-at-requires-2 : goal.put_ended-at-requires-2
put_ended-at-requires-2 c =
    let one = c.before.before.before.before in
    let at = start one.before in
    let p = one.put_ended-at.ensures in
    omega (arith, at.requires, p.place, p.long, fields_pieces at.args.identifier at.args.priority at.args.owner)

pub put_ended-requires : goal.put_ended-requires
put_ended-requires c =
    let two = c.before.before.before.before in
    let one = first two.before in
    let at = start one in
    let p = one.put_ended-at.ensures in
    let q = two.put_ended-at-2.ensures in
    let long = fields_pieces at.args.identifier at.args.priority at.args.owner in
    omega (arith, at.requires, p.place, p.long, q.place, q.long, long)

pub returns : goal.returns
returns c =
    let three = c.before.before.before in
    let two = three.before.before.before.before.before in
    let one = first two.before in
    let at = start one in
    fields_put at.args.identifier at.args.priority at.args.owner one.put_ended-at.ensures two.put_ended-at-2.ensures
    three.put_ended.ensures
