-- `put_text` meets its contract: the word, the highest identifier and the records, one behind the other.
use native.Mathlib.Omega.{arith}
use Rattle.rules.specs.Tables.{Tables, tables_of}
use Rattle.pgsolver_put.specs.Texts.{text_pieces, text_put}
use Rattle.pgsolver_put.proofs.put.put_text.Lts as lts
use Rattle.pgsolver_put.proofs.put.put_text.Reads as reads
use Rattle.pgsolver_put.proofs.put.put_text.Tie as tie
use Rattle.pgsolver_put.proofs.put.put_text.Goals as goal

abbrev AtAfterPutEnded : Type 0
AtAfterPutEnded = lts.After-put_ended tie.the-claims reads.Pre reads.Post

abbrev AtAfterPutWord : Type 0
AtAfterPutWord = lts.After-put_word tie.the-claims reads.Pre reads.Post

abbrev AtStart : Type 0
AtStart = lts.Start tie.the-claims reads.Pre reads.Post

-- the tables where the function begins
abbrev tables : AtStart → Tables
tables c = tables_of c.args.owners.now c.args.priorities.now c.args.offsets.now c.args.targets.now

-- and where the word is put
abbrev start : AtAfterPutWord → AtStart
start c = c.before.before.before.before.before.before.before.before.before

abbrev first : AtAfterPutEnded → AtAfterPutWord
first c = c.before.before.before.before.before.before

pub put_word-at-requires : goal.put_word-at-requires
put_word-at-requires c =
    let at = c.before.before.before.before.before.before.before.before in
    omega (arith, at.requires.1, text_pieces (tables at.before))

pub put_ended-at-requires : goal.put_ended-at-requires
put_ended-at-requires c =
    let one = c.before.before.before.before.before in
    let at = start one.before in
    let p = one.put_word-at.ensures in
    omega (arith, at.requires.1, p.place, p.long, text_pieces (tables at))

pub put_records-requires : goal.put_records-requires
put_records-requires c =
    let two = c.before.before.before.before in
    let one = first two in
    let at = start one in
    let p = one.put_word-at.ensures in
    let q = two.put_ended-at.ensures in
    (at.requires.0, omega (arith, at.requires.1, p.place, p.long, q.place, q.long, text_pieces (tables at)))

pub returns : goal.returns
returns c =
    let three = c.before.before.before in
    let two = three.before.before.before.before in
    let one = first two in
    text_put (tables (start one)) one.put_word-at.ensures two.put_ended-at.ensures three.put_records.ensures
