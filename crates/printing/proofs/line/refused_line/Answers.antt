-- `refused_line` meets its contract: its pieces, one after another, are the line.
use native.Mathlib.Omega.{arith}
use Rattle.putting.specs.Puts.{puts_both}
use Rattle.printing.specs.Line.{word_short}
use Rattle.printing.proofs.line.refused_line.Lts as lts
use Rattle.printing.proofs.line.refused_line.Reads as reads
use Rattle.printing.proofs.line.refused_line.Tie as tie
use Rattle.printing.proofs.line.refused_line.Goals as goal

abbrev AtAfterPutNumber : Type 0
AtAfterPutNumber = lts.After-put_number tie.the-claims reads.Pre reads.Post

abbrev AtAfterPutNumber2 : Type 0
AtAfterPutNumber2 = lts.After-put_number2 tie.the-claims reads.Pre reads.Post

abbrev AtAfterPutWord : Type 0
AtAfterPutWord = lts.After-put_word tie.the-claims reads.Pre reads.Post

abbrev AtAfterPutWord2 : Type 0
AtAfterPutWord2 = lts.After-put_word2 tie.the-claims reads.Pre reads.Post

abbrev AtAfterPutWord3 : Type 0
AtAfterPutWord3 = lts.After-put_word3 tie.the-claims reads.Pre reads.Post

abbrev AtStart : Type 0
AtStart = lts.Start tie.the-claims reads.Pre reads.Post

-- the places, each from the next: where the function begins, and after each piece
abbrev start : AtAfterPutWord → AtStart
start c = c.before.before.before.before.before

abbrev first : AtAfterPutNumber → AtAfterPutWord
first c = c.before.before.before.before

abbrev second : AtAfterPutWord2 → AtAfterPutNumber
second c = c.before.before.before.before.before.before

abbrev third : AtAfterPutNumber2 → AtAfterPutWord2
third c = c.before.before.before.before

abbrev fourth : AtAfterPutWord3 → AtAfterPutNumber2
fourth c = c.before.before.before.before.before.before

pub put_number-at-requires : goal.put_number-at-requires
put_number-at-requires c =
    let at1 = c.before.before.before in
    let at = start at1 in
    let first = at1.put_word-at.ensures in
    omega (arith, at.requires, first.place, first.long, word_short at.args.number at.ranges.number)

pub put_word-at-requires-2 : goal.put_word-at-requires-2
put_word-at-requires-2 c =
    let at2 = c.before.before.before.before in
    let at1 = first at2.before in
    let at = start at1 in
    omega (
      arith,
      at.requires,
      at1.put_word-at.ensures.place,
      at1.put_word-at.ensures.long,
      at2.put_number-at.ensures.place,
      at2.put_number-at.ensures.long,
      word_short at.args.number at.ranges.number,
    )

pub put_number-at-requires-2 : goal.put_number-at-requires-2
put_number-at-requires-2 c =
    let at3 = c.before.before.before in
    let at2 = second at3 in
    let at1 = first at2 in
    let at = start at1 in
    omega (
      arith,
      at.requires,
      at1.put_word-at.ensures.place,
      at1.put_word-at.ensures.long,
      at2.put_number-at.ensures.place,
      at2.put_number-at.ensures.long,
      at3.put_word-at-2.ensures.place,
      at3.put_word-at-2.ensures.long,
      word_short at.args.number at.ranges.number,
      word_short at.args.place at.ranges.place,
    )

pub put_word-requires : goal.put_word-requires
put_word-requires c =
    let at4 = c.before.before.before.before in
    let at3 = third at4.before in
    let at2 = second at3 in
    let at1 = first at2 in
    let at = start at1 in
    omega (
      arith,
      at.requires,
      at1.put_word-at.ensures.place,
      at1.put_word-at.ensures.long,
      at2.put_number-at.ensures.place,
      at2.put_number-at.ensures.long,
      at3.put_word-at-2.ensures.place,
      at3.put_word-at-2.ensures.long,
      at4.put_number-at-2.ensures.place,
      at4.put_number-at-2.ensures.long,
      word_short at.args.number at.ranges.number,
      word_short at.args.place at.ranges.place,
    )

pub returns : goal.returns
returns c =
    let at5 = c.before.before.before in
    let at4 = fourth at5 in
    let at3 = third at4 in
    let at2 = second at3 in
    let at1 = first at2 in
    puts_both at1.put_word-at.ensures
    (puts_both at2.put_number-at.ensures
    (puts_both at3.put_word-at-2.ensures (puts_both at4.put_number-at-2.ensures at5.put_word.ensures)))
