-- `solved_line` meets its contract: its pieces, one after another, are the line.
use mathlib.Core.Bool.{Bool}
use mathlib.Core.Path.{subst}
use Prim.Native.Nat.{◌+◌, ◌≤◌}
use native.Mathlib.Omega.{arith}
use lib.ListN.{length}
use Rattle.rules.specs.Words.{set_of}
use Rattle.printing.specs.Line.{winners_bytes, winners_short}
use Rattle.putting.specs.Puts.{Puts, puts_both}
use Rattle.printing.proofs.line.solved_line.Lts as lts
use Rattle.printing.proofs.line.solved_line.Reads as reads
use Rattle.printing.proofs.line.solved_line.Tie as tie
use Rattle.printing.proofs.line.solved_line.Goals as goal

abbrev AtAfterPutCounted : Type 0
AtAfterPutCounted = lts.After-put_counted tie.the-claims reads.Pre reads.Post

abbrev AtAfterPutCounted2 : Type 0
AtAfterPutCounted2 = lts.After-put_counted2 tie.the-claims reads.Pre reads.Post

abbrev AtAfterPutDecided : Type 0
AtAfterPutDecided = lts.After-put_decided tie.the-claims reads.Pre reads.Post

abbrev AtAfterPutWord : Type 0
AtAfterPutWord = lts.After-put_word tie.the-claims reads.Pre reads.Post

abbrev AtAfterPutWord2 : Type 0
AtAfterPutWord2 = lts.After-put_word2 tie.the-claims reads.Pre reads.Post

abbrev AtAfterPutWord3 : Type 0
AtAfterPutWord3 = lts.After-put_word3 tie.the-claims reads.Pre reads.Post

abbrev AtAfterPutWord4 : Type 0
AtAfterPutWord4 = lts.After-put_word4 tie.the-claims reads.Pre reads.Post

abbrev AtStart : Type 0
AtStart = lts.Start tie.the-claims reads.Pre reads.Post

-- the places, each from the next: where the function begins, and after each piece
abbrev start : AtAfterPutWord → AtStart
start c = c.before.before.before.before.before.before

abbrev first : AtAfterPutDecided → AtAfterPutWord
first c = c.before.before.before.before.before

abbrev second : AtAfterPutWord2 → AtAfterPutDecided
second c = c.before.before.before.before.before.before

abbrev third : AtAfterPutCounted → AtAfterPutWord2
third c = c.before.before.before.before

abbrev fourth : AtAfterPutWord3 → AtAfterPutCounted
fourth c = c.before.before.before.before.before.before

abbrev fifth : AtAfterPutCounted2 → AtAfterPutWord3
fifth c = c.before.before.before.before

abbrev sixth : AtAfterPutWord4 → AtAfterPutCounted2
sixth c = c.before.before.before.before.before.before

-- how much room is left after each piece
room2 : (c : AtAfterPutDecided) → c.put_decided-at.result + 58 ≤ length c.put_decided-at.new.out
room2 c =
    let at1 = first c in
    let at = start at1 in
    omega (
      arith,
      at.requires.1,
      at1.put_word-at.ensures.place,
      at1.put_word-at.ensures.long,
      c.put_decided-at.ensures.place,
      c.put_decided-at.ensures.long,
      winners_short c.decided.result at.args.n (set_of at.args.odd.now),
    )

room3 : (c : AtAfterPutWord2) → c.put_word-at-2.result + 57 ≤ length c.put_word-at-2.new.out
room3 c = omega (arith, room2 (second c), c.put_word-at-2.ensures.place, c.put_word-at-2.ensures.long)

room4 : (c : AtAfterPutCounted) → c.put_counted-at.result + 37 ≤ length c.put_counted-at.new.out
room4 c = omega (arith, room3 (third c), c.put_counted-at.ensures.1, c.put_counted-at.ensures.0.long)

room5 : (c : AtAfterPutWord3) → c.put_word-at-3.result + 36 ≤ length c.put_word-at-3.new.out
room5 c = omega (arith, room4 (fourth c), c.put_word-at-3.ensures.place, c.put_word-at-3.ensures.long)

room6 : (c : AtAfterPutCounted2) → c.put_counted-at-2.result + 16 ≤ length c.put_counted-at-2.new.out
room6 c = omega (arith, room5 (fifth c), c.put_counted-at-2.ensures.1, c.put_counted-at-2.ensures.0.long)

pub put_word-at-requires-2 : goal.put_word-at-requires-2
put_word-at-requires-2 c = omega (arith, room2 c.before.before.before.before.before.before)

pub put_counted-at-requires : goal.put_counted-at-requires
put_counted-at-requires c = omega (arith, room3 c.before.before.before.before)

pub put_word-at-requires-3 : goal.put_word-at-requires-3
put_word-at-requires-3 c = omega (arith, room4 c.before.before.before.before.before.before)

pub put_counted-at-requires-2 : goal.put_counted-at-requires-2
put_counted-at-requires-2 c = omega (arith, room5 c.before.before.before.before)

pub put_word-requires : goal.put_word-requires
put_word-requires c = omega (arith, room6 c.before.before.before.before.before.before)

pub returns : goal.returns
returns c =
    let at7 = c.before.before.before in
    let at6 = sixth at7 in
    let at5 = fifth at6 in
    let at4 = fourth at5 in
    let at3 = third at4 in
    let at2 = second at3 in
    let at1 = first at2 in
    let at = start at1 in
    let told =
    subst
    (λ (b : Bool).
    Puts at1.put_word-at.result (winners_bytes b at.args.n (set_of at.args.odd.now)) at1.put_word-at.new.out
    at2.put_decided-at.new.out at2.put_decided-at.result)
    at2.decided.ensures
    at2.put_decided-at.ensures in
    puts_both at1.put_word-at.ensures
    (puts_both told
    (puts_both at3.put_word-at-2.ensures
    (puts_both at4.put_counted-at.ensures.0
    (puts_both at5.put_word-at-3.ensures
    (puts_both at6.put_counted-at-2.ensures.0 at7.put_word.ensures)))))
