-- `cut` meets its contract: V without what was drawn is a cut.
use native.Mathlib.Omega.{arith}
use Rattle.zielonka_level.specs.PiecesHold.{ready_places, before, cut_attractable, cut_done}
use Rattle.zielonka_cuts.proofs.cuts.cut.Lts as lts
use Rattle.zielonka_cuts.proofs.cuts.cut.Reads as reads
use Rattle.zielonka_cuts.proofs.cuts.cut.Tie as tie
use Rattle.zielonka_cuts.proofs.cuts.cut.Goals as goal

abbrev AtAfterAttract : Type 0
AtAfterAttract = lts.After-attract tie.the-claims reads.Pre reads.Post

abbrev AtAfterDrawnAt : Type 0
AtAfterDrawnAt = lts.After-drawn_at tie.the-claims reads.Pre reads.Post

abbrev AtAfterIndex : Type 0
AtAfterIndex = lts.After-index tie.the-claims reads.Pre reads.Post

abbrev AtAfterWithout : Type 0
AtAfterWithout = lts.After-without tie.the-claims reads.Pre reads.Post

abbrev AtStart : Type 0
AtStart = lts.Start tie.the-claims reads.Pre reads.Post

-- the places of the function, each from the next: where it begins, and after each call
abbrev start_of : AtAfterDrawnAt → AtStart
start_of c = c.before.before.before.before.before

abbrev after_index : AtAfterAttract → AtAfterIndex
after_index c = c.before.before

abbrev after_attract : AtAfterWithout → AtAfterAttract
after_attract c = c.before.before.before.before.before

pub drawn_at-drawn-requires : goal.drawn_at-drawn-requires
drawn_at-drawn-requires c = let g = c.before.before.before.before.before in ready_places g.requires.ready

pub attract-requires : goal.attract-requires
attract-requires c =
    let named = c.before.before in
    let placed = named.before in
    cut_attractable (start_of placed).requires named.index.ensures.1 placed.drawn_at-drawn.ensures

pub without-requires : goal.without-requires
without-requires c =
    let drawn = c.before.before.before.before.before in
    let placed = (after_index drawn).before in
    let g = start_of placed in
    let high = g.requires.ready.high in
    let above = g.requires.ready.called.above in
    let size = g.requires.ready.size in
    let there = placed.drawn_at-drawn.ensures in
    let next = c.next_set.ensures in
    let long = drawn.attract.auto.work in
    (before (omega arith) (omega arith), before (omega arith) (omega arith))

pub returns : goal.returns
returns c =
    λ priorities ok.
    let taken = c.before.before.before in
    let drawn = after_attract taken in
    let named = after_index drawn in
    let placed = named.before in
    let g = start_of placed in
    cut_done g.requires named.index.result named.index.ensures.0 placed.drawn_at-drawn.ensures taken.next_set.ensures priorities ok
    (drawn.attract.ensures priorities ok)
    (taken.without.ensures _ g.requires.ready.size)
