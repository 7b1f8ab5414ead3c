-- `attract_lost` meets its contract: what the opponent won is the target of the cut, and the attractor is the opponent's.
use native.Mathlib.Omega.{arith}
use Rattle.zielonka_level.specs.PiecesHold.{ready_places, behind, lost_made}
use Rattle.zielonka_cuts.proofs.cuts.attract_lost.Lts as lts
use Rattle.zielonka_cuts.proofs.cuts.attract_lost.Reads as reads
use Rattle.zielonka_cuts.proofs.cuts.attract_lost.Tie as tie
use Rattle.zielonka_cuts.proofs.cuts.attract_lost.Goals as goal

abbrev AtAfterCut : Type 0
AtAfterCut = lts.After-cut tie.the-claims reads.Pre reads.Post

abbrev AtAfterOddAt : Type 0
AtAfterOddAt = lts.After-odd_at tie.the-claims reads.Pre reads.Post

abbrev AtAfterOpponentOf : Type 0
AtAfterOpponentOf = lts.After-opponent_of tie.the-claims reads.Pre reads.Post

abbrev AtStart : Type 0
AtStart = lts.Start tie.the-claims reads.Pre reads.Post

-- the places of the function, each from the next: where it begins, and after each call
abbrev start_of : AtAfterOpponentOf → AtStart
start_of c = c.before.before.before.before.before

abbrev after_named : AtAfterCut → AtAfterOpponentOf
after_named c = c.before.before

abbrev after_cut : AtAfterOddAt → AtAfterCut
after_cut c = c.before.before.before

pub cut-requires : goal.cut-requires
cut-requires c = (start_of c.before.before).requires

pub odd_at-odd-requires : goal.odd_at-odd-requires
odd_at-odd-requires c = ready_places (start_of (after_named c.before.before.before)).requires.ready

pub drawn_at-drawn-requires : goal.drawn_at-drawn-requires
drawn_at-drawn-requires c = ready_places (start_of (after_named (after_cut c.before))).requires.ready

pub give-requires : goal.give-requires
give-requires c =
    let placed = c.before.before in
    let parted = after_cut placed.before in
    let g = start_of (after_named parted) in
    let high = g.requires.ready.high in
    let above = g.requires.ready.called.above in
    let size = g.requires.ready.size in
    let odd = placed.odd_at-odd.ensures in
    let there = placed.drawn_at-drawn.ensures in
    behind (omega arith) (omega (arith, parted.cut.auto.work))

pub returns : goal.returns
returns c priorities ok =
    let given = c.before.before.before in
    let placed = given.before.before in
    let parted = after_cut placed.before in
    let named = after_named parted in
    lost_made (start_of named).requires named.opponent_of-player.ensures placed.odd_at-odd.ensures placed.drawn_at-drawn.ensures
    priorities
    (parted.cut.ensures priorities ok)
    given.give.ensures
