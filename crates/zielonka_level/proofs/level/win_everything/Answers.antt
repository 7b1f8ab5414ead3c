-- `win_everything` meets its contract.
use native.Mathlib.Omega.{arith}
use Rattle.zielonka_level.specs.PiecesHold.{highest_placed, highest_parts, ready_places, behind, all_extends, all_made}
use Rattle.zielonka_level.proofs.level.win_everything.Lts as lts
use Rattle.zielonka_level.proofs.level.win_everything.Reads as reads
use Rattle.zielonka_level.proofs.level.win_everything.Tie as tie
use Rattle.zielonka_level.proofs.level.win_everything.Goals as goal

abbrev AtAfterDrawnAt : Type 0
AtAfterDrawnAt = lts.After-drawn_at tie.the-claims reads.Pre reads.Post

abbrev AtAfterExtendLowest : Type 0
AtAfterExtendLowest = lts.After-extend_lowest tie.the-claims reads.Pre reads.Post

abbrev AtAfterFromPriority : Type 0
AtAfterFromPriority = lts.After-from_priority tie.the-claims reads.Pre reads.Post

abbrev AtAfterMeet : Type 0
AtAfterMeet = lts.After-meet tie.the-claims reads.Pre reads.Post

abbrev AtAfterSetAt : Type 0
AtAfterSetAt = lts.After-set_at tie.the-claims reads.Pre reads.Post

abbrev AtStart : Type 0
AtStart = lts.Start tie.the-claims reads.Pre reads.Post

-- the places of the function, each from the next: where it begins, and after each call
abbrev start_of : AtAfterSetAt → AtStart
start_of c = c.before.before.before.before.before

abbrev after_places : AtAfterDrawnAt → AtAfterSetAt
after_places c = c.before.before

abbrev after_meet : AtAfterExtendLowest → AtAfterMeet
after_meet c = c.before.before.before.before

abbrev after_walk : AtAfterFromPriority → AtAfterExtendLowest
after_walk c = c.before.before.before

pub set_at-of-requires : goal.set_at-of-requires
set_at-of-requires c = let g = c.before.before.before.before.before in highest_placed g.requires.ready g.requires.small

pub odd_at-odd-requires : goal.odd_at-odd-requires
odd_at-odd-requires c = ready_places (start_of c.before).requires.ready

pub drawn_at-drawn-requires : goal.drawn_at-drawn-requires
drawn_at-drawn-requires c = ready_places (start_of c.before.before).requires.ready

pub meet-requires : goal.meet-requires
meet-requires c =
    let placed = c.before.before in
    let at = after_places placed in
    let g = start_of at in
    highest_parts g.requires.ready g.requires.small at.set_at-of.ensures placed.drawn_at-drawn.ensures

pub extend_lowest-requires : goal.extend_lowest-requires
extend_lowest-requires c =
    let met = c.before.before.before.before in
    let placed = met.before.before in
    let at = after_places placed in
    let g = start_of at in
    all_extends g.args.p.0 g.requires.ready g.requires.small at.set_at-of.ensures placed.drawn_at-drawn.ensures
    (met.meet.ensures _ g.requires.ready.size)

pub give-requires : goal.give-requires
give-requires c =
    let walked = after_walk c.before.before in
    let met = after_meet walked in
    let placed = met.before.before in
    let g = start_of (after_places placed) in
    let odd = placed.odd_at-odd.ensures in
    let above = g.requires.ready.called.above in
    let high = g.requires.ready.high in
    let size = g.requires.ready.size in
    behind (omega arith) (omega (arith, walked.extend_lowest.ensures.long, (met.meet.ensures _ size).long))

pub returns : goal.returns
returns c priorities ready =
    let given = c.before.before.before in
    let named = given.before.before in
    let walked = after_walk named in
    let met = after_meet walked in
    let placed = met.before.before in
    let at = after_places placed in
    let g = start_of at in
    all_made g.args.p.0 ready g.requires.small at.set_at-of.ensures placed.drawn_at-drawn.ensures
    (met.meet.ensures _ ready.size)
    walked.extend_lowest.ensures
    named.from_priority.ensures
    placed.odd_at-odd.ensures
    (given.give.ensures _ ready.size)
