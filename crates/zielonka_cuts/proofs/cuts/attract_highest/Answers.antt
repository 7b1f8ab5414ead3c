-- `attract_highest` meets its contract: what V has in common with the set of priority p is the target of the cut.
use Rattle.zielonka_level.specs.PiecesHold.{ready_places, highest_placed, highest_parts, highest_cuttable, highest_made}
use Rattle.zielonka_cuts.proofs.cuts.attract_highest.Lts as lts
use Rattle.zielonka_cuts.proofs.cuts.attract_highest.Reads as reads
use Rattle.zielonka_cuts.proofs.cuts.attract_highest.Tie as tie
use Rattle.zielonka_cuts.proofs.cuts.attract_highest.Goals as goal

abbrev AtAfterCut : Type 0
AtAfterCut = lts.After-cut tie.the-claims reads.Pre reads.Post

abbrev AtAfterDrawnAt : Type 0
AtAfterDrawnAt = lts.After-drawn_at tie.the-claims reads.Pre reads.Post

abbrev AtAfterFromPriority : Type 0
AtAfterFromPriority = lts.After-from_priority tie.the-claims reads.Pre reads.Post

abbrev AtAfterMeet : Type 0
AtAfterMeet = lts.After-meet tie.the-claims reads.Pre reads.Post

abbrev AtAfterSetAt : Type 0
AtAfterSetAt = lts.After-set_at tie.the-claims reads.Pre reads.Post

abbrev AtStart : Type 0
AtStart = lts.Start tie.the-claims reads.Pre reads.Post

-- the places of the function, each from the next: where it begins, and after each call
abbrev start_of : AtAfterSetAt → AtStart
start_of c = c.before.before.before.before.before

abbrev after_places : AtAfterMeet → AtAfterDrawnAt
after_places c = c.before.before

abbrev after_meet : AtAfterFromPriority → AtAfterMeet
after_meet c = c.before.before.before

abbrev after_named : AtAfterCut → AtAfterFromPriority
after_named c = c.before.before

pub set_at-of-requires : goal.set_at-of-requires
set_at-of-requires c = let g = c.before.before.before.before.before in highest_placed g.requires.ready g.requires.small

pub drawn_at-drawn-requires : goal.drawn_at-drawn-requires
drawn_at-drawn-requires c = ready_places (start_of c.before).requires.ready

pub meet-requires : goal.meet-requires
meet-requires c =
    let placed = c.before.before in
    let at = placed.before in
    let g = start_of at in
    highest_parts g.requires.ready g.requires.small at.set_at-of.ensures placed.drawn_at-drawn.ensures

pub cut-requires : goal.cut-requires
cut-requires c =
    let met = after_meet c.before.before in
    let placed = after_places met in
    let at = placed.before in
    let g = start_of at in
    highest_cuttable g.requires.ready g.requires.small at.set_at-of.ensures placed.drawn_at-drawn.ensures
    (met.meet.ensures _ g.requires.ready.size)

pub returns : goal.returns
returns c priorities ready =
    let parted = c.before.before.before in
    let named = after_named parted in
    let met = after_meet named in
    let placed = after_places met in
    let at = placed.before in
    let g = start_of at in
    highest_made ready g.requires.small at.set_at-of.ensures placed.drawn_at-drawn.ensures (met.meet.ensures _ ready.size)
    named.from_priority.ensures
    (parted.cut.ensures priorities ready.called.accepted)
