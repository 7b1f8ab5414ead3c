-- `begin_level` meets its contract: what is taken from the level twice, and forgotten, begins it.
use Rattle.promotion_levels.specs.LevelBegins.{begin_next, begin_held, begin_forgettable, begun}
use Rattle.promotion_levels.proofs.levels.begin_level.Lts as lts
use Rattle.promotion_levels.proofs.levels.begin_level.Reads as reads
use Rattle.promotion_levels.proofs.levels.begin_level.Tie as tie
use Rattle.promotion_levels.proofs.levels.begin_level.Goals as goal

abbrev AtAfterForget : Type 0
AtAfterForget = lts.After-forget tie.the-claims reads.Pre reads.Post

abbrev AtAfterNextSet : Type 0
AtAfterNextSet = lts.After-next_set tie.the-claims reads.Pre reads.Post

abbrev AtAfterWithout : Type 0
AtAfterWithout = lts.After-without tie.the-claims reads.Pre reads.Post

abbrev AtAfterWithout2 : Type 0
AtAfterWithout2 = lts.After-without2 tie.the-claims reads.Pre reads.Post

abbrev AtStart : Type 0
AtStart = lts.Start tie.the-claims reads.Pre reads.Post

-- the places of the function, each from the next: where it begins, and after each call
abbrev start_of : AtAfterNextSet → AtStart
start_of c = c.before.before.before

abbrev after_next_set : AtAfterWithout → AtAfterNextSet
after_next_set c = c.before.before

abbrev after_without : AtAfterWithout2 → AtAfterWithout
after_without c = c.before.before.before.before

abbrev after_without2 : AtAfterForget → AtAfterWithout2
after_without2 c = c.before.before.before.before

pub set_at-of-requires : goal.set_at-of-requires
set_at-of-requires c = c.requires.placeable

pub without-requires : goal.without-requires
without-requires c =
    let placed = c.before in
    begin_next (start_of placed).requires placed.set_at-of.ensures placed.next_set-next.ensures

pub without-requires-2 : goal.without-requires-2
without-requires-2 c =
    let cut = c.before.before.before in
    let placed = after_next_set cut in
    let g = start_of placed in
    begin_held g.requires placed.set_at-of.ensures placed.next_set-next.ensures
    (cut.without.ensures g.args.n g.requires.placeable.size)

pub forget-requires : goal.forget-requires
forget-requires c =
    let taken = c.before.before.before in
    let cut = after_without taken in
    let placed = after_next_set cut in
    let g = start_of placed in
    let n = g.args.n in
    let size = g.requires.placeable.size in
    let at = placed.set_at-of.ensures in
    let next = placed.next_set-next.ensures in
    (n, begin_forgettable g.requires at next (cut.without.ensures n size) (taken.without-2.ensures n size))

pub returns : goal.returns
returns c priorities sets =
    let forgot = c.before.before.before in
    let taken = after_without2 forgot in
    let cut = after_without taken in
    let placed = after_next_set cut in
    let g = start_of placed in
    let n = g.args.n in
    let size = g.requires.placeable.size in
    let at = placed.set_at-of.ensures in
    let next = placed.next_set-next.ensures in
    let first = cut.without.ensures n size in
    let second = taken.without-2.ensures n size in
    begun g.requires at next first second (forgot.forget.ensures n (begin_forgettable g.requires at next first second)) priorities sets
