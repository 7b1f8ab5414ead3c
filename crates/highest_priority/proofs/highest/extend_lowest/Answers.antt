-- `extend_lowest` meets its contract: the vertices of U that the walk has passed have an edge inside V, where p's player owns
-- them.
use mathlib.Core.Path.{◌∙◌}
use native.Mathlib.Omega.{arith}
use Rattle.area.specs.Walked.{walked_none, walked_few, walked_all, walked_next}
use Rattle.highest_priority.specs.Extending.{extend_walkable, extending_all, extending_one, extend_edges, other_owner, index_is}
use Rattle.highest_priority.proofs.highest.extend_lowest.Goals as goal

pub loop-v-init : goal.loop-v-init
loop-v-init c = walked_none (extend_walkable c.requires) tt c.new-walk.ensures

pub next-requires : goal.next-requires
next-requires c = walked_few (extend_walkable c.requires) c.loop-v.invariant

pub bounds-owners-v : goal.bounds-owners-v
bounds-owners-v c = (walked_next (extend_walkable c.requires) c.loop-v.invariant _ c.next.ensures c.in-Some.is).small

pub lowest_inside-w-requires : goal.lowest_inside-w-requires
lowest_inside-w-requires c =
    let reached = walked_next (extend_walkable c.requires) c.loop-v.invariant _ c.next.ensures c.in-Some.is in
    extend_edges c.requires reached.member c.loop-v.invariant.keeps

pub overflow_add-work : goal.overflow_add-work
overflow_add-work c =
    let reached = walked_next (extend_walkable c.requires) c.loop-v.invariant _ c.next.ensures c.in-Some.is in
    omega (arith, reached.small, c.entries-entries.ensures)

pub offset_bounds-work-entries : goal.offset_bounds-work-entries
offset_bounds-work-entries c =
    let reached = walked_next (extend_walkable c.requires) c.loop-v.invariant _ c.next.ensures c.in-Some.is in
    omega (arith, reached.small, c.entries-entries.ensures)

pub bounds-work-entries : goal.bounds-work-entries
bounds-work-entries c =
    let reached = walked_next (extend_walkable c.requires) c.loop-v.invariant _ c.next.ensures c.in-Some.is in
    omega (arith, reached.small, c.entries-entries.ensures)

pub loop-v-smaller-then-owners-v : goal.loop-v-smaller-then-owners-v
loop-v-smaller-then-owners-v c =
    (walked_next (extend_walkable c.requires) c.loop-v.invariant _ c.next.ensures c.in-Some.is).shorter

pub loop-v-preserved-then-owners-v : goal.loop-v-preserved-then-owners-v
loop-v-preserved-then-owners-v c =
    let reached = walked_next (extend_walkable c.requires) c.loop-v.invariant _ c.next.ensures c.in-Some.is in
    reached.more
    (extending_one c.requires reached.member c.loop-v.invariant.keeps c.if-owners-v.true c.lowest_inside-w.ensures
    c.entries-entries.ensures)

pub loop-v-smaller : goal.loop-v-smaller
loop-v-smaller c = (walked_next (extend_walkable c.requires) c.loop-v.invariant _ c.next.ensures c.in-Some.is).shorter

pub loop-v-preserved : goal.loop-v-preserved
loop-v-preserved c =
    let reached = walked_next (extend_walkable c.requires) c.loop-v.invariant _ c.next.ensures c.in-Some.is in
    reached.more (other_owner c.requires reached.member c.if-owners-v.false)

pub returns : goal.returns
returns c =
    extending_all c.requires (index_is c.args.p.0 c.index-alpha.ensures.1 (c.index-alpha.ensures.0 ∙ c.from_priority.ensures))
    (walked_all (extend_walkable c.requires) c.loop-v.invariant _ c.next.ensures c.in_default.is)
