-- `collect` meets its contract: the vertices of priority p that the walk has passed are in the set.
use native.Mathlib.Omega.{arith}
use Rattle.area.specs.Walked.{walked_none, walked_few, walked_all, walked_next}
use Rattle.highest_priority.specs.Collecting.{collect_walkable, insert_fits, collecting_all, collecting_one, collecting_other}
use Rattle.highest_priority.proofs.highest.collect.Goals as goal

pub loop-v-init : goal.loop-v-init
loop-v-init c =
    walked_none (collect_walkable c.args.priorities.now c.requires) (λ u l. c.requires.nothing u) c.new-walk.ensures

pub next-requires : goal.next-requires
next-requires c = walked_few (collect_walkable c.args.priorities.now c.requires) c.loop-v.invariant

pub offset_bounds-priorities-v : goal.offset_bounds-priorities-v
offset_bounds-priorities-v c =
    let walkable = collect_walkable c.args.priorities.now c.requires in
    omega (arith, (walked_next walkable c.loop-v.invariant _ c.next.ensures c.in-Some.is).small, c.well_formed)

pub bounds-priorities-v : goal.bounds-priorities-v
bounds-priorities-v c =
    let walkable = collect_walkable c.args.priorities.now c.requires in
    (walked_next walkable c.loop-v.invariant _ c.next.ensures c.in-Some.is).small

pub insert-requires : goal.insert-requires
insert-requires c =
    let walkable = collect_walkable c.args.priorities.now c.requires in
    let reached = walked_next walkable c.loop-v.invariant _ c.next.ensures c.in-Some.is in
    insert_fits c.args.priorities.now c.requires c.loop-v.invariant.keeps reached.small

pub loop-v-smaller-then-priorities-v : goal.loop-v-smaller-then-priorities-v
loop-v-smaller-then-priorities-v c =
    let walkable = collect_walkable c.args.priorities.now c.requires in
    (walked_next walkable c.loop-v.invariant _ c.next.ensures c.in-Some.is).shorter

pub loop-v-preserved-then-priorities-v : goal.loop-v-preserved-then-priorities-v
loop-v-preserved-then-priorities-v c =
    let walkable = collect_walkable c.args.priorities.now c.requires in
    let reached = walked_next walkable c.loop-v.invariant _ c.next.ensures c.in-Some.is in
    reached.more
    (collecting_one c.args.priorities.now c.requires c.loop-v.invariant.keeps reached.small c.if-priorities-v.true c.insert.ensures)

pub loop-v-smaller : goal.loop-v-smaller
loop-v-smaller c =
    let walkable = collect_walkable c.args.priorities.now c.requires in
    (walked_next walkable c.loop-v.invariant _ c.next.ensures c.in-Some.is).shorter

pub loop-v-preserved : goal.loop-v-preserved
loop-v-preserved c =
    let walkable = collect_walkable c.args.priorities.now c.requires in
    let reached = walked_next walkable c.loop-v.invariant _ c.next.ensures c.in-Some.is in
    reached.more (collecting_other c.args.priorities.now c.requires c.loop-v.invariant.keeps c.if-priorities-v.false)

pub returns : goal.returns
returns c =
    let walkable = collect_walkable c.args.priorities.now c.requires in
    collecting_all c.args.priorities.now c.requires (walked_all walkable c.loop-v.invariant _ c.next.ensures c.in_default.is)
