-- `forget` meets its contract: the members that the walk has passed have no entry.
use native.Mathlib.Omega.{arith}
use Rattle.area.specs.Walked.{walked_none, walked_few, walked_all, walked_next}
use Rattle.promotion_sets.specs.Forgetting.{forget_walkable, forget_fits, forget_turn}
use Rattle.promotion_sets.proofs.level.forget.Goals as goal

pub loop-v-init : goal.loop-v-init
loop-v-init c n given = walked_none (forget_walkable given) tt c.new-walk.ensures

pub next-requires : goal.next-requires
next-requires c = let (n, given) = c.requires in walked_few (forget_walkable given) (c.loop-v.invariant n given)

pub overflow_add-work : goal.overflow_add-work
overflow_add-work c =
    let (n, given) = c.requires in
    let passed = c.loop-v.invariant n given in
    let reached = walked_next (forget_walkable given) passed _ c.next.ensures c.in-Some.is in
    omega (arith, forget_fits given passed.keeps _ reached.small, c.well_formed)

pub offset_bounds-work-entries : goal.offset_bounds-work-entries
offset_bounds-work-entries c =
    let (n, given) = c.requires in
    let passed = c.loop-v.invariant n given in
    let reached = walked_next (forget_walkable given) passed _ c.next.ensures c.in-Some.is in
    omega (arith, forget_fits given passed.keeps _ reached.small, c.well_formed)

pub bounds-work-entries : goal.bounds-work-entries
bounds-work-entries c =
    let (n, given) = c.requires in
    let passed = c.loop-v.invariant n given in
    forget_fits given passed.keeps _ (walked_next (forget_walkable given) passed _ c.next.ensures c.in-Some.is).small

pub loop-v-smaller : goal.loop-v-smaller
loop-v-smaller c =
    let (n, given) = c.requires in
    rw given.size (walked_next (forget_walkable given) (c.loop-v.invariant n given) _ c.next.ensures c.in-Some.is).shorter

pub loop-v-preserved : goal.loop-v-preserved
loop-v-preserved c n given =
    let passed = c.loop-v.invariant n given in
    let reached = walked_next (forget_walkable given) passed _ c.next.ensures c.in-Some.is in
    reached.more (forget_turn given passed.keeps reached.small)

pub returns : goal.returns
returns c n given = walked_all (forget_walkable given) (c.loop-v.invariant n given) _ c.next.ensures c.in_default.is
