-- `get_highest_prio` meets its contract: it has the highest priority of the members that the walk has passed.
use native.Mathlib.Omega.{arith}
use Rattle.area.specs.Walked.{walked_few, walked_next}
use Rattle.highest_priority.specs.Highest.{searched_none, searched_all, searched_more, searched_top}
use Rattle.highest_priority.proofs.highest.get_highest_prio.Goals as goal

pub loop-v-init : goal.loop-v-init
loop-v-init c = searched_none c.requires c.new-walk.ensures

pub next-requires : goal.next-requires
next-requires c = walked_few c.requires.walkable c.loop-v.invariant.passed

pub offset_bounds-priorities-v : goal.offset_bounds-priorities-v
offset_bounds-priorities-v c =
    let reached = walked_next c.requires.walkable c.loop-v.invariant.passed _ c.next.ensures c.in-Some.is in
    omega (arith, reached.small, c.well_formed)

pub bounds-priorities-v : goal.bounds-priorities-v
bounds-priorities-v c = (walked_next c.requires.walkable c.loop-v.invariant.passed _ c.next.ensures c.in-Some.is).small

pub returns-then-p-top : goal.returns-then-p-top
returns-then-p-top c =
    let reached = walked_next c.requires.walkable c.loop-v.invariant.passed _ c.next.ensures c.in-Some.is in
    searched_top c.requires c.in-Some.field-0.0 reached.member c.if-p-top.true

pub loop-v-preserved : goal.loop-v-preserved
loop-v-preserved c = searched_more c.requires c.loop-v.invariant _ c.next.ensures c.in-Some.is (omega arith)

pub returns : goal.returns
returns c = searched_all c.requires c.loop-v.invariant _ c.next.ensures c.in_default.is
