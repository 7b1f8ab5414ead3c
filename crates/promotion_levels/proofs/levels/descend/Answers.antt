-- `descend` meets its contract: the highest priority is found and marked, and the level begins with it.
use Rattle.promotion_levels.specs.Descending.{descend_room, descend_second, descend_searchable}
use Rattle.promotion_levels.specs.Descending.{descend_beginnable, descended}
use Prim.Native.Nat.{◌+◌, ◌*◌, ◌<◌, ◌^◌}
use native.Mathlib.Omega.{arith}
use Rattle.promotion_levels.proofs.levels.descend.Goals as goal

pub level_at-base-requires : goal.level_at-base-requires
level_at-base-requires c =
    let g = c in
    let small : g.args.levels + g.args.k * g.args.s < 2 ^ 64 = omega (arith, descend_room g.requires, g.well_formed) in
    small

pub get_highest_prio-p-requires : goal.get_highest_prio-p-requires
get_highest_prio-p-requires c = rw c.level_at-base.ensures (descend_searchable c.requires)

pub bounds-work-depth : goal.bounds-work-depth
bounds-work-depth c = descend_second c.requires c.depth_at-depth.ensures _ _

pub begin_level-requires : goal.begin_level-requires
begin_level-requires c =
    rw c.level_at-base.ensures
    (descend_beginnable c.requires (rw c.level_at-base.ensures at c.get_highest_prio-p.ensures) c.depth_at-depth.ensures
    c.entries-entries.ensures c.priority_at.ensures)

pub returns : goal.returns
returns c =
    descended c.requires (rw c.level_at-base.ensures at c.get_highest_prio-p.ensures) c.depth_at-depth.ensures
    c.entries-entries.ensures c.priority_at.ensures (rw c.level_at-base.ensures at c.begin_level.ensures)

pub shape_of-work : goal.shape_of-work
shape_of-work c = (returns c).long
