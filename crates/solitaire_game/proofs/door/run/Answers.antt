-- `run` meets its contract: each call asks for what the calls before it left.
use mathlib.Core.Path.{◌≡◌, ◌∙◌}
use Prim.Native.Nat.{◌+◌, ◌≤◌}
use native.Mathlib.Omega.{arith}
use lib.ListN.{length}
use Rattle.rules.specs.Tables.{tables_of}
use Rattle.accepted.specs.Tables.{accepted_sound}
use Rattle.area.specs.Lent.{words_few}
use Rattle.sets.specs.Laws.{cleared_all}
use Rattle.solitaire_game.specs.Running.{SetsStand, mark_ready, place_ready, attract_ready, long₃, copy_fits, copy_long, answer_holds}
use Rattle.solitaire_game.proofs.door.run.Goals.{Start, After-next_set-good, After-attract}
use Rattle.solitaire_game.proofs.door.run.Goals as goal

-- the numbers are small
few :
    (c : Start) →
    (length c.args.owners.now ≤ 4096) × (length c.args.targets.now ≤ 16384) × (length c.args.set.now ≤ 64)
few c =
    let f = accepted_sound _ c.requires.0.accepted in
    let s = words_few (length c.args.owners.now) f.few_vertices in
    (f.few_vertices, f.few_edges, omega (arith, c.requires.0.set_size))

-- where the marked row and the sets stand
standing :
    (c : After-next_set-good) →
    SetsStand (tables_of c.args.owners.now c.args.priorities.now c.args.offsets.now c.args.targets.now) (length c.args.set.now)
    c.behind-row.result c.sets-base.result c.next_set-good.result
standing c =
    record { row_at = c.behind-row.ensures; base_at = c.sets-base.ensures; good_at_lem = c.next_set-good.ensures }

-- past the attractor the work area is as long as it was, and has room for the set that it found
long : (c : After-attract) → length c.attract.new.work ≡ length c.args.work.now
long c =
    long₃ _ _ _ c.requires.0 _ c.sole_owner-owner.ensures (record { row_at = c.behind-row.ensures; base_at = c.sets-base.ensures; good_at_lem = c.next_set-good.ensures }) _ c.mark_good.ensures _ c.place.ensures _ _
    (c.attract.ensures c.args.priorities.now c.requires.0.accepted)

room : (c : After-attract) → c.next_set-good.result + length c.args.set.now ≤ length c.attract.new.work
room c =
    copy_fits _ _ _ c.requires.0 _ c.sole_owner-owner.ensures (record { row_at = c.behind-row.ensures; base_at = c.sets-base.ensures; good_at_lem = c.next_set-good.ensures }) _ c.mark_good.ensures _ c.place.ensures _ _
    (c.attract.ensures c.args.priorities.now c.requires.0.accepted)

pub behind-row-requires : goal.behind-row-requires
behind-row-requires c = omega (arith, few (goal.at.behind-row-requires c).Start)

pub sets-base-requires : goal.sets-base-requires
sets-base-requires c = omega (arith, few (goal.at.sets-base-requires c).Start)

pub next_set-good-requires : goal.next_set-good-requires
next_set-good-requires c = omega (arith, c.sets-base.ensures, few (goal.at.next_set-good-requires c).Start)

pub mark_good-requires : goal.mark_good-requires
mark_good-requires c = (
  mark_ready _ _ _ c.requires.0 _ c.sole_owner-owner.ensures (standing (goal.at.mark_good-requires c).After-next_set-good),
  c.requires.1,
)

pub place-requires : goal.place-requires
place-requires c =
    place_ready _ _ _ c.requires.0 _ c.sole_owner-owner.ensures (standing (goal.at.place-requires c).After-next_set-good) _
    c.mark_good.ensures

pub attract-requires : goal.attract-requires
attract-requires c =
    attract_ready _ _ _ c.requires.0 _ c.sole_owner-owner.ensures (standing (goal.at.attract-requires c).After-next_set-good) _
    c.mark_good.ensures _ c.place.ensures

pub offset_bounds-work-good : goal.offset_bounds-work-good
offset_bounds-work-good c = omega (arith, c.next_set-good.ensures, c.sets-base.ensures, few (goal.at.offset_bounds-work-good c).Start)

pub slice_bounds-copy_from-end : goal.slice_bounds-copy_from-end
slice_bounds-copy_from-end c = omega (arith, room (goal.at.slice_bounds-copy_from-end c).After-attract)

pub copy_from-requires : goal.copy_from-requires
copy_from-requires c =
    copy_long _ _ _ c.requires.0 _ c.sole_owner-owner.ensures (standing (goal.at.copy_from-requires c).After-next_set-good) _
    c.mark_good.ensures _ c.place.ensures _ _ (c.attract.ensures c.args.priorities.now c.requires.0.accepted)

pub shape_of-work : goal.shape_of-work
shape_of-work c = c.clear.ensures.long ∙ long (goal.at.shape_of-work c).After-attract

pub returns : goal.returns
returns c = (
  cleared_all _ _ (long (goal.at.returns c).After-attract) c.clear.ensures,
  answer_holds _ _ _ c.requires.0 _ c.sole_owner-owner.ensures (standing (goal.at.returns c).After-next_set-good) _
      c.mark_good.ensures _ c.place.ensures _ _ (c.attract.ensures c.args.priorities.now c.requires.0.accepted) _
      c.copy_from.ensures (λ i. (c.type_inv.set i).fits),
)
