-- `mend` meets its contract. Past 1 to 6 the sizes are the rule's, past 3 and 35 every output has room, and what is written are
-- the rule's tables and its list.
use Rattle.std.proofs.Common.{rules, arith, sym, refl, subst, ap, Err, ◌≡◌, ◌∙◌, List, ℕ, length, ◌≤◌}
use Rattle.rules.specs.Mending.{mended, overwritten}
use Rattle.rules.specs.Outcome.{Verdict, ◌then◌}
use Rattle.rules.specs.Tables.{tables_of}
use Rattle.parity_game.specs.declared.refusal.Refusal.TheVariants.{TooManyEdges}
use Rattle.parity_game.specs.Said.{verdict}
use Rattle.theory.specs.Mending.{export_mendable}
use Rattle.mend_counts.specs.Bare.{bared_shaped, bared_offsets, bared_targets}
use Rattle.mend.specs.Laws.{lent_of, sizes_told, late_checks, mending_grouped, too_many, rooms_left, rooms_fit, mends_stopped, mends_answered}
use Rattle.mend.proofs.mend.Goals as goal

pub returns-in_err-check_export : goal.returns-in_err-check_export
returns-in_err-check_export c =
    let t = tables_of c.args.owners.now c.args.priorities.now c.args.offsets.now c.args.targets.now in
    let l = lent_of c.args.new_priorities.now c.args.new_offsets.now c.args.new_targets.now c.args.list.now in
    mends_stopped c.from_residual.result c.in_err-check_export.field-0.0 (search rules)
    (subst (λ (v : Verdict). verdict (Err c.in_err-check_export.field-0.0) ≡ v then late_checks t l) c.in_err-check_export.ensures refl ∙
    sym (mending_grouped t l))

pub altered_vertices-altered-requires : goal.altered_vertices-altered-requires
altered_vertices-altered-requires c =
    let t = tables_of c.args.owners.now c.args.priorities.now c.args.offsets.now c.args.targets.now in
    let good = export_mendable t (sym c.in_ok-check_export.ensures) in
    bared_shaped t good.shaped

pub overflow_sub-edges : goal.overflow_sub-edges
overflow_sub-edges c =
    let t = tables_of c.args.owners.now c.args.priorities.now c.args.offsets.now c.args.targets.now in
    let good = export_mendable t (sym c.in_ok-check_export.ensures) in
    let sizes = sizes_told t c.dropped_edges-dropped.result c.altered_vertices-altered.result good.shaped c.dropped_edges-dropped.ensures c.altered_vertices-altered.ensures in
    sizes.few_dropped

pub overflow_add-edges : goal.overflow_add-edges
overflow_add-edges c =
    let t = tables_of c.args.owners.now c.args.priorities.now c.args.offsets.now c.args.targets.now in
    let good = export_mendable t (sym c.in_ok-check_export.ensures) in
    let sizes = sizes_told t c.dropped_edges-dropped.result c.altered_vertices-altered.result good.shaped c.dropped_edges-dropped.ensures c.altered_vertices-altered.ensures in
    omega (arith, sizes.few_altered, good.shaped.few_vertices, good.shaped.few_edges)

pub returns-then-edges-gt-MOST_EDGES : goal.returns-then-edges-gt-MOST_EDGES
returns-then-edges-gt-MOST_EDGES c =
    let t = tables_of c.args.owners.now c.args.priorities.now c.args.offsets.now c.args.targets.now in
    let l = lent_of c.args.new_priorities.now c.args.new_offsets.now c.args.new_targets.now c.args.list.now in
    let good = export_mendable t (sym c.in_ok-check_export.ensures) in
    let sizes = sizes_told t c.dropped_edges-dropped.result c.altered_vertices-altered.result good.shaped c.dropped_edges-dropped.ensures c.altered_vertices-altered.ensures in
    let many = too_many t l (sym c.in_ok-check_export.ensures) (rw sizes.edges at c.if-edges-gt-MOST_EDGES.true) in
    mends_stopped (Err TooManyEdges) TooManyEdges refl (sym many)

pub overflow_add-entries : goal.overflow_add-entries
overflow_add-entries c =
    let t = tables_of c.args.owners.now c.args.priorities.now c.args.offsets.now c.args.targets.now in
    let good = export_mendable t (sym c.in_ok-check_export.ensures) in
    let sizes = sizes_told t c.dropped_edges-dropped.result c.altered_vertices-altered.result good.shaped c.dropped_edges-dropped.ensures c.altered_vertices-altered.ensures in
    omega (arith, sizes.few_altered, sizes.few_dropped, good.shaped.few_vertices, good.shaped.few_edges)

pub check_rooms-requires : goal.check_rooms-requires
check_rooms-requires c =
    let t = tables_of c.args.owners.now c.args.priorities.now c.args.offsets.now c.args.targets.now in
    let good = export_mendable t (sym c.in_ok-check_export.ensures) in
    good.shaped.few_vertices

pub returns-in_err-check_rooms : goal.returns-in_err-check_rooms
returns-in_err-check_rooms c =
    let t = tables_of c.args.owners.now c.args.priorities.now c.args.offsets.now c.args.targets.now in
    let l = lent_of c.args.new_priorities.now c.args.new_offsets.now c.args.new_targets.now c.args.list.now in
    let good = export_mendable t (sym c.in_ok-check_export.ensures) in
    let sizes = sizes_told t c.dropped_edges-dropped.result c.altered_vertices-altered.result good.shaped c.dropped_edges-dropped.ensures c.altered_vertices-altered.ensures in
    let few : length (mended t).targets ≤ 16384 = rw sizes.edges at c.if-edges-gt-MOST_EDGES.false in
    mends_stopped c.from_residual-in_err-check_rooms.result c.in_err-check_rooms.field-0.0 (search rules)
    (rw (sizes.edges, sizes.entries) at c.in_err-check_rooms.ensures ∙ sym (rooms_left t l (sym c.in_ok-check_export.ensures) few))

pub write_priorities-requires : goal.write_priorities-requires
write_priorities-requires c =
    let t = tables_of c.args.owners.now c.args.priorities.now c.args.offsets.now c.args.targets.now in
    let good = export_mendable t (sym c.in_ok-check_export.ensures) in
    let sizes = sizes_told t c.dropped_edges-dropped.result c.altered_vertices-altered.result good.shaped c.dropped_edges-dropped.ensures c.altered_vertices-altered.ensures in
    let passes = rw (sizes.edges, sizes.entries) at c.in_ok-check_rooms.ensures in
    let rooms = rooms_fit _ _ _ _ _ _ _ (sym passes) in
    (good, rooms.for_priorities)

pub write_edges-requires : goal.write_edges-requires
write_edges-requires c =
    let t = tables_of c.args.owners.now c.args.priorities.now c.args.offsets.now c.args.targets.now in
    let good = export_mendable t (sym c.in_ok-check_export.ensures) in
    let sizes = sizes_told t c.dropped_edges-dropped.result c.altered_vertices-altered.result good.shaped c.dropped_edges-dropped.ensures c.altered_vertices-altered.ensures in
    let few : length (mended t).targets ≤ 16384 = rw sizes.edges at c.if-edges-gt-MOST_EDGES.false in
    let passes = rw (sizes.edges, sizes.entries) at c.in_ok-check_rooms.ensures in
    let rooms = rooms_fit _ _ _ _ _ _ _ (sym passes) in
    let same = ap length (bared_targets t) in
    (bared_shaped t good.shaped, omega (arith, rooms.for_offsets), omega (arith, same, few), omega (arith, same, rooms.for_targets))

pub write_list-requires : goal.write_list-requires
write_list-requires c =
    let t = tables_of c.args.owners.now c.args.priorities.now c.args.offsets.now c.args.targets.now in
    let good = export_mendable t (sym c.in_ok-check_export.ensures) in
    let sizes = sizes_told t c.dropped_edges-dropped.result c.altered_vertices-altered.result good.shaped c.dropped_edges-dropped.ensures c.altered_vertices-altered.ensures in
    let passes = rw (sizes.edges, sizes.entries) at c.in_ok-check_rooms.ensures in
    let rooms = rooms_fit _ _ _ _ _ _ _ (sym passes) in
    record { mendable = good; counted = sizes.counted; room = rooms.for_list }

pub returns : goal.returns
returns c =
    let t = tables_of c.args.owners.now c.args.priorities.now c.args.offsets.now c.args.targets.now in
    let l = lent_of c.args.new_priorities.now c.args.new_offsets.now c.args.new_targets.now c.args.list.now in
    let good = export_mendable t (sym c.in_ok-check_export.ensures) in
    let sizes = sizes_told t c.dropped_edges-dropped.result c.altered_vertices-altered.result good.shaped c.dropped_edges-dropped.ensures c.altered_vertices-altered.ensures in
    let few : length (mended t).targets ≤ 16384 = rw sizes.edges at c.if-edges-gt-MOST_EDGES.false in
    let passes = rw (sizes.edges, sizes.entries) at c.in_ok-check_rooms.ensures in
    let rooms = rooms_fit _ _ _ _ _ _ _ (sym passes) in
    let nothing = rooms_left t l (sym c.in_ok-check_export.ensures) few ∙ sym passes in
    rw sizes.entries
    (mends_answered t l _ _ _ _ nothing
    c.write_priorities.ensures
    (c.write_edges.ensures.0 ∙ ap (λ (xs : List ℕ). overwritten xs l.offsets) (bared_offsets t))
    (c.write_edges.ensures.1 ∙ ap (λ (xs : List ℕ). overwritten xs l.targets) (bared_targets t))
    c.write_list.ensures)
