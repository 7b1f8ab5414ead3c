-- `run` meets its contract: each call asks for what the calls before it left, and what is copied out are the winning sets.
use mathlib.Core.Logic.{inl, inr}
use mathlib.Core.Path.{◌≡◌, sym, ap, ◌∙◌}
use Prim.Native.Nat.{◌≤◌}
use native.Mathlib.Omega.{arith}
use lib.ListN.{length}
use Rattle.accepted.specs.Tables.{accepted_sound}
use Rattle.area.specs.Lent.{part_is, part_length, words_few}
use Rattle.sets.specs.Laws.{cleared_all}
use Rattle.quasi_polynomial.specs.Running.{run_fits, run_preparable, run_called, run_long, run_opinion}
use Rattle.quasi_polynomial.proofs.door.run.Goals.{Start, After-difference_with}
use Rattle.quasi_polynomial.proofs.door.run.Goals as goal

-- the numbers are small
few :
    (c : Start) →
    (length c.args.owners.now ≤ 4096) × (length c.args.targets.now ≤ 16384) × (length c.args.even.now ≤ 64)
few c =
    let f = accepted_sound _ c.requires.accepted in
    let s = words_few (length c.args.owners.now) f.few_vertices in
    (f.few_vertices, f.few_edges, omega (arith, c.requires.even_size))

-- past the reduction the work area is as long as it was
long : (c : After-difference_with) → length c.difference_with.new.words ≡ length c.args.work.now
long c =
    run_long c.requires c.free-all.ensures c.next_set-base.ensures c.prepare.ensures c.copy_with.ensures c.solve_even.ensures
    c.difference_with.ensures

pub free-all-requires : goal.free-all-requires
free-all-requires c = (c.requires.even_size, omega (arith, few (goal.at.free-all-requires c).Start, c.requires.even_size))

pub next_set-base-requires : goal.next_set-base-requires
next_set-base-requires c = omega (arith, run_fits c.requires c.free-all.ensures, c.well_formed)

pub prepare-requires : goal.prepare-requires
prepare-requires c = run_preparable c.requires c.free-all.ensures

pub copy_with-requires : goal.copy_with-requires
copy_with-requires c =
    let room = run_fits c.requires c.free-all.ensures in
    let same = c.prepare.ensures.long in
    record { into_fits = omega arith; from_fits = omega arith; apart = inr (omega arith) }

pub solve_even-requires : goal.solve_even-requires
solve_even-requires c =
    run_called c.requires c.free-all.ensures c.next_set-base.ensures c.prepare.ensures c.copy_with.ensures

pub difference_with-requires : goal.difference_with-requires
difference_with-requires c =
    let room = run_fits c.requires c.free-all.ensures in
    let long₁ = c.prepare.ensures.long in
    let long₂ = c.copy_with.ensures.long in
    let long₃ = c.solve_even.ensures.stays.long in
    record { into_fits = omega arith; from_fits = omega arith; apart = inl (omega arith) }

pub overflow_add-base : goal.overflow_add-base
overflow_add-base c = omega (arith, run_fits c.requires c.free-all.ensures, c.well_formed)

pub offset_bounds-work-base : goal.offset_bounds-work-base
offset_bounds-work-base c = omega (arith, run_fits c.requires c.free-all.ensures, c.well_formed)

pub slice_bounds-copy_from-end : goal.slice_bounds-copy_from-end
slice_bounds-copy_from-end c =
    omega (arith, run_fits c.requires c.free-all.ensures, long (goal.at.slice_bounds-copy_from-end c).After-difference_with)

pub copy_from-requires : goal.copy_from-requires
copy_from-requires c =
    let room = run_fits c.requires c.free-all.ensures in
    let same = long (goal.at.copy_from-requires c).After-difference_with in
    let s = length c.args.even.now in
    sym (ap length (part_is c.next_set-base.result s _) ∙ part_length c.next_set-base.result s _ (omega arith))

pub overflow_add-all : goal.overflow_add-all
overflow_add-all c = omega (arith, run_fits c.requires c.free-all.ensures, c.well_formed)

pub offset_bounds-work-all : goal.offset_bounds-work-all
offset_bounds-work-all c = omega (arith, run_fits c.requires c.free-all.ensures, c.well_formed)

pub slice_bounds-copy_from-end-2 : goal.slice_bounds-copy_from-end-2
slice_bounds-copy_from-end-2 c =
    omega (arith, run_fits c.requires c.free-all.ensures, long (goal.at.slice_bounds-copy_from-end-2 c).After-difference_with)

pub copy_from-requires-2 : goal.copy_from-requires-2
copy_from-requires-2 c =
    let room = run_fits c.requires c.free-all.ensures in
    let same = long (goal.at.copy_from-requires-2 c).After-difference_with in
    let s = length c.args.even.now in
    c.requires.odd_size ∙
    sym
    (ap length (part_is c.free-all.result s _) ∙ part_length c.free-all.result s _ (omega arith) ∙ c.requires.even_size)

pub returns : goal.returns
returns c = (
  cleared_all _ _ (long (goal.at.returns c).After-difference_with) c.clear.ensures,
  run_opinion c.requires c.free-all.ensures c.next_set-base.ensures c.prepare.ensures c.copy_with.ensures
      c.solve_even.ensures c.difference_with.ensures _ _ c.copy_from.ensures c.copy_from-2.ensures
      (λ i. (c.type_inv.even i).fits) (λ i. (c.type_inv.odd i).fits),
)
