-- `solve` meets its contract: past the check of the record its first entries are accepted tables, freshly counted.
use mathlib.Core.Path.{sym, refl}
use Rattle.std.proofs.Common.{◌+◌, length-take}
use native.Mathlib.Omega.{arith}
use Rattle.theory.specs.Edits.{passing}
use Rattle.record.specs.ByRecord.{passed_room, done_first}
use Rattle.rules.specs.Solver.{Lent, Solves}
use Rattle.solver.specs.Unsolved.{said}
use Rattle.reckonbough_solvers.proofs.door.solve.Goals as goal

pub slice_bounds-solve-end : goal.slice_bounds-solve-end
slice_bounds-solve-end g c =
    omega (arith, length-take c.args.n c.args.owners.now, (passed_room _ (sym c.in_ok-check_record.ensures)).owner_room)

pub slice_bounds-solve-end-2 : goal.slice_bounds-solve-end-2
slice_bounds-solve-end-2 g c =
    omega (arith, length-take c.args.n c.args.priorities.now, (passed_room _ (sym c.in_ok-check_record.ensures)).priority_room)

pub overflow_add-n : goal.overflow_add-n
overflow_add-n g c = omega (arith, (passed_room _ (sym c.in_ok-check_record.ensures)).few_vertices)

pub slice_bounds-solve-end-3 : goal.slice_bounds-solve-end-3
slice_bounds-solve-end-3 g c =
    omega (arith, length-take (c.args.n + 1) c.args.offsets.now, (passed_room _ (sym c.in_ok-check_record.ensures)).offset_room)

pub slice_bounds-solve-end-4 : goal.slice_bounds-solve-end-4
slice_bounds-solve-end-4 g c =
    omega (arith, length-take c.args.m c.args.targets.now, (passed_room _ (sym c.in_ok-check_record.ensures)).target_room)

pub solve-requires : goal.solve-requires
solve-requires g c =
    let past = passing _ (sym c.in_ok-check_record.ensures) in record { accepted = past.accepted; fresh = past.fresh }

-- what is given and left past the check of the record
pub returns : goal.returns
returns g c =
    let at = c.args in
    let did = c.solve.new in
    let before : Lent = record { even = at.even.now; odd = at.odd.now; strategy = at.strategy.now; work = at.work.now } in
    let after : Lent = record { even = did.even; odd = did.odd; strategy = did.strategy; work = did.work } in
    done_first _ before after
    (λ o t. Solves at.budget t (g.E.Engine.needed t) (g.E.Engine.won t) (g.E.Engine.entries t) before after o)
    (said c.solve.result)
    (sym c.in_ok-check_record.ensures)
    c.solve.ensures
    refl
