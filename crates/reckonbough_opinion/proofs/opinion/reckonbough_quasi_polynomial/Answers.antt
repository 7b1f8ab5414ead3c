-- `reckonbough_quasi_polynomial` meets its contract: the record is checked first, and past that what is told and written is what
-- `solve_quasi_polynomial` answers and writes of the entries that count.
use mathlib.Core.Path.{sym}
use Prim.Native.Nat.{◌+◌}
use native.Mathlib.Omega.{arith}
use Rattle.std.proofs.Common.{length-take}
use Rattle.parity_game.specs.Said.{said}
use Rattle.rules.specs.SecondOpinion.{LentSets, GivesOpinion}
use Rattle.theory.specs.Edits.{passing}
use Rattle.record.specs.ByRecord.{refusal_first, done_first}
use Rattle.reckonbough_opinion.proofs.opinion.reckonbough_quasi_polynomial.Goals as goal

pub slice_bounds-solve_quasi_polynomial-end : goal.slice_bounds-solve_quasi_polynomial-end
slice_bounds-solve_quasi_polynomial-end c =
    omega (arith, length-take c.args.n c.args.owners.now, (passing _ (sym c.in-Ok.ensures)).room.owner_room)

pub slice_bounds-solve_quasi_polynomial-end-in-Ok : goal.slice_bounds-solve_quasi_polynomial-end-in-Ok
slice_bounds-solve_quasi_polynomial-end-in-Ok c =
    omega (arith, length-take c.args.n c.args.priorities.now, (passing _ (sym c.in-Ok.ensures)).room.priority_room)

pub overflow_add-n : goal.overflow_add-n
overflow_add-n c = omega (arith, (passing _ (sym c.in-Ok.ensures)).room.few_vertices)

pub slice_bounds-solve_quasi_polynomial-end-in-Ok-2 : goal.slice_bounds-solve_quasi_polynomial-end-in-Ok-2
slice_bounds-solve_quasi_polynomial-end-in-Ok-2 c =
    omega (arith, length-take (c.args.n + 1) c.args.offsets.now, (passing _ (sym c.in-Ok.ensures)).room.offset_room)

pub slice_bounds-solve_quasi_polynomial-end-in-Ok-3 : goal.slice_bounds-solve_quasi_polynomial-end-in-Ok-3
slice_bounds-solve_quasi_polynomial-end-in-Ok-3 c =
    omega (arith, length-take c.args.m c.args.targets.now, (passing _ (sym c.in-Ok.ensures)).room.target_room)

pub solve_quasi_polynomial-done-requires : goal.solve_quasi_polynomial-done-requires
solve_quasi_polynomial-done-requires c = let p = passing _ (sym c.in-Ok.ensures) in record { accepted = p.accepted; fresh = p.fresh }

-- what is told and left past the check of the record
pub returns-in-Ok : goal.returns-in-Ok
returns-in-Ok c =
    let at = c.args in
    let did = c.solve_quasi_polynomial-done.new in
    let before : LentSets = record { even = at.even.now; odd = at.odd.now; work = at.work.now } in
    let after : LentSets = record { even = did.even; odd = did.odd; work = did.work } in
    done_first _ before after (λ o t. GivesOpinion t before after o) (said c.solve_quasi_polynomial-done.result) (sym c.in-Ok.ensures)
    c.solve_quasi_polynomial-done.ensures
    c.tell.ensures

pub returns-in-Err : goal.returns-in-Err
returns-in-Err c =
    let at = c.args in
    let lent : LentSets = record { even = at.even.now; odd = at.odd.now; work = at.work.now } in
    refusal_first _ lent (λ o t. GivesOpinion t lent lent o) c.in-Err.refused c.in-Err.ensures
    c.tell-in-Err.ensures
