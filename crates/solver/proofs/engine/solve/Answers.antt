-- `solve` meets its contract: a refusal is returned with nothing written; past the checks the run is done in the first W words.
use mathlib.Core.Path.{sym, ◌∙◌}
use native.Mathlib.Omega.{arith}
use Rattle.std.proofs.lemmas.Result.{err_from_is_err_and}
use Rattle.rules.specs.Tables.{tables_of}
use Rattle.lent_checks.specs.Checks.{sizes_few, all_checks, checks_passed}
use Rattle.solver.proofs.Door.{refused_before, ran_said}
use Rattle.solver.specs.Running.{run_ready, solves_ran}
use Rattle.area.specs.Lent.{work_cleared}
use Rattle.solver.proofs.engine.solve.Goals as goal

pub check_lent-requires : goal.check_lent-requires
check_lent-requires g c = sizes_few _ c.requires.accepted

pub returns-in_err-check_lent : goal.returns-in_err-check_lent
returns-in_err-check_lent g c =
    let p = err_from_is_err_and c.from_residual.result c.from_residual.ensures.1 in
    rw (p.1, p.2)
    (refused_before _ _ _ _ _ _ c.in_err-check_lent.field-0.0 (c.in_err-check_lent.ensures ∙ all_checks _ c.requires.accepted _ _ _ _))

pub work_words-w-requires : goal.work_words-w-requires
work_words-w-requires g c = sizes_few _ c.requires.accepted

pub slice_bounds-run-end : goal.slice_bounds-run-end
slice_bounds-run-end g c =
    let past = checks_passed _ _ _ _ _ (sym (c.in_ok-check_lent.ensures ∙ all_checks _ c.requires.accepted _ _ _ _)) in
    omega (arith, past.work_size, c.work_words-w.ensures)

pub run-requires : goal.run-requires
run-requires g c =
    let past = checks_passed _ _ _ _ _ (sym (c.in_ok-check_lent.ensures ∙ all_checks _ c.requires.accepted _ _ _ _)) in
    (run_ready _ _ _ _ _ _ c.work_words-w.ensures past, c.requires)

pub returns : goal.returns
returns g c =
    let none-left = sym (c.in_ok-check_lent.ensures ∙ all_checks _ c.requires.accepted _ _ _ _) in
    let past = checks_passed _ _ _ _ _ none-left in
    rw (c.ok_or.ensures.value, sym (ran_said c.args.budget c.run.result))
    (solves_ran _ _ _ _ _ _ _ c.run.result none-left c.run.ensures.1
    (work_cleared (tables_of c.args.owners.now c.args.priorities.now c.args.offsets.now c.args.targets.now) _ _ _ c.work_words-w.ensures past.work_size c.run.ensures.0))
