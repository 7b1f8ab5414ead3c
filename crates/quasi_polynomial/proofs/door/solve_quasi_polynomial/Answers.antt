-- `solve_quasi_polynomial` meets its contract: a refusal is returned with nothing written; past the checks the run is done in the
-- first W words.
use mathlib.Core.Path.{◌≡◌, refl, sym, ◌∙◌}
use native.Mathlib.Omega.{arith}
use lib.ListN.{length}
use Rattle.std.proofs.lemmas.Result.{err_from_is_err_and}
use Rattle.rules.specs.Outcome.{none, answered}
use Rattle.rules.specs.SecondOpinion.{opinion_words}
use Rattle.rules.specs.Tables.{vertices, edges_in, tables_of}
use Rattle.accepted.specs.Tables.{accepted_sound}
use Rattle.parity_game.specs.Laws.{refused_outcome}
use Rattle.kept_numbers.specs.Reading.{kept_long, kept_small}
use Rattle.quasi_polynomial.specs.Checks.{checks_by, accepted_checks, checks_passed}
use Rattle.quasi_polynomial.specs.Running.{run_ready, opinion_answered, opinion_cleared}
use Rattle.quasi_polynomial.proofs.door.solve_quasi_polynomial.Goals.{In_ok-check_lent}
use Rattle.quasi_polynomial.proofs.door.solve_quasi_polynomial.Goals as goal

no_refusal :
    (c : In_ok-check_lent) →
    checks_by (tables_of c.args.owners.now c.args.priorities.now c.args.offsets.now c.args.targets.now) (length c.args.even.now)
    (length c.args.odd.now) (length c.args.work.now) ≡
    none
no_refusal c = sym (c.in_ok-check_lent.ensures ∙ accepted_checks _ _ _ _ c.requires.accepted)

pub check_lent-requires : goal.check_lent-requires
check_lent-requires c = let f = accepted_sound _ c.requires.accepted in (f.few_vertices, f.few_edges)

pub returns-in_err-check_lent : goal.returns-in_err-check_lent
returns-in_err-check_lent c =
    let p = err_from_is_err_and c.from_residual.result c.from_residual.ensures.1 in
    let e =
    c.in_err-check_lent.ensures ∙
    accepted_checks _ (length c.args.even.now) (length c.args.odd.now) (length c.args.work.now) c.requires.accepted in
    rw (p.1, p.2)
    (record { gives = refused_outcome c.in_err-check_lent.field-0.0 _ (answered 0) e; leaves = rw (sym e) refl })

pub opinion_words-w-requires : goal.opinion_words-w-requires
opinion_words-w-requires c = let f = accepted_sound _ c.requires.accepted in (f.few_vertices, f.few_edges)

pub bounds-kept-257 : goal.bounds-kept-257
bounds-kept-257 c = omega (arith, kept_long c.requires)

pub first_height-high-requires : goal.first_height-high-requires
first_height-high-requires c = kept_small c.requires

pub slice_bounds-run-end : goal.slice_bounds-run-end
slice_bounds-run-end c =
    omega
    (arith, c.opinion_words-w.ensures, (checks_passed _ _ _ _ (no_refusal (goal.at.slice_bounds-run-end c).In_ok-check_lent)).work_size)

pub run-requires : goal.run-requires
run-requires c =
    run_ready _ _ _ _ _ c.opinion_words-w.ensures
    (checks_passed _ _ _ _ (no_refusal (goal.at.run-requires c).In_ok-check_lent)) c.requires c.first_height-high.ensures

pub returns : goal.returns
returns c =
    let passed = no_refusal (goal.at.returns c).In_ok-check_lent in
    let t = tables_of c.args.owners.now c.args.priorities.now c.args.offsets.now c.args.targets.now in
    opinion_answered t _ _ passed c.run.ensures.1
    (opinion_cleared (opinion_words (vertices t) (edges_in t)) _ _ _ c.opinion_words-w.ensures
    (checks_passed _ _ _ _ passed).work_size c.run.ensures.0)
