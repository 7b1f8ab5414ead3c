-- `show_loop` meets its contract: a refusal is returned with only the path's length written; past the checks the run is done in
-- the first W words, and no path is 46.
use mathlib.Core.Path.{◌≡◌, refl, sym, ◌∙◌}
use native.Mathlib.Omega.{arith}
use Prim.Native.Nat.{ℕ}
use lib.ListN.{length}
use Rattle.std.proofs.lemmas.Result.{err_from_is_err_and}
use Rattle.rules.specs.Outcome.{none, answered}
use Rattle.rules.specs.Tables.{Tables, Accepted, edges_in, tables_of}
use Rattle.accepted.specs.Tables.{accepted_sound}
use Rattle.parity_game.specs.Laws.{refused_outcome}
use Rattle.area.specs.Lent.{work_cleared}
use Rattle.show_loop.specs.Checks.{lent_by, checks_by, checks_passed}
use Rattle.show_loop.specs.Running.{run_ready, told_none, told_run}
use Rattle.show_loop.proofs.door.show_loop.Goals.{In_ok-check_lent}
use Rattle.show_loop.proofs.door.show_loop.Goals as goal

-- of accepted tables, what is checked is all that is refused
all_checks :
    (t : Tables) (v path cycle work : ℕ) → Accepted t →
    lent_by t.owners (edges_in t) v path cycle work ≡ checks_by t v path cycle work
unfolding Accepted
all_checks t v path cycle work accepted = rw accepted

no_refusal :
    (c : In_ok-check_lent) →
    checks_by (tables_of c.args.owners.now c.args.priorities.now c.args.offsets.now c.args.targets.now) c.args.vertex
    (length c.args.path.now) (length c.args.cycle.now) (length c.args.work.now) ≡
    none
no_refusal c = sym (c.in_ok-check_lent.ensures ∙ all_checks _ _ _ _ _ c.requires.0)

pub check_lent-requires : goal.check_lent-requires
check_lent-requires c = let f = accepted_sound _ c.requires.0 in (f.few_vertices, f.few_edges)

pub returns-in_err-check_lent : goal.returns-in_err-check_lent
returns-in_err-check_lent c =
    let p = err_from_is_err_and c.from_residual.result c.from_residual.ensures.1 in
    let e =
    c.in_err-check_lent.ensures ∙
    all_checks _ _ (length c.args.path.now) (length c.args.cycle.now) (length c.args.work.now) c.requires.0 in
    rw (p.1, p.2) (rw (sym e) (refused_outcome c.in_err-check_lent.field-0.0 _ (answered 0) refl, refl))

pub work_words-w-requires : goal.work_words-w-requires
work_words-w-requires c = let f = accepted_sound _ c.requires.0 in (f.few_vertices, f.few_edges)

pub slice_bounds-run-end : goal.slice_bounds-run-end
slice_bounds-run-end c =
    omega
    (arith, c.work_words-w.ensures, (checks_passed _ _ _ _ _ (no_refusal (goal.at.slice_bounds-run-end c).In_ok-check_lent)).work_size)

pub run-requires : goal.run-requires
run-requires c = (
  run_ready _ _ _ _ _ _ c.work_words-w.ensures (checks_passed _ _ _ _ _ (no_refusal (goal.at.run-requires c).In_ok-check_lent)),
  c.requires.1,
)

pub returns-in_default : goal.returns-in_default
returns-in_default c =
    let passed = no_refusal (goal.at.returns-in_default c).In_ok-check_lent in
    let t = tables_of c.args.owners.now c.args.priorities.now c.args.offsets.now c.args.targets.now in
    told_none t _ _ _ _ _ _ _ _ _ c.requires.0 passed c.in_default.ensures _
    (work_cleared t _ _ _ c.work_words-w.ensures (checks_passed _ _ _ _ _ passed).work_size c.in_default.ensures.zeros)

pub returns : goal.returns
returns c =
    let passed = no_refusal (goal.at.returns c).In_ok-check_lent in
    let t = tables_of c.args.owners.now c.args.priorities.now c.args.offsets.now c.args.targets.now in
    told_run t _ _ _ _ _ _ _ _ _ c.requires.0 passed _ c.in-Some.ensures _
    (work_cleared t _ _ _ c.work_words-w.ensures (checks_passed _ _ _ _ _ passed).work_size c.in-Some.ensures.zeros)
