-- `solve_solitaire_game` meets its contract: a refusal is returned with nothing written; past the checks the run is done in the first
-- W words.
use mathlib.Core.Path.{◌≡◌, refl, sym, ◌∙◌}
use native.Mathlib.Omega.{arith}
use Prim.Native.Nat.{ℕ}
use lib.ListN.{length}
use Rattle.std.proofs.lemmas.Result.{err_from_is_err_and}
use Rattle.rules.specs.Outcome.{none}
use Rattle.rules.specs.Tables.{Tables, Accepted, edges_in, tables_of}
use Rattle.accepted.specs.Tables.{accepted_sound}
use Rattle.parity_game.specs.Laws.{refused_outcome}
use Rattle.area.specs.Lent.{work_cleared}
use Rattle.solitaire_game.specs.Checks.{lent_by, checks_by, checks_passed}
use Rattle.solitaire_game.specs.Running.{run_ready, solves_answered}
use Rattle.solitaire_game.proofs.door.solve_solitaire_game.Goals.{In_ok-check_lent}
use Rattle.solitaire_game.proofs.door.solve_solitaire_game.Goals as goal

-- of accepted tables, what is checked is all that is refused
all_checks : (t : Tables) (set work : ℕ) → Accepted t → lent_by t.owners (edges_in t) set work ≡ checks_by t set work
unfolding Accepted
all_checks t set work accepted = rw accepted

no_refusal :
    (c : In_ok-check_lent) →
    checks_by (tables_of c.args.owners.now c.args.priorities.now c.args.offsets.now c.args.targets.now) (length c.args.set.now)
    (length c.args.work.now) ≡
    none
no_refusal c = sym (c.in_ok-check_lent.ensures ∙ all_checks _ _ _ c.requires.0)

pub check_lent-requires : goal.check_lent-requires
check_lent-requires c = let f = accepted_sound _ c.requires.0 in (f.few_vertices, f.few_edges)

pub returns-in_err-check_lent : goal.returns-in_err-check_lent
returns-in_err-check_lent c =
    let e = c.in_err-check_lent.ensures ∙ all_checks _ (length c.args.set.now) (length c.args.work.now) c.requires.0 in
    let p = err_from_is_err_and c.from_residual.result c.from_residual.ensures.1 in
    rw (p.1, p.2) (record { gives = refused_outcome c.in_err-check_lent.field-0.0 _ _ e; leaves = rw (sym e) refl })

pub work_words-w-requires : goal.work_words-w-requires
work_words-w-requires c = let f = accepted_sound _ c.requires.0 in (f.few_vertices, f.few_edges)

pub slice_bounds-run-end : goal.slice_bounds-run-end
slice_bounds-run-end c =
    omega (arith, c.work_words-w.ensures, (checks_passed _ _ _ (no_refusal (goal.at.slice_bounds-run-end c).In_ok-check_lent)).work_size)

pub run-requires : goal.run-requires
run-requires c = (
  run_ready _ _ _ _ c.work_words-w.ensures (checks_passed _ _ _ (no_refusal (goal.at.run-requires c).In_ok-check_lent)),
  c.requires.1,
)

pub returns : goal.returns
returns c =
    let passed = no_refusal (goal.at.returns c).In_ok-check_lent in
    let t = tables_of c.args.owners.now c.args.priorities.now c.args.offsets.now c.args.targets.now in
    solves_answered t _ _ passed c.run.ensures.1
    (work_cleared t _ _ _ c.work_words-w.ensures (checks_passed _ _ _ passed).work_size c.run.ensures.0)
