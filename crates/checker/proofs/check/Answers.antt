-- `check` meets its contract: after a refusal nothing was touched, and else the work area is cleared.
use mathlib.Core.Path.{◌≡◌, refl, sym, ◌∙◌}
use Prim.Native.Nat.{ℕ}
use lib.ListN.{length}
use native.Mathlib.Omega.{arith}
use Rattle.std.proofs.lemmas.Result.{err_from_is_err_and}
use Rattle.rules.specs.Outcome.{none, answered}
use Rattle.rules.specs.Tables.{Tables, Accepted, vertices, edges_in, tables_of}
use Rattle.parity_game.specs.Laws.{refused_outcome}
use Rattle.lent_checks.specs.Checks.{checks_by, all_checks, sizes_few}
use Rattle.checker.specs.Checks.{certify_given, checks_done}
use Rattle.checker.proofs.check.Goals.{In_ok-check_lent}
use Rattle.checker.proofs.check.Goals as goal

ok :
    (c : In_ok-check_lent) →
    checks_by (tables_of c.args.owners.now c.args.priorities.now c.args.offsets.now c.args.targets.now) (length c.args.even.now)
    (length c.args.odd.now) (length c.args.strategy.now) (length c.args.work.now) ≡
    none
ok c = sym (c.in_ok-check_lent.ensures ∙ all_checks _ c.requires.0 _ _ _ _)

pub check_lent-requires : goal.check_lent-requires
check_lent-requires c = sizes_few _ c.requires.0

pub returns-in_err-check_lent : goal.returns-in_err-check_lent
returns-in_err-check_lent c =
    let p = err_from_is_err_and c.from_residual.result c.from_residual.ensures.1 in
    let e =
    c.in_err-check_lent.ensures ∙
    all_checks _ c.requires.0 (length c.args.even.now) (length c.args.odd.now) (length c.args.strategy.now) (length c.args.work.now) in
    rw (p.1, p.2)
    (record { gives = rw (sym e) (refused_outcome c.in_err-check_lent.field-0.0 _ (answered 0) refl); work = rw (sym e) refl })

pub certify-checked-requires : goal.certify-checked-requires
certify-checked-requires c = (certify_given (ok (goal.at.certify-checked-requires c).In_ok-check_lent), c.requires.1)

pub work_words-requires : goal.work_words-requires
work_words-requires c = sizes_few _ c.requires.0

pub clear-requires : goal.clear-requires
clear-requires c =
    let room = (certify_given (ok (goal.at.clear-requires c).In_ok-check_lent)).room in
    (omega arith, omega (arith, c.certify-checked.ensures.long, c.work_words.ensures))

pub returns-in_err-checked : goal.returns-in_err-checked
returns-in_err-checked c =
    let p = err_from_is_err_and c.from_residual-in_err-checked.result c.from_residual-in_err-checked.ensures.1 in
    rw (p.1, p.2)
    (checks_done (ok (goal.at.returns-in_err-checked c).In_ok-check_lent) c.in_err-checked.ensures
    (refused_outcome c.in_err-checked.field-0.0 _ (answered 0) refl) c.work_words.ensures c.clear.ensures)

pub returns : goal.returns
returns c =
    checks_done (ok (goal.at.returns c).In_ok-check_lent) c.in_ok-checked.ensures refl c.work_words.ensures c.clear.ensures
