-- `tell` meets its contract: the end comes too soon, or the identifiers decide.
use mathlib.Core.Path.{sym, ◌∙◌}
use Rattle.std.proofs.lemmas.Result.{err_from_is_err_and}
use Rattle.pgsolver_end.specs.Telling.{tells_early, tells_wrong, tells_whole}
use Rattle.pgsolver_end.proofs.tell.tell.Goals as goal

pub returns-then-not-may_end : goal.returns-then-not-may_end
returns-then-not-may_end c = tells_early _ _ _ _ _ _ (sym c.may_end.ensures ∙ c.if-not-may_end.true)

pub returns-in_err-check_identifiers : goal.returns-in_err-check_identifiers
returns-in_err-check_identifiers c =
    let p = err_from_is_err_and c.from_residual.result c.from_residual.ensures.1 in
    rw (p.1, p.2)
    (tells_wrong c.args.s c.args.place c.args.room c.args.offsets.now c.args.targets.now c.args.work.now
    (sym c.may_end.ensures ∙ c.if-not-may_end.false) _ _ c.least-n.ensures c.least-m.ensures _
    c.in_err-check_identifiers.ensures)

pub returns : goal.returns
returns c =
    tells_whole _ _ _ _ _ _ (sym c.may_end.ensures ∙ c.if-not-may_end.false) _ _ c.least-n.ensures c.least-m.ensures _ _ _
    c.in_ok-check_identifiers.ensures
    c.requires.area
    c.arrange.ensures
