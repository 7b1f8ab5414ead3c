-- `check_kept` meets its contract: what is kept is the fresh count, or it differs.
use Rattle.std.proofs.Common.{rules, sym, ap, ◌∙◌, ◌≡◌, length}
use Rattle.rules.specs.Record.{fresh_count}
use Rattle.theory.specs.Counts.{length_fresh}
use Rattle.kept_numbers.specs.Steps.{kept_differs, kept_same}
use Rattle.kept_numbers.proofs.check_kept.Goals as goal

-- of another length it is no fresh count
pub returns-then-kept-ne-KEPT : goal.returns-then-kept-ne-KEPT
returns-then-kept-ne-KEPT c =
    sym (kept_differs _ _ (λ e. c.if-kept-ne-KEPT.true (ap length e ∙ length_fresh c.args.priorities.now)))

pub returns-then-ne : goal.returns-then-ne
returns-then-ne c =
    let ne : c.args.kept.now ≡ fresh_count c.args.priorities.now → ⊥ = search rules in sym (kept_differs _ _ ne)

pub returns : goal.returns
returns c = let e : c.args.kept.now ≡ fresh_count c.args.priorities.now = search rules in sym (kept_same _ _ e)
