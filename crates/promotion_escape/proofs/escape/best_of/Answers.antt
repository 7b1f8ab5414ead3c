-- `best_of` meets its contract: no edge before place e leads higher than level `highest` - 1.
use mathlib.Core.Path.{sym, ◌∙◌}
use lib.ListN.{get_or}
use Rattle.promotion_escape.specs.Escapes.{parts_asked}
use Rattle.promotion_escape.specs.Highest.{highest_same, highest_new, highest_all}
use Rattle.promotion_escape.proofs.escape.best_of.Goals as goal
use Rattle.promotion_escape.proofs.escape.best_of.Goals.{then-in_difference, else-in_difference}

pub loop-e-preserved : goal.loop-e-preserved
loop-e-preserved c =
    let a = c.args in
    let l = c.loop-e in
    let asked =
    sym
    (c.in_difference.ensures ∙
    parts_asked a.s c.level_at-at.result _ c.level_at-base.result _ (get_or a.targets.now l.e 0) a.work.now
    c.level_at-at.ensures c.level_at-base.ensures) in
    elim c.if-in_difference.branch [
      | then-in_difference y ↦
          rw y.highest-is
          (highest_new l.invariant c.loop-e-test.true c.requires.nested c.requires.edges.top (asked ∙ y.if-in_difference.true)
          y.climb-highest.ensures)
      | else-in_difference y ↦
          rw y.highest-is (highest_same l.invariant c.loop-e-test.true c.requires.nested (asked ∙ y.if-in_difference.false))
    ]

pub returns : goal.returns
returns c = highest_all c.loop-e.invariant c.loop-e-test.false
