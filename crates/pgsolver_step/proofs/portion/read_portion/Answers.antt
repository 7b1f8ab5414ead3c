-- `read_portion` meets its contract. The loop's invariant: the bytes passed are read.
use borrow.Author.Rules.{rules}
use mathlib.Core.Path.{ap, ◌∙◌}
use native.Mathlib.Omega.{arith}
use Rattle.std.specs.Prelude.{Err}
use Rattle.pgsolver_step.specs.Portions.{portions, stuck, beyond, passed_none, passed_more, passed_past, passed_stops}
use Rattle.pgsolver_step.proofs.portion.read_portion.Goals as goal

pub loop-b-init : goal.loop-b-init
loop-b-init c = passed_none _ _ _ _ _ _ _ _ _ _ c.requires c.limit-vertices.ensures c.limit-edges.ensures

pub returns-then-most_bytes-at : goal.returns-then-most_bytes-at
returns-then-most_bytes-at c =
    portions _ _ _ _ _ _ _ _ _ _ _ _ _ _ _ c.limit-vertices.ensures c.limit-edges.ensures
    (passed_past _ _ _ _ _ _ _ _ _ _ _ _ _ _ _ _ _ c.loop-b.invariant (omega arith) c.if-most_bytes-at.true)
    (λ h. c.loop-b.invariant.capped h)
    tt

pub returns-in-Err-Off : goal.returns-in-Err-Off
returns-in-Err-Off c =
    portions _ _ _ _ _ _ _ _ _ _ _ _ _ _ _ c.limit-vertices.ensures c.limit-edges.ensures
    (passed_stops _ _ _ _ _ _ _ _ _ _ _ _ _ _ _ _ _ c.loop-b.invariant (omega arith) _ _ _ _ _ _ _ stuck (c.in-Err-Off.is ∙ ap Err c.in-Err-Off.field-0-is)
    c.if-most_bytes-at.false
    c.read_byte.ensures)
    (λ h. c.if-most_bytes-at.false)
    tt

pub returns-in-Err-Over : goal.returns-in-Err-Over
returns-in-Err-Over c =
    portions _ _ _ _ _ _ _ _ _ _ _ _ _ _ _ c.limit-vertices.ensures c.limit-edges.ensures
    (passed_stops _ _ _ _ _ _ _ _ _ _ _ _ _ _ _ _ _ c.loop-b.invariant (omega arith) _ _ _ _ _ _ _ beyond (c.in-Err-Over.is ∙ ap Err c.in-Err-Over.field-0-is)
    c.if-most_bytes-at.false
    c.read_byte.ensures)
    (λ h. omega arith)
    tt

pub loop-b-preserved : goal.loop-b-preserved
loop-b-preserved c =
    passed_more _ _ _ _ _ _ _ _ _ _ _ _ _ _ _ _ _ c.loop-b.invariant (omega arith) _ _ _ _ _ _ c.in-Ok.is
    c.if-most_bytes-at.false
    (search rules) (search rules) (search rules) (search rules) c.read_byte.ensures
