-- `second_pass` meets its contract.
use Rattle.std.proofs.Common.{arith, ◌≡◌, ◌+◌, ◌-◌}
use Rattle.part_labels.specs.Finding.{passing_starts, passing_skips, passing_finds}
use Rattle.part_labels.proofs.second.second_pass.Goals as goal

pub loop-i-init : goal.loop-i-init
loop-i-init c =
    let none : c.args.done - c.args.done ≡ 0 = omega arith in
    rw none (passing_starts _ _ _ c.requires)

pub loop-i-preserved-then-work-labels-eq0 : goal.loop-i-preserved-then-work-labels-eq0
loop-i-preserved-then-work-labels-eq0 c =
    let i = c.args.done - c.loop-i.i in
    let next : c.args.done - (c.loop-i.i - 1) ≡ i + 1 = omega arith in
    let place : c.loop-i.i - 1 ≡ c.args.done - 1 - i = omega arith in
    rw next
    (passing_finds _ _ _ c.requires i _ c.loop-i.invariant (omega arith) _
    (rw (c.labels-labels.ensures, c.order-order.ensures, c.rows-rows.ensures, place) at c.if-work-labels-eq0.true)
    (rw (c.order-order.ensures, c.rows-rows.ensures, place) at c.find_part.ensures))

pub loop-i-preserved : goal.loop-i-preserved
loop-i-preserved c =
    let i = c.args.done - c.loop-i.i in
    let next : c.args.done - (c.loop-i.i - 1) ≡ i + 1 = omega arith in
    let place : c.loop-i.i - 1 ≡ c.args.done - 1 - i = omega arith in
    rw next
    (passing_skips _ _ _ c.requires i _ c.loop-i.invariant (omega arith)
    (rw (c.labels-labels.ensures, c.order-order.ensures, c.rows-rows.ensures, place) at c.if-work-labels-eq0.false))
