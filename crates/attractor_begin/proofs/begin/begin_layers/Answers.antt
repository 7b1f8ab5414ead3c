-- `begin_layers` meets its contract. The invariant: so far the first i words, with their marks.
use Prim.Native.Nat.{◌-◌}
use native.Mathlib.Omega.{arith}
use lib.ListN.{length-set}
use Rattle.attractor_begin.specs.LayersBegin.{beginning_none, more_some, more_none, layers_begun}
use Rattle.attractor_begin.proofs.begin.begin_layers.Goals as goal
use Rattle.attractor_begin.proofs.begin.begin_layers.Goals.{then-word-ne0, else-word-ne0}

pub loop-i-init : goal.loop-i-init
loop-i-init c = beginning_none

pub bounds-work-second : goal.bounds-work-second
bounds-work-second c = simp length-set (omega arith)

pub bounds-work-met : goal.bounds-work-met
bounds-work-met c = simp length-set (omega arith)

pub loop-i-preserved : goal.loop-i-preserved
loop-i-preserved c =
    let d = c.before.before in
    let p = d.before.before in
    let given = p.requires in
    let l = d.loop-i in
    let second = p.behind_layer-second.ensures in
    let met = p.behind_layer-met.ensures in
    elim c.if-word-ne0.branch [
      | then-word-ne0 y ↦ rw (y.marks-is, met, second) (more_some given l.invariant d.loop-i-test.true y.if-word-ne0.true)
      | else-word-ne0 y ↦ rw (y.marks-is, met, second) (more_none given l.invariant d.loop-i-test.true y.if-word-ne0.false)
    ]

pub bounds-work-marks_at-2 : goal.bounds-work-marks_at-2
bounds-work-marks_at-2 c = simp length-set (omega arith)

pub returns : goal.returns
returns c =
    let m = c.before in
    let e = m.before in
    let p = e.before.before in
    rw (c.marks_at-2.ensures, m.marks_at.ensures, p.behind_layer-second.ensures)
    (layers_begun p.requires e.loop-i.invariant e.loop-i-test.false)
