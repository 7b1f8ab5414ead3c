-- `take` meets its contract: the looks up to entry e were made, and all of them at the end.
use Rattle.attractor_drawing.specs.Drawn.{drawn}
use Rattle.attractor_step.specs.TakeLoop.{looking_none, look_ready, looking_more, looking_all}
use Rattle.attractor_step.proofs.step.take.Goals as goal

pub loop-e-init : goal.loop-e-init
loop-e-init c = looking_none (drawn c.args.drawing.now) c.args.next c.args.w c.args.far c.args.work.now c.requires

pub touch-requires : goal.touch-requires
touch-requires c =
    let l = c.loop-e in
    rw c.sources_at-sources.ensures
    (look_ready (drawn c.args.drawing.now) c.args.next c.args.w c.args.far c.args.work.now c.requires l.e l.work l.invariant
    c.loop-e-test.true)

pub loop-e-preserved : goal.loop-e-preserved
loop-e-preserved c =
    let l = c.loop-e in
    looking_more (drawn c.args.drawing.now) c.args.next c.args.w c.args.far c.args.work.now c.requires l.e l.work l.invariant
    c.loop-e-test.true _ (rw c.sources_at-sources.ensures at c.touch.ensures)

pub returns : goal.returns
returns c =
    let l = c.loop-e in
    looking_all (drawn c.args.drawing.now) c.args.next c.args.w c.args.far c.args.work.now c.requires l.e l.work l.invariant
    c.loop-e-test.false
