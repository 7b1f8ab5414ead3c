-- `take_layer` meets its contract: from the run that asks for it, and from every other that was there, the words of the layer are
-- taken in rising order, and no mark is left at the end.
use mathlib.Core.Path.{◌∙◌}
use native.Mathlib.Omega.{arith}
use lib.ListN.{length}
use Rattle.basics.specs.Basics.{count_le}
use Prim.Native.Nat.{◌+◌}
use Rattle.attractor_drawing.specs.Drawn.{drawn}
use Rattle.attractor_word.specs.Going.{taken_at}
use Rattle.attractor_layer.specs.OneLayer.{LayerStands, TookWords, marks_read, marks_left, all_looks_few}
use Rattle.attractor_layer.specs.WordByWord.{pop_ready, take_word_ready, word_grows, word_taken}
use Rattle.attractor_layer.proofs.one_layer.take_layer.Goals as goal
use Rattle.attractor_layer.proofs.one_layer.take_layer.Goals.{After-marks_at, After-take_word-looks}

-- the run that asks for it
stands :
    (c : After-marks_at) →
    LayerStands (drawn c.args.drawing.now) c.args.this c.args.next c.args.far c.requires.lent c.requires.sofar c.requires.taken
    c.loop-work.looks c.loop-work.work
stands c = c.loop-work.invariant _ _ _ c.requires.stands

-- each run goes on
again :
    (c : After-take_word-looks) →
    TookWords (drawn c.args.drawing.now) c.args.this c.args.next c.args.far c.args.work.now
    (c.loop-work.looks + c.take_word-looks.result) c.take_word-looks.new.work
again c before sofar taken st =
    let now = c.loop-work.invariant before sofar taken st in
    let size = c.args.drawing.now.size in
    word_taken now size (marks_left now.given now.going size c.marks_at.ensures c.loop-work-test.true) c.behind_layer.ensures
    c.pop_word-popped.ensures c.take_word-looks.ensures

pub pop_word-popped-requires : goal.pop_word-popped-requires
pop_word-popped-requires c =
    let now = stands (goal.at.pop_word-popped-requires c).After-marks_at in
    let size = c.args.drawing.now.size in
    pop_ready now size (marks_left now.given now.going size c.marks_at.ensures c.loop-work-test.true) c.behind_layer.ensures

pub take_word-looks-requires : goal.take_word-looks-requires
take_word-looks-requires c =
    let now = stands (goal.at.take_word-looks-requires c).After-marks_at in
    let size = c.args.drawing.now.size in
    take_word_ready now size (marks_left now.given now.going size c.marks_at.ensures c.loop-work-test.true) c.behind_layer.ensures
    c.pop_word-popped.ensures

pub overflow_add-looks : goal.overflow_add-looks
overflow_add-looks c =
    let then = again (goal.at.overflow_add-looks c).After-take_word-looks _ _ _ c.requires.stands in
    omega (arith, all_looks_few then.given then.going)

pub loop-work-smaller : goal.loop-work-smaller
loop-work-smaller c =
    let now = stands (goal.at.loop-work-smaller c).After-marks_at in
    let size = c.args.drawing.now.size in
    let n = length c.args.drawing.now.owners.now in
    omega (
      arith,
      word_grows now size (marks_left now.given now.going size c.marks_at.ensures c.loop-work-test.true) c.behind_layer.ensures
          c.pop_word-popped.ensures c.take_word-looks.ensures,
      count_le n (taken_at n c.args.drawing.now.set c.args.this c.args.next c.take_word-looks.new.work),
    )

pub loop-work-preserved : goal.loop-work-preserved
loop-work-preserved c = again (goal.at.loop-work-preserved c).After-take_word-looks

pub returns : goal.returns
returns c =
    let now = stands (goal.at.returns c).After-marks_at in
    record {
      done = marks_read now.given now.going c.args.drawing.now.size c.marks_at.ensures ∙ c.loop-work-test.false;
      took = c.loop-work.invariant;
    }
