-- `follow` meets its contract.
use Rattle.std.proofs.Common.{arith}
use Rattle.breadth_first.specs.Following.{way_vertex, follow_starts, follow_room, follow_word, follow_on, follow_end}
use Rattle.breadth_first.proofs.way.follow.Goals as goal

pub loop-v-init : goal.loop-v-init
loop-v-init c =
    let starts = follow_starts _ _ _ _ _ _ c.requires.way in
    (way_vertex starts.way, (follow_room starts c.requires.fits).0, λ vs w fits. follow_starts _ _ _ _ _ vs w)

pub overflow_sub-v : goal.overflow_sub-v
overflow_sub-v c =
    omega (arith, follow_word (c.loop-v.invariant.2 _ c.requires.way c.requires.fits) c.requires.fits c.loop-v-test.true)

pub loop-v-preserved : goal.loop-v-preserved
loop-v-preserved c =
    let on = follow_on (c.loop-v.invariant.2 _ c.requires.way c.requires.fits) c.requires.fits c.loop-v-test.true in (
      way_vertex on.way,
      (follow_room on c.requires.fits).0,
      λ vs w fits. follow_on (c.loop-v.invariant.2 vs w fits) fits c.loop-v-test.true,
    )

pub returns : goal.returns
returns c = λ vs w fits. follow_end (c.loop-v.invariant.2 vs w fits) fits c.loop-v-test.false
