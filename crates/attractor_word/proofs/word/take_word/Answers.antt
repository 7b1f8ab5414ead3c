-- `take_word` meets its contract: from the run that asks for it, and from every other that was there, the members of the word are
-- taken in rising order, and none is left at the end.
use Prim.Native.Nat.{◌-◌}
use native.Mathlib.Omega.{arith}
use lib.Bits.{and_le_r}
use Rattle.attractor_word.specs.OneWord.{word_fits, word_rises, word_few, word_ready, word_more}
use Rattle.attractor_word.proofs.word.take_word.Goals as goal

pub bounds-work-w : goal.bounds-work-w
bounds-work-w c =
    let l = c.loop-rest in
    word_fits (l.invariant.took c.requires.from c.requires.stands) l.invariant.fits c.loop-rest-test.true

pub bounds-work-w-in-loop-rest : goal.bounds-work-w-in-loop-rest
bounds-work-w-in-loop-rest c =
    let l = c.loop-rest in
    let fits =
    word_fits (l.invariant.took c.requires.from c.requires.stands) l.invariant.fits c.loop-rest-test.true in
    omega arith

pub overflow_sub-looks : goal.overflow_sub-looks
overflow_sub-looks c =
    let l = c.loop-rest in
    word_rises (l.invariant.took c.requires.from c.requires.stands) l.invariant.fits c.loop-rest-test.true

pub overflow_add-looks-in-loop-rest : goal.overflow_add-looks-in-loop-rest
overflow_add-looks-in-loop-rest c =
    let l = c.loop-rest in
    let few =
    word_few (l.invariant.took c.requires.from c.requires.stands) l.invariant.fits c.loop-rest-test.true in
    omega arith

pub take-requires : goal.take-requires
take-requires c =
    let l = c.loop-rest in
    word_ready (l.invariant.took c.requires.from c.requires.stands) l.invariant.fits c.loop-rest-test.true

pub loop-rest-preserved : goal.loop-rest-preserved
loop-rest-preserved c =
    let l = c.loop-rest in
    record {
      fits = omega (arith, l.invariant.fits, and_le_r l.rest (l.rest - 1));
      took =
          λ from st.
          word_more (l.invariant.took from st) l.invariant.fits c.loop-rest-test.true _ c.take.ensures;
    }
