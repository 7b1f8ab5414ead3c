-- `write` meets its contract. Past 33 the tables have a vertex, the length is that of the text, and what is put is the text.
use native.Mathlib.Omega.{arith}
use Rattle.pgsolver_line.specs.Written.{above}
use Rattle.pgsolver_put.specs.Texts.{writes_empty, writes_short, writes_answered}
use Rattle.pgsolver_writer.proofs.write.Goals as goal

pub returns-then-owners-eq0 : goal.returns-then-owners-eq0
returns-then-owners-eq0 c = writes_empty _ _ c.requires c.if-owners-eq0.true

pub text_length-needed-requires : goal.text_length-needed-requires
text_length-needed-requires c = record { accepted = c.requires; some = above _ c.if-owners-eq0.false }

pub returns-then-text-needed : goal.returns-then-text-needed
returns-then-text-needed c =
    rw c.text_length-needed.ensures
    (writes_short _ c.args.text.now (record { accepted = c.requires; some = above _ c.if-owners-eq0.false })
    (omega (arith, c.text_length-needed.ensures)))

pub put_text-written-requires : goal.put_text-written-requires
put_text-written-requires c =
    (record { accepted = c.requires; some = above _ c.if-owners-eq0.false }, omega (arith, c.text_length-needed.ensures))

pub returns : goal.returns
returns c =
    writes_answered _ (record { accepted = c.requires; some = above _ c.if-owners-eq0.false })
    (omega (arith, c.text_length-needed.ensures)) c.put_text-written.ensures
