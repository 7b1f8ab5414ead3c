-- `check_counts` meets its contract: each return goes by the tests that led there.
use borrow.Author.Tests.{eq-eqb, ne_eqb}
use Rattle.rules.specs.Tables.{check2}
use Rattle.size_checks.proofs.check_counts.Goals as goal

pub returns-then-priorities-n : goal.returns-then-priorities-n
unfolding check2
returns-then-priorities-n c = simp (ne_eqb _ _ c.if-priorities-n.true)

pub returns-then-offsets-n : goal.returns-then-offsets-n
unfolding check2
returns-then-offsets-n c = simp (eq-eqb _ _ c.if-priorities-n.false, ne_eqb _ _ c.if-offsets-n.true)

pub returns : goal.returns
unfolding check2
returns c = simp (eq-eqb _ _ c.if-priorities-n.false, eq-eqb _ _ c.if-offsets-n.false)
