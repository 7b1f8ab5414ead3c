-- `check_vertices` meets its contract: each return goes by the test that led there.
use borrow.Author.Tests.{lt-ltb, le-ltb}
use Rattle.rules.specs.Tables.{check1}
use Rattle.size_checks.proofs.check_vertices.Goals as goal

pub returns-then-n-gt-MOST_VERTICES : goal.returns-then-n-gt-MOST_VERTICES
unfolding check1
returns-then-n-gt-MOST_VERTICES c = simp (lt-ltb _ _ c.if-n-gt-MOST_VERTICES.true)

pub returns : goal.returns
unfolding check1
returns c = simp (le-ltb _ _ c.if-n-gt-MOST_VERTICES.false)
