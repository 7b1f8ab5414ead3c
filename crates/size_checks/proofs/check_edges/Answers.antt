-- `check_edges` meets its contract: each return goes by the test that led there.
use borrow.Author.Tests.{lt-ltb, le-ltb}
use Rattle.rules.specs.Tables.{check3}
use Rattle.size_checks.proofs.check_edges.Goals as goal

pub returns-then-m-gt-MOST_EDGES : goal.returns-then-m-gt-MOST_EDGES
unfolding check3
returns-then-m-gt-MOST_EDGES c = simp (lt-ltb _ _ c.if-m-gt-MOST_EDGES.true)

pub returns : goal.returns
unfolding check3
returns c = simp (le-ltb _ _ c.if-m-gt-MOST_EDGES.false)
