-- `tells` meets its contract.
use Rattle.std.proofs.Common.{rules}
use Rattle.good_parts.specs.Noting.{note_test}
use Rattle.good_parts.proofs.tells.Goals as goal

pub returns-then-l-eq0 : goal.returns-then-l-eq0
unfolding note_test
returns-then-l-eq0 c = search rules

pub returns-then-two : goal.returns-then-two
unfolding note_test
returns-then-two c = search rules

pub returns-else-two : goal.returns-else-two
unfolding note_test
returns-else-two c = search rules
