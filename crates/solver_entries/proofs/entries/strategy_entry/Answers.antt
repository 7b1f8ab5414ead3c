-- `strategy_entry` meets its contract, by the way that it goes.
use native.Mathlib.Omega.{arith}
use Rattle.solver_entries.specs.Entries.{entry_even, entry_odd, narrow_even, narrow_odd}
use Rattle.solver_entries.proofs.entries.strategy_entry.Lts as lts
use Rattle.solver_entries.proofs.entries.strategy_entry.Reads as reads
use Rattle.solver_entries.proofs.entries.strategy_entry.Tie as tie
use Rattle.solver_entries.proofs.entries.strategy_entry.Goals as goal

abbrev AtAfterContains : Type 0
AtAfterContains = lts.After-contains tie.the-claims reads.Pre reads.Post

abbrev AtAfterContains2 : Type 0
AtAfterContains2 = lts.After-contains2 tie.the-claims reads.Pre reads.Post

abbrev AtStart : Type 0
AtStart = lts.Start tie.the-claims reads.Pre reads.Post

-- where the function begins, from Even's set and from Odd's
abbrev from_even : AtAfterContains → AtStart
from_even d = d.before.before.before.before.before.before.before

abbrev from_odd : AtAfterContains2 → AtStart
from_odd d = d.before.before.before.before.before.before.before

pub returns-then-not-contains : goal.returns-then-not-contains
returns-then-not-contains c =
    let d = c.before.before in
    entry_even (from_even d).requires d.if-owners-v-eq0.true d.contains.ensures
    c.if-not-contains.true

pub overflow_cast-result : goal.overflow_cast-result
overflow_cast-result c =
    let d = c.before.before.before in
    omega (
      arith,
      narrow_even (from_even d).requires d.if-owners-v-eq0.true d.contains.ensures
          c.if-not-contains.false,
    )

pub returns-then-owners-v-eq0 : goal.returns-then-owners-v-eq0
returns-then-owners-v-eq0 c =
    let d = c.before.before.before in
    entry_even (from_even d).requires d.if-owners-v-eq0.true d.contains.ensures
    c.if-not-contains.false

pub returns-then-not-contains-2 : goal.returns-then-not-contains-2
returns-then-not-contains-2 c =
    let d = c.before.before in
    entry_odd (from_odd d).requires d.if-owners-v-eq0.false d.contains-2.ensures
    c.if-not-contains-2.true

pub overflow_cast-result-2 : goal.overflow_cast-result-2
overflow_cast-result-2 c =
    let d = c.before.before.before in
    omega (
      arith,
      narrow_odd (from_odd d).requires d.if-owners-v-eq0.false d.contains-2.ensures
          c.if-not-contains-2.false,
    )

pub returns : goal.returns
returns c =
    let d = c.before.before.before in
    entry_odd (from_odd d).requires d.if-owners-v-eq0.false d.contains-2.ensures
    c.if-not-contains-2.false
