-- `keeps` meets its contract: it goes by the entry of v.
use mathlib.Core.Path.{refl}
use borrow.Author.Tests.{ne_eqb}
use Rattle.std.proofs.Common.{arith}
use Rattle.rules.specs.Words.{no_entry}
use Rattle.search_links.specs.Graph.{keeping}
use Rattle.search_links.proofs.links.Graph.keeps.Goals as goal

pub returns-in-Some : goal.returns-in-Some
unfolding keeping
returns-in-Some c =
    rw (← c.in-Some.ensures.lookup.4 (omega arith) no_entry, ne_eqb _ no_entry c.if-entry.true) refl

pub returns-in_default : goal.returns-in_default
unfolding keeping
returns-in_default c =
    rw (← c.in-Some.ensures.lookup.4 (omega arith) no_entry, c.if-entry.false) refl

pub returns-in_default-2 : goal.returns-in_default-2
unfolding keeping
returns-in_default-2 c = rw (← rw c.in_default.is at c.get.ensures.lookup.4 (omega arith) no_entry) refl
