-- `check_entries` meets its contract.
use mathlib.Core.Path.{sym}
use borrow.Author.Count.{below_more}
use Rattle.parity_game.specs.Search.{none_found, found_at}
use Rattle.checker_entries.specs.Entries.{edges_end, entry_other, entry_none, entry_target, entry_no_target}
use native.Mathlib.Omega.{arith}
use Rattle.checker_entries.proofs.entries.check_entries.Goals as goal

pub returns-then-strategy-v : goal.returns-then-strategy-v
returns-then-strategy-v c =
    rw c.bad_entry.ensures
    (sym
    (found_at _ _ _ c.vertices.v (omega arith) c.vertices.invariant
    (entry_other c.requires c.vertices.v (omega arith) (sym c.if-not-is_own.ensures) c.if-strategy-v.true)))

pub vertices-preserved-then-not-is_own : goal.vertices-preserved-then-not-is_own
vertices-preserved-then-not-is_own c =
    below_more _ _ c.vertices.invariant
    (entry_none c.requires c.vertices.v (omega arith) (sym c.if-not-is_own.ensures) c.if-strategy-v.false)

pub bounds-targets-e : goal.bounds-targets-e
bounds-targets-e c = omega (arith, edges_end c.requires.edges c.vertices.v (omega arith))

pub vertices-preserved : goal.vertices-preserved
vertices-preserved c =
    below_more _ _ c.vertices.invariant
    (entry_target c.requires c.vertices.v (omega arith) (sym c.if-not-is_own.ensures) c.loop-e.e c.loop-e.auto.e
    c.loop-e-test.true c.if-targets-e.true)

pub returns-in-vertices : goal.returns-in-vertices
returns-in-vertices c =
    rw c.bad_entry-in-vertices.ensures
    (sym
    (found_at _ _ _ c.vertices.v (omega arith) c.vertices.invariant
    (entry_no_target c.requires c.vertices.v (omega arith) (sym c.if-not-is_own.ensures) c.loop-e.e (omega arith)
    c.loop-e.invariant)))

pub returns : goal.returns
returns c = sym (none_found _ _ _ (λ k l. c.vertices.invariant k (omega arith)))
