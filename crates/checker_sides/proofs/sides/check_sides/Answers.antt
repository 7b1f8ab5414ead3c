-- `check_sides` meets its contract.
use mathlib.Core.Path.{sym}
use borrow.Author.Count.{below_more}
use Rattle.parity_game.specs.Search.{none_found, found_at}
use Rattle.checker_entries.specs.Entries.{edges_end}
use Rattle.checker_sides.specs.Sides.{own_stays, own_leaves, other_leaves, other_stays}
use native.Mathlib.Omega.{arith}
use Rattle.checker_sides.proofs.sides.check_sides.Goals as goal

pub vertices-preserved-then-inside : goal.vertices-preserved-then-inside
vertices-preserved-then-inside c =
    below_more _ _ c.vertices.invariant
    (own_stays c.requires.given c.vertices.v (omega arith) (sym c.if-is_own.ensures) (sym c.if-inside.ensures))

pub returns-then-is_own : goal.returns-then-is_own
returns-then-is_own c =
    sym
    (found_at 23 _ _ c.vertices.v (omega arith) c.vertices.invariant
    (own_leaves c.requires.given c.vertices.v (omega arith) (sym c.if-is_own.ensures) (sym c.if-inside.ensures)))

pub bounds-targets-e : goal.bounds-targets-e
bounds-targets-e c = omega (arith, edges_end c.requires.given.edges c.vertices.v (omega arith))

pub returns-then-not-stays : goal.returns-then-not-stays
returns-then-not-stays c =
    sym
    (found_at 23 _ _ c.vertices.v (omega arith) c.vertices.invariant
    (other_leaves c.requires.given c.vertices.v (omega arith) (sym c.if-is_own.ensures) c.loop-e.e c.loop-e.auto.e
    c.loop-e-test.true (sym c.if-not-stays.ensures)))

pub vertices-preserved : goal.vertices-preserved
vertices-preserved c =
    below_more _ _ c.vertices.invariant
    (other_stays c.requires.given c.vertices.v (omega arith) (sym c.if-is_own.ensures) c.loop-e.e (omega arith)
    c.loop-e.invariant)

pub returns : goal.returns
returns c = sym (none_found 23 _ _ (λ k l. c.vertices.invariant k (omega arith)))
