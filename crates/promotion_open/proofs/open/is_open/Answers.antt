-- `is_open` meets its contract: no head of R that the walk has passed makes it open, and no edge before place e decides.
use native.Mathlib.Nat.{le_refl}
use native.Mathlib.Omega.{arith}
use mathlib.Core.Logic.{⊎_elim, inl, inr}
use mathlib.Core.Path.{sym, ◌∙◌}
use borrow.Author.Tests.{eq-eqb, ne_eqb}
use lib.ListN.{length, get_or}
use Rattle.area.specs.Area.{set_at}
use Rattle.area.specs.Walked.{passes, walked_none, walked_few, walked_all, walked_next}
use Rattle.successors.specs.Edges.{none_first, none_at_all, some_at}
use Rattle.promotion_escape.specs.Escapes.{edges_ready, escape_walkable, part_bit, set_asked}
use Rattle.promotion_open.specs.Opening.{open_found, open_none, shut_own, shut_other, open_own, open_other}
use Rattle.promotion_open.proofs.open.is_open.Goals as goal
use Rattle.promotion_open.proofs.open.is_open.Goals.{then-own, else-own}

pub vertices-init : goal.vertices-init
vertices-init c = walked_none (escape_walkable c.requires.escapes) tt c.new-walk.ensures

pub next-requires : goal.next-requires
next-requires c = walked_few (escape_walkable c.requires.escapes) c.vertices.invariant

pub bounds-owners-v : goal.bounds-owners-v
bounds-owners-v c = (walked_next (escape_walkable c.requires.escapes) c.vertices.invariant _ c.next.ensures c.in-Some.is).small

pub offset_bounds-offsets-v : goal.offset_bounds-offsets-v
offset_bounds-offsets-v c =
    let reached = walked_next (escape_walkable c.requires.escapes) c.vertices.invariant _ c.next.ensures c.in-Some.is in
    omega (arith, reached.small, c.requires.escapes.edges.offset_each, c.well_formed)

pub bounds-offsets-v : goal.bounds-offsets-v
bounds-offsets-v c =
    let reached = walked_next (escape_walkable c.requires.escapes) c.vertices.invariant _ c.next.ensures c.in-Some.is in
    omega (arith, reached.small, c.requires.escapes.edges.offset_each)

pub overflow_add-e-end : goal.overflow_add-e-end
overflow_add-e-end c =
    let reached = walked_next (escape_walkable c.requires.escapes) c.vertices.invariant _ c.next.ensures c.in-Some.is in
    omega (arith, reached.small, c.requires.escapes.edges.offset_each, c.well_formed)

pub offset_bounds-offsets-v-in-Some : goal.offset_bounds-offsets-v-in-Some
offset_bounds-offsets-v-in-Some c =
    let reached = walked_next (escape_walkable c.requires.escapes) c.vertices.invariant _ c.next.ensures c.in-Some.is in
    omega (arith, reached.small, c.requires.escapes.edges.offset_each, c.well_formed)

pub bounds-offsets-v-in-Some : goal.bounds-offsets-v-in-Some
bounds-offsets-v-in-Some c =
    let reached = walked_next (escape_walkable c.requires.escapes) c.vertices.invariant _ c.next.ensures c.in-Some.is in
    omega (arith, reached.small, c.requires.escapes.edges.offset_each)

pub loop-e-init : goal.loop-e-init
loop-e-init c =
    let a = c.args in
    let v = c.in-Some.field-0.0 in
    let reached = walked_next (escape_walkable c.requires.escapes) c.vertices.invariant _ c.next.ensures c.in-Some.is in (
      le_refl (get_or a.offsets.now v 0),
      (edges_ready c.requires.escapes v reached.small).rising,
      none_first a.offsets.now a.targets.now v (set_at (length a.owners.now) c.if-own.place a.work.now),
      elim c.if-own.branch [
        | then-own y ↦ inl (eq-eqb _ _ y.if-own.true, y.place-is)
        | else-own y ↦ inr (ne_eqb _ _ y.if-own.false, y.place-is)
      ],
    )

pub bounds-targets-e : goal.bounds-targets-e
bounds-targets-e c =
    let reached = walked_next (escape_walkable c.requires.escapes) c.vertices.invariant _ c.next.ensures c.in-Some.is in
    omega (arith, (edges_ready c.requires.escapes _ reached.small).top, c.loop-e-test.true)

pub contains-requires : goal.contains-requires
contains-requires c =
    let a = c.args in
    let reached = walked_next (escape_walkable c.requires.escapes) c.vertices.invariant _ c.next.ensures c.in-Some.is in
    let edges = edges_ready c.requires.escapes _ reached.small in
    part_bit a.s c.if-own.place _ a.work.now
    (⊎_elim
    (λ y. omega (arith, y.1, c.requires.escapes.size, c.requires.held_room))
    (λ y. omega (arith, y.1, c.requires.escapes.size, c.requires.room))
    c.loop-e.invariant.3)
    (edges.bits c.loop-e.e (omega (arith, edges.top, c.loop-e-test.true)))

pub vertices-preserved-then-own-2 : goal.vertices-preserved-then-own-2
vertices-preserved-then-own-2 c =
    let a = c.args in
    let v = c.in-Some.field-0.0 in
    let place = c.if-own.place in
    let reached = walked_next (escape_walkable c.requires.escapes) c.vertices.invariant _ c.next.ensures c.in-Some.is in
    let top = (edges_ready c.requires.escapes v reached.small).top in
    let asked = c.contains.ensures ∙ set_asked (length a.owners.now) a.s place _ a.work.now c.requires.escapes.size in
    let found =
    some_at a.offsets.now a.targets.now v (set_at (length a.owners.now) place a.work.now) c.loop-e.e c.loop-e.invariant.0
    c.loop-e-test.true (omega (arith, top, c.loop-e-test.true)) (sym asked ∙ c.if-not-contains.false) in
    reached.more
    (passes
    (shut_own a.owners.now a.offsets.now a.targets.now a.alpha a.held a.below a.work.now v place (eq-eqb _ _ c.if-own-2.true)
    c.loop-e.invariant.3 found))

pub returns-in-loop-e : goal.returns-in-loop-e
returns-in-loop-e c =
    let a = c.args in
    let v = c.in-Some.field-0.0 in
    let place = c.if-own.place in
    let reached = walked_next (escape_walkable c.requires.escapes) c.vertices.invariant _ c.next.ensures c.in-Some.is in
    let top = (edges_ready c.requires.escapes v reached.small).top in
    let asked = c.contains.ensures ∙ set_asked (length a.owners.now) a.s place _ a.work.now c.requires.escapes.size in
    let found =
    some_at a.offsets.now a.targets.now v (set_at (length a.owners.now) place a.work.now) c.loop-e.e c.loop-e.invariant.0
    c.loop-e-test.true (omega (arith, top, c.loop-e-test.true)) (sym asked ∙ c.if-not-contains.false) in
    open_found a.owners.now a.offsets.now a.targets.now a.alpha a.heads a.held a.below a.work.now v reached.small reached.member
    (open_other a.owners.now a.offsets.now a.targets.now a.alpha a.held a.below a.work.now v place (ne_eqb _ _ c.if-own-2.false)
    c.loop-e.invariant.3 found)

pub returns-then-own-3 : goal.returns-then-own-3
returns-then-own-3 c =
    let a = c.args in
    let v = c.in-Some.field-0.0 in
    let place = c.if-own.place in
    let reached = walked_next (escape_walkable c.requires.escapes) c.vertices.invariant _ c.next.ensures c.in-Some.is in
    let none =
    none_at_all a.offsets.now a.targets.now v (set_at (length a.owners.now) place a.work.now) c.loop-e.e c.loop-e-test.false
    c.loop-e.invariant.2 in
    open_found a.owners.now a.offsets.now a.targets.now a.alpha a.heads a.held a.below a.work.now v reached.small reached.member
    (open_own a.owners.now a.offsets.now a.targets.now a.alpha a.held a.below a.work.now v place (eq-eqb _ _ c.if-own-3.true)
    c.loop-e.invariant.3 none)

pub vertices-preserved : goal.vertices-preserved
vertices-preserved c =
    let a = c.args in
    let v = c.in-Some.field-0.0 in
    let place = c.if-own.place in
    let reached = walked_next (escape_walkable c.requires.escapes) c.vertices.invariant _ c.next.ensures c.in-Some.is in
    let none =
    none_at_all a.offsets.now a.targets.now v (set_at (length a.owners.now) place a.work.now) c.loop-e.e c.loop-e-test.false
    c.loop-e.invariant.2 in
    reached.more
    (passes
    (shut_other a.owners.now a.offsets.now a.targets.now a.alpha a.held a.below a.work.now v place (ne_eqb _ _ c.if-own-3.false)
    c.loop-e.invariant.3 none))

pub returns : goal.returns
returns c =
    let a = c.args in
    open_none a.owners.now a.offsets.now a.targets.now a.alpha a.heads a.held a.below a.work.now
    (walked_all (escape_walkable c.requires.escapes) c.vertices.invariant _ c.next.ensures c.in_default.is)
