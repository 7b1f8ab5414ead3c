-- The two solvers meet their contracts. A call has a lower height, and the loop of passes has a number that is made of the size
-- of V and the stages that are left. Each answer cites the law of the piece, for either player.
use mathlib.Core.Logic.{inr}
use mathlib.Core.Path.{refl, sym, ap, ◌∙◌}
use native.Mathlib.Omega.{arith}
use Prim.Native.Nat.{ℕ}
use Rattle.rules.specs.Game.{parity, player_of}
use Rattle.rules.specs.Tables.{game_of, tables_of}
use Rattle.theory.specs.Run.{Top}
use Rattle.quasi_level.specs.Level.{on_level}
use Rattle.quasi_solvers.specs.Passing.{called_held, called_searched, called_gives_up}
use Rattle.quasi_solvers.specs.Passing.{called_top, top_lower, called_high, parity_even, parity_odd}
use Rattle.quasi_solvers.specs.Passing.{turned_less, turned_called, turned_solved}
use Rattle.quasi_solvers.specs.Passing.{still_early, not_early, going_first, going_ready, going_called}
use Rattle.quasi_solvers.specs.Passing.{going_droppable, going_on, going_less, going_ends}
use Rattle.quasi_solvers.proofs.recursion.+solve_even_solve_odd.Goals.{solve_even-After-highest_at-p, solve_odd-After-highest_at-p}
use Rattle.quasi_solvers.proofs.recursion.+solve_even_solve_odd.Goals as goal

-- ---- the solver for Even

-- the highest priority in V
even_top :
    (t : ℕ) (c : solve_even-After-highest_at-p t) →
    let a = c.args in
    let on = tables_of a.owners.now a.priorities.now a.offsets.now a.targets.now in
    Top (game_of on) (on_level on a.base a.work.now) (parity c.highest_at-p.result.0) c.highest_at-p.result.0
even_top t c =
    called_top c.requires c.set_words-s.ensures c.args.even c.size_at-size.ensures c.min-e.ensures c.if-e-eq0.false c.highest_at-p.ensures

pub solve_even-size_at-size-requires : goal.solve_even-size_at-size-requires
solve_even-size_at-size-requires t c = called_held c.requires c.set_words-s.ensures

pub solve_even-returns-then-e-eq0 : goal.solve_even-returns-then-e-eq0
solve_even-returns-then-e-eq0 t c =
    called_gives_up c.requires c.set_words-s.ensures c.size_at-size.ensures c.min-e.ensures c.if-e-eq0.true c.give_up.ensures

pub solve_even-highest_at-p-requires : goal.solve_even-highest_at-p-requires
solve_even-highest_at-p-requires t c = called_searched c.requires c.set_words-s.ensures

pub solve_even-overflow_add-p : goal.solve_even-overflow_add-p
solve_even-overflow_add-p t c =
    let top = even_top t (goal.at.solve_even-overflow_add-p t c).After-highest_at-p in
    omega (arith, top_lower c.requires c.set_words-s.ensures top, c.ranges.height)

pub solve_even-solve_odd-turned-requires : goal.solve_even-solve_odd-turned-requires
solve_even-solve_odd-turned-requires t c =
    let top = even_top t (goal.at.solve_even-solve_odd-turned-requires t c).After-highest_at-p in
    let theirs = ap player_of c.if-p-eq1.true in
    let next = c.next_level-up.ensures in
    let copied = c.copy_with.ensures in
    let less = turned_less c.requires c.set_words-s.ensures top theirs next copied in (
      omega (arith, less, c.decreases),
      turned_called c.requires c.set_words-s.ensures top theirs next copied,
    )

pub solve_even-returns-then-p-eq1 : goal.solve_even-returns-then-p-eq1
solve_even-returns-then-p-eq1 t c =
    let top = even_top t (goal.at.solve_even-returns-then-p-eq1 t c).After-highest_at-p in
    turned_solved c.requires c.set_words-s.ensures top (ap player_of c.if-p-eq1.true)
    c.next_level-up.ensures
    c.copy_with.ensures
    c.solve_odd-turned.ensures
    c.turn_over.ensures

pub solve_even-loop-p-init : goal.solve_even-loop-p-init
solve_even-loop-p-init t c =
    let top = even_top t (goal.at.solve_even-loop-p-init t c).After-highest_at-p in
    going_first c.requires c.set_words-s.ensures top c.new-passes.ensures

pub solve_even-attract_top-requires : goal.solve_even-attract_top-requires
solve_even-attract_top-requires t c =
    let top = even_top t (goal.at.solve_even-attract_top-requires t c).After-highest_at-p in
    going_ready c.requires c.set_words-s.ensures top c.loop-p.invariant

pub solve_even-solve_odd-r-requires : goal.solve_even-solve_odd-r-requires
solve_even-solve_odd-r-requires t c =
    let top = even_top t (goal.at.solve_even-solve_odd-r-requires t c).After-highest_at-p in
    let ours = parity_even _ c.if-p-eq1.false in (
      omega (arith, top_lower c.requires c.set_words-s.ensures top, c.decreases),
      going_called c.requires c.set_words-s.ensures top c.loop-p.invariant ours c.next_level-up.ensures c.attract_top.ensures,
    )

pub solve_even-settle-passes-requires : goal.solve_even-settle-passes-requires
solve_even-settle-passes-requires t c =
    let top = even_top t (goal.at.solve_even-settle-passes-requires t c).After-highest_at-p in
    let ours = parity_even _ c.if-p-eq1.false in
    going_droppable c.requires c.set_words-s.ensures top c.loop-p.invariant ours c.next_level-up.ensures c.attract_top.ensures
    c.solve_odd-r.ensures
    (omega arith)

pub solve_even-loop-p-smaller : goal.solve_even-loop-p-smaller
solve_even-loop-p-smaller t c =
    let top = even_top t (goal.at.solve_even-loop-p-smaller t c).After-highest_at-p in
    let ours = parity_even _ c.if-p-eq1.false in
    let early = still_early _ (sym c.is_done.ensures ∙ c.loop-p-test.true) in
    going_less c.requires c.set_words-s.ensures top c.loop-p.invariant ours c.next_level-up.ensures c.attract_top.ensures
    c.solve_odd-r.ensures
    early
    (c.settle-passes.ensures c.args.priorities.now c.requires.accepted)

pub solve_even-loop-p-preserved : goal.solve_even-loop-p-preserved
solve_even-loop-p-preserved t c =
    let top = even_top t (goal.at.solve_even-loop-p-preserved t c).After-highest_at-p in
    let ours = parity_even _ c.if-p-eq1.false in
    let early = still_early _ (sym c.is_done.ensures ∙ c.loop-p-test.true) in
    going_on c.requires c.set_words-s.ensures top c.loop-p.invariant ours c.next_level-up.ensures c.attract_top.ensures
    c.solve_odd-r.ensures
    early
    refl
    c.precision-k.ensures
    (c.settle-passes.ensures c.args.priorities.now c.requires.accepted)

pub solve_even-returns : goal.solve_even-returns
solve_even-returns t c =
    let top = even_top t (goal.at.solve_even-returns t c).After-highest_at-p in
    let late = not_early _ (sym c.is_done.ensures ∙ c.loop-p-test.false) in
    going_ends c.requires c.set_words-s.ensures top c.loop-p.invariant late c.size_at-size.ensures c.min-e.ensures c.min-o.ensures
    c.sharpness.ensures

-- ---- the solver for Odd

-- the highest priority in V
odd_top :
    (t : ℕ) (c : solve_odd-After-highest_at-p t) →
    let a = c.args in
    let on = tables_of a.owners.now a.priorities.now a.offsets.now a.targets.now in
    Top (game_of on) (on_level on a.base a.work.now) (parity c.highest_at-p.result.0) c.highest_at-p.result.0
odd_top t c =
    called_top c.requires c.set_words-s.ensures c.args.odd c.size_at-size.ensures c.min-o.ensures c.if-o-eq0.false c.highest_at-p.ensures

pub solve_odd-size_at-size-requires : goal.solve_odd-size_at-size-requires
solve_odd-size_at-size-requires t c = called_held c.requires c.set_words-s.ensures

pub solve_odd-returns-then-o-eq0 : goal.solve_odd-returns-then-o-eq0
solve_odd-returns-then-o-eq0 t c =
    called_gives_up c.requires c.set_words-s.ensures c.size_at-size.ensures c.min-o.ensures c.if-o-eq0.true c.give_up.ensures

pub solve_odd-highest_at-p-requires : goal.solve_odd-highest_at-p-requires
solve_odd-highest_at-p-requires t c = called_searched c.requires c.set_words-s.ensures

pub solve_odd-copy_with-requires : goal.solve_odd-copy_with-requires
solve_odd-copy_with-requires t c =
    let top = odd_top t (goal.at.solve_odd-copy_with-requires t c).After-highest_at-p in
    let high = called_high c.requires c.set_words-s.ensures top in
    let next = c.next_level-up.ensures in
    record { into_fits = omega arith; from_fits = omega arith; apart = inr (omega arith) }

pub solve_odd-solve_even-turned-requires : goal.solve_odd-solve_even-turned-requires
solve_odd-solve_even-turned-requires t c =
    let top = odd_top t (goal.at.solve_odd-solve_even-turned-requires t c).After-highest_at-p in
    let theirs = ap player_of c.if-p-eq0.true in
    let next = c.next_level-up.ensures in
    let copied = c.copy_with.ensures in
    let less = turned_less c.requires c.set_words-s.ensures top theirs next copied in (
      omega (arith, less, c.decreases),
      turned_called c.requires c.set_words-s.ensures top theirs next copied,
    )

pub solve_odd-turn_over-requires : goal.solve_odd-turn_over-requires
solve_odd-turn_over-requires t c =
    let top = odd_top t (goal.at.solve_odd-turn_over-requires t c).After-highest_at-p in
    let high = called_high c.requires c.set_words-s.ensures top in
    omega (arith, high, c.copy_with.ensures.long, c.solve_even-turned.ensures.stays.long)

pub solve_odd-returns-then-p-eq0 : goal.solve_odd-returns-then-p-eq0
solve_odd-returns-then-p-eq0 t c =
    let top = odd_top t (goal.at.solve_odd-returns-then-p-eq0 t c).After-highest_at-p in
    turned_solved c.requires c.set_words-s.ensures top (ap player_of c.if-p-eq0.true)
    c.next_level-up.ensures
    c.copy_with.ensures
    c.solve_even-turned.ensures
    c.turn_over.ensures

pub solve_odd-loop-p-init : goal.solve_odd-loop-p-init
solve_odd-loop-p-init t c =
    let top = odd_top t (goal.at.solve_odd-loop-p-init t c).After-highest_at-p in
    going_first c.requires c.set_words-s.ensures top c.new-passes.ensures

pub solve_odd-attract_top-requires : goal.solve_odd-attract_top-requires
solve_odd-attract_top-requires t c =
    let top = odd_top t (goal.at.solve_odd-attract_top-requires t c).After-highest_at-p in
    going_ready c.requires c.set_words-s.ensures top c.loop-p.invariant

pub solve_odd-solve_even-r-requires : goal.solve_odd-solve_even-r-requires
solve_odd-solve_even-r-requires t c =
    let top = odd_top t (goal.at.solve_odd-solve_even-r-requires t c).After-highest_at-p in
    let ours = parity_odd _ c.if-p-eq0.false in (
      omega (arith, top_lower c.requires c.set_words-s.ensures top, c.decreases),
      going_called c.requires c.set_words-s.ensures top c.loop-p.invariant ours c.next_level-up.ensures c.attract_top.ensures,
    )

pub solve_odd-settle-passes-requires : goal.solve_odd-settle-passes-requires
solve_odd-settle-passes-requires t c =
    let top = odd_top t (goal.at.solve_odd-settle-passes-requires t c).After-highest_at-p in
    let ours = parity_odd _ c.if-p-eq0.false in
    going_droppable c.requires c.set_words-s.ensures top c.loop-p.invariant ours c.next_level-up.ensures c.attract_top.ensures
    c.solve_even-r.ensures
    (omega arith)

pub solve_odd-loop-p-smaller : goal.solve_odd-loop-p-smaller
solve_odd-loop-p-smaller t c =
    let top = odd_top t (goal.at.solve_odd-loop-p-smaller t c).After-highest_at-p in
    let ours = parity_odd _ c.if-p-eq0.false in
    let early = still_early _ (sym c.is_done.ensures ∙ c.loop-p-test.true) in
    going_less c.requires c.set_words-s.ensures top c.loop-p.invariant ours c.next_level-up.ensures c.attract_top.ensures
    c.solve_even-r.ensures
    early
    (c.settle-passes.ensures c.args.priorities.now c.requires.accepted)

pub solve_odd-loop-p-preserved : goal.solve_odd-loop-p-preserved
solve_odd-loop-p-preserved t c =
    let top = odd_top t (goal.at.solve_odd-loop-p-preserved t c).After-highest_at-p in
    let ours = parity_odd _ c.if-p-eq0.false in
    let early = still_early _ (sym c.is_done.ensures ∙ c.loop-p-test.true) in
    going_on c.requires c.set_words-s.ensures top c.loop-p.invariant ours c.next_level-up.ensures c.attract_top.ensures
    c.solve_even-r.ensures
    early
    refl
    c.precision-k.ensures
    (c.settle-passes.ensures c.args.priorities.now c.requires.accepted)

pub solve_odd-returns : goal.solve_odd-returns
solve_odd-returns t c =
    let top = odd_top t (goal.at.solve_odd-returns t c).After-highest_at-p in
    let late = not_early _ (sym c.is_done.ensures ∙ c.loop-p-test.false) in
    going_ends c.requires c.set_words-s.ensures top c.loop-p.invariant late c.size_at-size.ensures c.min-o.ensures c.min-e.ensures
    c.sharpness.ensures
