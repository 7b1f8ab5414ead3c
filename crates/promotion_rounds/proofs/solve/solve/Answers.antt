-- `solve` meets its contract: each round that is made is the next one.
use mathlib.Core.Path.{refl, ◌∙◌}
use native.Mathlib.Omega.{arith}
use Rattle.promotion_rounds.specs.SolveAll.{reached_ready, reached_more}
use Rattle.promotion_rounds.proofs.solve.solve.Goals as goal

pub loop-state-init : goal.loop-state-init
loop-state-init c = (c.requires.0, c.requires.1, λ i behind. refl)

pub returns-then-state-budget : goal.returns-then-state-budget
returns-then-state-budget c =
    record {
      long = c.loop-state.auto.work;
      reached = c.loop-state.invariant.0;
      within = c.loop-state.invariant.1;
      over = λ left. c.if-state-budget.true;
      rest = c.loop-state.invariant.2;
    }

pub step-requires : goal.step-requires
step-requires c = reached_ready c.loop-state.invariant.0 c.loop-state-test.true (omega (arith, c.loop-state.invariant.1, c.if-state-budget.false))

pub loop-state-smaller : goal.loop-state-smaller
loop-state-smaller c = omega (arith, c.step.ensures.counted, c.loop-state.invariant.1, c.if-state-budget.false)

pub loop-state-preserved : goal.loop-state-preserved
loop-state-preserved c = (
  reached_more c.loop-state.invariant.0 c.loop-state-test.true c.step.ensures,
  omega (arith, c.step.ensures.counted, c.loop-state.invariant.1, c.if-state-budget.false),
  λ i behind. c.step.ensures.rest i behind ∙ c.loop-state.invariant.2 i behind,
)

pub returns : goal.returns
returns c =
    record {
      long = c.loop-state.auto.work;
      reached = c.loop-state.invariant.0;
      within = c.loop-state.invariant.1;
      over = λ left. absurd (omega (arith, left, c.loop-state-test.false));
      rest = c.loop-state.invariant.2;
    }
