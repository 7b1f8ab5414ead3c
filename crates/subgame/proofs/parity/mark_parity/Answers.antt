-- `mark_parity` meets its contract.
use Rattle.std.proofs.Common.{arith}
use Rattle.subgame.specs.Parity.{swept_none, sweep_ready, swept_more}
use Rattle.subgame.proofs.parity.mark_parity.Goals as goal

pub loop-k-init : goal.loop-k-init
loop-k-init c = swept_none _ _ _ _ _ _ _ c.requires.0

pub mark_used-requires : goal.mark_used-requires
mark_used-requires c = (
  sweep_ready _ _ _ _ _ _ _ c.requires.0 _ _ c.loop-k.invariant,
  c.requires.1,
  omega (arith, c.requires.0.parity_small),
)

pub loop-k-preserved : goal.loop-k-preserved
loop-k-preserved c = swept_more _ _ _ _ _ _ _ c.requires.0 _ _ c.loop-k.invariant _ c.mark_used.ensures
