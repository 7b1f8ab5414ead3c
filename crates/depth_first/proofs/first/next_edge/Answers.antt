-- `next_edge` meets its contract.
use Rattle.depth_first.specs.Walking.{scanning_starts}
use Rattle.depth_first.proofs.first.next_edge.Goals as goal

pub loop-e-init : goal.loop-e-init
loop-e-init c = scanning_starts _ _ _ _ c.requires
