-- `begin` meets its contract: nothing waits in cleared tables.
use Rattle.pgsolver_portion.specs.Reached.{begins}
use Rattle.pgsolver_portion.proofs.begin.begin.Goals as goal

pub returns : goal.returns
returns c = begins _ _ _ _ _ _ _ _ _ c.requires c.clear_tables.ensures c.start.ensures
