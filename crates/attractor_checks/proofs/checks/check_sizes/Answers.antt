-- `check_sizes` meets its contract, size by size in order.
use Rattle.std.proofs.Common.{arith}
use Rattle.attractor_checks.specs.DoorLaws.{sizes_in_order}
use Rattle.attractor_checks.proofs.checks.check_sizes.Goals as goal

pub returns-in_err-check_table-2 : goal.returns-in_err-check_table-2
returns-in_err-check_table-2 c =
    let a = c.args in
    let whole = sizes_in_order a.n a.m a.within a.target a.res a.strategy a.distances a.work in
    grind (arith, whole)
