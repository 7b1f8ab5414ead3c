-- `check_export` meets its contract. The lengths that passed make the priorities' own check that of the vertices.
use Rattle.std.proofs.Common.{arith}
use Rattle.checks_in_order.proofs.Lengths.{fit}
use Rattle.mend.specs.Laws.{export_grouped}
use Rattle.mend.proofs.check_export.Goals as goal

pub returns-in_err-check_priorities : goal.returns-in_err-check_priorities
returns-in_err-check_priorities c =
    let same = (fit _ _ _ _ c.in_ok-check_lengths.ensures).0 in grind (arith, export_grouped, same)

pub check_offsets-requires : goal.check_offsets-requires
check_offsets-requires c = (fit _ _ _ _ c.in_ok-check_lengths.ensures).1

pub returns : goal.returns
returns c =
    let same = (fit _ _ _ _ c.in_ok-check_lengths.ensures).0 in grind (arith, export_grouped, same)
