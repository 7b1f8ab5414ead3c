-- `first_refusal` meets its contract. The lengths that passed make the priorities' own check that of the vertices.
use Rattle.std.proofs.Common.{arith}
use Rattle.parity_game.specs.Laws.{tables_grouped}
use Rattle.checks_in_order.proofs.Lengths.{fit}
use Rattle.checks_in_order.proofs.checks.first_refusal.Goals as goal

pub returns-in_err-check_priorities : goal.returns-in_err-check_priorities
returns-in_err-check_priorities c =
    let same = (fit _ _ _ _ c.in_ok-check_lengths.ensures).0 in grind (arith, tables_grouped, same)

pub check_offsets-requires : goal.check_offsets-requires
check_offsets-requires c = (fit _ _ _ _ c.in_ok-check_lengths.ensures).1

pub returns-in_err-check_offsets : goal.returns-in_err-check_offsets
returns-in_err-check_offsets c =
    let same = (fit _ _ _ _ c.in_ok-check_lengths.ensures).0 in grind (arith, tables_grouped, same)

pub returns-in_err-check_targets : goal.returns-in_err-check_targets
returns-in_err-check_targets c =
    let same = (fit _ _ _ _ c.in_ok-check_lengths.ensures).0 in grind (arith, tables_grouped, same)

pub is_total-requires : goal.is_total-requires
is_total-requires c = (fit _ _ _ _ c.in_ok-check_lengths.ensures).1

pub returns : goal.returns
returns c =
    let same = (fit _ _ _ _ c.in_ok-check_lengths.ensures).0 in grind (arith, tables_grouped, same)
