-- `check_tables` meets its contract: tables whose lengths fit and that are well pass all checks, and of others the checks
-- of `checks_in_order` say it.
use Rattle.std.proofs.Common.{sym}
use Rattle.rules.specs.Tables.{tables_of}
use Rattle.checks_in_order.proofs.Lengths.{fit}
use Rattle.table_checks.specs.Well.{well_passes, both_pass}
use Rattle.table_checks.proofs.check_tables.Goals as goal

pub are_well-requires : goal.are_well-requires
are_well-requires c = fit _ _ _ _ c.in_ok-check_lengths.ensures

pub returns-then-are_well : goal.returns-then-are_well
returns-then-are_well c =
    let t = tables_of c.args.owners.now c.args.priorities.now c.args.offsets.now c.args.targets.now in
    sym (both_pass t (sym c.in_ok-check_lengths.ensures) (well_passes t (c.are_well.ensures c.if-are_well.true)))
