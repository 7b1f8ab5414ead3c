-- `compact` meets its contract. Past 9 for the new table and the new kept numbers, what is written is the rule's table and a
-- fresh count of it.
use Rattle.std.proofs.Common.{rules, arith, sym, ◌∙◌}
use Rattle.parity_game.specs.Laws.{accepted_sound, check9_table_none}
use Rattle.compaction.specs.Laws.{lent_of, compacts_stopped, compacts_kept, compacts_answered}
use Rattle.compaction_numbers.specs.Marks.{Small}
use Rattle.compaction_numbers.specs.Steps.{numbers_compact}
use Rattle.compaction.proofs.compact.Goals as goal

pub returns-in_err-check_table : goal.returns-in_err-check_table
returns-in_err-check_table c =
    compacts_stopped c.from_residual.result c.in_err-check_table.field-0.0 (search rules) c.requires c.in_err-check_table.ensures

pub returns-then-new_kept-ne-KEPT : goal.returns-then-new_kept-ne-KEPT
returns-then-new_kept-ne-KEPT c =
    compacts_kept _ (lent_of c.args.new_priorities.now c.args.new_kept.now) c.requires (sym c.in_ok-check_table.ensures) c.if-new_kept-ne-KEPT.true

pub mark-requires : goal.mark-requires
mark-requires c =
    let sound = accepted_sound _ c.requires in λ v l. sound.priority_small v (omega (arith, sound.priority_each))

pub write-requires : goal.write-requires
write-requires c =
    let sound = accepted_sound _ c.requires in
    let long = check9_table_none _ _ (sym c.in_ok-check_table.ensures) in
    (λ v l. sound.priority_small v (omega (arith, sound.priority_each)), long ∙ sym sound.priority_each)

pub write_fresh-requires : goal.write_fresh-requires
write_fresh-requires c = c.if-new_kept-ne-KEPT.false

pub returns : goal.returns
returns c =
    let sound = accepted_sound _ c.requires in
    let small : Small c.args.priorities.now = λ v l. sound.priority_small v (omega (arith, sound.priority_each)) in
    compacts_answered _ (lent_of c.args.new_priorities.now c.args.new_kept.now) _ c.requires (sym c.in_ok-check_table.ensures)
    c.if-new_kept-ne-KEPT.false
    (c.write.ensures ∙ numbers_compact c.args.priorities.now c.mark.result c.number-numbers.result small c.mark.ensures c.number-numbers.ensures)
    c.write_fresh.ensures
