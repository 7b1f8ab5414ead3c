-- `gather` meets its contract.
use native.Mathlib.Omega.{arith}
use Rattle.solitaire_game.specs.Gathering.{gathered_passed, gathered_joined, insert_fits}
use Rattle.solitaire_game.proofs.marking.gather.Goals as goal
use Rattle.solitaire_game.proofs.marking.gather.Goals.{then-work-row-ne0, else-work-row-ne0}

pub insert-requires : goal.insert-requires
insert-requires c = insert_fits _ _ _ _ _ c.requires _ _ c.loop-v.invariant (omega arith)

pub loop-v-preserved : goal.loop-v-preserved
loop-v-preserved c =
    elim c.if-work-row-ne0.branch [
      | then-work-row-ne0 w ↦ rw w.work-is
          (gathered_joined _ _ _ _ _ c.requires _ _ c.loop-v.invariant (omega arith) w.if-work-row-ne0.true _ w.insert.ensures)
      | else-work-row-ne0 w ↦ rw w.work-is
          (gathered_passed _ _ _ _ _ c.requires _ _ c.loop-v.invariant (omega arith) w.if-work-row-ne0.false)
    ]
