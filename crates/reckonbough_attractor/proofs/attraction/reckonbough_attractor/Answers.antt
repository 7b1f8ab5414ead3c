-- `reckonbough_attractor` meets its contract: past the record's checks there is room for the parts that it lends, and their tables are
-- accepted.
use Rattle.std.proofs.Common.{rules, arith, sym, refl}
use Rattle.parity_game.specs.Said.{said}
use Rattle.rules.specs.Attracts.{LentResult, Attracts}
use Rattle.rules.specs.Game.{player_of}
use Rattle.telling.specs.Doors.{attracts_as}
use Rattle.theory.specs.Edits.{passing}
use Rattle.record.specs.ByRecord.{refusal_first, done_first}
use Rattle.reckonbough_attractor.proofs.attraction.reckonbough_attractor.Goals as goal

pub slice_bounds-attractor-end : goal.slice_bounds-attractor-end
slice_bounds-attractor-end c = let room = (passing _ (sym c.in-Ok.ensures)).room in search rules

pub slice_bounds-attractor-end-in-Ok : goal.slice_bounds-attractor-end-in-Ok
slice_bounds-attractor-end-in-Ok c = let room = (passing _ (sym c.in-Ok.ensures)).room in search rules

pub overflow_add-n : goal.overflow_add-n
overflow_add-n c = let room = (passing _ (sym c.in-Ok.ensures)).room in record { fits = omega arith }

pub slice_bounds-attractor-end-in-Ok-2 : goal.slice_bounds-attractor-end-in-Ok-2
slice_bounds-attractor-end-in-Ok-2 c = let room = (passing _ (sym c.in-Ok.ensures)).room in search rules

pub slice_bounds-attractor-end-in-Ok-3 : goal.slice_bounds-attractor-end-in-Ok-3
slice_bounds-attractor-end-in-Ok-3 c = let room = (passing _ (sym c.in-Ok.ensures)).room in search rules

pub attractor-done-requires : goal.attractor-done-requires
attractor-done-requires c = (passing _ (sym c.in-Ok.ensures)).accepted

-- what is told and left past the check of the record
pub returns-in-Ok : goal.returns-in-Ok
returns-in-Ok c =
    let at = c.args in
    let did = c.attractor-done.new in
    let before : LentResult = record { result = at.res.now; strategy = at.strategy.now; distances = at.distances.now; work = at.work.now } in
    let after : LentResult = record { result = did.res; strategy = did.strategy; distances = did.distances; work = did.work } in
    done_first _ before after (λ o t. Attracts t (player_of at.player) at.within.now at.target.now before after o) (said c.attractor-done.result) (sym c.in-Ok.ensures)
    (attracts_as c.from_index-alpha.ensures refl c.attractor-done.ensures)
    c.tell.ensures

pub returns-in-Err : goal.returns-in-Err
returns-in-Err c =
    let at = c.args in
    let lent : LentResult = record { result = at.res.now; strategy = at.strategy.now; distances = at.distances.now; work = at.work.now } in
    refusal_first _ lent (λ o t. Attracts t (player_of at.player) at.within.now at.target.now lent lent o) c.in-Err.refused c.in-Err.ensures
    c.tell-in-Err.ensures
