-- `end_on` meets its contract: what the text gets is there from now on.
use borrow.Author.Rules.{rules}
use Rattle.parity_game.specs.Said.{refusal_of}
use Rattle.rules.specs.Outcome.{answered}
use Rattle.pgsolver_close.specs.Ending.{ends_on}
use Rattle.pgsolver_close.proofs.ending.end_on.Goals as goal

pub returns-in-Ok : goal.returns-in-Ok
returns-in-Ok c =
    ends_on c.args.state.now c.args.owners.now c.args.priorities.now c.args.offsets.now c.args.targets.now c.args.work.now _ _
    _ _ _ _ _ _ _ _ (answered c.in-Ok.count)
    (record { owners = search rules; priorities = search rules; offsets = search rules; targets = search rules })
    (search rules)
    (rw (c.found-s.ensures, c.place_found-place.ensures) at c.in-Ok.ensures)
    c.give.ensures

pub returns-in-Err : goal.returns-in-Err
returns-in-Err c =
    ends_on c.args.state.now c.args.owners.now c.args.priorities.now c.args.offsets.now c.args.targets.now c.args.work.now _ _
    _ _ _ _ _ _ _ _ (refusal_of c.in-Err.refusal)
    (record { owners = search rules; priorities = search rules; offsets = search rules; targets = search rules })
    (search rules)
    (rw (c.found-s.ensures, c.place_found-place.ensures) at c.in-Err.ensures)
    (rw (c.number.ensures, c.place.ensures) at c.give-in-Err.ensures)
