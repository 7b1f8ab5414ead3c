-- `go_on` meets its contract: the portion is read, or one of its bytes is refused.
use borrow.Author.Rules.{rules}
use Rattle.pgsolver_serial.specs.Stands.{goes_on, goes_over}
use Rattle.pgsolver_serial.proofs.portion.go_on.Goals as goal

pub returns-in-Ok : goal.returns-in-Ok
returns-in-Ok c =
    goes_on c.args.portion.now c.args.state.now c.args.owners.now c.args.priorities.now c.args.offsets.now c.args.targets.now
    _ _ _ _ _ _
    (record { owners = search rules; priorities = search rules; offsets = search rules; targets = search rules })
    (search rules)
    (rw (c.found-s.ensures, c.place_found-place.ensures) at c.take_portion.ensures)
    c.in-Ok.next
    c.in-Ok.is
    (rw c.place_found-place.ensures at c.keep.ensures)

pub returns-in-Err : goal.returns-in-Err
returns-in-Err c =
    goes_over c.args.portion.now c.args.state.now c.args.owners.now c.args.priorities.now c.args.offsets.now
    c.args.targets.now
    _ _ _ _ _ _
    (record { owners = search rules; priorities = search rules; offsets = search rules; targets = search rules })
    (search rules)
    (rw (c.found-s.ensures, c.place_found-place.ensures) at c.take_portion.ensures)
    c.in-Err.refusal
    c.in-Err.is
    (rw (c.number.ensures, c.place.ensures) at c.give.ensures)
