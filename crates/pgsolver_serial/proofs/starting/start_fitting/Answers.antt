-- `start_fitting` meets its contract: a reading begins, and the words keep it.
use borrow.Author.Rules.{rules}
use Rattle.pgsolver_serial.specs.Stands.{starts}
use Rattle.pgsolver_serial.proofs.starting.start_fitting.Goals as goal

pub returns : goal.returns
returns c =
    starts _ _ _ _ _ _ _ _ _ _ _ _
    (record { owners = search rules; priorities = search rules; offsets = search rules; targets = search rules })
    (search rules)
    c.begin-s.ensures
    c.keep.ensures
