-- `read_fitting` meets its contract: a byte that is refused decides.
use borrow.Author.Rules.{rules}
use Rattle.pgsolver.specs.Reading.{read_refused}
use Rattle.pgsolver.proofs.door.read_fitting.Goals as goal

pub returns-in-Err : goal.returns-in-Err
returns-in-Err c =
    read_refused _ _ _ _ _ _ _ _ _ _ _ _ _ c.requires
    (record { owners = search rules; priorities = search rules; offsets = search rules; targets = search rules })
    c.take_whole.ensures
    c.in-Err.refusal
    _
    c.in-Err.is
    c.refuse.ensures
