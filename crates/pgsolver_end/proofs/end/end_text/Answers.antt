-- `end_text` meets its contract: what was told is refused, or the list decides.
use borrow.Author.Rules.{rules}
use Rattle.pgsolver_end.specs.Told.{ends_refused, ends_finished}
use Rattle.pgsolver_end.proofs.end.end_text.Goals as goal

pub returns-in-Ok : goal.returns-in-Ok
returns-in-Ok c =
    ends_finished _ _ _ _ _ _ _ _ _ _ _ _ c.requires (search rules) (search rules) (search rules) c.tell.ensures
    c.in-Ok.records c.in-Ok.edges c.in-Ok.is _ _ c.finish.ensures

pub returns-in-Err : goal.returns-in-Err
returns-in-Err c =
    ends_refused _ _ _ _ _ _ _ _ _ _ _ _ c.requires (search rules) (search rules) (search rules) c.tell.ensures
    c.in-Err.refusal _ c.in-Err.is c.refuse.ensures
