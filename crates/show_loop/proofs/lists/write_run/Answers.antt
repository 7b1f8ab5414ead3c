-- `write_run` meets its contract: nothing is written where no priority has a way, and both lists where one has.
use Rattle.show_loop.specs.Writing.{went_none, lists_writable, went_there}
use Rattle.show_loop.proofs.lists.write_run.Goals as goal

pub seek-p-requires : goal.seek-p-requires
seek-p-requires c = (c.requires.0.seekable, c.requires.1)

pub returns-then-p-gt-HIGHEST_PRIORITY : goal.returns-then-p-gt-HIGHEST_PRIORITY
returns-then-p-gt-HIGHEST_PRIORITY c =
    went_none _ _ _ _ _ _ _ _ _ c.requires.0 _ _ c.seek-p.ensures c.if-p-gt-HIGHEST_PRIORITY.true

pub write_lists-requires : goal.write_lists-requires
write_lists-requires c =
    lists_writable _ _ _ _ _ _ _ _ _ c.requires.0 _ _ c.seek-p.ensures c.if-p-gt-HIGHEST_PRIORITY.false

pub returns : goal.returns
returns c =
    went_there _ _ _ _ _ _ _ _ _ c.requires.0 _ _ c.seek-p.ensures c.if-p-gt-HIGHEST_PRIORITY.false _ _ _ _
    c.write_lists.ensures.0 c.write_lists.ensures.1
