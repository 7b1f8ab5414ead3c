-- `clear_work` meets its contract: the words at the front are cleared, and the others stay.
use Rattle.reading_rooms.specs.Cleared.{cleared_front}
use Rattle.reading_rooms.proofs.clear.clear_work.Goals as goal

pub returns : goal.returns
returns c = cleared_front c.args.used c.args.work.now _ c.requires c.clear.ensures
