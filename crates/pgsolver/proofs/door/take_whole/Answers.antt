-- `take_whole` meets its contract: the first portion begins at the start of the text.
use Rattle.pgsolver.specs.Reading.{taken_whole}
use Rattle.pgsolver.proofs.door.take_whole.Goals as goal

pub returns : goal.returns
returns c = taken_whole _ _ _ _ _ _ _ _ _ _ _ _ c.begin-s.ensures c.take_portion.ensures
