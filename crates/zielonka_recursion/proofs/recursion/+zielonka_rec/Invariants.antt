-- The measure of `zielonka_rec` is the size of V, by the ones of its words.
use lib.ListN.{length}
use Rattle.area.specs.Area.{size_at}
use Rattle.zielonka_recursion.proofs.recursion.+zielonka_rec.Given as goal

abbrev pub decreases-zielonka_rec : goal.decreases-zielonka_rec
decreases-zielonka_rec l = size_at (length l.owners.now) l.base l.work.now
