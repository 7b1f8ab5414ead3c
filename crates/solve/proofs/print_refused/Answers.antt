-- `print_refused` writes no more than the line that was put.
use Rattle.putting.specs.Puts.{puts_within}
use Rattle.solve.proofs.print_refused.Goals as goal

pub slice_bounds-write_all-end : goal.slice_bounds-write_all-end
slice_bounds-write_all-end g c = puts_within c.refused_line-end.ensures
