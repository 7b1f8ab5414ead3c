-- `check_lengths` meets its contract: a check past which the code went on gave nothing, so what is left decides.
use mathlib.Core.Path.{sym}
use Rattle.parity_game.specs.Laws.{check1_none}
use Rattle.size_checks.proofs.check_lengths.Goals as goal

pub check_counts-requires : goal.check_counts-requires
check_counts-requires c = check1_none _ (sym c.in_ok-check_vertices.ensures)

pub returns : goal.returns
returns c = rw (sym c.in_ok-check_vertices.ensures, sym c.in_ok-check_counts.ensures) c.check_edges.ensures
