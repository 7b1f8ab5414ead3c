-- `find` meets its contract: each call asks for what the calls before it left.
use Rattle.loop_search.specs.Finding.{find_markable, find_headable, found}
use Rattle.loop_search.proofs.priority.find.Goals as goal

pub mark_used-requires : goal.mark_used-requires
mark_used-requires c = (
  rw (c.behind-row.ensures, c.rows-rows.ensures)
      (find_markable _ _ _ _ _ _ c.requires.0 _ (rw (c.behind-row.ensures, c.rows-rows.ensures) at c.clear.ensures)),
  c.requires.1,
  c.requires.2,
)

pub spread_heads-requires : goal.spread_heads-requires
spread_heads-requires c =
    rw (c.behind-row.ensures, c.rows-rows.ensures)
    (find_headable _ _ _ _ _ _ c.requires.0 _ (rw (c.behind-row.ensures, c.rows-rows.ensures) at c.clear.ensures)
    _ (rw (c.behind-row.ensures, c.rows-rows.ensures) at c.mark_used.ensures)
    _ (rw (c.labels-labels.ensures, c.rows-rows.ensures) at c.clear-2.ensures))

pub returns : goal.returns
returns c =
    found _ _ _ _ _ _ c.requires.0 _ (rw (c.behind-row.ensures, c.rows-rows.ensures) at c.clear.ensures)
    _ (rw (c.behind-row.ensures, c.rows-rows.ensures) at c.mark_used.ensures)
    _ (rw (c.labels-labels.ensures, c.rows-rows.ensures) at c.clear-2.ensures)
    _ (rw (c.behind-row.ensures, c.rows-rows.ensures) at c.spread_heads.ensures)
