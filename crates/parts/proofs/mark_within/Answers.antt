-- `mark_within` meets its contract: each stage leaves what the next one needs.
use Rattle.parts.specs.Whole.{passes, labelling, hits_noteable, pairs_noteable, collectable, marked_parts}
use Rattle.parts.proofs.mark_within.Goals as goal

pub first_pass-done-requires : goal.first_pass-done-requires
first_pass-done-requires c =
    passes _ _ _ c.requires _ (rw (c.marks.ensures, c.behind.ensures, c.rows-rows.ensures) at c.clear.ensures)

pub second_pass-requires : goal.second_pass-requires
second_pass-requires c =
    labelling _ _ _ c.requires _ (rw (c.marks.ensures, c.behind.ensures, c.rows-rows.ensures) at c.clear.ensures)
    _ _ c.first_pass-done.ensures

pub note-requires : goal.note-requires
note-requires c =
    rw (c.hits.ensures, c.rows-rows.ensures)
    (hits_noteable _ _ _ c.requires _ (rw (c.marks.ensures, c.behind.ensures, c.rows-rows.ensures) at c.clear.ensures)
    _ _ c.first_pass-done.ensures _ c.second_pass.ensures)

pub note-requires-2 : goal.note-requires-2
note-requires-2 c =
    rw (c.pairs.ensures, c.rows-rows.ensures)
    (pairs_noteable _ _ _ c.requires _ (rw (c.marks.ensures, c.behind.ensures, c.rows-rows.ensures) at c.clear.ensures)
    _ _ c.first_pass-done.ensures _ c.second_pass.ensures
    _ (rw (c.hits.ensures, c.rows-rows.ensures) at c.note.ensures))

pub collect-requires : goal.collect-requires
collect-requires c =
    collectable _ _ _ c.requires _ (rw (c.marks.ensures, c.behind.ensures, c.rows-rows.ensures) at c.clear.ensures)
    _ _ c.first_pass-done.ensures _ c.second_pass.ensures
    _ (rw (c.hits.ensures, c.rows-rows.ensures) at c.note.ensures)
    _ (rw (c.pairs.ensures, c.rows-rows.ensures) at c.note-2.ensures)

pub returns : goal.returns
returns c =
    marked_parts _ _ _ c.requires _ (rw (c.marks.ensures, c.behind.ensures, c.rows-rows.ensures) at c.clear.ensures)
    _ _ c.first_pass-done.ensures _ c.second_pass.ensures
    _ (rw (c.hits.ensures, c.rows-rows.ensures) at c.note.ensures)
    _ (rw (c.pairs.ensures, c.rows-rows.ensures) at c.note-2.ensures)
    _ c.collect.ensures
