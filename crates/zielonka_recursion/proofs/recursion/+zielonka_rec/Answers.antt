-- `zielonka_rec` meets its contract. The measure is the size of V, by the ones of its words. The pieces before a nested call make what it asks
-- for, on fewer vertices, and the pieces after it make of what it left the run of this call.
use native.Mathlib.Omega.{arith}
use Rattle.zielonka_recursion.specs.Ending.{ends_over, ends_done, ends_one}
use Rattle.zielonka_level.specs.Steps.{done_empty}
use Rattle.zielonka_recursion.specs.Calling.{level_fits, highest_given, level_empty, level_some, empty_ends}
use Rattle.zielonka_recursion.specs.Calling.{counted_one, counted_more}
use Rattle.zielonka_recursion.specs.Calling.{member_ready, member_top, ready_sorted}
use Rattle.zielonka_recursion.specs.Calling.{begun_cut, begun_less, begun_called, begun_made, begun_beyond}
use Rattle.zielonka_recursion.specs.Calling.{came_ready, came_sorted, came_all, came_levels, came_told}
use Rattle.zielonka_recursion.specs.Calling.{told_ready, told_sorted, told_all, told_cuttable, told_lost}
use Rattle.zielonka_recursion.specs.Calling.{lost_less, lost_called, lost_ends}
use Rattle.zielonka_recursion.proofs.recursion.+zielonka_rec.Goals as goal

pub returns-then-is_empty : goal.returns-then-is_empty
returns-then-is_empty t c =
    let (less, used) = counted_one c.count_call.ensures c.in_ok-used.was in
    let none = level_empty c.requires.called c.set_words-s.ensures c.is_empty.ensures c.if-is_empty.true in
    ends_one (omega (arith, used)) (done_empty c.requires.called none (omega (arith, less)))

pub get_highest_prio-p-requires : goal.get_highest_prio-p-requires
get_highest_prio-p-requires t c = highest_given c.requires.called c.set_words-s.ensures c.requires.under

pub attract_highest-requires : goal.attract_highest-requires
attract_highest-requires t c =
    let called = c.requires.called in
    let (v, q) = level_some called c.set_words-s.ensures c.is_empty.ensures c.if-is_empty.false in
    ready_sorted called (member_top called c.set_words-s.ensures v q c.get_highest_prio-p.ensures)
    (member_ready called c.set_words-s.ensures v q)

pub slice_bounds-is_empty-end-2 : goal.slice_bounds-is_empty-end-2
slice_bounds-is_empty-end-2 t c =
    let begun =
    begun_cut c.requires.called c.set_words-s.ensures c.is_empty.ensures c.if-is_empty.false c.get_highest_prio-p.ensures
    (c.attract_highest.ensures c.args.priorities.now) in
    level_fits (begun_called begun c.next_set-up.ensures).called begun.ready.size

pub returns-in_err-made : goal.returns-in_err-made
returns-in_err-made t c =
    let begun =
    begun_cut c.requires.called c.set_words-s.ensures c.is_empty.ensures c.if-is_empty.false c.get_highest_prio-p.ensures
    (c.attract_highest.ensures c.args.priorities.now) in
    let called = (begun_called begun c.next_set-up.ensures).called in
    let none = level_empty called begun.ready.size c.is_empty-2.ensures c.if-is_empty-2.true in
    let ends = empty_ends called none c.count_call-then-is_empty-2.ensures in
    rw c.from_residual-in_err-made.ensures
    (ends_over
    (begun_beyond begun c.next_set-up.ensures c.args.calls c.args.cap (counted_more c.count_call.ensures c.in_ok-used.was)
    (ends.over c.in_err-made.was)))

pub win_everything-requires : goal.win_everything-requires
win_everything-requires t c =
    let begun =
    begun_cut c.requires.called c.set_words-s.ensures c.is_empty.ensures c.if-is_empty.false c.get_highest_prio-p.ensures
    (c.attract_highest.ensures c.args.priorities.now) in
    let called = (begun_called begun c.next_set-up.ensures).called in
    let none = level_empty called begun.ready.size c.is_empty-2.ensures c.if-is_empty-2.true in
    let ends = empty_ends called none c.count_call-then-is_empty-2.ensures in
    came_sorted
    (begun_made begun c.next_set-up.ensures (counted_more c.count_call.ensures c.in_ok-used.was)
    (ends.done _ c.in_ok-made.was))

pub returns-then-is_empty-2 : goal.returns-then-is_empty-2
returns-then-is_empty-2 t c =
    let begun =
    begun_cut c.requires.called c.set_words-s.ensures c.is_empty.ensures c.if-is_empty.false c.get_highest_prio-p.ensures
    (c.attract_highest.ensures c.args.priorities.now) in
    let called = (begun_called begun c.next_set-up.ensures).called in
    let none = level_empty called begun.ready.size c.is_empty-2.ensures c.if-is_empty-2.true in
    let ends = empty_ends called none c.count_call-then-is_empty-2.ensures in
    let came =
    begun_made begun c.next_set-up.ensures (counted_more c.count_call.ensures c.in_ok-used.was)
    (ends.done _ c.in_ok-made.was) in
    ends_done (came_all came c.next_set-up.ensures none (c.win_everything.ensures c.args.priorities.now (came_ready came)))

pub zielonka_rec-requires : goal.zielonka_rec-requires
zielonka_rec-requires t c =
    let begun =
    begun_cut c.requires.called c.set_words-s.ensures c.is_empty.ensures c.if-is_empty.false c.get_highest_prio-p.ensures
    (c.attract_highest.ensures c.args.priorities.now) in (
      omega (arith, begun_less begun c.next_set-up.ensures, c.decreases),
      rw c.one_less-q.ensures (begun_called begun c.next_set-up.ensures),
    )

pub returns-in_err-made-2 : goal.returns-in_err-made-2
returns-in_err-made-2 t c =
    let begun =
    begun_cut c.requires.called c.set_words-s.ensures c.is_empty.ensures c.if-is_empty.false c.get_highest_prio-p.ensures
    (c.attract_highest.ensures c.args.priorities.now) in
    let over = c.zielonka_rec.ensures.over c.in_err-made-2.was in
    rw c.from_residual-in_err-made-2.ensures
    (ends_over
    (begun_beyond begun c.next_set-up.ensures c.args.calls c.args.cap (counted_more c.count_call.ensures c.in_ok-used.was)
    over))

pub lost_nothing-requires : goal.lost_nothing-requires
lost_nothing-requires t c =
    let begun =
    begun_cut c.requires.called c.set_words-s.ensures c.is_empty.ensures c.if-is_empty.false c.get_highest_prio-p.ensures
    (c.attract_highest.ensures c.args.priorities.now) in
    let done = c.zielonka_rec.ensures.done _ c.in_ok-made-2.was in
    came_levels (begun_made begun c.next_set-up.ensures (counted_more c.count_call.ensures c.in_ok-used.was) done)

pub win_everything-requires-then-lost_nothing : goal.win_everything-requires-then-lost_nothing
win_everything-requires-then-lost_nothing t c =
    let begun =
    begun_cut c.requires.called c.set_words-s.ensures c.is_empty.ensures c.if-is_empty.false c.get_highest_prio-p.ensures
    (c.attract_highest.ensures c.args.priorities.now) in
    let done = c.zielonka_rec.ensures.done _ c.in_ok-made-2.was in
    let came = begun_made begun c.next_set-up.ensures (counted_more c.count_call.ensures c.in_ok-used.was) done in
    told_sorted (came_told came c.lost_nothing.ensures)

pub returns-then-lost_nothing : goal.returns-then-lost_nothing
returns-then-lost_nothing t c =
    let begun =
    begun_cut c.requires.called c.set_words-s.ensures c.is_empty.ensures c.if-is_empty.false c.get_highest_prio-p.ensures
    (c.attract_highest.ensures c.args.priorities.now) in
    let done = c.zielonka_rec.ensures.done _ c.in_ok-made-2.was in
    let came = begun_made begun c.next_set-up.ensures (counted_more c.count_call.ensures c.in_ok-used.was) done in
    let told = came_told came c.lost_nothing.ensures in
    ends_done
    (told_all told c.lost_nothing.ensures.none c.if-lost_nothing.true
    (c.win_everything-then-lost_nothing.ensures c.args.priorities.now (told_ready told)))

pub attract_lost-requires : goal.attract_lost-requires
attract_lost-requires t c =
    let begun =
    begun_cut c.requires.called c.set_words-s.ensures c.is_empty.ensures c.if-is_empty.false c.get_highest_prio-p.ensures
    (c.attract_highest.ensures c.args.priorities.now) in
    let done = c.zielonka_rec.ensures.done _ c.in_ok-made-2.was in
    let came = begun_made begun c.next_set-up.ensures (counted_more c.count_call.ensures c.in_ok-used.was) done in
    told_cuttable (came_told came c.lost_nothing.ensures)

pub returns-then-is_empty-3 : goal.returns-then-is_empty-3
returns-then-is_empty-3 t c =
    let begun =
    begun_cut c.requires.called c.set_words-s.ensures c.is_empty.ensures c.if-is_empty.false c.get_highest_prio-p.ensures
    (c.attract_highest.ensures c.args.priorities.now) in
    let done = c.zielonka_rec.ensures.done _ c.in_ok-made-2.was in
    let came = begun_made begun c.next_set-up.ensures (counted_more c.count_call.ensures c.in_ok-used.was) done in
    let lost =
    told_lost (came_told came c.lost_nothing.ensures) c.lost_nothing.ensures.none c.if-lost_nothing.false
    (c.attract_lost.ensures c.args.priorities.now c.requires.called.accepted) in
    let called = (lost_called lost c.next_set-up.ensures).called in
    let none = level_empty called begun.ready.size c.is_empty-3.ensures c.if-is_empty-3.true in
    lost_ends lost c.next_set-up.ensures (empty_ends called none c.count_call-then-is_empty-3.ensures)

pub zielonka_rec-requires-2 : goal.zielonka_rec-requires-2
zielonka_rec-requires-2 t c =
    let begun =
    begun_cut c.requires.called c.set_words-s.ensures c.is_empty.ensures c.if-is_empty.false c.get_highest_prio-p.ensures
    (c.attract_highest.ensures c.args.priorities.now) in
    let done = c.zielonka_rec.ensures.done _ c.in_ok-made-2.was in
    let came = begun_made begun c.next_set-up.ensures (counted_more c.count_call.ensures c.in_ok-used.was) done in
    let lost =
    told_lost (came_told came c.lost_nothing.ensures) c.lost_nothing.ensures.none c.if-lost_nothing.false
    (c.attract_lost.ensures c.args.priorities.now c.requires.called.accepted) in
    (omega (arith, lost_less lost c.next_set-up.ensures, c.decreases), lost_called lost c.next_set-up.ensures)

pub returns : goal.returns
returns t c =
    let begun =
    begun_cut c.requires.called c.set_words-s.ensures c.is_empty.ensures c.if-is_empty.false c.get_highest_prio-p.ensures
    (c.attract_highest.ensures c.args.priorities.now) in
    let done = c.zielonka_rec.ensures.done _ c.in_ok-made-2.was in
    let came = begun_made begun c.next_set-up.ensures (counted_more c.count_call.ensures c.in_ok-used.was) done in
    let lost =
    told_lost (came_told came c.lost_nothing.ensures) c.lost_nothing.ensures.none c.if-lost_nothing.false
    (c.attract_lost.ensures c.args.priorities.now c.requires.called.accepted) in
    lost_ends lost c.next_set-up.ensures c.zielonka_rec-2.ensures
