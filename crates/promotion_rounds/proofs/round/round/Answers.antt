-- `round` meets its contract: each call finds what it asks for, and the three ways out are the three kinds of round.
use mathlib.Core.Path.{◌≡◌, refl, sym, ◌∙◌, ap}
use mathlib.Core.List.{List}
use Prim.Native.Nat.{ℕ, ◌+◌, ◌-◌, ◌*◌, ◌≤◌, ◌<◌, ◌^◌}
use native.Mathlib.Omega.{arith}
use lib.ListN.{length, get_or}
use Rattle.area.specs.Area.{entries}
use Rattle.promotion_levels.specs.Layout.{tops_at, levels_at, end_at, Ready}
use Rattle.promotion_region.specs.Query.{Queried}
use Rattle.promotion_moves.specs.Filling.{FilledAll}
use Rattle.promotion_moves.specs.Dominion.{Dominated}
use Rattle.promotion_rounds.specs.RoundMade.{RoundBegins, RoundEscapes, level_fits, level_few, begins_by, round_places, round_depth, round_query}
use Rattle.promotion_rounds.specs.RoundMade.{round_openable, round_descend, opened_same, round_opens, round_fill}
use Rattle.promotion_rounds.specs.RoundMade.{filled_long, round_escapable, top_fits, round_promotable, promoted_same}
use Rattle.promotion_rounds.specs.RoundMade.{round_promotes, round_dominion, round_first, solved_same, round_solves}
use Rattle.promotion_rounds.specs.RoundMade.{solved_ready, first_room, left_few, left_counted}
use Rattle.promotion_rounds.proofs.round.round.Lts as lts
use Rattle.promotion_rounds.proofs.round.round.Reads as reads
use Rattle.promotion_rounds.proofs.round.round.Tie as tie
use Rattle.promotion_rounds.proofs.round.round.Goals as goal

abbrev AtAfterAssignMissingStrategies : Type 0
AtAfterAssignMissingStrategies = lts.After-assign_missing_strategies tie.the-claims reads.Pre reads.Post

abbrev AtAfterBestEscape : Type 0
AtAfterBestEscape = lts.After-best_escape tie.the-claims reads.Pre reads.Post

abbrev AtAfterDescend2 : Type 0
AtAfterDescend2 = lts.After-descend2 tie.the-claims reads.Pre reads.Post

abbrev AtAfterHeldAt : Type 0
AtAfterHeldAt = lts.After-held_at tie.the-claims reads.Pre reads.Post

abbrev AtAfterIndex : Type 0
AtAfterIndex = lts.After-index tie.the-claims reads.Pre reads.Post

abbrev AtAfterIsOpen : Type 0
AtAfterIsOpen = lts.After-is_open tie.the-claims reads.Pre reads.Post

abbrev AtAfterLevelAt : Type 0
AtAfterLevelAt = lts.After-level_at tie.the-claims reads.Pre reads.Post

abbrev AtAfterLevelsAt : Type 0
AtAfterLevelsAt = lts.After-levels_at tie.the-claims reads.Pre reads.Post

abbrev AtAfterMarkAt : Type 0
AtAfterMarkAt = lts.After-mark_at tie.the-claims reads.Pre reads.Post

abbrev AtAfterQuery : Type 0
AtAfterQuery = lts.After-query tie.the-claims reads.Pre reads.Post

abbrev AtAfterSolveDominion : Type 0
AtAfterSolveDominion = lts.After-solve_dominion tie.the-claims reads.Pre reads.Post

abbrev AtElse2 : Type 0
AtElse2 = lts.Else2 tie.the-claims reads.Pre reads.Post

abbrev AtStart : Type 0
AtStart = lts.Start tie.the-claims reads.Pre reads.Post

abbrev AtThen2 : Type 0
AtThen2 = lts.Then2 tie.the-claims reads.Pre reads.Post

-- where the function begins, from where R, the levels and all places are known
abbrev first : AtAfterHeldAt → AtStart
first h = h.before.before.before.before.before.before

abbrev start_of : AtAfterLevelsAt → AtStart
start_of l = first l.before.before

-- where the mark's place is known
abbrev mark_of : AtAfterLevelAt → AtAfterMarkAt
mark_of b = b.before.before

abbrev levels_of : AtAfterLevelAt → AtAfterLevelsAt
levels_of b = (mark_of b).before

abbrev base_of : AtAfterIndex → AtAfterLevelAt
base_of i = i.before.before.before.before.before

abbrev levelled : AtAfterIndex → AtAfterLevelsAt
levelled i = levels_of (base_of i)

abbrev begun : AtAfterIndex → AtStart
begun i = start_of (levelled i)

abbrev placed : AtAfterQuery → AtAfterIndex
placed q = q.before.before.before

-- the number of the current level
abbrev current : AtAfterLevelsAt → ℕ
current l = get_or (start_of l).args.work.now l.depth_at-depth.result 0

-- the place of R's heads
abbrev heads : AtAfterIndex → ℕ
heads i = i.level_at-heads.result

-- the current level, the two after it and all before have room
stands :
    (l : AtAfterLevelsAt) (j : ℕ) → j ≤ current l + 2 →
    let a = (start_of l).args in
    l.levels_at-levels.result + j * a.s + a.s ≤ length a.work.now
stands l j low =
    level_fits (start_of l).requires l.held_at-held.ensures l.depth_at-depth.ensures l.levels_at-levels.ensures j low

few : (l : AtAfterLevelsAt) → current l + 2 ≤ l.levels_at-levels.result
few l =
    level_few (start_of l).requires l.held_at-held.ensures l.depth_at-depth.ensures l.levels_at-levels.ensures

-- p's player, R, the levels and the current level's number are as they should be, with what else a round begins with
at :
    (i : AtAfterIndex) →
    let l = levelled i in
    let a = (begun i).args in
    RoundBegins a.owners.now a.priorities.now a.offsets.now a.targets.now a.s a.state.current.0
    i.index-alpha.result l.held_at-held.result l.depth_at-depth.result l.levels_at-levels.result (current l)
    (base_of i).level_at-base.result i.level_at-below.result (heads i) a.work.now
at i =
    let l = levelled i in
    begins_by (begun i).requires l.held_at-held.ensures l.depth_at-depth.ensures l.levels_at-levels.ensures
    i.index-alpha.ensures.1 (i.index-alpha.ensures.0 ∙ i.from_priority.ensures) (base_of i).level_at-base.ensures
    i.level_at-below.ensures i.level_at-heads.ensures

-- the query, where it is known whether R is open
abbrev asked : AtAfterIsOpen → AtAfterQuery
asked o = o.before.before.before

-- the same where the entries are filled, where the escape is known, and where the first level has begun again
abbrev told : AtAfterAssignMissingStrategies → AtAfterIsOpen
told f = f.before.before.before.before

abbrev filled : AtAfterBestEscape → AtAfterAssignMissingStrategies
filled b = b.before.before.before

abbrev solved : AtAfterDescend2 → AtAfterSolveDominion
solved t = t.before.before.before.before

-- where there is no region to promote to
abbrev ended : AtAfterSolveDominion → AtElse2
ended e = e.before.before.before.before

-- from where the query was made, and from where the escape is known: where the function begins
abbrev query_start : AtAfterQuery → AtStart
query_start q = begun (placed q)

abbrev query_of : AtAfterBestEscape → AtAfterQuery
query_of b = asked (told (filled b))

abbrev levels_at_escape : AtAfterBestEscape → AtAfterLevelsAt
levels_at_escape b = levelled (placed (query_of b))

abbrev mark_at_escape : AtAfterBestEscape → AtAfterMarkAt
mark_at_escape b = mark_of (base_of (placed (query_of b)))

abbrev escape_start : AtAfterBestEscape → AtStart
escape_start b = query_start (query_of b)

-- the same from where the first level has begun again
abbrev escaped : AtAfterDescend2 → AtAfterBestEscape
escaped t = (ended (solved t)).before

abbrev origin : AtAfterDescend2 → AtStart
origin t = escape_start (escaped t)

-- the work area once R is drawn in, and once its entries are given
abbrev drawn : AtAfterQuery → List ℕ
drawn q = q.query.new.work

abbrev given : AtAfterAssignMissingStrategies → List ℕ
given f = f.assign_missing_strategies.new.work

-- what the query did
queried :
    (q : AtAfterQuery) →
    let a = (query_start q).args in
    Queried a.owners.now a.priorities.now a.offsets.now a.targets.now a.s a.state.current.0 a.work.now
    (drawn q)
queried q =
    let g = query_start q in
    q.query.ensures g.args.priorities.now g.requires.accepted g.requires.shows.ready g.requires.shows.newcomers

pub held_at-held-requires : goal.held_at-held-requires
held_at-held-requires c =
    let g = c.before in round_places g.requires.accepted g.requires.made g.requires.shows

pub depth_at-depth-requires : goal.depth_at-depth-requires
depth_at-depth-requires c =
    let g = first c.before in
    let low = round_depth g.requires.accepted g.requires.made g.requires.shows c.held_at-held.ensures refl in
    let small : c.held_at-held.result + 3 * g.args.s < 2 ^ 64 = omega (arith, low) in
    small

pub levels_at-levels-requires : goal.levels_at-levels-requires
levels_at-levels-requires c =
    let g = first c.before.before in
    round_depth g.requires.accepted g.requires.made g.requires.shows c.held_at-held.ensures c.depth_at-depth.ensures

pub mark_at-mark-requires : goal.mark_at-mark-requires
mark_at-mark-requires c = omega (arith, c.levels_at-levels.ensures)

pub level_at-base-requires : goal.level_at-base-requires
level_at-base-requires c =
    let l = c.before.before.before in
    let g = start_of l in
    let small : l.levels_at-levels.result + current l * g.args.s < 2 ^ 64 =
    omega (arith, stands l (current l) (omega arith), g.well_formed) in
    small

pub overflow_add-k : goal.overflow_add-k
overflow_add-k c = let l = levels_of c.before in omega (arith, few l, stands l 0 (omega arith), (start_of l).well_formed)

pub level_at-below-requires : goal.level_at-below-requires
level_at-below-requires c =
    let l = levels_of c.before in
    let g = start_of l in
    let small : l.levels_at-levels.result + (current l + 1) * g.args.s < 2 ^ 64 =
    omega (arith, stands l (current l + 1) (omega arith), g.well_formed) in
    small

pub overflow_add-k-2 : goal.overflow_add-k-2
overflow_add-k-2 c = let l = levels_of c.before.before in omega (arith, few l, stands l 0 (omega arith), (start_of l).well_formed)

pub level_at-heads-requires : goal.level_at-heads-requires
level_at-heads-requires c =
    let l = levels_of c.before.before in
    let g = start_of l in
    let small : l.levels_at-levels.result + (current l + 2) * g.args.s < 2 ^ 64 =
    omega (arith, stands l (current l + 2) (omega arith), g.well_formed) in
    small

pub query-requires : goal.query-requires
query-requires c =
    let l = c.before.before.before in
    let g = begun l in
    round_query g.requires.accepted g.requires.made g.requires.shows (at l) (mark_of (base_of l)).mark_at-mark.ensures

pub is_open-requires : goal.is_open-requires
is_open-requires c =
    let q = c.before.before.before in
    let g = query_start q in
    round_openable g.requires.accepted g.requires.made g.requires.shows (at (placed q)) (queried q)

pub overflow_add-k-then-is_open : goal.overflow_add-k-then-is_open
overflow_add-k-then-is_open c =
    let l = levelled (placed (asked c.before.before.before)) in
    omega (arith, few l, stands l 0 (omega arith), (start_of l).well_formed)

pub descend-after-requires : goal.descend-after-requires
descend-after-requires c =
    let i = c.before in
    let q = asked i.before.before.before in
    let g = query_start q in
    round_descend g.requires.accepted g.requires.made g.requires.shows (at (placed q)) (queried q) i.is_open.ensures
    i.if-is_open.true c.one_less.ensures

pub returns-then-is_open : goal.returns-then-is_open
returns-then-is_open c =
    let d = c.before in
    let i = d in
    let q = asked i.before.before.before.before.before.before in
    let g = query_start q in
    let same =
    opened_same g.requires.accepted g.requires.made g.requires.shows (at (placed q)) (queried q) i.is_open.ensures
    i.if-is_open.true d.descend-after.ensures in
    record {
      long = same.0;
      counted = refl;
      shown =
          λ k sh.
          round_opens g.requires.accepted k sh (at (placed q)) (queried q) i.is_open.ensures i.if-is_open.true
          d.descend-after.ensures;
      rest = same.1;
    }

pub assign_missing_strategies-requires : goal.assign_missing_strategies-requires
assign_missing_strategies-requires c =
    let q = asked c.before.before.before.before in
    let g = query_start q in
    rw c.entries-entry.ensures (round_fill g.requires.accepted g.requires.made g.requires.shows (at (placed q)) (queried q))

-- the missing entries are given
filling :
    (f : AtAfterAssignMissingStrategies) →
    let q = asked (told f) in
    let l = placed q in
    let a = (begun l).args in
    FilledAll a.owners.now a.offsets.now a.targets.now l.index-alpha.result
    (heads l) (levelled l).before.before.held_at-held.result
    (entries (length a.owners.now) (length a.targets.now))
    (drawn q) (given f)
filling f = rw f.entries-entry.ensures at f.assign_missing_strategies.ensures

pub best_escape-j-requires : goal.best_escape-j-requires
best_escape-j-requires c =
    let f = c.before.before.before in
    let q = asked (told f) in
    let g = query_start q in
    round_escapable g.requires.accepted g.requires.made g.requires.shows (at (placed q)) (queried q) (filling f)

-- the entries are filled: the work area is as long as it was
long2 :
    (f : AtAfterAssignMissingStrategies) →
    length (given f) ≡ length (query_start (asked (told f))).args.work.now
long2 f =
    let q = asked (told f) in
    let g = query_start q in
    filled_long g.requires.accepted g.requires.made g.requires.shows (at (placed q)) (queried q) (filling f)

-- R is not open, its entries are given, and the escape is known
escape :
    (b : AtAfterBestEscape) →
    let i = placed (query_of b) in
    let l = levelled i in
    let a = (begun i).args in
    RoundEscapes a.owners.now a.priorities.now a.offsets.now a.targets.now a.s a.state.current.0
    i.index-alpha.result l.held_at-held.result l.depth_at-depth.result l.levels_at-levels.result (current l)
    (base_of i).level_at-base.result i.level_at-below.result (heads i) a.work.now
    (drawn (query_of b)) (given (filled b)) b.best_escape-j.result
escape b =
    record {
      begins = at (placed (query_of b));
      queried = queried (query_of b);
      filled = filling (filled b);
      shut = sym (told (filled b)).is_open.ensures ∙ (filled b).before.before.before.if-is_open.false;
      found = b.best_escape-j.ensures;
    }

-- there is a region to promote to: its priority stands before the levels, and `promote` may run
fits :
    (c : AtThen2) →
    let l = levels_at_escape c.before in
    l.depth_at-depth.result + c.best_escape-j.result < l.levels_at-levels.result
fits c =
    let g = escape_start c.before in
    top_fits g.requires.accepted g.requires.made g.requires.shows (escape c.before) c.if-j-gt0.true

pub priority_at-requires : goal.priority_at-requires
priority_at-requires c =
    let l = levels_at_escape c.before.before in
    omega (arith, fits c.before, stands l 0 (omega arith), (start_of l).well_formed)

pub level_at-requires : goal.level_at-requires
level_at-requires c =
    let b = c.before.before.before.before.before in
    let l = levels_at_escape b in
    let g = start_of l in
    let j = b.best_escape-j.result - 1 in
    let small : l.levels_at-levels.result + j * g.args.s < 2 ^ 64 =
    omega (arith, stands l j (omega (arith, b.best_escape-j.ensures.top)), g.well_formed) in
    small

pub promote-requires : goal.promote-requires
promote-requires c =
    let i = c.before in
    let g = escape_start i.before.before.before.before.before in
    round_promotable g.requires.accepted g.requires.made g.requires.shows (escape i.before.before.before.before.before) i.if-j-gt0.true c.level_at.ensures
    (mark_at_escape i.before.before.before.before.before).mark_at-mark.ensures

pub returns-then-j-gt0 : goal.returns-then-j-gt0
returns-then-j-gt0 c =
    let e = c.before in
    let is = e.level_at.ensures in
    let read = e in
    let i = read in
    let g = escape_start i.before.before.before.before.before.before.before.before in
    let last = (mark_at_escape i.before.before.before.before.before.before.before.before).mark_at-mark.ensures in
    let done = e.promote.ensures (length g.args.owners.now) g.requires.shows.ready.size in
    let same =
    promoted_same g.requires.accepted g.requires.made g.requires.shows (escape i.before.before.before.before.before.before.before.before) i.if-j-gt0.true is last done in
    record {
      long = same.0;
      counted = refl;
      shown = λ k sh. round_promotes g.requires.accepted k sh (escape i.before.before.before.before.before.before.before.before) i.if-j-gt0.true is last done read.priority_at.ensures;
      rest = same.1;
    }

-- the priority of level 0 stands before the levels
first_fits : (c : AtElse2) → let l = levels_at_escape c.before in
    l.depth_at-depth.result + 1 < length (start_of l).args.work.now
first_fits c =
    let l = levels_at_escape c.before in
    omega (arith, stands l 0 (omega arith), l.levels_at-levels.ensures)

pub priority_at-requires-2 : goal.priority_at-requires-2
priority_at-requires-2 c = let l = levels_at_escape c.before.before in omega (arith, first_fits c.before, (start_of l).well_formed)

pub offset_bounds-work-levels : goal.offset_bounds-work-levels
offset_bounds-work-levels c =
    let l = levels_at_escape c.before.before.before.before.before.before.before.before.before.before.before.before in
    omega (arith, c.priority_at-2.ensures, first_fits c.before.before.before.before.before.before.before.before.before.before.before, (start_of l).well_formed)

pub solve_dominion-requires : goal.solve_dominion-requires
solve_dominion-requires c =
    let b = c.before.before.before.before.before in
    let g = escape_start b in
    round_dominion g.requires.accepted g.requires.made g.requires.shows (escape b)

-- R with what it attracts is solved
dominated :
    (e : AtAfterSolveDominion) →
    let b = (ended e).before in
    let l = levels_at_escape b in
    let a = (escape_start b).args in
    Dominated a.owners.now a.priorities.now a.offsets.now a.targets.now a.s a.state.current.0
    l.held_at-held.result l.levels_at-levels.result (given (filled b)) e.solve_dominion.new.work
dominated e =
    let g = escape_start (ended e).before in e.solve_dominion.ensures g.args.priorities.now g.requires.accepted

pub descend-after-requires-2 : goal.descend-after-requires-2
descend-after-requires-2 c =
    let e = c.before in
    let read = e in
    let i = read in
    let b = i.before.before.before.before.before.before.before.before in
    let g = escape_start b in
    let place : read.priority_at-2.result
    ≡ tops_at (length g.args.owners.now) (length g.args.targets.now) g.args.s + 0 =
    omega (arith, read.priority_at-2.ensures, (escape b).begins.depth_is) in
    round_first g.requires.accepted g.requires.made g.requires.shows (escape b) i.if-j-gt0.false (dominated e.before.before.before)
    (ap (λ (x : ℕ). get_or (given (filled b)) x 0) place)

-- what the work area is where the first level has begun again
ready4 :
    (t : AtAfterDescend2) →
    let a = (origin t).args in
    Ready (length a.owners.now) a.priorities.now a.offsets.now a.targets.now a.s
    t.descend-after-2.new.work
ready4 t =
    let g = origin t in
    solved_ready g.requires.accepted g.requires.made g.requires.shows (escape (escaped t)) (ended (solved t)).if-j-gt0.false
    (dominated (solved t)) t.descend-after-2.ensures

same4 :
    (t : AtAfterDescend2) →
    let a = (origin t).args in
    (length t.descend-after-2.new.work ≡ length a.work.now) ×
    ((i : ℕ) → end_at (length a.owners.now) (length a.targets.now) a.s ≤ i →
    get_or t.descend-after-2.new.work i 0 ≡ get_or a.work.now i 0)
same4 t =
    let g = origin t in
    solved_same g.requires.accepted g.requires.made g.requires.shows (escape (escaped t)) (ended (solved t)).if-j-gt0.false
    (dominated (solved t)) t.descend-after-2.ensures

levels4 :
    (t : AtAfterDescend2) →
    let a = (origin t).args in
    (levels_at_escape (escaped t)).levels_at-levels.result ≡ levels_at (length a.owners.now) (length a.targets.now) a.s
levels4 t = (escape (escaped t)).begins.levels_is

-- the first level has room
room4 :
    (t : AtAfterDescend2) →
    (levels_at_escape (escaped t)).levels_at-levels.result + (origin t).args.s ≤ length t.descend-after-2.new.work
room4 t = first_room (ready4 t) (levels4 t)

pub overflow_add-levels : goal.overflow_add-levels
overflow_add-levels c = let t = c.before.before.before in omega (arith, room4 t, (same4 t).0, (origin t).well_formed)

pub slice_bounds-size-end : goal.slice_bounds-size-end
slice_bounds-size-end c = room4 c.before.before.before

pub size-requires : goal.size-requires
size-requires c = let t = c.before in left_few (ready4 t.before.before.before) (levels4 t.before.before.before)

pub shape_of-work : goal.shape_of-work
shape_of-work c = (same4 c.before.before.before.before.before).0

pub returns : goal.returns
returns c =
    let t = c.before.before.before.before.before in
    record {
      long = (same4 t).0;
      counted = refl;
      shown =
          λ k sh.
          round_solves (origin t).requires.accepted k sh (escape (escaped t)) (ended (solved t)).if-j-gt0.false
          (dominated (solved t)) t.descend-after-2.ensures (left_counted (ready4 t) (levels4 t) c.size.ensures);
      rest = (same4 t).1;
    }
