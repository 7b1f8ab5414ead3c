-- `draw_region` meets its contract: on both ways each call finds what it asks for in what the calls before it left.
use mathlib.Core.Logic.{inl, inr}
use native.Mathlib.Omega.{arith}
use mathlib.Core.Path.{◌∙◌}
use Rattle.promotion_region.specs.Query.{given_fits, given_long}
use Rattle.promotion_region.specs.Drawn.{given_whole_attract, given_whole, given_attract, given_newcomers}
use borrow.Author.Rules.{rules}
use Rattle.promotion_region.proofs.region.draw_region.Lts as lts
use Rattle.promotion_region.proofs.region.draw_region.Reads as reads
use Rattle.promotion_region.proofs.region.draw_region.Tie as tie
use Rattle.promotion_region.proofs.region.draw_region.Goals as goal

abbrev AtAfterAttract : Type 0
AtAfterAttract = lts.After-attract tie.the-claims reads.Pre reads.Post

abbrev AtAfterAttract2 : Type 0
AtAfterAttract2 = lts.After-attract2 tie.the-claims reads.Pre reads.Post

abbrev AtAfterDifferenceWith : Type 0
AtAfterDifferenceWith = lts.After-difference_with tie.the-claims reads.Pre reads.Post

abbrev AtAfterNextSet : Type 0
AtAfterNextSet = lts.After-next_set tie.the-claims reads.Pre reads.Post

abbrev AtAfterUnionWith : Type 0
AtAfterUnionWith = lts.After-union_with tie.the-claims reads.Pre reads.Post

abbrev AtAfterWithout : Type 0
AtAfterWithout = lts.After-without tie.the-claims reads.Pre reads.Post

abbrev AtAfterWithout2 : Type 0
AtAfterWithout2 = lts.After-without2 tie.the-claims reads.Pre reads.Post

abbrev AtElse1 : Type 0
AtElse1 = lts.Else1 tie.the-claims reads.Pre reads.Post

abbrev AtStart : Type 0
AtStart = lts.Start tie.the-claims reads.Pre reads.Post

abbrev AtThen1 : Type 0
AtThen1 = lts.Then1 tie.the-claims reads.Pre reads.Post

-- where the function begins, from where the level after is known
abbrev first : AtAfterNextSet → AtStart
first c = c.before.before.before.before.before

-- where no mark stands, from each call on the work area: the place of the call before it
abbrev unmarked_of : AtAfterAttract → AtThen1
unmarked_of c = c.before.before

abbrev all_of : AtAfterWithout → AtAfterAttract
all_of c = c.before.before.before.before

-- and where one does
abbrev marked_of : AtAfterUnionWith → AtElse1
marked_of c = c.before.before

abbrev joined_of : AtAfterAttract2 → AtAfterUnionWith
joined_of c = c.before.before.before.before

abbrev drawn_of : AtAfterDifferenceWith → AtAfterAttract2
drawn_of c = c.before.before.before.before

abbrev lost_of : AtAfterWithout2 → AtAfterDifferenceWith
lost_of c = c.before.before.before.before

-- the level after
abbrev whole_known : AtAfterAttract → AtAfterNextSet
whole_known c = (unmarked_of c).before.before

abbrev known : AtAfterUnionWith → AtAfterNextSet
known c = (marked_of c).before.before

pub next_set-below-requires : goal.next_set-below-requires
next_set-below-requires c =
    let g = c.before.before.before.before.before in omega (arith, (given_fits g.requires.asked).0, g.well_formed)

pub offset_bounds-work-mark : goal.offset_bounds-work-mark
offset_bounds-work-mark c =
    let fits = given_fits (first c.before).requires.asked in search rules

pub bounds-work-mark : goal.bounds-work-mark
bounds-work-mark c =
    let fits = given_fits (first c.before.before).requires.asked in omega arith

pub attract-requires : goal.attract-requires
attract-requires c =
    let at = c.before.before.before.before in given_whole_attract (first at).requires at.next_set-below.ensures c.if-work-mark-eq0.true

pub without-requires : goal.without-requires
without-requires c =
    let all = c.before.before.before.before in
    let at = whole_known all in
    let q = (first at).requires.asked in
    let fits = given_fits q in
    let next = at.next_set-below.ensures in
    let long = (all.attract.ensures q.priorities q.accepted).long in (
      record { into_fits = omega arith; from_fits = omega arith; apart = inr (omega arith) },
      record { into_fits = omega arith; from_fits = omega arith; apart = inr (omega arith) },
    )

pub union_with-requires : goal.union_with-requires
union_with-requires c =
    let at = c.before.before.before.before in
    let fits = given_fits (first at).requires.asked in
    let next = at.next_set-below.ensures in
    record { into_fits = omega arith; from_fits = omega arith; apart = inr (omega arith) }

pub attract-requires-else-work-mark-eq0 : goal.attract-requires-else-work-mark-eq0
attract-requires-else-work-mark-eq0 c =
    let joined = c.before.before.before.before in
    let at = known joined in
    given_attract (first at).requires at.next_set-below.ensures joined.union_with.ensures

pub difference_with-requires : goal.difference_with-requires
difference_with-requires c =
    let drawn = c.before.before.before.before in
    let joined = joined_of drawn in
    let at = known joined in
    let q = (first at).requires.asked in
    let fits = given_fits q in
    let next = at.next_set-below.ensures in
    let long = (drawn.attract-else-work-mark-eq0.ensures q.priorities q.accepted).long ∙ joined.union_with.ensures.long in
    record { into_fits = omega arith; from_fits = omega arith; apart = inr (omega arith) }

pub without-requires-else-work-mark-eq0 : goal.without-requires-else-work-mark-eq0
without-requires-else-work-mark-eq0 c =
    let lost = c.before.before.before.before in
    let drawn = drawn_of lost in
    let joined = joined_of drawn in
    let at = known joined in
    let q = (first at).requires.asked in
    let fits = given_fits q in
    let next = at.next_set-below.ensures in
    let long =
    lost.difference_with.ensures.long ∙
    (drawn.attract-else-work-mark-eq0.ensures q.priorities q.accepted).long ∙
    joined.union_with.ensures.long in (
      record { into_fits = omega arith; from_fits = omega arith; apart = inl (omega arith) },
      record { into_fits = omega arith; from_fits = omega arith; apart = inl (omega arith) },
    )

pub offset_bounds-work-mark-else-work-mark-eq0 : goal.offset_bounds-work-mark-else-work-mark-eq0
offset_bounds-work-mark-else-work-mark-eq0 c =
    let fits = given_fits c.requires.asked in search rules

pub returns-then-work-mark-eq0 : goal.returns-then-work-mark-eq0
returns-then-work-mark-eq0 c =
    let lost = c.before.before.before in
    let all = all_of lost in
    let at = whole_known all in
    given_whole (first at).requires at.next_set-below.ensures (unmarked_of all).if-work-mark-eq0.true all.attract.ensures lost.without.ensures

pub returns-else-work-mark-eq0 : goal.returns-else-work-mark-eq0
returns-else-work-mark-eq0 c =
    let made = c.before.before.before in
    let lost = lost_of made in
    let drawn = drawn_of lost in
    let joined = joined_of drawn in
    let at = known joined in
    given_newcomers (first at).requires at.next_set-below.ensures joined.union_with.ensures drawn.attract-else-work-mark-eq0.ensures
    lost.difference_with.ensures made.without-else-work-mark-eq0.ensures

pub shape_of-work-else-work-mark-eq0 : goal.shape_of-work-else-work-mark-eq0
shape_of-work-else-work-mark-eq0 c =
    let g = first (known (joined_of (drawn_of (lost_of c.before.before.before)))) in
    given_long g.requires.asked g.requires.player (returns-else-work-mark-eq0 c)
