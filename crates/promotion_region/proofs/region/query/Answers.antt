-- `query` meets its contract: each call finds what it asks for in what the calls before it left.
use mathlib.Core.Logic.{inr}
use native.Mathlib.Omega.{arith}
use mathlib.Core.Path.{◌≡◌, ◌∙◌}
use Rattle.rules.specs.Game.{parity, player_of}
use Rattle.promotion_region.specs.Query.{given_fits, given_place, given_low, given_long, given_queried}
use Rattle.promotion_region.proofs.region.query.Lts as lts
use Rattle.promotion_region.proofs.region.query.Reads as reads
use Rattle.promotion_region.proofs.region.query.Tie as tie
use Rattle.promotion_region.proofs.region.query.Goals as goal

abbrev AtAfterDrawRegion : Type 0
AtAfterDrawRegion = lts.After-draw_region tie.the-claims reads.Pre reads.Post

abbrev AtAfterIndex : Type 0
AtAfterIndex = lts.After-index tie.the-claims reads.Pre reads.Post

abbrev AtAfterNextSet2 : Type 0
AtAfterNextSet2 = lts.After-next_set2 tie.the-claims reads.Pre reads.Post

abbrev AtAfterSetAt : Type 0
AtAfterSetAt = lts.After-set_at tie.the-claims reads.Pre reads.Post

abbrev AtStart : Type 0
AtStart = lts.Start tie.the-claims reads.Pre reads.Post

-- where the places are known, and where the function begins, from where the player is known
abbrev placed : AtAfterIndex → AtAfterNextSet2
placed c = c.before.before

abbrev first : AtAfterIndex → AtStart
first c = (placed c).before.before.before.before.before.before

-- where the player is known from where R is drawn in, and that place from where the set of p is known
abbrev named_of : AtAfterDrawRegion → AtAfterIndex
named_of c = c.before.before

abbrev drawn_of : AtAfterSetAt → AtAfterDrawRegion
drawn_of c = c.before.before.before

-- the player's number
own_of : (c : AtAfterIndex) → player_of c.index-alpha.result ≡ parity (first c).args.p.0
own_of c = c.index-alpha.ensures.0 ∙ c.from_priority.ensures

pub next_set-below-requires : goal.next_set-below-requires
next_set-below-requires c =
    let g = c.before.before.before.before.before in omega (arith, (given_fits g.requires).0, g.well_formed)

pub next_set-heads-requires : goal.next_set-heads-requires
next_set-heads-requires c =
    let g = c.before.before.before.before.before.before in omega (arith, (given_fits g.requires).0, g.well_formed)

pub draw_region-requires : goal.draw_region-requires
draw_region-requires c =
    let named = c.before.before in
    record { p = _; asked = (first named).requires; player = own_of named; side = named.index-alpha.ensures.1 }

pub set_at-of-requires : goal.set_at-of-requires
set_at-of-requires c = given_place (first (named_of c.before.before.before)).requires

pub meet-requires : goal.meet-requires
meet-requires c =
    let drawn = drawn_of c.before.before in
    let named = named_of drawn in
    let q = (first named).requires in
    let fits = given_fits q in
    let next = (placed named).before.next_set-below.ensures in
    let last = (placed named).next_set-heads.ensures in
    let low = given_low q c.set_at-of.ensures in
    let long = given_long q (own_of named) drawn.draw_region.ensures in (
      record { into_fits = omega arith; from_fits = omega arith; apart = inr (omega arith) },
      record { into_fits = omega arith; from_fits = omega arith; apart = inr (omega arith) },
    )

pub returns : goal.returns
returns c priorities ok ready newcomers =
    let met = c.before.before.before in
    let known = met.before.before in
    let drawn = drawn_of known in
    let named = named_of drawn in
    given_queried (first named).requires priorities ok ready newcomers (placed named).before.next_set-below.ensures
    (placed named).next_set-heads.ensures (own_of named) drawn.draw_region.ensures known.set_at-of.ensures met.meet.ensures
