-- `write_lists` meets its contract: each call asks for what the calls before it left.
use mathlib.Core.Path.{refl}
use Prim.Native.Nat.{◌≤◌, ◌<◌}
use lib.ListN.{length}
use native.Mathlib.Omega.{arith}
use Rattle.show_loop.specs.Writing.{path_followable, last_place, round_roundable, cycle_followable, wrote}
use Rattle.show_loop.proofs.lists.write_lists.Goals.{After-follow-on}
use Rattle.show_loop.proofs.lists.write_lists.Goals as goal

-- the path has a last vertex
last : (c : After-follow-on) → (0 < c.follow-on.result) × (c.follow-on.result ≤ length c.args.path.now)
last c = last_place _ _ _ _ _ _ _ _ _ c.requires _ _ (rw (c.labels-labels.ensures, c.rows.ensures) at c.follow-on.ensures)

pub follow-on-requires : goal.follow-on-requires
follow-on-requires c = rw (c.labels-labels.ensures, c.rows.ensures) (path_followable _ _ _ _ _ _ _ _ _ c.requires)

pub overflow_sub-u : goal.overflow_sub-u
overflow_sub-u c = omega (arith, last (goal.at.overflow_sub-u c).After-follow-on)

pub offset_bounds-path-on : goal.offset_bounds-path-on
offset_bounds-path-on c = omega (arith, last (goal.at.offset_bounds-path-on c).After-follow-on)

pub bounds-path-on : goal.bounds-path-on
bounds-path-on c = omega (arith, last (goal.at.bounds-path-on c).After-follow-on)

pub spread_round-requires : goal.spread_round-requires
spread_round-requires c =
    round_roundable _ _ _ _ _ _ _ _ _ c.requires _ _ (rw (c.labels-labels.ensures, c.rows.ensures) at c.follow-on.ensures) _ refl

pub follow-round-requires : goal.follow-round-requires
follow-round-requires c =
    rw (c.labels-labels.ensures, c.rows.ensures)
    (cycle_followable _ _ _ _ _ _ _ _ _ c.requires _ _ (rw (c.labels-labels.ensures, c.rows.ensures) at c.follow-on.ensures) _ refl _
    c.spread_round.ensures)

pub returns : goal.returns
returns c = (
  c.spread_round.ensures.within.long,
  wrote _ _ _ _ _ _ _ _ _ c.requires _ _ (rw (c.labels-labels.ensures, c.rows.ensures) at c.follow-on.ensures) _ refl _
      c.spread_round.ensures _ _ (rw (c.labels-labels.ensures, c.rows.ensures) at c.follow-round.ensures),
)
