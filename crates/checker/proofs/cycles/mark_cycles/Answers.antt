-- `mark_cycles` meets its contract: each stage leaves what the next one needs.
use mathlib.Core.Path.{◌≡◌}
use Prim.Native.Nat.{◌+◌}
use native.Mathlib.Omega.{arith}
use lib.ListN.{length}
use Rattle.search_rows.specs.Rows.{behind}
use Rattle.search_links.specs.Area.{ClearedUpTo, cleared_as}
use Rattle.subgame.specs.Parity.{sweepable_as, swept_as}
use Rattle.checker.specs.Cycles.{build_ready, evens_ready, odds_ready, cycles_marked}
use Rattle.checker.proofs.cycles.mark_cycles.Goals.{After-next_row-odd, After-clear}
use Rattle.checker.proofs.cycles.mark_cycles.Goals as goal

-- the second row begins behind the first, and both are cleared
odd_at : (c : After-next_row-odd) →
    c.next_row-odd.result ≡ behind (length c.args.priorities.now) (length c.args.targets.now) + length c.args.priorities.now
odd_at c = omega (arith, c.behind-rows.ensures, c.next_row-odd.ensures)

bare :
    (c : After-clear) →
    let n = length c.args.priorities.now in
    let b = behind n (length c.args.targets.now) in
    ClearedUpTo b (b + n + n) c.args.work.now c.clear.new.work
bare c =
    cleared_as c.behind-rows.ensures (omega (arith, c.behind-rows.ensures, c.next_row-odd.ensures, c.next_row.ensures)) c.clear.ensures

pub build-requires : goal.build-requires
build-requires c = build_ready c.requires.0 (bare (goal.at.build-requires c).After-clear)

pub mark_parity-requires : goal.mark_parity-requires
mark_parity-requires c = (
  sweepable_as c.behind-rows.ensures
      (evens_ready c.requires.0 (bare (goal.at.mark_parity-requires c).After-clear) c.build.ensures),
  c.requires.1,
)

pub mark_parity-requires-2 : goal.mark_parity-requires-2
mark_parity-requires-2 c = (
  sweepable_as (odd_at (goal.at.mark_parity-requires-2 c).After-next_row-odd)
      (odds_ready c.requires.0 (bare (goal.at.mark_parity-requires-2 c).After-clear) c.build.ensures
      (swept_as c.behind-rows.ensures c.mark_parity.ensures)),
  c.requires.1,
)

pub returns : goal.returns
returns c =
    cycles_marked c.requires.0 (bare (goal.at.returns c).After-clear) c.build.ensures
    (swept_as c.behind-rows.ensures c.mark_parity.ensures)
    (swept_as (odd_at (goal.at.returns c).After-next_row-odd) c.mark_parity-2.ensures)
