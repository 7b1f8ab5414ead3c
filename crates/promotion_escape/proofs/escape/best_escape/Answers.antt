-- `best_escape` meets its contract: no opponent's vertex of R that the walk has passed leads higher than level `highest` - 1.
use Prim.Native.Nat.{ℕ}
use mathlib.Core.Path.{subst}
use lib.ListN.{length}
use Rattle.rules.specs.Counting.{Set}
use Rattle.area.specs.Walked.{passes, passed_weaker, walked_none, walked_few, walked_all, walked_next}
use Rattle.promotion_escape.specs.Escapes.{escape_walkable, level_from, levels_same, looks_ready}
use Rattle.promotion_escape.specs.Highest.{NoneFrom, HighestOf, outside_later, highest_start, highest_further, highest_done}
use Rattle.promotion_escape.proofs.escape.best_escape.Goals as goal

pub loop-highest-init : goal.loop-highest-init
loop-highest-init c = (highest_start, walked_none (escape_walkable c.requires.escapes) tt c.new-walk.ensures)

pub next-requires : goal.next-requires
next-requires c = walked_few (escape_walkable c.requires.escapes) c.loop-highest.invariant.1

pub bounds-owners-v : goal.bounds-owners-v
bounds-owners-v c =
    (walked_next (escape_walkable c.requires.escapes) c.loop-highest.invariant.1 _ c.next.ensures c.in-Some.is).small

pub best_of-highest-requires : goal.best_of-highest-requires
best_of-highest-requires c =
    let reached = walked_next (escape_walkable c.requires.escapes) c.loop-highest.invariant.1 _ c.next.ensures c.in-Some.is in
    looks_ready c.requires reached.small c.loop-highest.invariant.0.top

pub loop-highest-preserved-then-owners-v : goal.loop-highest-preserved-then-owners-v
loop-highest-preserved-then-owners-v c =
    let a = c.args in
    let walkable = escape_walkable c.requires.escapes in
    let L = level_from (length a.owners.now) a.s a.levels a.work.now in
    let best = c.best_of-highest.result in
    let here =
    subst (λ (L : ℕ → Set). HighestOf a.offsets.now a.targets.now L a.k c.in-Some.v.0 c.loop-highest.highest best)
    (levels_same (length a.owners.now) a.s a.levels a.work.now c.requires.escapes.size) c.best_of-highest.ensures in
    let passed =
    passed_weaker {Q = NoneFrom a.owners.now a.offsets.now a.targets.now a.alpha L a.k best}
    (λ u none other w m out. outside_later c.requires.nested c.loop-highest.highest best w here.up here.top (none other w m out))
    c.loop-highest.invariant.1 in (
      highest_further c.loop-highest.invariant.0
          (walked_next walkable c.loop-highest.invariant.1 _ c.next.ensures c.in-Some.is).member c.if-owners-v.true here,
      (walked_next walkable passed _ c.next.ensures c.in-Some.is).more (passes (λ other w m out. here.none w m out)),
    )

pub loop-highest-preserved : goal.loop-highest-preserved
loop-highest-preserved c =
    let reached = walked_next (escape_walkable c.requires.escapes) c.loop-highest.invariant.1 _ c.next.ensures c.in-Some.is in
    (c.loop-highest.invariant.0, reached.more (passes (λ other w m out. absurd (other c.if-owners-v.false))))

pub returns-in_default : goal.returns-in_default
returns-in_default c =
    highest_done c.requires.nested c.loop-highest.invariant.0
    (walked_all (escape_walkable c.requires.escapes) c.loop-highest.invariant.1 _ c.next.ensures c.in_default.is).inside
