-- `begin` meets its contract: nothing is won, the sets of the priorities are made, and the first level begins.
use mathlib.Core.Logic.{inl, inr, ⊎_elim}
use Prim.Native.Nat.{◌+◌, ◌*◌, ◌<◌, ◌^◌}
use lib.ListN.{length}
use Rattle.area.specs.Area.{free}
use native.Mathlib.Omega.{arith}
use Rattle.sets.specs.After.{Cleared}
use Rattle.promotion_begin.specs.FirstLevel.{begin_sortable, begin_descends, begun}
use Rattle.promotion_begin.proofs.start.begin.Lts as lts
use Rattle.promotion_begin.proofs.start.begin.Reads as reads
use Rattle.promotion_begin.proofs.start.begin.Tie as tie
use Rattle.promotion_begin.proofs.start.begin.Goals as goal

abbrev AtAfterClear : Type 0
AtAfterClear = lts.After-clear tie.the-claims reads.Pre reads.Post

abbrev AtAfterFree : Type 0
AtAfterFree = lts.After-free tie.the-claims reads.Pre reads.Post

abbrev AtAfterMake : Type 0
AtAfterMake = lts.After-make tie.the-claims reads.Pre reads.Post

abbrev AtStart : Type 0
AtStart = lts.Start tie.the-claims reads.Pre reads.Post

-- where the function begins, and where the sets of what is won were cleared
abbrev first : AtAfterClear → AtStart
first c = c.before.before.before.before.before.before

-- the place of the sets of the priorities
abbrev placed : AtAfterClear → AtAfterFree
placed c = c.before.before.before

-- nobody has won anything
won_cleared :
    (c : AtAfterClear) →
    let a = (first c).args in
    Cleared (a.held + a.s) (2 * a.s) a.work.now c.clear.new.words
won_cleared c =
    let gone = c.clear.ensures in
    let at = c.won_at-won.ensures in
    record {
      long = gone.long;
      zeros = λ i low high. gone.zeros i (omega arith) (omega arith);
      rest = λ i out. gone.rest i (⊎_elim (λ l. inl (omega arith)) (λ l. inr (omega arith)) out);
    }

abbrev cleared : AtAfterMake → AtAfterClear
cleared c = c.before.before.before.before

pub free-first-requires : goal.free-first-requires
free-first-requires c =
    let g = c.before.before.before in
    let small : free (length g.args.priorities.now) g.args.m < 2 ^ 64 = omega (arith, g.requires.room, g.well_formed) in
    (g.requires.size, small)

pub make-requires : goal.make-requires
make-requires c = let d = c.before.before.before.before in begin_sortable (first d).requires (placed d).free-first.ensures (won_cleared d)

pub descend-requires : goal.descend-requires
descend-requires c =
    let o = c.before.before.before.before in
    let d = cleared o in
    begin_descends (first d).requires (placed d).free-first.ensures (won_cleared d) o.make.ensures

pub returns : goal.returns
returns c =
    let e = c.before.before.before in
    let o = e.before.before.before.before in
    let d = cleared o in
    begun (first d).requires (placed d).free-first.ensures (won_cleared d) o.make.ensures e.descend.ensures
