-- `run` meets its contract: each call asks for what the calls before it left.
use mathlib.Core.Path.{◌≡◌, ◌∙◌}
use Prim.Native.Nat.{◌<◌, ◌^◌}
use native.Mathlib.Omega.{arith}
use lib.ListN.{length}
use Rattle.area.specs.Area.{free}
use Rattle.sets.specs.Laws.{cleared_all}
use Rattle.attractor_run.specs.Runs.{prepare_ready, attract_ready, two_long, hand_ready, ran}
use Rattle.attractor_run.proofs.whole.run.Lts as lts
use Rattle.attractor_run.proofs.whole.run.Reads as reads
use Rattle.attractor_run.proofs.whole.run.Tie as tie
use Rattle.attractor_run.proofs.whole.run.Goals as goal

abbrev AtAfterAttract : Type 0
AtAfterAttract = lts.After-attract tie.the-claims reads.Pre reads.Post

abbrev AtAfterClear : Type 0
AtAfterClear = lts.After-clear tie.the-claims reads.Pre reads.Post

abbrev AtAfterHandOut : Type 0
AtAfterHandOut = lts.After-hand_out tie.the-claims reads.Pre reads.Post

abbrev AtAfterNextSet : Type 0
AtAfterNextSet = lts.After-next_set tie.the-claims reads.Pre reads.Post

abbrev AtAfterPrepare : Type 0
AtAfterPrepare = lts.After-prepare tie.the-claims reads.Pre reads.Post

abbrev AtStart : Type 0
AtStart = lts.Start tie.the-claims reads.Pre reads.Post

-- the calls in order, where the base and what stands behind it are known and where the function begins
abbrev placed : AtAfterPrepare → AtAfterNextSet
placed c = c.before.before

abbrev at1 : AtAfterNextSet → AtStart
at1 c = c.before.before.before.before.before.before.before.before.before.before.before

abbrev readied : AtAfterAttract → AtAfterPrepare
readied c = c.before.before.before.before

abbrev drawn : AtAfterHandOut → AtAfterAttract
drawn c = c.before.before.before.before.before.before

abbrev given_out : AtAfterClear → AtAfterHandOut
given_out c = c.before.before.before.before.before.before.before.before

-- the work area keeps its length
long : (c : AtAfterAttract) → length c.attract-looks.new.work ≡ length (at1 (placed (readied c))).args.work.now
long d =
    let p = readied d in
    let g = at1 (placed p) in
    let a = g.args in
    two_long a.owners.now a.offsets.now a.targets.now a.alpha a.within.now a.target.now
    a.res.now a.strategy.now a.distances.now a.work.now g.requires (placed p).before.free-base.ensures
    (placed p).next_set-set.ensures
    p.prepare.new.work p.prepare.ensures d.attract-looks.new.work d.attract-looks.result
    d.attract-looks.ensures

pub free-base-requires : goal.free-base-requires
free-base-requires c =
    let g = c.before.before.before.before.before.before.before.before.before.before in
    let small : free (length g.args.owners.now) (length g.args.targets.now) < 2 ^ 64 = omega (arith, g.requires.room, g.well_formed) in
    (g.requires.within_size, small)

pub prepare-requires : goal.prepare-requires
prepare-requires c =
    let b = c.before.before in
    let g = at1 b in
    let a = g.args in
    prepare_ready a.owners.now a.offsets.now a.targets.now a.alpha a.within.now a.target.now
    a.res.now a.strategy.now a.distances.now a.work.now g.requires b.free-base.ensures b.next_set-set.ensures

pub attract-looks-requires : goal.attract-looks-requires
attract-looks-requires c =
    let p = c.before.before.before.before in
    let g = at1 (placed p) in
    let a = g.args in
    attract_ready a.owners.now a.offsets.now a.targets.now a.alpha a.within.now a.target.now
    a.res.now a.strategy.now a.distances.now a.work.now g.requires (placed p).before.free-base.ensures
    (placed p).next_set-set.ensures
    p.prepare.new.work p.prepare.ensures

pub hand_out-requires : goal.hand_out-requires
hand_out-requires c =
    let d = c.before.before.before.before.before.before in
    let p = readied d in
    let g = at1 (placed p) in
    let a = g.args in
    hand_ready a.owners.now a.offsets.now a.targets.now a.alpha a.within.now a.target.now
    a.res.now a.strategy.now a.distances.now a.work.now g.requires (placed p).before.free-base.ensures
    (placed p).next_set-set.ensures
    p.prepare.new.work p.prepare.ensures d.attract-looks.new.work d.attract-looks.result
    d.attract-looks.ensures

pub shape_of-work : goal.shape_of-work
shape_of-work c = c.clear.ensures.long ∙ long (drawn (given_out c.before.before.before))

pub returns : goal.returns
returns c =
    let e = c.before.before.before in
    let h = given_out e in
    let d = drawn h in
    let p = readied d in
    let g = at1 (placed p) in
    let a = g.args in (
      cleared_all a.work.now _ (long d) e.clear.ensures,
      ran a.owners.now a.offsets.now a.targets.now a.alpha a.within.now a.target.now a.res.now
          a.strategy.now a.distances.now a.work.now g.requires (placed p).before.free-base.ensures
          (placed p).next_set-set.ensures
          p.prepare.new.work p.prepare.ensures d.attract-looks.new.work d.attract-looks.result
          d.attract-looks.ensures h.hand_out.new.res h.hand_out.new.strategy
          h.hand_out.new.distances h.hand_out.ensures,
    )
