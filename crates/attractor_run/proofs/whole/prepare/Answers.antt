-- `prepare` meets its contract: the words copied in stay where they are while the table is built.
use Rattle.attractor_run.specs.Preparing.{build_ready, prepared}
use Rattle.attractor_run.proofs.whole.prepare.Lts as lts
use Rattle.attractor_run.proofs.whole.prepare.Reads as reads
use Rattle.attractor_run.proofs.whole.prepare.Tie as tie
use Rattle.attractor_run.proofs.whole.prepare.Goals as goal

abbrev AtAfterBuild : Type 0
AtAfterBuild = lts.After-build tie.the-claims reads.Pre reads.Post

abbrev AtAfterCopyFrom : Type 0
AtAfterCopyFrom = lts.After-copy_from tie.the-claims reads.Pre reads.Post

abbrev AtAfterCopyFrom2 : Type 0
AtAfterCopyFrom2 = lts.After-copy_from2 tie.the-claims reads.Pre reads.Post

abbrev AtAfterNextSet : Type 0
AtAfterNextSet = lts.After-next_set tie.the-claims reads.Pre reads.Post

abbrev AtStart : Type 0
AtStart = lts.Start tie.the-claims reads.Pre reads.Post

-- the calls in order, where the place behind the base is known and where the function begins
abbrev placed : AtAfterCopyFrom → AtAfterNextSet
placed c = c.before.before

abbrev at1 : AtAfterCopyFrom → AtStart
at1 c = (placed c).before.before.before.before.before.before

abbrev copied1 : AtAfterCopyFrom2 → AtAfterCopyFrom
copied1 c = c.before.before.before.before

abbrev copied2 : AtAfterBuild → AtAfterCopyFrom2
copied2 c = c.before.before.before.before

pub build-requires : goal.build-requires
build-requires c =
    let d2 = c.before.before.before.before in
    let d1 = copied1 d2 in
    let g = at1 d1 in
    let a = g.args in
    rw (placed d1).next_set-set.ensures
    (build_ready a.n a.offsets.now a.targets.now a.within.now a.target.now a.work.now a.base g.requires
    d1.copy_from.new.set d2.copy_from-2.new.set d1.copy_from.ensures d2.copy_from-2.ensures)

pub returns : goal.returns
returns c =
    let d3 = c.before.before.before in
    let d2 = copied2 d3 in
    let d1 = copied1 d2 in
    let g = at1 d1 in
    let a = g.args in
    prepared a.n a.offsets.now a.targets.now a.within.now a.target.now a.work.now a.base g.requires
    d1.copy_from.new.set d2.copy_from-2.new.set d1.copy_from.ensures d2.copy_from-2.ensures
    d3.build.new.table (rw (placed d1).next_set-set.ensures at d3.build.ensures)
