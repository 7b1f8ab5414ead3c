-- `hand_out` meets its contract: the copied result stays while the strategy and the distances are written.
use Rattle.attractor_run.specs.Out.{enter_ready, measure_ready, handed}
use Rattle.attractor_run.proofs.whole.hand_out.Lts as lts
use Rattle.attractor_run.proofs.whole.hand_out.Reads as reads
use Rattle.attractor_run.proofs.whole.hand_out.Tie as tie
use Rattle.attractor_run.proofs.whole.hand_out.Goals as goal

abbrev AtAfterCopyFrom : Type 0
AtAfterCopyFrom = lts.After-copy_from tie.the-claims reads.Pre reads.Post

abbrev AtAfterDistances : Type 0
AtAfterDistances = lts.After-distances tie.the-claims reads.Pre reads.Post

abbrev AtAfterWriteDistances : Type 0
AtAfterWriteDistances = lts.After-write_distances tie.the-claims reads.Pre reads.Post

abbrev AtAfterWriteStrategy : Type 0
AtAfterWriteStrategy = lts.After-write_strategy tie.the-claims reads.Pre reads.Post

abbrev AtStart : Type 0
AtStart = lts.Start tie.the-claims reads.Pre reads.Post

-- the calls in order, where the places are known and where the function begins
abbrev placed : AtAfterCopyFrom → AtAfterDistances
placed c = c.before.before.before

abbrev at1 : AtAfterCopyFrom → AtStart
at1 c = (placed c).before.before.before.before.before.before.before.before

abbrev copied : AtAfterWriteStrategy → AtAfterCopyFrom
copied c = c.before.before.before.before

abbrev entered : AtAfterWriteDistances → AtAfterWriteStrategy
entered c = c.before.before.before.before

pub write_strategy-requires : goal.write_strategy-requires
write_strategy-requires c =
    let d = c.before.before.before.before in
    let g = at1 d in
    let a = g.args in
    enter_ready a.owners.now a.m a.alpha a.target.now a.work.now a.set a.res.now a.strategy.now
    a.distances.now g.requires d.copy_from.new.set d.copy_from.ensures (placed d).before.entries-entries.ensures

pub write_distances-requires : goal.write_distances-requires
write_distances-requires c =
    let d = copied c.before.before.before.before in
    let g = at1 d in
    let a = g.args in
    measure_ready a.owners.now a.m a.alpha a.target.now a.work.now a.set a.res.now a.strategy.now
    a.distances.now g.requires d.copy_from.new.set d.copy_from.ensures (placed d).distances-far.ensures

pub returns : goal.returns
returns c =
    let w = c.before.before.before in
    let e = entered w in
    let d = copied e in
    let g = at1 d in
    let a = g.args in
    handed a.owners.now a.m a.alpha a.target.now a.work.now a.set a.res.now a.strategy.now
    a.distances.now g.requires d.copy_from.new.set d.copy_from.ensures (placed d).before.entries-entries.ensures
    (placed d).distances-far.ensures
    e.write_strategy.new.strategy w.write_distances.new.distances
    (λ i. (e.slice_known-4-1.given i).fits) e.write_strategy.ensures w.write_distances.ensures
