-- `write_distances` meets its contract: the distances passed are written.
use Rattle.std.proofs.Common.{arith}
use Rattle.attractor_outputs.specs.Outputs.{word_of, measure}
use Rattle.basics.specs.Basics.{listed_is}
use Rattle.area.specs.Lent.{stored_more}
use Rattle.attractor_outputs.proofs.distances.write_distances.Goals as goal

pub distance_entry-requires : goal.distance_entry-requires
distance_entry-requires c = c.requires c.loop-v.v (omega arith)

pub loop-v-preserved : goal.loop-v-preserved
loop-v-preserved c =
    let a = c.args in
    stored_more (measure a.target.now a.res.now (word_of a.work.now a.far)) c.loop-v.distances c.loop-v.v _ (omega arith)
    c.distance_entry.ensures c.loop-v.invariant

pub returns : goal.returns
returns c =
    let a = c.args in
    listed_is _ (measure a.target.now a.res.now (word_of a.work.now a.far)) 0 c.loop-v.distances (omega arith)
    (λ v less. c.loop-v.invariant v (omega arith))
