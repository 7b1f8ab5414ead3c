-- `write_strategy` meets its contract: the entries passed are written.
use Rattle.std.proofs.Common.{arith, length}
use Rattle.attractor_outputs.specs.Outputs.{word_of, chosen}
use Rattle.basics.specs.Basics.{listed_is}
use Rattle.area.specs.Lent.{stored_more}
use Rattle.attractor_outputs.proofs.strategy.write_strategy.Goals as goal

pub strategy_entry-requires : goal.strategy_entry-requires
strategy_entry-requires c = c.requires.entered c.loop-v.v (omega (arith, c.requires.each))

pub loop-v-preserved : goal.loop-v-preserved
loop-v-preserved c =
    let a = c.args in
    stored_more (chosen a.owners.now a.alpha a.target.now a.res.now (word_of a.work.now a.entries)) c.loop-v.strategy c.loop-v.v
    _ (omega arith) c.strategy_entry.ensures c.loop-v.invariant

pub returns : goal.returns
returns c =
    let a = c.args in
    listed_is (length a.owners.now) (chosen a.owners.now a.alpha a.target.now a.res.now (word_of a.work.now a.entries)) 0
    c.loop-v.strategy (omega (arith, c.requires.each)) (λ v less. c.loop-v.invariant v (omega (arith, c.requires.each)))
