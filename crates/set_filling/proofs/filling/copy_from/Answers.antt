-- `copy_from` meets its contract: once every word is copied, the lists are the same.
use Rattle.std.proofs.Common.{arith, ext_get_or}
use Rattle.set_filling.specs.Filling.{copied_none, copied_more}
use Rattle.set_filling.proofs.filling.copy_from.Goals as goal

pub loop-i-init : goal.loop-i-init
loop-i-init c = copied_none c.args.from.now c.args.set.now c.requires

pub loop-i-preserved : goal.loop-i-preserved
loop-i-preserved c = copied_more (omega arith) c.loop-i.invariant

pub returns : goal.returns
returns c =
    let done = c.loop-i.invariant in
    ext_get_or 0 c.loop-i.set c.args.from.now done.long (λ k h. done.same k (omega (arith, done.long)))
