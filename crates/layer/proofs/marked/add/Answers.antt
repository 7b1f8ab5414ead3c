use lib.ListN.{length-set}
use native.Mathlib.Omega.{arith}
use Rattle.layer.specs.Laws.{layer_added}
use Rattle.layer.proofs.marked.add.Goals as goal

pub bounds-layer-s : goal.bounds-layer-s
bounds-layer-s c = simp length-set (omega (arith, c.requires.layer.lent.some))

pub bounds-layer-s-2 : goal.bounds-layer-s-2
bounds-layer-s-2 c = simp length-set (omega (arith, c.requires.layer.lent.some))

pub returns : goal.returns
returns c =
    let g = c.before.before in
    layer_added g.args.layer.now g.args.v g.requires
