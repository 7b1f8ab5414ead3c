-- `fill` meets its contract. After the whole words, the invariant: the vertices below v are in.
use mathlib.Core.Path.{◌≡◌}
use native.Mathlib.Omega.{arith}
use Rattle.set_filling.specs.Filling.{filled_more}
use borrow.Author.Rules.{rules}
use Rattle.set_filling.proofs.filling.fill.Goals as goal

pub loop-v-init : goal.loop-v-init
loop-v-init c = (search rules, search rules, λ before filled. filled)

pub loop-v-preserved : goal.loop-v-preserved
loop-v-preserved c =
    (search rules, search rules, λ before filled. filled_more (c.loop-v.invariant.2 before filled) c.insert.ensures)

pub returns : goal.returns
returns c =
    let l = c.loop-v in
    let all : l.v ≡ c.args.n = omega arith in
    rw all at (l.invariant.2 _ c.fill_words.ensures)
