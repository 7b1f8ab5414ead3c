-- `inside_edges` meets its contract: the count is that of the edges of v before edge e that end inside.
use borrow.Author.Rules.{rules}
use mathlib.Core.Path.{sym, ◌∙◌}
use native.Mathlib.Omega.{arith}
use lib.ListN.{get_or}
use Rattle.rules.specs.Words.{set_of}
use Rattle.attractor_counters.specs.Counters.{inside_none, inside_more, inside_all}
use Rattle.attractor_counters.specs.Tally.{flag_one, flag_zero}
use Rattle.attractor_counters.proofs.counters.inside_edges.Goals as goal
use Rattle.attractor_counters.proofs.counters.inside_edges.Goals.{then-contains, else-contains}

pub loop-e-init : goal.loop-e-init
loop-e-init c =
    let a = c.args in
    (search rules, c.requires.rising, search rules, inside_none a.offsets.now a.targets.now a.v a.set.now c.requires)

pub loop-e-preserved : goal.loop-e-preserved
loop-e-preserved c =
    let a = c.args in
    let (low, high, few, old) = c.loop-e.invariant in
    let more = inside_more a.offsets.now a.targets.now a.v a.set.now c.requires c.loop-e.e low c.loop-e-test.true in
    let found = c.contains.ensures in
    elim c.if-contains.branch [
      | then-contains w ↦
          let one = flag_one (set_of a.set.now (get_or a.targets.now c.loop-e.e 0)) (sym found ∙ w.if-contains.true) in
          let now = w.inside-is in
          (omega arith, omega arith, omega arith, omega arith)
      | else-contains w ↦
          let none = flag_zero (set_of a.set.now (get_or a.targets.now c.loop-e.e 0)) (sym found ∙ w.if-contains.false) in
          let now = w.inside-is in
          (omega arith, omega arith, omega arith, omega arith)
    ]

pub returns : goal.returns
returns c =
    let a = c.args in
    let l = c.loop-e in
    l.invariant.3 ∙
    inside_all a.offsets.now a.targets.now a.v a.set.now c.requires l.e (omega (arith, l.invariant.1, c.loop-e-test.false))
