-- `lowest_inside` meets its contract: the lowest end inside the set of the edges before place e.
use mathlib.Core.Path.{sym, subst, ◌∙◌}
use Prim.Native.Nat.{◌+◌, ◌-◌}
use native.Mathlib.Omega.{arith}
use Rattle.rules.specs.Words.{set_of}
use Rattle.basics.specs.Basics.{clash}
use Rattle.successors.specs.Lowest.{LowestTo, lowest_first, lowest_same, lowest_new, lowest_all}
use Rattle.successors.proofs.inside.lowest_inside.Lts as lts
use Rattle.successors.proofs.inside.lowest_inside.Reads as reads
use Rattle.successors.proofs.inside.lowest_inside.Tie as tie
use Rattle.successors.proofs.inside.lowest_inside.Goals as goal
use Rattle.successors.proofs.inside.lowest_inside.Goals.{then-w-lowest+then-contains, then-w-lowest+else-contains, else-w-lowest}

abbrev AtAtLoop : Type 0
AtAtLoop = lts.At-loop tie.the-claims reads.Pre reads.Post goal.the-invariant-loop-e goal.the-decreases-loop-e

abbrev AtStart : Type 0
AtStart = lts.Start tie.the-claims reads.Pre reads.Post goal.the-invariant-loop-e goal.the-decreases-loop-e

-- where the function begins
abbrev start_of : AtAtLoop → AtStart
start_of c = c.before.before.before.before.before.before

pub loop-e-init : goal.loop-e-init
loop-e-init c = let g = c.before.before.before.before.before.before in lowest_first g.requires g.args.n

pub overflow_cast-w : goal.overflow_cast-w
overflow_cast-w c = omega (arith, c.shared_slice_known-in-loop-e-1.given c.loop-e.e)

pub contains-requires : goal.contains-requires
contains-requires c =
    let l = c.before.before.before.before in
    let g = start_of l in
    g.requires.bits l.loop-e.e (omega (arith, g.requires.top, c.loop-e-test.true))

pub loop-e-preserved : goal.loop-e-preserved
loop-e-preserved c =
    let l = c.before.before.before.before in
    let g = start_of l in
    let a = g.args in
    let more = c.loop-e-test.true in
    let To = LowestTo a.n a.offsets.now a.targets.now a.vertex.0 (set_of a.set.now) (l.loop-e.e + 1) in
    elim c.if-w-lowest.branch [
      | then-w-lowest+then-contains y ↦
          subst To (sym y.lowest-is)
          (lowest_new g.requires a.n l.loop-e.invariant more (omega (arith, y.if-w-lowest.true)) (sym y.contains.ensures ∙ y.if-contains.true))
      | then-w-lowest+else-contains y ↦
          subst To (sym y.lowest-is)
          (lowest_same g.requires a.n l.loop-e.invariant more (λ i. absurd (clash i (sym y.contains.ensures ∙ y.if-contains.false))))
      | else-w-lowest y ↦
          subst To (sym y.lowest-is) (lowest_same g.requires a.n l.loop-e.invariant more (λ i. omega (arith, y.if-w-lowest.false)))
    ]

pub returns : goal.returns
returns c =
    let g = start_of c.before.before in
    lowest_all g.requires g.args.n c.loop-e.invariant c.loop-e-test.false
