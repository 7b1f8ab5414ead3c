-- `distance_entry` meets its contract, by the cases of its tests.
use mathlib.Core.Bool.{not}
use mathlib.Core.Path.{ap}
use mathlib.Core.Path.{◌≡◌, sym, ◌∙◌}
use mathlib.Core.Bool.{true, false}
use native.Mathlib.Omega.{arith}
use borrow.Author.Tests.{not-false}
use Rattle.rules.specs.Words.{set_of}
use Rattle.attractor_outputs.specs.Outputs.{word_of, measure_out, measure_target, measure_drawn}
use Rattle.attractor_outputs.proofs.distances.distance_entry.Lts as lts
use Rattle.attractor_outputs.proofs.distances.distance_entry.Reads as reads
use Rattle.attractor_outputs.proofs.distances.distance_entry.Tie as tie
use Rattle.attractor_outputs.proofs.distances.distance_entry.Goals as goal

abbrev AtAfterContains : Type 0
AtAfterContains = lts.After-contains tie.the-claims reads.Pre reads.Post

abbrev AtElse1 : Type 0
AtElse1 = lts.Else1 tie.the-claims reads.Pre reads.Post

abbrev AtElse2 : Type 0
AtElse2 = lts.Else2 tie.the-claims reads.Pre reads.Post

abbrev AtStart : Type 0
AtStart = lts.Start tie.the-claims reads.Pre reads.Post

-- where the function begins
abbrev at1 : AtAfterContains → AtStart
at1 c = c.before.before.before.before

-- what the tests say
in_result : (c : AtElse1) → set_of (at1 c.before).args.res.now (at1 c.before).args.v ≡ true
in_result c = sym c.contains.ensures ∙ not-false _ (ap not c.if-not-contains.false)

out_target : (c : AtElse2) → let a = (at1 c.before.before.before).args in set_of a.target.now a.v ≡ false
out_target c = sym c.contains-2.ensures ∙ c.if-contains.false

pub returns-then-not-contains : goal.returns-then-not-contains
returns-then-not-contains c =
    let a = (at1 c.before.before).args in
    measure_out a.target.now a.res.now (word_of a.work.now a.far) a.v
    (sym c.contains.ensures ∙ c.if-not-contains.true)

pub returns-then-contains : goal.returns-then-contains
returns-then-contains c =
    let e = c.before.before.before in
    let a = (at1 e.before).args in
    measure_target a.target.now a.res.now (word_of a.work.now a.far) a.v
    (in_result e) (sym c.contains-2.ensures ∙ c.if-contains.true)

pub overflow_cast-result : goal.overflow_cast-result
overflow_cast-result c =
    let d = c.before.before in
    let e = d.before.before in
    let g = at1 e.before in
    omega (arith, g.requires.narrow (in_result e) (out_target d))

pub returns : goal.returns
returns c =
    let d = c.before.before in
    let e = d.before.before in
    let a = (at1 e.before).args in
    measure_drawn a.target.now a.res.now (word_of a.work.now a.far) a.v (in_result e) (out_target d)
