-- `strategy_entry` meets its contract, by the cases of its tests.
use mathlib.Core.Bool.{not}
use mathlib.Core.Path.{ap}
use mathlib.Core.Path.{◌≡◌, sym, ◌∙◌}
use mathlib.Core.Bool.{true, false}
use native.Mathlib.Omega.{arith}
use borrow.Author.Tests.{not-false, eq-eqb, ne_eqb}
use Rattle.rules.specs.Words.{set_of}
use Rattle.attractor_outputs.specs.Outputs.{word_of, chosen_out, chosen_target, chosen_other, chosen_own, drawn_so}
use Rattle.attractor_outputs.proofs.strategy.strategy_entry.Lts as lts
use Rattle.attractor_outputs.proofs.strategy.strategy_entry.Reads as reads
use Rattle.attractor_outputs.proofs.strategy.strategy_entry.Tie as tie
use Rattle.attractor_outputs.proofs.strategy.strategy_entry.Goals as goal

abbrev AtAfterContains : Type 0
AtAfterContains = lts.After-contains tie.the-claims reads.Pre reads.Post

abbrev AtElse1 : Type 0
AtElse1 = lts.Else1 tie.the-claims reads.Pre reads.Post

abbrev AtElse2 : Type 0
AtElse2 = lts.Else2 tie.the-claims reads.Pre reads.Post

abbrev AtStart : Type 0
AtStart = lts.Start tie.the-claims reads.Pre reads.Post

-- where the function begins
abbrev at1 : AtAfterContains → AtStart
at1 c = c.before.before.before.before.before

-- what the tests say
in_result : (c : AtElse1) → set_of (at1 c.before).args.res.now (at1 c.before).args.v ≡ true
in_result c = sym c.contains.ensures ∙ not-false _ (ap not c.if-not-contains.false)

out_target : (c : AtElse2) → let a = (at1 c.before.before.before).args in set_of a.target.now a.v ≡ false
out_target c = sym c.contains-2.ensures ∙ c.if-contains.false

pub returns-then-not-contains : goal.returns-then-not-contains
returns-then-not-contains c =
    let a = (at1 c.before.before).args in
    chosen_out a.owners.now a.alpha a.target.now a.res.now (word_of a.work.now a.entries) a.v
    (sym c.contains.ensures ∙ c.if-not-contains.true)

pub returns-then-contains : goal.returns-then-contains
returns-then-contains c =
    let e = c.before.before.before in
    let a = (at1 e.before).args in
    chosen_target a.owners.now a.alpha a.target.now a.res.now (word_of a.work.now a.entries) a.v
    (in_result e) (sym c.contains-2.ensures ∙ c.if-contains.true)

pub returns-then-owners-v : goal.returns-then-owners-v
returns-then-owners-v c =
    let d = c.before.before.before in
    let e = d.before.before in
    let a = (at1 e.before).args in
    chosen_other a.owners.now a.alpha a.target.now a.res.now (word_of a.work.now a.entries) a.v
    (in_result e) (out_target d) (ne_eqb _ _ c.if-owners-v.true)

pub overflow_cast-result : goal.overflow_cast-result
overflow_cast-result c =
    let d = c.before.before.before.before in
    let e = d.before.before in
    let g = at1 e.before in
    let a = g.args in
    omega (
      arith,
      g.requires.narrow
          (drawn_so a.owners.now a.alpha a.target.now a.res.now (word_of a.work.now a.entries) a.v
          (in_result e) (out_target d) (eq-eqb _ _ c.if-owners-v.false)),
    )

pub returns : goal.returns
returns c =
    let d = c.before.before.before.before in
    let e = d.before.before in
    let a = (at1 e.before).args in
    chosen_own a.owners.now a.alpha a.target.now a.res.now (word_of a.work.now a.entries) a.v
    (in_result e) (out_target d) (eq-eqb _ _ c.if-owners-v.false)
