-- `new_priority` meets its contract: each return goes by the tests that led there.
use mathlib.Core.Bool.{true}
use mathlib.Core.Path.{◌≡◌, sym, ◌∙◌}
use native.Mathlib.Omega.{arith}
use Rattle.rules.specs.Mending.{altered}
use Rattle.rules.specs.Tables.{Tables}
use Rattle.mend_counts.specs.Bare.{bared, bared_shaped, bared_altered}
use Rattle.mend_counts.specs.Steps.{alone_altered, kept_unaltered, priority_kept, priority_even, priority_odd}
use Rattle.mend_counts.proofs.priorities.new_priority.Lts as lts
use Rattle.mend_counts.proofs.priorities.new_priority.Reads as reads
use Rattle.mend_counts.proofs.priorities.new_priority.Tie as tie
use Rattle.mend_counts.proofs.priorities.new_priority.Goals as goal

abbrev AtElse1 : Type 0
AtElse1 = lts.Else1 tie.the-claims reads.Pre reads.Post

abbrev AtStart : Type 0
AtStart = lts.Start tie.the-claims reads.Pre reads.Post

abbrev tables : AtStart → Tables
tables c =
    record {
      owners = c.args.owners.now;
      priorities = c.args.priorities.now;
      offsets = c.args.offsets.now;
      targets = c.args.targets.now;
    }

pub kept_edges-requires : goal.kept_edges-requires
kept_edges-requires c =
    let start = c.before.before.before.before.before in (bared_shaped (tables start) start.requires.0.shaped, start.requires.1)

pub bounds-priorities-v : goal.bounds-priorities-v
bounds-priorities-v c =
    let start = c.before.before.before.before.before.before.before.before in
    omega (arith, start.requires.0.priority_each, start.requires.1)

pub returns-then-kept_edges-ne0 : goal.returns-then-kept_edges-ne0
returns-then-kept_edges-ne0 c =
    let start = c.before.before.before.before.before.before.before.before in
    let kept = c.kept_edges in
    let t = tables start in
    let v = start.args.v in
    priority_kept t v
    (sym (bared_altered t v) ∙ kept_unaltered (bared t) v kept.result kept.ensures c.if-kept_edges-ne0.true)

-- past the first test the vertex is altered
alone :
    (c : AtElse1) →
    let start = c.before.before.before.before.before.before in altered (tables start) start.args.v ≡ true
alone c =
    let start = c.before.before.before.before.before.before in
    let kept = c.kept_edges in
    let t = tables start in
    let v = start.args.v in
    sym (bared_altered t v) ∙ alone_altered (bared t) v kept.result kept.ensures c.if-kept_edges-ne0.false

pub returns-then-owners-v-eq0 : goal.returns-then-owners-v-eq0
returns-then-owners-v-eq0 c =
    let at = c.before.before.before in
    let start = at.before.before.before.before.before.before in
    priority_even (tables start) start.args.v (alone at) c.if-owners-v-eq0.true

pub returns : goal.returns
returns c =
    let at = c.before.before.before in
    let start = at.before.before.before.before.before.before in
    priority_odd (tables start) start.args.v (alone at) c.if-owners-v-eq0.false
