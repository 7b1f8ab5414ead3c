-- `altered_vertices` meets its contract. The loop's invariant: the vertices passed that keep no edge are counted.
use mathlib.Core.Path.{◌≡◌, refl, sym}
use native.Mathlib.Omega.{arith}
use lib.ListN.{length}
use Rattle.rules.specs.Counting.{count}
use Rattle.rules.specs.Mending.{altered}
use Rattle.rules.specs.Tables.{Tables}
use Rattle.basics.specs.Basics.{count_le}
use Rattle.mend_counts.specs.Bare.{bare}
use Rattle.mend_counts.specs.Steps.{alone_altered, kept_unaltered, altered_one_more, altered_none_more}
use borrow.Author.Rules.{rules}
use Rattle.mend_counts.proofs.counts.altered_vertices.Lts as lts
use Rattle.mend_counts.proofs.counts.altered_vertices.Reads as reads
use Rattle.mend_counts.proofs.counts.altered_vertices.Tie as tie
use Rattle.mend_counts.proofs.counts.altered_vertices.Goals as goal
use Rattle.mend_counts.proofs.counts.altered_vertices.Goals.{then-kept_edges-eq0, else-kept_edges-eq0}

abbrev AtStart : Type 0
AtStart = lts.Start tie.the-claims reads.Pre reads.Post goal.the-invariant-loop-v goal.the-decreases-loop-v

abbrev tables : AtStart → Tables
tables c = bare c.args.owners.now c.args.offsets.now c.args.targets.now

pub loop-v-init : goal.loop-v-init
unfolding count
loop-v-init c = (search rules, search rules, refl)

pub kept_edges-requires : goal.kept_edges-requires
kept_edges-requires c = (c.requires, omega arith)

pub overflow_add-alone : goal.overflow_add-alone
overflow_add-alone c =
    let at = c.before.before.before.before in
    omega (arith, count_le at.loop-v.v (altered (tables at.before.before.before.before)))

pub loop-v-preserved : goal.loop-v-preserved
loop-v-preserved c =
    let at = c.before.before.before.before in
    let t = tables at.before.before.before.before in
    let v = at.loop-v.v in
    let kept = c.kept_edges in (
      search rules,
      search rules,
      elim c.if-kept_edges-eq0.branch [
        | then-kept_edges-eq0 w ↦
            rw (w.alone-is, at.loop-v.invariant.2) (altered_one_more t v (alone_altered t v kept.result kept.ensures w.if-kept_edges-eq0.true))
        | else-kept_edges-eq0 w ↦
            rw (w.alone-is, at.loop-v.invariant.2) (altered_none_more t v (kept_unaltered t v kept.result kept.ensures w.if-kept_edges-eq0.false))
      ],
    )

pub returns : goal.returns
returns c =
    let at = c.before.before in
    let t = tables at.before.before.before.before in
    let all : at.loop-v.v ≡ length t.owners = omega arith in rw (sym all) at.loop-v.invariant.2
