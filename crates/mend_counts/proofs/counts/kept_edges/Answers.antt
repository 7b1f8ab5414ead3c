-- `kept_edges` meets its contract. The loop's invariant: of the edges passed those that lead to a vertex are counted.
use mathlib.Core.Path.{◌≡◌, sym, ap, ◌∙◌}
use Prim.Native.Nat.{◌+◌}
use native.Mathlib.Omega.{arith}
use borrow.Author.Tests.{lt-ltb, le-ltb}
use lib.ListN.{length, get_or}
use Rattle.rules.specs.Tables.{Tables}
use Rattle.theory.specs.Mending.{offset_within}
use Rattle.mend_counts.specs.Bare.{bare}
use Rattle.mend_counts.specs.Steps.{kept_none, kept_all, kept_one_more, kept_skip, kept_few}
use borrow.Author.Rules.{rules}
use Rattle.mend_counts.proofs.counts.kept_edges.Lts as lts
use Rattle.mend_counts.proofs.counts.kept_edges.Reads as reads
use Rattle.mend_counts.proofs.counts.kept_edges.Goals as goal
use Rattle.mend_counts.proofs.counts.kept_edges.Goals.{then-targets-e, else-targets-e}

abbrev AtStart : Type 0
AtStart = lts.Start reads.Pre reads.Post goal.the-invariant-loop-e goal.the-decreases-loop-e

abbrev tables : AtStart → Tables
tables c = bare c.args.owners.now c.args.offsets.now c.args.targets.now

pub bounds-offsets-v : goal.bounds-offsets-v
bounds-offsets-v c = omega (arith, c.requires.0.offset_each)

pub bounds-offsets-v-2 : goal.bounds-offsets-v-2
bounds-offsets-v-2 c = omega (arith, c.requires.0.offset_each)

pub loop-e-init : goal.loop-e-init
loop-e-init c =
    let start = c.before.before.before in
    let t = tables start in
    let v = start.args.v in (
      search rules,
      start.requires.0.offset_grows v (v + 1) (omega arith) (omega arith),
      search rules,
      offset_within t start.requires.0 (v + 1) (omega arith),
      sym (ap length (kept_none t (get_or t.offsets v 0))),
    )

pub overflow_cast-e : goal.overflow_cast-e
overflow_cast-e c = omega (arith, c.requires.0.few_edges)

pub bounds-targets-e : goal.bounds-targets-e
bounds-targets-e c = omega arith

pub overflow_cast-targets : goal.overflow_cast-targets
overflow_cast-targets c = omega (arith, c.shared_slice_known-in-loop-e-1.given c.loop-e.e)

pub overflow_add-kept : goal.overflow_add-kept
overflow_add-kept c =
    let at = c.before.before.before.before in
    let start = at.before.before.before in
    let t = tables start in
    omega (arith, kept_few t (get_or t.offsets start.args.v 0) at.loop-e.e, start.requires.0.few_edges)

pub overflow_step-e : goal.overflow_step-e
overflow_step-e c =
    let start = c.before.before.before.before.before.before.before in
    omega (arith, start.requires.0.few_edges)

pub loop-e-preserved : goal.loop-e-preserved
loop-e-preserved c =
    let at = c.before.before.before.before in
    let start = at.before.before.before in
    let t = tables start in
    let from = get_or t.offsets start.args.v 0 in
    let e = at.loop-e.e in (
      search rules,
      search rules,
      search rules,
      at.loop-e.invariant.3,
      elim c.if-targets-e.branch [
        | then-targets-e w ↦
            rw (w.kept-is, at.loop-e.invariant.4) (kept_one_more t from e at.loop-e.invariant.0 (omega arith) (lt-ltb _ _ w.if-targets-e.true))
        | else-targets-e w ↦
            rw (w.kept-is, at.loop-e.invariant.4)
            (sym (ap length (kept_skip t from e at.loop-e.invariant.0 (omega arith) (le-ltb _ _ w.if-targets-e.false))))
      ],
    )

pub returns : goal.returns
returns c =
    let at = c.before.before in
    let start = at.before.before.before in
    let t = tables start in
    let v = start.args.v in
    let done : at.loop-e.e ≡ get_or t.offsets (v + 1) 0 = omega arith in
    at.loop-e.invariant.4 ∙ rw done (ap length (kept_all t v))
