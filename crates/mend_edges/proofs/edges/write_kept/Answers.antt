-- `write_kept` meets its contract. The loop's invariant: of the edges passed those that lead to a vertex are written.
use mathlib.Core.Path.{◌≡◌}
use Prim.Native.Nat.{◌<◌, ◌+◌, ◌-◌}
use native.Mathlib.Omega.{arith}
use borrow.Author.Tests.{lt-ltb, le-ltb}
use lib.ListN.{length, get_or}
use Rattle.rules.specs.Mending.{kept_targets}
use Rattle.rules.specs.Tables.{Tables}
use Rattle.theory.specs.Mending.{offset_within}
use Rattle.mend_counts.specs.Bare.{bare}
use Rattle.mend_counts.specs.Placed.{written_none, written_more, written_length}
use Rattle.mend_counts.specs.Steps.{kept_from, kept_none, kept_all, kept_one, kept_skip, kept_room_lem}
use borrow.Author.Rules.{rules}
use Rattle.mend_edges.proofs.edges.write_kept.Lts as lts
use Rattle.mend_edges.proofs.edges.write_kept.Reads as reads
use Rattle.mend_edges.proofs.edges.write_kept.Goals as goal
use Rattle.mend_edges.proofs.edges.write_kept.Goals.{else-w-n, then-w-n}

abbrev AtStart : Type 0
AtStart = lts.Start reads.Pre reads.Post goal.the-invariant-loop-e goal.the-decreases-loop-e

abbrev AtThen1 : Type 0
AtThen1 = lts.Then1 reads.Pre reads.Post goal.the-invariant-loop-e goal.the-decreases-loop-e

abbrev tables : AtStart → Tables
tables c = bare c.args.owners.now c.args.offsets.now c.args.targets.now

pub bounds-offsets-v : goal.bounds-offsets-v
bounds-offsets-v c = omega (arith, c.requires.shaped.offset_each, c.requires.below)

pub overflow_add-e-end : goal.overflow_add-e-end
overflow_add-e-end c = omega (arith, c.requires.shaped.few_vertices, c.requires.below)

pub offset_bounds-offsets-v-2 : goal.offset_bounds-offsets-v-2
offset_bounds-offsets-v-2 c = omega (arith, c.requires.shaped.few_vertices, c.requires.below)

pub bounds-offsets-v-2 : goal.bounds-offsets-v-2
bounds-offsets-v-2 c = omega (arith, c.requires.shaped.offset_each, c.requires.below)

pub loop-e-init : goal.loop-e-init
loop-e-init c =
    let start = c.before.before.before in
    let t = tables start in
    let v = start.args.v in
    let below = start.requires.below in
    let nothing = kept_none t (get_or t.offsets v 0) in (
      search rules,
      start.requires.shaped.offset_grows v (v + 1) (omega arith) (omega arith),
      search rules,
      offset_within t start.requires.shaped (v + 1) (omega arith),
      rw nothing (written_none start.args.at start.args.new_targets.now (omega (arith, start.requires.room))),
    )

pub overflow_cast-w : goal.overflow_cast-w
overflow_cast-w c = omega (arith, c.requires.shaped.few_edges)

pub bounds-targets-e : goal.bounds-targets-e
bounds-targets-e c = omega arith

pub overflow_cast-w-in-loop-e : goal.overflow_cast-w-in-loop-e
overflow_cast-w-in-loop-e c = omega (arith, c.shared_slice_known-in-loop-e-1.given c.loop-e.e)

-- an edge that is kept has room
room :
    (c : AtThen1) →
    let at = c.before.before.before in
    (at.loop-e.end < length at.args.new_targets.now) ×
    (at.loop-e.end < length at.loop-e.new_targets)
room c =
    let at = c.before.before.before in
    let start = at.before.before.before in
    let t = tables start in
    let v = start.args.v in
    let w = at.loop-e.invariant.4 in
    let fits =
    kept_room_lem t v at.loop-e.e at.loop-e.invariant.0 (omega arith) (omega arith) (lt-ltb _ _ c.if-w-n.true) in
    let long = written_length _ _ _ _ _ w in
    (omega (arith, w.ends, start.requires.room), omega (arith, w.ends, start.requires.room))

pub offset_bounds-new_targets-end : goal.offset_bounds-new_targets-end
offset_bounds-new_targets-end c = let r = room c.before in omega arith

pub bounds-new_targets-end : goal.bounds-new_targets-end
bounds-new_targets-end c = (room c.before).1

pub overflow_add-end : goal.overflow_add-end
overflow_add-end c = let r = room c.before in omega arith

pub overflow_step-e : goal.overflow_step-e
overflow_step-e c =
    let start = c.before.before.before.before.before.before.before in
    omega (arith, start.requires.shaped.few_edges)

pub loop-e-preserved : goal.loop-e-preserved
loop-e-preserved c =
    let at = c.before.before.before.before in
    let start = at.before.before.before in
    let t = tables start in
    let from = get_or t.offsets start.args.v 0 in
    let e = at.loop-e.e in
    let w = at.loop-e.invariant.4 in (
      search rules,
      search rules,
      search rules,
      at.loop-e.invariant.3,
      elim c.if-w-n.branch [
        | then-w-n a ↦ let more = kept_one t from e at.loop-e.invariant.0 (omega arith) (lt-ltb _ _ a.if-w-n.true) in
            rw (a.new_targets-is, a.end-is, more)
            (written_more start.args.at (kept_from t from e) start.args.new_targets.now at.loop-e.new_targets
            at.loop-e.end
            (get_or t.targets e 0) w (room (record { before = c.before.before; if-w-n = a.if-w-n })).0)
        | else-w-n a ↦ let same = kept_skip t from e at.loop-e.invariant.0 (omega arith) (le-ltb _ _ a.if-w-n.false) in
            rw (a.new_targets-is, a.end-is, same) w
      ],
    )

pub shape_of-new_targets : goal.shape_of-new_targets
shape_of-new_targets c = written_length _ _ _ _ _ c.loop-e.invariant.4

pub returns : goal.returns
returns c =
    let at = c.before.before in
    let start = at.before.before.before in
    let t = tables start in
    let v = start.args.v in
    let done : at.loop-e.e ≡ get_or t.offsets (v + 1) 0 = omega arith in
    let all : kept_from t (get_or t.offsets v 0) at.loop-e.e ≡ kept_targets t v = rw done (kept_all t v) in
    rw all at at.loop-e.invariant.4
