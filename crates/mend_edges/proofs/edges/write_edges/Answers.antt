-- `write_edges` meets its contract. The loop's invariant: the offsets and the new edges of the vertices passed are written.
use mathlib.Core.Path.{◌≡◌, sym}
use Prim.Native.Nat.{◌≤◌, ◌<◌, ◌-◌}
use native.Mathlib.Omega.{arith}
use native.Mathlib.Numerals.{add-one}
use lib.ListN.{length, length-set}
use Rattle.rules.specs.Counting.{listed}
use Rattle.rules.specs.Mending.{new_targets_of, new_targets_up_to, mended}
use Rattle.rules.specs.Tables.{Tables}
use Rattle.mend_counts.specs.Bare.{bare}
use Rattle.mend_counts.specs.Placed.{written_none, written_listed, written_then, written_length, written_front}
use Rattle.mend_counts.specs.Steps.{new_offset, new_most, new_fits, new_next}
use borrow.Author.Rules.{rules}
use Rattle.mend_edges.proofs.edges.write_edges.Lts as lts
use Rattle.mend_edges.proofs.edges.write_edges.Reads as reads
use Rattle.mend_edges.proofs.edges.write_edges.Tie as tie
use Rattle.mend_edges.proofs.edges.write_edges.Goals as goal

abbrev AtAtLoop : Type 0
AtAtLoop = lts.At-loop tie.the-claims reads.Pre reads.Post goal.the-invariant-loop-v goal.the-decreases-loop-v

abbrev AtStart : Type 0
AtStart = lts.Start tie.the-claims reads.Pre reads.Post goal.the-invariant-loop-v goal.the-decreases-loop-v

abbrev tables : AtStart → Tables
tables c = bare c.args.owners.now c.args.offsets.now c.args.targets.now

abbrev start : AtAtLoop → AtStart
start c = c.before.before.before.before.before.before

-- where the edges of the vertices passed end
ends :
    (c : AtAtLoop) →
    (c.loop-v.at ≡ new_offset (tables (start c)) c.loop-v.v) × (c.loop-v.at ≤ 16384)
ends c =
    let w = c.loop-v.invariant.2 in
    let most = new_most (tables (start c)) c.loop-v.v c.loop-v.invariant.0 in
    (omega (arith, w.ends), omega (arith, w.ends, (start c).requires))

pub loop-v-init : goal.loop-v-init
unfolding listed new_targets_up_to
loop-v-init c = (search rules, written_none 0 _ (omega arith), written_none 0 _ (omega arith))

pub overflow_cast-new_offsets : goal.overflow_cast-new_offsets
overflow_cast-new_offsets c = omega (arith, (ends c.before.before).1)

-- an offset has room
room :
    (c : AtAtLoop) →
    (c.loop-v.v < length (start c).args.new_offsets.now) × (c.loop-v.v < length c.loop-v.new_offsets)
room c =
    let long = written_length _ _ _ _ _ c.loop-v.invariant.1 in
    (omega (arith, (start c).requires), omega (arith, (start c).requires))

pub bounds-new_offsets-v : goal.bounds-new_offsets-v
bounds-new_offsets-v c = (room c.before.before).1

pub write_targets-at-requires : goal.write_targets-at-requires
write_targets-at-requires c =
    let at = c.before.before.before in
    let t = tables (start at) in
    let fits = new_fits t at.loop-v.v (omega arith) in
    let long = written_length _ _ _ _ _ at.loop-v.invariant.2 in
    let here = ends at in
    record {
      shaped = (start at).requires.0;
      below = omega arith;
      room = omega (arith, (start at).requires.3);
    }

pub loop-v-preserved : goal.loop-v-preserved
loop-v-preserved c =
    let at = c.before.before.before.before.before.before in
    let t = tables (start at) in
    let v = at.loop-v.v in
    let called = c.write_targets-at in (
      search rules,
      rw (ends at).0
          (written_listed (new_offset t) (start at).args.new_offsets.now at.loop-v.new_offsets v at.loop-v.invariant.1
          (room at).0),
      rw (new_next t v)
          (written_then 0 (new_targets_up_to t v) (start at).args.new_targets.now at.loop-v.new_targets at.loop-v.at
          (new_targets_of t v) _
          called.result at.loop-v.invariant.2 called.ensures),
    )

pub overflow_cast-new_offsets-2 : goal.overflow_cast-new_offsets-2
overflow_cast-new_offsets-2 c = omega (arith, (ends c.before.before).1)

pub bounds-new_offsets-n : goal.bounds-new_offsets-n
bounds-new_offsets-n c =
    let long = written_length _ _ _ _ _ c.loop-v.invariant.1 in omega (arith, (start c.before.before).requires)

pub shape_of-new_offsets : goal.shape_of-new_offsets
shape_of-new_offsets c = simp length-set (written_length _ _ _ _ _ c.loop-v.invariant.1)

pub shape_of-new_targets : goal.shape_of-new_targets
shape_of-new_targets c = written_length _ _ _ _ _ c.loop-v.invariant.2

pub returns : goal.returns
unfolding mended
returns c =
    let at = c.before.before in
    let t = tables (start at) in
    let v = at.loop-v.v in
    let all : v ≡ length t.owners = omega arith in
    let before = (start at).args in
    let within : v < length before.new_offsets.now = omega (arith, (start at).requires) in
    let last = written_listed (new_offset t) before.new_offsets.now at.loop-v.new_offsets v at.loop-v.invariant.1 within in (
      rw (sym all, (ends at).0) (rw (add-one v) at (written_front _ _ _ _ last)),
      rw (sym all) (written_front (new_targets_up_to t v) before.new_targets.now at.loop-v.new_targets at.loop-v.at
          at.loop-v.invariant.2),
    )
