-- `write_priorities` meets its contract. The loop's invariant: the new priorities of the vertices passed are written.
use mathlib.Core.Path.{◌≡◌, sym}
use Prim.Native.Nat.{◌<◌}
use native.Mathlib.Omega.{arith}
use lib.ListN.{length}
use Rattle.rules.specs.Counting.{listed}
use Rattle.rules.specs.Mending.{new_priority, mended}
use Rattle.rules.specs.Tables.{Tables, tables_of}
use Rattle.mend_counts.specs.Placed.{written_none, written_listed, written_length, written_front}
use borrow.Author.Rules.{rules}
use Rattle.mend_counts.proofs.priorities.write_priorities.Lts as lts
use Rattle.mend_counts.proofs.priorities.write_priorities.Reads as reads
use Rattle.mend_counts.proofs.priorities.write_priorities.Tie as tie
use Rattle.mend_counts.proofs.priorities.write_priorities.Goals as goal

abbrev AtAfterNewPriority : Type 0
AtAfterNewPriority = lts.After-new_priority tie.the-claims reads.Pre reads.Post goal.the-invariant-loop-v goal.the-decreases-loop-v

abbrev AtAtLoop : Type 0
AtAtLoop = lts.At-loop tie.the-claims reads.Pre reads.Post goal.the-invariant-loop-v goal.the-decreases-loop-v

abbrev AtStart : Type 0
AtStart = lts.Start tie.the-claims reads.Pre reads.Post goal.the-invariant-loop-v goal.the-decreases-loop-v

abbrev tables : AtStart → Tables
tables c = tables_of c.args.owners.now c.args.priorities.now c.args.offsets.now c.args.targets.now

abbrev start : AtAtLoop → AtStart
start c = c.before.before.before.before.before.before

pub loop-v-init : goal.loop-v-init
unfolding listed
loop-v-init c = (search rules, search rules, written_none 0 _ (omega arith))

pub new_priority-requires : goal.new_priority-requires
new_priority-requires c = ((start c.before.before).requires.0, omega arith)

-- the new priority has room
room :
    (c : AtAfterNewPriority) →
    let at = c.before.before in
    (at.loop-v.v < length (start at).args.new_priorities.now) × (at.loop-v.v < length at.loop-v.new_priorities)
room c =
    let at = c.before.before in
    let long = written_length _ _ _ _ _ at.loop-v.invariant.2 in
    (omega (arith, (start at).requires.1), omega (arith, (start at).requires.1))

pub bounds-new_priorities-v : goal.bounds-new_priorities-v
bounds-new_priorities-v c = (room c.before).1

pub loop-v-preserved : goal.loop-v-preserved
loop-v-preserved c =
    let at = c.before.before.before in
    let t = tables (start at) in (
      search rules,
      search rules,
      rw c.new_priority.ensures
          (written_listed (new_priority t) (start at).args.new_priorities.now at.loop-v.new_priorities at.loop-v.v
          at.loop-v.invariant.2
          (room c.before).0),
    )

pub shape_of-new_priorities : goal.shape_of-new_priorities
shape_of-new_priorities c = written_length _ _ _ _ _ c.loop-v.invariant.2

pub returns : goal.returns
unfolding mended
returns c =
    let at = c.before.before in
    let t = tables (start at) in
    let all : at.loop-v.v ≡ length t.owners = omega arith in
    rw (sym all)
    (written_front (listed at.loop-v.v (new_priority t)) (start at).args.new_priorities.now at.loop-v.new_priorities
    at.loop-v.v
    at.loop-v.invariant.2)
