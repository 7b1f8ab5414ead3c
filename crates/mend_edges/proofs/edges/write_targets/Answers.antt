-- `write_targets` meets its contract: where an edge was kept nothing is added, else the self loop is.
use native.Mathlib.Omega.{arith}
use Rattle.rules.specs.Tables.{Tables}
use Rattle.mend_counts.specs.Bare.{bare}
use Rattle.mend_edges.specs.Edges.{kept_written, loop_room, loop_written}
use Rattle.mend_edges.proofs.edges.write_targets.Lts as lts
use Rattle.mend_edges.proofs.edges.write_targets.Reads as reads
use Rattle.mend_edges.proofs.edges.write_targets.Tie as tie
use Rattle.mend_edges.proofs.edges.write_targets.Goals as goal

abbrev AtStart : Type 0
AtStart = lts.Start tie.the-claims reads.Pre reads.Post

abbrev tables : AtStart → Tables
tables c = bare c.args.owners.now c.args.offsets.now c.args.targets.now

pub returns-then-end-at : goal.returns-then-end-at
returns-then-end-at c =
    let start = c.before.before.before.before.before.before.before.before.before.before in
    let called = c.write_kept-end in
    kept_written (tables start) start.args.v start.args.at start.args.new_targets.now
    called.new.new_targets
    called.result called.ensures c.if-end-at.true

pub overflow_cast-new_targets : goal.overflow_cast-new_targets
overflow_cast-new_targets c =
    let start = c.before.before.before.before.before.before.before.before.before.before in
    omega (arith, start.requires.shaped.few_vertices, start.requires.below)

pub bounds-new_targets-at : goal.bounds-new_targets-at
bounds-new_targets-at c =
    let start = c.before.before.before.before.before.before.before.before.before.before in
    let called = c.write_kept-end in
    loop_room (tables start) start.args.v start.args.at start.args.new_targets.now called.new.new_targets
    called.result called.ensures start.requires.room

pub returns : goal.returns
returns c =
    let start = c.before.before.before.before.before.before.before.before.before.before in
    let called = c.write_kept-end in
    loop_written (tables start) start.args.v start.args.at start.args.new_targets.now
    called.new.new_targets
    called.result called.ensures c.if-end-at.false start.requires.room
