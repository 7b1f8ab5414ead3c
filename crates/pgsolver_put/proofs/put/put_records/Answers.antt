-- `put_records` meets its contract. The loop's invariant: the records passed are put.
use mathlib.Core.Path.{◌≡◌, subst}
use Prim.Native.Nat.{ℕ, ◌+◌, ◌-◌}
use native.Mathlib.Omega.{arith}
use lib.ListN.{length}
use Rattle.rules.specs.Tables.{Tables, tables_of}
use Rattle.rules.specs.Writing.{records_text}
use Rattle.putting.specs.Puts.{Puts}
use Rattle.pgsolver_line.specs.Records.{RecordRow, row, records_none, records_put}
use borrow.Author.Rules.{rules}
use Rattle.pgsolver_put.proofs.put.put_records.Lts as lts
use Rattle.pgsolver_put.proofs.put.put_records.Reads as reads
use Rattle.pgsolver_put.proofs.put.put_records.Tie as tie
use Rattle.pgsolver_put.proofs.put.put_records.Goals as goal

abbrev AtAtLoop : Type 0
AtAtLoop = lts.At-loop tie.the-claims reads.Pre reads.Post goal.the-invariant-loop-v goal.the-decreases-loop-v

abbrev AtInLoop : Type 0
AtInLoop = lts.In-loop tie.the-claims reads.Pre reads.Post goal.the-invariant-loop-v goal.the-decreases-loop-v

abbrev AtStart : Type 0
AtStart = lts.Start tie.the-claims reads.Pre reads.Post goal.the-invariant-loop-v goal.the-decreases-loop-v

-- the tables where the function begins
abbrev tables : AtStart → Tables
tables c = tables_of c.args.owners.now c.args.priorities.now c.args.offsets.now c.args.targets.now

abbrev begun : AtAtLoop → AtStart
begun c = c.before.before.before.before.before.before

row_at : (c : AtInLoop) → RecordRow (tables (begun c.before)) c.loop-v.v
row_at c = row (tables (begun c.before)) (begun c.before).requires.0 c.loop-v.v (omega arith)

pub loop-v-init : goal.loop-v-init
loop-v-init c =
    let at = c.before.before.before.before.before.before in
    (search rules, omega arith, records_none (tables at) at.args.at at.args.text.now)

pub bounds-offsets-v : goal.bounds-offsets-v
bounds-offsets-v c =
    let here = row_at c.before.before in
    omega (arith, here.next)

pub overflow_cast-begin : goal.overflow_cast-begin
overflow_cast-begin c = omega (arith, c.shared_slice_known-in-loop-v-1.given c.loop-v.v)

pub bounds-offsets-v-in-loop-v : goal.bounds-offsets-v-in-loop-v
bounds-offsets-v-in-loop-v c =
    let here = row_at c.before.before.before in
    omega (arith, here.next)

pub overflow_cast-end : goal.overflow_cast-end
overflow_cast-end c = omega (arith, c.shared_slice_known-in-loop-v-2-1.given (c.loop-v.v + 1))

pub bounds-priorities-v : goal.bounds-priorities-v
bounds-priorities-v c =
    let here = row_at c.before.before.before.before in
    omega (arith, here.priority)

pub offset_bounds-targets-begin : goal.offset_bounds-targets-begin
offset_bounds-targets-begin c =
    let here = row_at c.before.before.before.before.before in
    omega (arith, here.order, here.within, here.few)

pub slice_bounds-put_record-count : goal.slice_bounds-put_record-count
slice_bounds-put_record-count c =
    let here = row_at c.before.before.before.before.before in
    omega (arith, here.order)

pub slice_bounds-put_record-start : goal.slice_bounds-put_record-start
slice_bounds-put_record-start c =
    let here = row_at c.before.before.before.before.before in
    omega (arith, here.order)

pub slice_bounds-put_record-end : goal.slice_bounds-put_record-end
slice_bounds-put_record-end c =
    let here = row_at c.before.before.before.before.before in
    omega (arith, here.within)

pub put_record-next-requires : goal.put_record-next-requires
put_record-next-requires c =
    let inside = c.before.before.before.before.before.before.before in
    let here = row_at inside in
    let at = begun inside.before in
    let inv = inside.loop-v.invariant in
    (here.some, omega (arith, here.more, here.room, at.requires.1, inv.2.place, inv.2.long))

pub loop-v-preserved : goal.loop-v-preserved
loop-v-preserved c =
    let at = c.before.before.before.before.before.before.before.before.before.before.before in (
      search rules,
      omega arith,
      records_put (tables (begun at)) at.loop-v.v at.loop-v.invariant.2 c.put_record-next.ensures,
    )

pub returns : goal.returns
returns c =
    let at = c.before.before in
    let start = begun at in
    let all : at.loop-v.v ≡ length start.args.owners.now = omega (arith, at.loop-v.invariant.1) in
    subst
    (λ (k : ℕ). Puts start.args.at (records_text (tables start) k) start.args.text.now at.loop-v.text at.loop-v.next)
    all
    at.loop-v.invariant.2
