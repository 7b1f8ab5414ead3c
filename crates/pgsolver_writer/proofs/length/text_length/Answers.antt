-- `text_length` meets its contract. The loop's invariant: the sum is what the header and the records passed need.
use mathlib.Core.Path.{◌≡◌, sym, ap, ◌∙◌}
use Prim.Native.Nat.{ℕ, ◌+◌}
use native.Mathlib.Omega.{arith}
use lib.ListN.{length}
use Rattle.rules.specs.Tables.{Tables, tables_of}
use Rattle.rules.specs.Writing.{records_text, header_text}
use Rattle.writing.specs.Lengths.{header_length, text_length, text_bounded}
use Rattle.pgsolver_line.specs.Records.{RecordRow, row, records_empty}
use borrow.Author.Rules.{rules}
use Rattle.pgsolver_writer.proofs.length.text_length.Lts as lts
use Rattle.pgsolver_writer.proofs.length.text_length.Reads as reads
use Rattle.pgsolver_writer.proofs.length.text_length.Tie as tie
use Rattle.pgsolver_writer.proofs.length.text_length.Goals as goal

abbrev AtAtLoop : Type 0
AtAtLoop = lts.At-loop tie.the-claims reads.Pre reads.Post goal.the-invariant-loop-v goal.the-decreases-loop-v

abbrev AtInLoop : Type 0
AtInLoop = lts.In-loop tie.the-claims reads.Pre reads.Post goal.the-invariant-loop-v goal.the-decreases-loop-v

abbrev AtStart : Type 0
AtStart = lts.Start tie.the-claims reads.Pre reads.Post goal.the-invariant-loop-v goal.the-decreases-loop-v

-- the tables where the function begins
abbrev tables : AtStart → Tables
tables c = tables_of c.args.owners.now c.args.priorities.now c.args.offsets.now c.args.targets.now

abbrev begun : AtAtLoop → AtStart
begun c = c.before.before.before.before.before.before

row_at : (c : AtInLoop) → RecordRow (tables (begun c.before)) c.loop-v.v
row_at c = row (tables (begun c.before)) (begun c.before).requires c.loop-v.v (omega arith)

pub overflow_add-sum : goal.overflow_add-sum
overflow_add-sum c =
    let at = c.before.before.before.before.before.before in
    omega (
      arith,
      header_length (length at.args.owners.now),
      text_length (tables at),
      text_bounded (tables at) at.requires.accepted,
    )

pub loop-v-init : goal.loop-v-init
loop-v-init c =
    let at = c.before.before.before.before.before.before in (
      search rules,
      omega arith,
      omega (arith, header_length (length at.args.owners.now), records_empty (tables at)),
    )

pub bounds-offsets-v : goal.bounds-offsets-v
bounds-offsets-v c =
    let here = row_at c.before.before in
    omega (arith, here.next)

pub overflow_cast-begin : goal.overflow_cast-begin
overflow_cast-begin c = omega (arith, c.shared_slice_known-in-loop-v-1.given c.loop-v.v)

pub bounds-offsets-v-in-loop-v : goal.bounds-offsets-v-in-loop-v
bounds-offsets-v-in-loop-v c =
    let here = row_at c.before.before.before in
    omega (arith, here.next)

pub overflow_cast-end : goal.overflow_cast-end
overflow_cast-end c = omega (arith, c.shared_slice_known-in-loop-v-2-1.given (c.loop-v.v + 1))

pub bounds-priorities-v : goal.bounds-priorities-v
bounds-priorities-v c =
    let here = row_at c.before.before.before.before in
    omega (arith, here.priority)

pub offset_bounds-targets-begin : goal.offset_bounds-targets-begin
offset_bounds-targets-begin c =
    let here = row_at c.before.before.before.before.before in
    omega (arith, here.order, here.within, here.few)

pub slice_bounds-record_length-count : goal.slice_bounds-record_length-count
slice_bounds-record_length-count c =
    let here = row_at c.before.before.before.before.before in
    omega (arith, here.order)

pub slice_bounds-record_length-start : goal.slice_bounds-record_length-start
slice_bounds-record_length-start c =
    let here = row_at c.before.before.before.before.before in
    omega (arith, here.order)

pub slice_bounds-record_length-end : goal.slice_bounds-record_length-end
slice_bounds-record_length-end c =
    let here = row_at c.before.before.before.before.before in
    omega (arith, here.within)

pub record_length-sum-requires : goal.record_length-sum-requires
record_length-sum-requires c =
    let here = row_at c.before.before.before.before.before.before in
    (here.some, omega (arith, here.more, here.room, here.small))

pub overflow_add-sum-in-loop-v : goal.overflow_add-sum-in-loop-v
overflow_add-sum-in-loop-v c =
    let inside = c.before.before.before.before.before.before.before in
    let here = row_at inside in
    let at = begun inside.before in
    omega (
      arith,
      here.more,
      here.room,
      c.record_length-sum.ensures,
      inside.loop-v.invariant.2,
      text_length (tables at),
      text_bounded (tables at) at.requires.accepted,
    )

pub loop-v-preserved : goal.loop-v-preserved
loop-v-preserved c =
    let inside = c.before.before.before.before.before.before.before in
    let here = row_at inside in
    (search rules, omega arith, omega (arith, here.more, c.record_length-sum.ensures, inside.loop-v.invariant.2))

pub returns : goal.returns
returns c =
    let at = c.before.before.before.before.before.before.before.before in
    let inv = c.loop-v.invariant in
    let all : c.loop-v.v ≡ length at.args.owners.now = omega (arith, inv.1) in
    inv.2 ∙
    ap (λ (k : ℕ). length (header_text (length at.args.owners.now)) + length (records_text (tables at) k)) all ∙
    sym (text_length (tables at))
