-- `write_altered` meets its contract. The loop's invariant: the altered vertices passed are written, each with its old priority.
use mathlib.Core.Bool.{true}
use mathlib.Core.Path.{◌≡◌, sym, ◌∙◌}
use Prim.Native.Nat.{◌<◌, ◌+◌}
use native.Mathlib.Omega.{arith}
use lib.ListN.{length, get_or, length-set}
use Rattle.rules.specs.Mending.{altered, altered_up_to}
use Rattle.rules.specs.Tables.{Tables, tables_of}
use Rattle.mend_counts.specs.Bare.{bared, bared_shaped, bared_altered}
use Rattle.mend_counts.specs.Placed.{written_none, written_pair, written_length}
use Rattle.mend_counts.specs.Steps.{alone_altered, kept_unaltered, altered_pair, altered_skip, altered_room}
use borrow.Author.Rules.{rules}
use Rattle.mend_list.proofs.list.write_altered.Lts as lts
use Rattle.mend_list.proofs.list.write_altered.Reads as reads
use Rattle.mend_list.proofs.list.write_altered.Tie as tie
use Rattle.mend_list.proofs.list.write_altered.Goals as goal
use Rattle.mend_list.proofs.list.write_altered.Goals.{then-kept_edges-eq0, else-kept_edges-eq0}

abbrev AtAtLoop : Type 0
AtAtLoop = lts.At-loop tie.the-claims reads.Pre reads.Post goal.the-invariant-loop-v goal.the-decreases-loop-v

abbrev AtStart : Type 0
AtStart = lts.Start tie.the-claims reads.Pre reads.Post goal.the-invariant-loop-v goal.the-decreases-loop-v

abbrev AtThen1 : Type 0
AtThen1 = lts.Then1 tie.the-claims reads.Pre reads.Post goal.the-invariant-loop-v goal.the-decreases-loop-v

abbrev tables : AtStart → Tables
tables c = tables_of c.args.owners.now c.args.priorities.now c.args.offsets.now c.args.targets.now

abbrev start : AtAtLoop → AtStart
start c = c.before.before.before.before.before.before

pub loop-v-init : goal.loop-v-init
unfolding altered_up_to
loop-v-init c =
    (search rules, search rules, written_none _ _ (omega (arith, c.requires.1)))

pub kept_edges-requires : goal.kept_edges-requires
kept_edges-requires c =
    let begun = start c.before.before in (bared_shaped (tables begun) begun.requires.0.shaped, omega arith)

-- the vertex at hand is altered
alone :
    (c : AtThen1) →
    let at = c.before.before.before in altered (tables (start at)) at.loop-v.v ≡ true
alone c =
    let at = c.before.before.before in
    let t = tables (start at) in
    let v = at.loop-v.v in
    let kept = c.kept_edges in
    sym (bared_altered t v) ∙ alone_altered (bared t) v kept.result kept.ensures c.if-kept_edges-eq0.true

-- and has room with its priority
room :
    (c : AtThen1) →
    let at = c.before.before.before in
    (at.loop-v.end + 1 < length (start at).args.list.now) × (at.loop-v.end + 1 < length at.loop-v.list)
room c =
    let at = c.before.before.before in
    let t = tables (start at) in
    let w = at.loop-v.invariant.2 in
    let fits = altered_room t at.loop-v.v (length t.owners) (omega arith) (alone c) in
    let long = written_length _ _ _ _ _ w in
    (omega (arith, w.ends, (start at).requires.1), omega (arith, w.ends, (start at).requires.1))

pub overflow_cast-list : goal.overflow_cast-list
overflow_cast-list c = let at = c.before.before.before.before in omega (arith, (start at).requires.0.shaped.few_vertices)

pub offset_bounds-list-end : goal.offset_bounds-list-end
offset_bounds-list-end c = let r = room c.before in omega arith

pub bounds-list-end : goal.bounds-list-end
bounds-list-end c = let r = room c.before in omega arith

pub bounds-priorities-v : goal.bounds-priorities-v
bounds-priorities-v c =
    let at = c.before.before.before.before.before in omega (arith, (start at).requires.0.priority_each)

pub overflow_add-list : goal.overflow_add-list
overflow_add-list c = let r = room c.before.before in omega arith

pub offset_bounds-list-end-then-kept_edges-eq0 : goal.offset_bounds-list-end-then-kept_edges-eq0
offset_bounds-list-end-then-kept_edges-eq0 c = let r = room c.before.before in omega arith

pub bounds-list-end-then-kept_edges-eq0 : goal.bounds-list-end-then-kept_edges-eq0
bounds-list-end-then-kept_edges-eq0 c = simp length-set (room c.before.before).1

pub overflow_add-end : goal.overflow_add-end
overflow_add-end c = let r = room c.before.before in omega arith

pub loop-v-preserved : goal.loop-v-preserved
loop-v-preserved c =
    let at = c.before.before.before.before in
    let t = tables (start at) in
    let v = at.loop-v.v in
    let kept = c.kept_edges in
    let w = at.loop-v.invariant.2 in (
      search rules,
      search rules,
      elim c.if-kept_edges-eq0.branch [
        | then-kept_edges-eq0 a ↦ let here : AtThen1 = record { before = c.before.before; if-kept_edges-eq0 = a.if-kept_edges-eq0 } in
            rw (a.list-is, a.end-is, altered_pair t v (alone here))
            (written_pair (start at).args.at (altered_up_to t v) (start at).args.list.now at.loop-v.list at.loop-v.end v
            (get_or t.priorities v 0) w (room here).0)
        | else-kept_edges-eq0 a ↦ let not = sym (bared_altered t v) ∙ kept_unaltered (bared t) v kept.result kept.ensures a.if-kept_edges-eq0.false in
            rw (a.list-is, a.end-is, altered_skip t v not) w
      ],
    )

pub shape_of-list : goal.shape_of-list
shape_of-list c = written_length _ _ _ _ _ c.loop-v.invariant.2

pub returns : goal.returns
returns c =
    let at = c.before.before in
    let t = tables (start at) in
    let all : at.loop-v.v ≡ length t.owners = omega arith in rw (sym all) at.loop-v.invariant.2.stands
