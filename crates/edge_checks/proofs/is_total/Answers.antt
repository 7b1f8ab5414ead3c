-- `is_total` meets its contract. The invariant of the loop over vertices: every vertex passed has an edge. The loop over a
-- vertex's edges is left in its first turn, so its invariant is only that it has not taken one.
use Rattle.std.proofs.Common.{◌≡◌, false, sym, rules, arith, below_more}
use borrow.Author.Tests.{eq-eqb, ne_eqb}
use Rattle.rules.specs.Tables.{check8, degree}
use Rattle.parity_game.specs.Search.{found_at, none_found}
use Rattle.edge_checks.proofs.is_total.Invariants.{dead_end}
use Rattle.edge_checks.proofs.is_total.Goals as goal

pub vertices-preserved : goal.vertices-preserved
unfolding degree
vertices-preserved c =
    let offsets = c.args.offsets.now in
    let v = c.vertices.v in
    -- a turn of the inner loop shows an edge of the vertex
    let has-edge : dead_end offsets v ≡ false = ne_eqb (degree offsets v) 0 (λ (e : degree offsets v ≡ 0). omega arith) in
    (search rules, below_more _ _ c.vertices.invariant.1 has-edge)

pub returns-in-vertices : goal.returns-in-vertices
unfolding check8 degree
returns-in-vertices c =
    let offsets = c.args.offsets.now in
    let no-edge = eq-eqb (degree offsets c.vertices.v) 0 (omega arith) in
    sym (found_at 8 c.args.n (dead_end offsets) c.vertices.v (omega arith) c.vertices.invariant.1 no-edge)

pub returns : goal.returns
unfolding check8
returns c = sym (none_found 8 c.args.n (dead_end c.args.offsets.now) (search rules))
