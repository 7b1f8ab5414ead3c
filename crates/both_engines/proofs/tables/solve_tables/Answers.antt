-- `solve_tables` meets its contract: its arrays have room for 128 vertices and 512 edges.
use Prim.Native.Nat.{◌≤◌}
use native.Mathlib.Omega.{arith}
use lib.ListN.{length, length-take}
use Rattle.both_engines.specs.Solved.{words_few, work_enough}
use Rattle.both_engines.proofs.tables.solve_tables.Lts as lts
use Rattle.both_engines.proofs.tables.solve_tables.Reads as reads
use Rattle.both_engines.proofs.tables.solve_tables.Tie as tie
use Rattle.both_engines.proofs.tables.solve_tables.Goals as goal

abbrev AtAfterSetWords : Type 0
AtAfterSetWords = lts.After-set_words tie.the-claims reads.Pre reads.Post

abbrev AtStart : Type 0
AtStart = lts.Start tie.the-claims reads.Pre reads.Post

-- where the function begins
abbrev start : AtAfterSetWords → AtStart
start c = c.before.before.before.before.before.before

-- a set has two words at most
two : (c : AtAfterSetWords) → c.set_words-s.result ≤ 2
two c =
    let n = length (start c).args.owners.now in
    omega (arith, c.set_words-s.ensures, words_few n (start c).requires.few)

pub slice_bounds-even-end : goal.slice_bounds-even-end
slice_bounds-even-end c = two c.before.before.before.before.before

pub slice_bounds-odd-end : goal.slice_bounds-odd-end
slice_bounds-odd-end c = two c.before.before.before.before.before.before

pub solve_in-requires : goal.solve_in-requires
solve_in-requires c =
    let fresh = c.before in
    let at1 = fresh.before.before.before.before.before.before.before.before.before in
    let at = start at1 in
    let n = length at.args.owners.now in
    record {
      counted = record { accepted = at.requires.accepted; fresh = fresh.write_fresh.ensures };
      few = at.requires.few;
      room = at.requires.room;
      even_size = simp length-take (omega (arith, two at1, at1.set_words-s.ensures));
      odd_size = simp length-take (omega (arith, two at1, at1.set_words-s.ensures));
      strategy_size = simp length-take (omega (arith, at.requires.few));
      work_size = work_enough n (length at.args.targets.now) at.requires.few at.requires.short;
    }
