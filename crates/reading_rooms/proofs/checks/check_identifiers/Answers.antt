-- `check_identifiers` meets its contract. The loop's invariant: each identifier passed was seen once.
use mathlib.Core.Bool.{not}
use mathlib.Core.Path.{ap}
use native.Mathlib.Omega.{arith}
use borrow.Author.Tests.{eq-eqb, ne_eqb}
use lib.ListN.{get_or}
use Rattle.std.proofs.Common.{◌<◌, ◌-◌}
use Rattle.std.proofs.lemmas.List.{get_or-take}
use Rattle.grammar.specs.Waiting.{seen}
use Rattle.parity_game.specs.Search.{found_at, none_found}
use Rattle.reading_rooms.proofs.checks.check_identifiers.Invariants.{wrong}
use Rattle.reading_rooms.proofs.checks.check_identifiers.Goals as goal
use Rattle.reading_rooms.proofs.checks.check_identifiers.Goals.{else-said-via-then-said+else-highest-n, else-said-via-else-said}

pub returns-then-word-ne1 : goal.returns-then-word-ne1
returns-then-word-ne1 c =
    let below : c.loop-i.i < c.args.n - 0 = omega arith in
    let here = ne_eqb (seen (get_or c.args.offsets.now c.loop-i.i 0)) 1 (rw get_or-take at c.if-word-ne1.true) in
    simp (found_at 31 c.args.n (wrong c.args.offsets.now) c.loop-i.i (omega arith) c.loop-i.invariant (ap not here))

pub returns-then-highest-n : goal.returns-then-highest-n
returns-then-highest-n c =
    simp (none_found 31 c.args.n (wrong c.args.offsets.now) (λ k l. c.loop-i.invariant k (omega arith)), c.if-said.true, ne_eqb _ _ c.if-highest-n.true)

pub returns : goal.returns
returns c =
    rw (none_found 31 c.args.n (wrong c.args.offsets.now) (λ k l. c.loop-i.invariant k (omega arith)))
    (elim c.else-said.branch [
      | else-said-via-then-said+else-highest-n w ↦ rw (w.if-said.true, eq-eqb _ _ w.if-highest-n.false)
      | else-said-via-else-said w ↦ rw w.if-said.false
    ])
