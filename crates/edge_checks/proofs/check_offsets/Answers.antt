-- `check_offsets` meets its contract: the first window that falls stands where check 6 names it.
use Rattle.std.proofs.Common.{ℕ, ◌+◌, ◌≡◌, Bool, rules, List, ltb, get_or}
use borrow.Author.Tests.{eq-eqb, ne_eqb}
use Rattle.rules.specs.Outcome.{given_at, refused}
use Rattle.rules.specs.Tables.{check6}
use Rattle.parity_game.specs.Search.{found_at, none_found}
use Rattle.edge_checks.proofs.check_offsets.Goals as goal

abbrev falls : List ℕ → ℕ → Bool
falls offsets i = ltb (get_or offsets (i + 1) 0) (get_or offsets i 0)

pub returns-then-offsets-ne0 : goal.returns-then-offsets-ne0
unfolding check6
returns-then-offsets-ne0 c = simp (ne_eqb _ _ c.if-offsets-ne0.true)

pub returns-in-Some : goal.returns-in-Some
unfolding check6
returns-in-Some c =
    let found : given_at 6 c.args.n (falls c.args.offsets.now) ≡ refused 6 c.in-Some.i =
    found_at 6 c.args.n (falls c.args.offsets.now) c.in-Some.i (search rules) (search rules) (search rules) in
    simp (eq-eqb _ _ c.if-offsets-ne0.false, found)

pub returns-then-offsets-n : goal.returns-then-offsets-n
unfolding check6
returns-then-offsets-n c =
    let none-fall = none_found 6 c.args.n (falls c.args.offsets.now) (search rules) in
    simp (eq-eqb _ _ c.if-offsets-ne0.false, none-fall, ne_eqb _ _ c.if-offsets-n.true)

pub returns : goal.returns
unfolding check6
returns c =
    let none-fall = none_found 6 c.args.n (falls c.args.offsets.now) (search rules) in
    simp (eq-eqb _ _ c.if-offsets-ne0.false, none-fall, eq-eqb _ _ c.if-offsets-n.false)
