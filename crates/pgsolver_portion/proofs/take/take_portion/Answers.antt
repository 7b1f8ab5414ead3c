-- `take_portion` meets its contract: each end of the portion by its own law.
use native.Mathlib.Omega.{arith}
use borrow.Author.Rules.{rules}
use Rattle.pgsolver_portion.specs.Reached.{takes_on, takes_refused}
use Rattle.pgsolver_portion.proofs.take.take_portion.Goals as goal

pub returns-in-Ok : goal.returns-in-Ok
returns-in-Ok c =
    takes_on _ _ _ _ _ _ _ _ _ _ _ _ _ (λ k. omega (arith, c.type_inv.text k)) (search rules) (search rules)
    c.read_portion.ensures
    c.in-Ok.next
    c.in-Ok.is

pub returns-in-Err : goal.returns-in-Err
returns-in-Err c =
    takes_refused _ _ _ _ _ _ _ _ _ _ _ _ _ (λ k. omega (arith, c.type_inv.text k)) (search rules) (search rules)
    c.read_portion.ensures
    _ _ _ _ (search rules) (search rules)
    c.clear_tables.ensures
    c.in-Err.refusal
    c.in-Err.is
