-- `check_owners_equal` meets its contract.
use mathlib.Core.Path.{sym, ap, ◌∙◌}
use Rattle.std.specs.Prelude.{not, List, ◌≡◌, ◌≢◌, ℕ, ◌<◌, eqb, length, get_or}
use Rattle.std.specs.List.{AllWithin, HoldsAt}
use Rattle.std.proofs.lemmas.Iterator.{cases_from_all, YieldsList-from_slice}
use Rattle.rules.specs.Counting.{Set}
use Rattle.rules.specs.Outcome.{none, refused}
use Rattle.rules.specs.Solitaire.{check11}
use Rattle.basics.specs.Basics.{some_intro, false_some}
use borrow.Author.Rules.{rules}
use borrow.Author.Tests.{tests, eq-eqb, ne_eqb}
use native.Mathlib.Omega.{arith}
use Rattle.solitaire_game.proofs.checks.check_owners_equal.Goals as goal

module _ (owners : List ℕ) (first : ℕ) (is : first ≡ get_or owners 0 0) where
  abbrev differs : Set
  differs v = not (eqb (get_or owners v 0) (get_or owners 0 0))

  all_same : AllWithin (λ x. x ≡ first) owners 0 (length owners) → none ≡ check11 (length owners) owners
  unfolding check11
  all_same h = rw (false_some (length owners) differs (λ v l. ap not (eq-eqb _ _ (h v 0 (omega arith) l ∙ is))))

  one_differs :
      (v : ℕ) × (v < length owners) × HoldsAt (λ x. x ≢ first) owners v → refused 11 0 ≡ check11 (length owners) owners
  unfolding check11
  one_differs (v, l, h) = rw (some_intro (length owners) differs v l (ap not (ne_eqb _ _ (λ e. h 0 (e ∙ sym is)))))

pub returns-then-all : goal.returns-then-all
returns-then-all c =
    all_same _ _ c.sole_owner-first.ensures
    (cases_from_all _ _ _ (λ x. x ≡ c.sole_owner-first.result) (λ x. x ≢ c.sole_owner-first.result) c.if-all.ensures.ran
    (YieldsList-from_slice c.args.owners.now cc) (λ x q k. search (rules, tests)) (λ x q k. search (rules, tests)))

pub returns-else-all : goal.returns-else-all
returns-else-all c =
    one_differs _ _ c.sole_owner-first.ensures
    (cases_from_all _ _ _ (λ x. x ≡ c.sole_owner-first.result) (λ x. x ≢ c.sole_owner-first.result) c.if-all.ensures.ran
    (YieldsList-from_slice c.args.owners.now cc) (λ x q k. search (rules, tests)) (λ x q k. search (rules, tests)))
