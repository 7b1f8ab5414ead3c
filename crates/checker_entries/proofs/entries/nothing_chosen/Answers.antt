-- `nothing_chosen` meets its contract.
use Rattle.std.specs.Prelude.{Bool, true, false, List, ◌≡◌, ◌≢◌, ℕ, ◌<◌, length}
use Rattle.std.specs.Bool.{MatchBool}
use Rattle.std.specs.List.{AllWithin, HoldsAt}
use Rattle.std.proofs.lemmas.Iterator.{cases_from_all, YieldsList-from_slice}
use native.Mathlib.Omega.{arith}
use borrow.Author.Rules.{rules}
use borrow.Author.Tests.{tests}
use Rattle.checker_entries.specs.Entries.{unchosen, chosen_somewhere, chosen_nowhere}
use Rattle.checker_entries.proofs.entries.nothing_chosen.Goals as goal

told :
    (entries : List ℕ) (r : Bool) →
    MatchBool r (AllWithin (λ x. x ≡ 65535) entries 0 (length entries))
    ((k : ℕ) × (k < length entries) × HoldsAt (λ x. x ≢ 65535) entries k) →
    r ≡ unchosen entries
told entries true h = chosen_nowhere entries (λ u l. h u 0 (omega arith) l)
told entries false (k, l, h) = chosen_somewhere entries k l (h 0)

pub returns : goal.returns
returns c =
    told _ _
    (cases_from_all _ _ _ (λ x. x ≡ 65535) (λ x. x ≢ 65535) c.all.ensures.ran (YieldsList-from_slice c.args.strategy.now cc)
    (λ x q k. search (rules, tests)) (λ x q k. search (rules, tests)))
