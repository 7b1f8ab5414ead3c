-- `find_losing` meets its contract: a search for the lowest vertex that is marked so.
use mathlib.Core.Path.{sym, ◌∙◌}
use Rattle.parity_game.specs.Search.{none_found, found_at}
use native.Mathlib.Omega.{arith}
use Rattle.checker.proofs.cycles.find_losing.Goals as goal

pub returns-then-is_losing : goal.returns-then-is_losing
returns-then-is_losing c =
    sym (found_at 24 _ _ c.loop-v.v (omega arith) c.loop-v.invariant (sym c.is_losing.ensures ∙ c.if-is_losing.true))

pub returns : goal.returns
returns c = sym (none_found 24 _ _ (λ k l. c.loop-v.invariant k (omega arith)))
