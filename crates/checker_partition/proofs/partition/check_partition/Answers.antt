-- `check_partition` meets its contract: a search for the lowest bit that speaks against the partition.
use mathlib.Core.Path.{sym, ◌∙◌}
use Rattle.rules.specs.Checker.{check21}
use Rattle.parity_game.specs.Search.{none_found, found_at}
use Rattle.checker_partition.specs.Partition.{stray_at}
use native.Mathlib.Omega.{arith}
use Rattle.checker_partition.proofs.partition.check_partition.Goals as goal

pub returns-then-is_stray : goal.returns-then-is_stray
unfolding check21 stray_at
returns-then-is_stray c =
    sym
    (found_at 21 _ _ c.loop-b.b (omega (arith, c.requires.even_long)) c.loop-b.invariant
    (sym c.is_stray.ensures ∙ c.if-is_stray.true))

pub returns : goal.returns
unfolding check21 stray_at
returns c = sym (none_found 21 _ _ (λ k l. c.loop-b.invariant k (omega (arith, c.requires.even_long))))
