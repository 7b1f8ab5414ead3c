-- `make`: the first i words are made, by every law that `f` follows.
use Rattle.std.proofs.Common.{ℕ}
use Rattle.sets.specs.Wordwise.{Follows}
use Rattle.set_difference.specs.Without.{TakenTo}
use Rattle.set_difference.proofs.difference.make.Given as goal

abbrev pub invariant-loop-i : goal.invariant-loop-i
invariant-loop-i g l =
    (law : ℕ → ℕ → ℕ) → Follows law (goal.F-post g l.f) → TakenTo law l.into l.one l.other l.i l.initial.work l.work
