-- `combine`: so far the first i words of the part, by every law that `f` follows.
use Rattle.std.proofs.Common.{ℕ}
use Rattle.set_pairs.specs.Wordwise.{Follows, Upto}
use Rattle.set_pairs.proofs.pairs.combine.Given as goal

abbrev pub invariant-loop-i : goal.invariant-loop-i
invariant-loop-i g l =
    (law : ℕ → ℕ → ℕ) → Follows law (goal.F-post g l.f) → Upto law l.into l.from l.s l.i l.initial.words l.words
