-- `write_strategy` meets its contract: the entries passed are written.
use Rattle.std.proofs.Common.{◌≡◌, ℕ, ◌<◌, get_or}
use Rattle.attractor_outputs.specs.Outputs.{word_of, chosen}
use Rattle.attractor_outputs.proofs.strategy.write_strategy.Given as goal

abbrev pub invariant-loop-v : goal.invariant-loop-v
invariant-loop-v l =
    (k : ℕ) → k < l.v → get_or l.strategy k 0 ≡ chosen l.owners l.alpha l.target l.res (word_of l.work l.entries) k
