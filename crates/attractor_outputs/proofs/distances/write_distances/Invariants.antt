-- `write_distances` meets its contract: the distances passed are written.
use Rattle.std.proofs.Common.{◌≡◌, ℕ, ◌<◌, get_or}
use Rattle.attractor_outputs.specs.Outputs.{word_of, measure}
use Rattle.attractor_outputs.proofs.distances.write_distances.Given as goal

abbrev pub invariant-loop-v : goal.invariant-loop-v
invariant-loop-v l = (k : ℕ) → k < l.v → get_or l.distances k 0 ≡ measure l.target l.res (word_of l.work l.far) k
