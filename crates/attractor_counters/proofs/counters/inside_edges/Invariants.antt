-- `inside_edges` meets its contract: the count is that of the edges of v before edge e that end inside.
use Prim.Native.Nat.{◌+◌, ◌≤◌}
use mathlib.Core.Path.{◌≡◌}
use lib.ListN.{get_or}
use Rattle.rules.specs.Words.{set_of}
use Rattle.attractor_counters.specs.Counters.{inside_up_to}
use Rattle.attractor_counters.proofs.counters.inside_edges.Given as goal

abbrev pub invariant-loop-e : goal.invariant-loop-e
invariant-loop-e l =
    (get_or l.offsets l.v 0 ≤ l.e) × (l.e ≤ get_or l.offsets (l.v + 1) 0) × (l.inside ≤ l.e) × (l.inside ≡ inside_up_to l.offsets l.targets l.v (set_of l.set) l.e)
