-- `put_winners` meets its contract. The loop's invariant: the winners of the vertices passed are put.
use Prim.Native.Nat.{◌-◌}
use Rattle.rules.specs.Printing.{winner_digits}
use Rattle.rules.specs.Words.{set_of}
use Rattle.putting.specs.Puts.{Putting}
use Rattle.putting.proofs.put.put_winners.Given as goal

abbrev pub invariant-loop-v : goal.invariant-loop-v
invariant-loop-v l = Putting l.at l.v (winner_digits l.n (set_of l.odd)) l.initial.out l.out

abbrev pub decreases-loop-v : goal.decreases-loop-v
decreases-loop-v l = l.n - l.v
