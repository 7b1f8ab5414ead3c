-- `pass_over`: what is left is kept while four words at a time have no bit.
use Prim.Native.Nat.{◌-◌, ◌≤◌}
use mathlib.Core.Path.{◌≡◌}
use Rattle.walk.specs.Walk.{words_from, left}
use Rattle.walk.proofs.members.pass_over.Given as goal

abbrev pub invariant-loop-at : goal.invariant-loop-at
invariant-loop-at l =
    let xs = words_from l.s l.base l.work in
    (left xs (record { at = l.from; word = 0 }) ≡ left xs (record { at = l.at; word = 0 })) × (l.at ≤ 64)

abbrev pub decreases-loop-at : goal.decreases-loop-at
decreases-loop-at l = l.s - l.at
