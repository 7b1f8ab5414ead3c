-- `next`: what is left is kept while words with no bit left are passed over. Then the lowest set bit is the next member.
use Prim.Native.Nat.{◌-◌, ◌≤◌}
use mathlib.Core.Path.{◌≡◌}
use Rattle.walk.specs.Walk.{words_from, left}
use Rattle.walk.proofs.members.Members.next.Given as goal

abbrev pub invariant-loop-word : goal.invariant-loop-word
invariant-loop-word l =
    let xs = words_from l.s l.base l.work in
    (left xs l.fn.self ≡ left xs (record { at = l.at; word = l.word })) × (l.at ≤ 64)

abbrev pub decreases-loop-word : goal.decreases-loop-word
decreases-loop-word l = l.s - l.at
