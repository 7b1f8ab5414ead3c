-- `size`: n is the size of the words passed, at most 64 a word.
use Prim.Native.Nat.{◌≤◌, ◌*◌}
use mathlib.Core.Path.{◌≡◌}
use lib.ListN.{take}
use Rattle.sets.specs.Size.{size}
use Rattle.sets.proofs.whole.size.Given as goal

abbrev pub invariant-loop-word : goal.invariant-loop-word
invariant-loop-word l = (l.n ≡ size (take l.word-index l.set)) × (l.n ≤ 64 * l.word-index)
