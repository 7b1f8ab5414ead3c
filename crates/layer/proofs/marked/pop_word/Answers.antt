use mathlib.Core.List.{List}
use Prim.Native.Nat.{ℕ, ◌^◌, ◌<◌}
use native.Mathlib.Omega.{arith}
use lib.Count.{trailing_le}
use lib.ListN.{length-set}
use Rattle.layer.specs.Layer.{room, marks}
use Rattle.layer.specs.Laws.{at, at_below, layer_popped}
use Rattle.layer.proofs.marked.pop_word.Lts as lts
use Rattle.layer.proofs.marked.pop_word.Reads as reads
use Rattle.layer.proofs.marked.pop_word.Goals as goal

abbrev AtAfterSliceKnown : Type 0
AtAfterSliceKnown = lts.After-slice_known reads.Pre reads.Post

abbrev xs : AtAfterSliceKnown → List ℕ
xs c = c.args.layer.now

marks_fit : (c : AtAfterSliceKnown) → marks (xs c) < 2 ^ 64
marks_fit c = (c.slice_known-1.given (room (xs c))).fits

below : (c : AtAfterSliceKnown) → at (xs c) c.requires (marks_fit c) < room (xs c)
below c = at_below (xs c) c.requires (marks_fit c)

pub overflow_cast-at : goal.overflow_cast-at
overflow_cast-at c = omega (arith, trailing_le 64 (marks (xs c.before)))

pub offset_bounds-layer-at : goal.offset_bounds-layer-at
offset_bounds-layer-at c = omega (arith, trailing_le 64 (marks (xs c.before)))

pub bounds-layer-at : goal.bounds-layer-at
bounds-layer-at c = omega (arith, below c.before.before)

pub offset_bounds-layer-at-2 : goal.offset_bounds-layer-at-2
offset_bounds-layer-at-2 c = omega (arith, trailing_le 64 (marks (xs c.before)))

pub bounds-layer-at-2 : goal.bounds-layer-at-2
bounds-layer-at-2 c = omega (arith, below c.before)

pub bounds-layer-s-2 : goal.bounds-layer-s-2
bounds-layer-s-2 c = simp length-set (omega (arith, below c.before))

pub returns : goal.returns
returns c = layer_popped (xs c.before) c.requires (marks_fit c.before)
