-- `attract_top` meets its contract: what is collected is drawn to, and V without it is copied.
use native.Mathlib.Omega.{arith}
use mathlib.Core.Logic.{inr}
use mathlib.Core.Path.{◌∙◌}
use Rattle.quasi_level.specs.Pieces.{top_collects, top_attractable, top_made}
use Rattle.quasi_level.proofs.level.attract_top.Goals as goal

pub collect-requires : goal.collect-requires
collect-requires c = top_collects c.requires c.next_set-drawn.ensures c.clear.ensures

pub attract-requires : goal.attract-requires
attract-requires c =
    top_attractable c.requires c.next_set-drawn.ensures c.clear.ensures c.collect.ensures c.index-alpha.ensures.1

pub copy_with-requires : goal.copy_with-requires
copy_with-requires c =
    let high = c.requires.high in
    let next = c.next_level-up.ensures in
    let behind = c.next_set-drawn.ensures in
    let long = c.attract.auto.work in
    let long₂ = c.collect.ensures.long in
    let long₁ = c.clear.ensures.long in
    record { into_fits = omega arith; from_fits = omega arith; apart = inr (omega arith) }

pub difference_with-requires : goal.difference_with-requires
difference_with-requires c =
    let high = c.requires.high in
    let next = c.next_level-up.ensures in
    let behind = c.next_set-drawn.ensures in
    let long = c.attract.auto.work in
    let long₃ = c.copy_with.ensures.long in
    let long₂ = c.collect.ensures.long in
    let long₁ = c.clear.ensures.long in
    record { into_fits = omega arith; from_fits = omega arith; apart = inr (omega arith) }

pub returns : goal.returns
returns c =
    top_made c.requires c.next_set-drawn.ensures c.clear.ensures c.collect.ensures c.next_level-up.ensures
    (c.index-alpha.ensures.0 ∙ c.from_priority.ensures)
    (c.attract.ensures c.args.priorities.now c.requires.accepted)
    c.copy_with.ensures
    c.difference_with.ensures
