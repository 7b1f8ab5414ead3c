-- `drop_found` meets its contract: what was found is copied, drawn to and taken from V.
use native.Mathlib.Omega.{arith}
use mathlib.Core.Logic.{inl}
use Rattle.quasi_level.specs.Pieces.{drop_attractable, drop_made}
use Rattle.quasi_level.proofs.level.drop_found.Goals as goal

pub copy_with-requires : goal.copy_with-requires
copy_with-requires c =
    let next = c.next_level-up.ensures in
    let behind = c.next_set-drawn.ensures in
    let high = c.requires.ready.high in
    record { into_fits = omega arith; from_fits = omega arith; apart = inl (omega arith) }

pub attract-requires : goal.attract-requires
attract-requires c =
    drop_attractable c.requires c.next_set-drawn.ensures c.next_level-up.ensures c.copy_with.ensures

pub difference_with-requires : goal.difference_with-requires
difference_with-requires c =
    let high = c.requires.ready.high in
    let behind = c.next_set-drawn.ensures in
    let long = c.attract.auto.work in
    let long₁ = c.copy_with.ensures.long in
    record { into_fits = omega arith; from_fits = omega arith; apart = inl (omega arith) }

pub returns : goal.returns
returns c =
    λ priorities ok.
    drop_made c.requires c.next_set-drawn.ensures c.next_level-up.ensures c.copy_with.ensures priorities
    (c.attract.ensures priorities ok)
    c.difference_with.ensures
