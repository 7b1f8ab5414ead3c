-- `check_lent` meets its contract. Past the sizes nothing was refused, so the bits decide; else that refusal is returned.
use Rattle.std.proofs.Common.{sym, length}
use Rattle.attractor_door.specs.Answered.{sizes_right}
use Rattle.attractor_door.proofs.door.check_lent.Goals as goal

pub check_bits-requires : goal.check_bits-requires
check_bits-requires c =
    let a = c.args in
    let right =
    sizes_right a.n a.m (length a.within.now) (length a.target.now) a.res a.strategy a.distances a.work
    (sym c.in_ok-check_sizes.ensures) in
    (right.within_size, right.target_size, c.requires.0)
