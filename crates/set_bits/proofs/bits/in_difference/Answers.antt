-- `in_difference` reads the bit of v of the one word without the other's bits.
use native.Mathlib.Omega.{arith}
use Prim.Native.Nat.{◌/◌}
use Rattle.set_bits.specs.Single.{read_difference}
use Rattle.set_bits.proofs.bits.in_difference.Goals as goal

pub returns : goal.returns
returns c =
    let a = c.args in
    read_difference a.set.now a.without.now a.v (omega (arith, c.shared_slice_known-2-1.given (a.v / 64)))
