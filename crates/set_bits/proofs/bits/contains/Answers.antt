-- `contains` reads the bit of v: its word shifted down to it, and masked.
use Rattle.set_bits.specs.Single.{read_bit}
use Rattle.set_bits.proofs.bits.contains.Goals as goal

pub returns : goal.returns
returns c = read_bit c.args.set.now c.args.v
