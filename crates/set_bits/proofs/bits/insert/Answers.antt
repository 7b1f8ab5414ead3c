-- `insert` puts 1 at v: the word of v with that bit set.
use Rattle.set_bits.specs.Single.{put_insert}
use Rattle.set_bits.proofs.bits.insert.Goals as goal

pub returns : goal.returns
returns c = put_insert c.args.set.now c.args.v c.requires
