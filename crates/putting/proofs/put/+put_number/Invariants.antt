-- The measure of `put_number` is the value, of which a tenth is less.
use Rattle.putting.proofs.put.+put_number.Given as goal

abbrev pub decreases-put_number : goal.decreases-put_number
decreases-put_number l = l.value
