-- `put_counted` meets its contract, by cases on what was counted.
use Rattle.std.proofs.Common.{arith, rules}
use Rattle.printing.specs.Line.{word_short}
use Rattle.printing.proofs.line.put_counted.Goals as goal

pub put_number-requires : goal.put_number-requires
put_number-requires c = omega (arith, c.requires, word_short c.in-Some.count (search rules))

pub returns-in-Some : goal.returns-in-Some
returns-in-Some c =
    rw c.in-Some.is (c.put_number.ensures, omega (arith, c.put_number.ensures.place, word_short c.in-Some.count (search rules)))

pub returns-in-None : goal.returns-in-None
returns-in-None c = rw c.in-None.is (c.put_word.ensures, omega (arith, c.put_word.ensures.place))
