-- `put_ended` meets its contract: two pieces, one behind the other.
use native.Mathlib.Omega.{arith}
use lib.ListN.{length-append}
use Rattle.rules.specs.Decimal.{decimal}
use Rattle.putting.specs.Puts.{puts_both}
use Rattle.pgsolver_line.proofs.line.put_ended.Goals as goal

pub put_number-at-requires : goal.put_number-at-requires
put_number-at-requires c =
    let at = c.before.before.before.before in
    omega (arith, at.requires, length-append (decimal at.args.value) at.args.behind.now)

pub put_word-requires : goal.put_word-requires
put_word-requires c =
    let called = c.before.before.before.before in
    let at = called.before.before.before.before in
    omega (
      arith,
      at.requires,
      called.put_number-at.ensures.place,
      called.put_number-at.ensures.long,
      length-append (decimal at.args.value) at.args.behind.now,
    )

pub returns : goal.returns
returns c =
    let called = c.before.before.before in
    puts_both called.put_number-at.ensures called.put_word.ensures
