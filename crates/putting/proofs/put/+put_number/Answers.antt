-- `put_number` meets its contract, at a call with the value t.
use native.Mathlib.Omega.{arith}
use Rattle.putting.specs.Digits.{digit_room, digit_put, tenth_fits, last_room, last_put}
use Rattle.putting.proofs.put.+put_number.Goals as goal

pub bounds-out-at : goal.bounds-out-at
bounds-out-at t c = digit_room c.args.at c.args.value c.args.out.now c.if-value-lt10.true c.requires

pub returns-then-value-lt10 : goal.returns-then-value-lt10
returns-then-value-lt10 t c = digit_put c.args.at c.args.value c.args.out.now c.if-value-lt10.true c.requires

pub put_number-last-requires : goal.put_number-last-requires
put_number-last-requires t c = (
  omega arith,
  tenth_fits c.args.at c.args.value c.args.out.now c.if-value-lt10.false c.requires,
)

pub bounds-out-last : goal.bounds-out-last
bounds-out-last t c =
    last_room c.args.at c.args.value c.put_number-last.result c.args.out.now c.put_number-last.new.out
    c.if-value-lt10.false c.requires c.put_number-last.ensures

pub returns : goal.returns
returns t c =
    last_put c.args.at c.args.value c.put_number-last.result c.args.out.now c.put_number-last.new.out
    c.if-value-lt10.false c.requires c.put_number-last.ensures
