-- `ask` meets its contract, by cases on how many arguments there are and what the first is.
use Rattle.std.proofs.Common.{sym, ◌∙◌, arith}
use Rattle.std.specs.Prelude.{◌<◌}
use Rattle.arguments.specs.Asking.{asks_none, asks_many, asks_wrong, asks_one}
use Rattle.arguments.specs.Asking.{not_fine_empty, not_fine_long, not_fine_digits, is_fine}
use Rattle.arguments.proofs.arguments.ask.Goals as goal
use Rattle.arguments.proofs.arguments.ask.Goals.{then-given-gt2-via-then-given-gt2, then-given-gt2-via-else-given-gt2+then-first-eq0, then-given-gt2-via-else-given-gt2+else-first-eq0+then-first-gt9}

pub returns-then-given-le1 : goal.returns-then-given-le1
returns-then-given-le1 c = asks_none c.args.given c.args.first.now c.if-given-le1.true

pub returns-then-given-gt2 : goal.returns-then-given-gt2
returns-then-given-gt2 c =
    let given = c.args.given in
    let first = c.args.first.now in
    let some : 1 < given = omega arith in
    elim c.then-given-gt2.branch [
      | then-given-gt2-via-then-given-gt2 w ↦ asks_many given first w.if-given-gt2.true
      | then-given-gt2-via-else-given-gt2+then-first-eq0 w ↦
          asks_wrong given first some (not_fine_empty first w.if-first-eq0.true)
      | then-given-gt2-via-else-given-gt2+else-first-eq0+then-first-gt9 w ↦
          asks_wrong given first some (not_fine_long first w.if-first-gt9.true)
    ]

pub returns-then-not-all_digits : goal.returns-then-not-all_digits
returns-then-not-all_digits c =
    asks_wrong c.args.given c.args.first.now (omega arith)
    (not_fine_digits c.args.first.now (sym c.all_digits.ensures ∙ c.if-not-all_digits.true))

pub value_of-requires : goal.value_of-requires
value_of-requires c = (omega arith, sym c.all_digits.ensures ∙ c.if-not-all_digits.false)

pub returns : goal.returns
returns c =
    let first = c.args.first.now in
    asks_one c.args.given first c.value_of.result (omega arith) (omega arith)
    (is_fine first (omega arith) (omega arith) (sym c.all_digits.ensures ∙ c.if-not-all_digits.false))
    c.value_of.ensures
