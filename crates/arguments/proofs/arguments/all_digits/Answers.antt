-- `all_digits` meets its contract. The loop's invariant: the bytes passed are digits.
use Rattle.std.proofs.Common.{refl, sym, ◌∙◌, arith}
use Rattle.arguments.specs.Asking.{tested_more, tested_wrong, tested_all}
use Rattle.arguments.proofs.arguments.all_digits.Goals as goal

pub loop-b-init : goal.loop-b-init
loop-b-init c = record { some = omega arith; same = refl }

pub returns-then-not-is_ascii_digit : goal.returns-then-not-is_ascii_digit
returns-then-not-is_ascii_digit c = tested_wrong c.loop-b.invariant (omega arith) (sym c.is_ascii_digit.ensures.value ∙ c.if-not-is_ascii_digit.true)

pub loop-b-preserved : goal.loop-b-preserved
loop-b-preserved c = tested_more c.loop-b.invariant (omega arith) (sym c.is_ascii_digit.ensures.value ∙ c.if-not-is_ascii_digit.false)

pub returns : goal.returns
returns c = tested_all c.loop-b.invariant (omega arith)
