-- `next_number` meets its contract, which is the rule.
use Rattle.std.proofs.Common.{◌≡◌, sym, arith, eq-eqb, ne_eqb}
use Rattle.rules.specs.Compaction.{next_number}
use Rattle.compaction_numbers.proofs.next_number.Goals as goal

pub returns-in-None : goal.returns-in-None
unfolding next_number
returns-in-None c = rw c.in-None.is

pub returns-in-Some : goal.returns-in-Some
unfolding next_number
returns-in-Some c = rw (c.in-Some.is, eq-eqb _ _ c.if-last-p.true) (omega arith)

pub returns-in-Some-2 : goal.returns-in-Some-2
unfolding next_number
returns-in-Some-2 c =
    let same : c.in-Some.last ≡ c.in-Some-2.last = cc (c.in-Some.is, c.in-Some-2.is) in
    rw (c.in-Some-2.is, sym same, ne_eqb _ _ c.if-last-p.false)
