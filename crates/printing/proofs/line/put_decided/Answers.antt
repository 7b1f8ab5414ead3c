-- `put_decided` meets its contract, by cases on whether there are winners to tell.
use mathlib.Core.Bool.{Bool}
use mathlib.Core.Path.{subst, sym}
use native.Mathlib.Omega.{arith}
use Rattle.rules.specs.Words.{set_of}
use Rattle.printing.specs.Line.{winners_bytes}
use Rattle.putting.specs.Puts.{Puts}
use Rattle.putting.specs.Winners.{winners_long}
use Rattle.printing.proofs.line.put_decided.Goals as goal

pub put_winners-requires : goal.put_winners-requires
put_winners-requires c =
    let at = c.before.before.before.before.before in
    (at.requires.0, omega (arith, at.requires.1, winners_long at.args.n (set_of at.args.odd.now)))

pub returns-then-told : goal.returns-then-told
returns-then-told c =
    let at = c.before.before.before in
    let start = at.before.before.before.before.before in
    subst
    (λ (told : Bool).
    Puts start.args.at (winners_bytes told start.args.n (set_of start.args.odd.now)) start.args.out.now
    at.put_winners.new.out at.put_winners.result)
    (sym at.if-told.true)
    at.put_winners.ensures

pub returns-else-told : goal.returns-else-told
returns-else-told c =
    let at = c.before.before.before in
    let start = at.before.before.before.before.before.before in
    subst
    (λ (told : Bool).
    Puts start.args.at (winners_bytes told start.args.n (set_of start.args.odd.now)) start.args.out.now
    at.put_word.new.out at.put_word.result)
    (sym at.if-told.false)
    at.put_word.ensures
