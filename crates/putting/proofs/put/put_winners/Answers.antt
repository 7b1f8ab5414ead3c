-- `put_winners` meets its contract. The loop's invariant: the winners of the vertices passed are put.
use mathlib.Core.Path.{◌≡◌, sym, subst, ◌∙◌}
use Prim.Native.Nat.{ℕ, ◌+◌, ◌<◌}
use native.Mathlib.Omega.{arith}
use lib.ListN.{length, get_or}
use Rattle.rules.specs.Printing.{winner_digits}
use Rattle.rules.specs.Words.{set_of}
use Rattle.putting.specs.Puts.{Puts, putting_none, putting_more, putting_all}
use Rattle.putting.specs.Winners.{winners_long, winner_odd, winner_even}
use Rattle.putting.proofs.put.put_winners.Lts as lts
use Rattle.putting.proofs.put.put_winners.Reads as reads
use Rattle.putting.proofs.put.put_winners.Tie as tie
use Rattle.putting.proofs.put.put_winners.Goals as goal
use Rattle.putting.proofs.put.put_winners.Goals.{then-contains, else-contains}

abbrev AtAtLoop : Type 0
AtAtLoop = lts.At-loop tie.the-claims reads.Pre reads.Post goal.the-invariant-loop-v goal.the-decreases-loop-v

abbrev AtJoined1 : Type 0
AtJoined1 = lts.Joined1 tie.the-claims reads.Pre reads.Post goal.the-invariant-loop-v goal.the-decreases-loop-v

abbrev AtStart : Type 0
AtStart = lts.Start tie.the-claims reads.Pre reads.Post goal.the-invariant-loop-v goal.the-decreases-loop-v

-- where the function begins, seen from the loop
abbrev start : AtAtLoop → AtStart
start c = c.before.before.before

-- how many digits there are
long : (c : AtStart) → length (winner_digits c.args.n (set_of c.args.odd.now)) ≡ c.args.n
long c = winners_long c.args.n (set_of c.args.odd.now)

pub loop-v-init : goal.loop-v-init
loop-v-init c =
    let first = c.args in
    putting_none first.at (winner_digits first.n (set_of first.odd.now)) first.out.now c.requires.1

pub bounds-out-at : goal.bounds-out-at
bounds-out-at c =
    let at = c.before.before.before.before in omega (arith, (start at).requires.1, at.loop-v.invariant.puts.long, long (start at))

digit_is :
    (c : AtJoined1) →
    let at = c.before.before.before in
    c.if-contains.digit ≡ get_or (winner_digits (start at).args.n (set_of (start at).args.odd.now)) at.loop-v.v 0
digit_is c =
    let at = c.before.before.before in
    let n = (start at).args.n in
    let odd = set_of (start at).args.odd.now in
    let less : at.loop-v.v < n = omega arith in
    elim c.if-contains.branch [
      | then-contains w ↦
          w.digit-is ∙ winner_odd n odd at.loop-v.v less (sym c.contains.ensures ∙ w.if-contains.true)
      | else-contains w ↦
          w.digit-is ∙ winner_even n odd at.loop-v.v less (sym c.contains.ensures ∙ w.if-contains.false)
    ]

pub loop-v-preserved : goal.loop-v-preserved
loop-v-preserved c =
    let at = c.before.before.before.before in
    putting_more c.if-contains.digit at.loop-v.invariant (omega (arith, long (start at))) (digit_is c.before)

pub returns : goal.returns
returns c =
    let at = c.before.before in
    subst
    (λ (k : ℕ).
    Puts (start at).args.at (winner_digits (start at).args.n (set_of (start at).args.odd.now)) (start at).args.out.now
    at.loop-v.out ((start at).args.at + k))
    (long (start at))
    (putting_all at.loop-v.invariant (omega (arith, long (start at))))
