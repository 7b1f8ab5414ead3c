-- `dropped_edges` meets its contract. The loop's invariant: those passed that lead to no vertex are counted.
use Rattle.std.proofs.Common.{◌≡◌, [], refl, sym, ap, arith, length, get_or, lt-ltb, le-ltb}
use Rattle.rules.specs.Mending.{dropped_up_to}
use Rattle.mend_counts.specs.Bare.{bare}
use Rattle.mend_counts.specs.Steps.{dropped_one_more, dropped_skip, dropped_few}
use Rattle.mend_counts.proofs.counts.dropped_edges.Goals as goal
use Rattle.mend_counts.proofs.counts.dropped_edges.Goals.{then-n-target, else-n-target}

pub loop-target-init : goal.loop-target-init
unfolding dropped_up_to
loop-target-init c = refl

pub overflow_add-dropped : goal.overflow_add-dropped
overflow_add-dropped c =
    omega (arith, dropped_few (bare c.args.owners.now [] c.args.targets.now) c.loop-target.target-index)

pub loop-target-preserved : goal.loop-target-preserved
loop-target-preserved c =
    let t = bare c.args.owners.now [] c.args.targets.now in
    let e = c.loop-target.target-index in
    elim c.if-n-target.branch [
      | then-n-target w ↦
          let gone = le-ltb (get_or t.targets e 0) (length t.owners) w.if-n-target.true in
          rw (w.dropped-is, c.loop-target.invariant) (dropped_one_more t e gone)
      | else-n-target w ↦
          let kept = lt-ltb (get_or t.targets e 0) (length t.owners) w.if-n-target.false in
          rw (w.dropped-is, c.loop-target.invariant) (sym (ap length (dropped_skip t e kept)))
    ]

pub returns : goal.returns
returns c =
    let all : c.loop-target.target-index ≡ length c.args.targets.now = omega arith in rw (sym all) c.loop-target.invariant
