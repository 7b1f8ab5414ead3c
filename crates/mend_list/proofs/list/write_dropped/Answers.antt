-- `write_dropped` meets its contract. The loop's invariant: those passed that lead to no vertex are written.
use Rattle.std.proofs.Common.{◌≡◌, ◌<◌, [], sym, arith, length, get_or, lt-ltb, le-ltb}
use Rattle.rules.specs.Mending.{dropped_up_to}
use Rattle.mend_counts.specs.Bare.{bare}
use Rattle.mend_counts.specs.Placed.{written_none, written_more, written_length, written_front}
use Rattle.mend_counts.specs.Steps.{dropped_one, dropped_skip, dropped_room}
use Rattle.mend_list.proofs.list.write_dropped.Goals as goal
use Rattle.mend_list.proofs.list.write_dropped.Goals.{Then-n-target, then-n-target, else-n-target}

pub loop-e-init : goal.loop-e-init
unfolding dropped_up_to
loop-e-init c = written_none 0 _ (omega arith)

-- a dropped edge has room
room : (c : Then-n-target) → c.loop-e.end < length c.args.list.now
room c =
    let t = bare c.args.owners.now [] c.args.targets.now in
    let gone = le-ltb (get_or t.targets c.loop-e.e 0) (length t.owners) c.if-n-target.true in
    let fits = dropped_room t c.loop-e.e (length t.targets) (omega arith) gone in
    omega (arith, c.loop-e.invariant.ends)

pub bounds-list-end : goal.bounds-list-end
bounds-list-end c = let long = written_length _ _ _ _ _ c.loop-e.invariant in omega (arith, room (goal.at.bounds-list-end c).Then-n-target)

pub loop-e-preserved : goal.loop-e-preserved
loop-e-preserved c =
    let t = bare c.args.owners.now [] c.args.targets.now in
    elim c.if-n-target.branch [
      | then-n-target a ↦
          let gone = le-ltb (get_or t.targets c.loop-e.e 0) (length t.owners) a.if-n-target.true in
          let fits = dropped_room t c.loop-e.e (length t.targets) (omega arith) gone in
          rw (a.list-is, a.end-is, dropped_one t c.loop-e.e gone)
          (written_more 0 _ _ _ _ c.loop-e.e c.loop-e.invariant (omega (arith, c.loop-e.invariant.ends)))
      | else-n-target a ↦
          let kept = lt-ltb (get_or t.targets c.loop-e.e 0) (length t.owners) a.if-n-target.false in
          rw (a.list-is, a.end-is, dropped_skip t c.loop-e.e kept) c.loop-e.invariant
    ]

pub returns : goal.returns
returns c =
    let all : c.loop-e.e ≡ length c.args.targets.now = omega arith in
    rw (sym all) (written_front _ _ _ _ c.loop-e.invariant)
