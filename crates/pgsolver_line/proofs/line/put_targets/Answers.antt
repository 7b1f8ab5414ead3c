-- `put_targets` meets its contract. The loop's invariant: the targets passed are put, each with a comma behind it.
use mathlib.Core.List.{[], ◌∷◌}
use mathlib.Core.Path.{◌≡◌, subst}
use Prim.Native.Nat.{ℕ, ◌-◌}
use native.Mathlib.Omega.{arith}
use lib.ListN.{length}
use Rattle.rules.specs.Pgsolver.{comma}
use Rattle.rules.specs.Writing.{line_end}
use Rattle.pgsolver_line.specs.Targets.{Aiming, aiming_none, aiming_room, aiming_more, aiming_all}
use Rattle.pgsolver_line.proofs.line.put_targets.Lts as lts
use Rattle.pgsolver_line.proofs.line.put_targets.Reads as reads
use Rattle.pgsolver_line.proofs.line.put_targets.Tie as tie
use Rattle.pgsolver_line.proofs.line.put_targets.Goals as goal

abbrev AtAfterLoop : Type 0
AtAfterLoop = lts.After-loop tie.the-claims reads.Pre reads.Post goal.the-invariant-loop-e goal.the-decreases-loop-e

pub loop-e-init : goal.loop-e-init
loop-e-init c =
    let at = c.before.before.before in (
      omega (arith, at.requires.0),
      aiming_none at.args.at at.args.targets.now at.args.text.now at.requires.0 at.requires.1,
    )

pub overflow_cast-targets : goal.overflow_cast-targets
overflow_cast-targets c = omega (arith, c.shared_slice_known-in-loop-e-1.given c.loop-e.e)

pub put_ended-next-requires : goal.put_ended-next-requires
put_ended-next-requires c =
    let at = c.before.before.before.before.before in
    aiming_room at.loop-e.invariant.1 (comma ∷ []) (omega arith)

pub loop-e-preserved : goal.loop-e-preserved
loop-e-preserved c =
    let called = c.before.before.before in
    let at = called.before.before.before.before.before in
    (at.loop-e.invariant.0, aiming_more at.loop-e.invariant.1 (omega arith) called.put_ended-next.ensures)

-- all but the last
aimed :
    (c : AtAfterLoop) →
    let at = c.before in
    let start = at.before.before.before in
    Aiming start.args.at (length start.args.targets.now - 1) start.args.targets.now start.args.text.now
    at.loop-e.text
    at.loop-e.next
aimed c =
    let at = c.before in
    let start = at.before.before.before in
    let last : at.loop-e.e ≡ length start.args.targets.now - 1 = omega (arith, at.loop-e.invariant.0, at.loop-e.invariant.1.some) in
    subst
    (λ (k : ℕ).
    Aiming start.args.at k start.args.targets.now start.args.text.now at.loop-e.text at.loop-e.next)
    last
    at.loop-e.invariant.1

pub overflow_cast-targets-2 : goal.overflow_cast-targets-2
overflow_cast-targets-2 c =
    let at = c.before.before.before.before.before.before in
    omega (arith, c.shared_slice_known-2-1.given (length at.args.targets.now - 1))

pub put_ended-requires : goal.put_ended-requires
put_ended-requires c = aiming_room (aimed c.before.before.before.before.before) line_end (omega arith)

pub returns : goal.returns
returns c =
    let called = c.before.before.before in
    let loop = called.before.before.before.before in
    aiming_all (aimed loop.before) (omega (arith, loop.loop-e.invariant.0)) called.put_ended.ensures
