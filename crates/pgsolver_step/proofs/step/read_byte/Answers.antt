-- `read_byte` meets its contract: each move by its own law.
use mathlib.Core.Path.{◌≡◌, sym, ap, ◌∙◌}
use Rattle.std.specs.Prelude.{Result, Ok}
use Rattle.pgsolver_moves.specs.declared.moves.Move.{Move}
use Rattle.pgsolver_moves.specs.declared.moves.Stop.{Stop}
use Rattle.std.proofs.lemmas.Result.{err_from_is_err_and}
use Rattle.pgsolver_step.specs.Steps.{steps_on, steps_stop, steps_aim, steps_close, steps_aim_close}
use Rattle.pgsolver_step.proofs.step.read_byte.Goals as goal

-- the machine's move is the one that was told
moved : {m : Result Move Stop} {x y : Move} → Ok x ≡ m → x ≡ y → m ≡ Ok y
moved told is = sym told ∙ ap Ok is

pub returns-in_err-next : goal.returns-in_err-next
returns-in_err-next c =
    let p = err_from_is_err_and c.from_residual.result c.from_residual.ensures.1 in
    rw (p.1, p.2)
    (steps_stop c.args.vertices c.args.edges c.args.b c.args.s c.args.owners.now c.args.priorities.now c.args.offsets.now
    c.args.targets.now c.requires c.in_err-next.field-0.0 (sym c.in_err-next.ensures))

pub returns-in-On : goal.returns-in-On
returns-in-On c =
    steps_on c.args.vertices c.args.edges c.args.b c.args.s c.args.owners.now c.args.priorities.now c.args.offsets.now
    c.args.targets.now c.requires c.in-On.next (moved c.in_ok-next.ensures c.in-On.is)

pub returns-in-Aim : goal.returns-in-Aim
returns-in-Aim c =
    steps_aim c.args.vertices c.args.edges c.args.b c.args.s c.args.owners.now c.args.priorities.now c.args.offsets.now
    c.args.targets.now c.requires c.in-Aim.next c.aim.new.targets (moved c.in_ok-next.ensures c.in-Aim.is) c.aim.ensures

pub returns-in-Close : goal.returns-in-Close
returns-in-Close c =
    steps_close c.args.vertices c.args.edges c.args.b c.args.s c.args.owners.now c.args.priorities.now c.args.offsets.now
    c.args.targets.now c.requires c.in-Close.next _ _ _ (moved c.in_ok-next.ensures c.in-Close.is) c.close.ensures

pub returns-in-AimClose : goal.returns-in-AimClose
returns-in-AimClose c =
    steps_aim_close c.args.vertices c.args.edges c.args.b c.args.s c.args.owners.now c.args.priorities.now c.args.offsets.now
    c.args.targets.now c.requires c.in-AimClose.next _ _ _ _ (moved c.in_ok-next.ensures c.in-AimClose.is) c.aim-in-AimClose.ensures c.close-in-AimClose.ensures
