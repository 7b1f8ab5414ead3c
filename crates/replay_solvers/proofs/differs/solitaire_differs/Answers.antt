-- `solitaire_differs` meets its contract: what the door promises, and what `set_differs` has compared.
use Rattle.replay_solvers.specs.Agrees.{solitaire_says}
use Rattle.replay_solvers.proofs.differs.solitaire_differs.Goals as goal

pub returns : goal.returns
returns c =
    λ e.
    solitaire_says c.args.said.two_owners _ _ _ _ _ c.reckonbough_solitaire-number.ensures
    c.reckonbough_solitaire-number.auto.set
    (c.set_differs.ensures.0 e)
    (c.set_differs.ensures.1 e)
