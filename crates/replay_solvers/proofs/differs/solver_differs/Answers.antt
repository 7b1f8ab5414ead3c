-- `solver_differs` meets its contract: no difference comes from `differs` alone, which has compared every word.
use mathlib.Core.Path.{◌∙◌}
use Rattle.replay_solvers.specs.Agrees.{says_words}
use Rattle.replay_solvers.proofs.differs.solver_differs.Goals as goal

pub returns : goal.returns
returns c =
    λ e.
    let (number, same, checked, even, odd) = c.differs.ensures e in
    says_words (c.solve-number.ensures number) c.solve-number.auto.even c.solve-number.auto.odd even odd
    (same ∙ c.needed-wanted.ensures)
