-- `solve` meets its contract: what each door promises of an answer.
use Rattle.rules.specs.Promotion.{after_rounds, rounds_needed}
use Rattle.rules.specs.Tables.{game_of}
use Rattle.rules.specs.Zielonka.{zielonka}
use Rattle.replay_solvers.specs.Agrees.{door_says, says_of}
use Rattle.replay_solvers.specs.declared.differs.Solver.TheVariants.{Zielonka, Promotion}
use Rattle.replay_solvers.proofs.differs.solve.Goals as goal

pub returns-in-Zielonka : goal.returns-in-Zielonka
returns-in-Zielonka c =
    λ e.
    says_of c.in-Zielonka.is
    (door_says Zielonka _ _ _ _ (λ t. (zielonka (game_of t)).entries) c.reckonbough_zielonka.ensures e)

pub returns-in-Promotion : goal.returns-in-Promotion
returns-in-Promotion c =
    λ e.
    says_of c.in-Promotion.is
    (door_says Promotion _ _ _ _ (λ t. (after_rounds (game_of t) (rounds_needed (game_of t))).entries)
    c.reckonbough_priority_promotion.ensures e)
