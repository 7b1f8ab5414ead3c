-- What Zielonka's solver hands out is always certified: an answer gets the checker's yes.
use Rattle.std.specs.Prelude.{true, ◌⊎◌, ◌≡◌, ℕ, ◌<◌}
use Rattle.std.proofs.Common.{inl, inr, ⊎_elim}
use Rattle.rules.specs.Game.{Even, Odd}
use Rattle.rules.specs.Outcome.{none}
use Rattle.rules.specs.Tables.{Tables, game_of, Accepted}
use Rattle.rules.specs.Checker.{certificate_checks}
use Rattle.rules.specs.Solver.{Lent, Answered}
use Rattle.rules.specs.Zielonka.{zielonka}
use Rattle.accepted.specs.Tables.{accepted_total, accepted_few}
use Rattle.theory.specs.Zielonka.{zielonka_wins, zielonka_entries_win, determinacy}
use Rattle.theory.specs.Bits.{bits_of}
use Rattle.theory.specs.Checker.{winning_gets_yes}

-- every vertex of accepted tables is in one of Zielonka's sets
covered :
    (t : Tables) →
    Accepted t →
    (v : ℕ) →
    v < (game_of t).size →
    ((zielonka (game_of t)).won Even v ≡ true) ⊎ ((zielonka (game_of t)).won Odd v ≡ true)
covered t ok v l =
    let sets = zielonka_wins (game_of t) (accepted_total t ok) in
    ⊎_elim (λ w. inl ((sets Even v l).1 w)) (λ w. inr ((sets Odd v l).1 w)) (determinacy t ok v l).0

-- The answers of Zielonka's solver always get yes.
pub zielonka_gets_yes :
    (t : Tables) →
    Accepted t →
    (before after : Lent) →
    Answered t (zielonka (game_of t)).won (zielonka (game_of t)).entries before after →
    certificate_checks (game_of t) after.even after.odd after.strategy ≡ none
unfolding game_of
zielonka_gets_yes t ok before after answer =
    winning_gets_yes (game_of t) (accepted_total t ok) (zielonka (game_of t)).won (zielonka_wins (game_of t) (accepted_total t ok))
    (covered t ok) after.even after.odd after.strategy (bits_of answer.even) (bits_of answer.odd)
    (rw answer.strategy (zielonka_entries_win (game_of t) (accepted_total t ok) (accepted_few t ok)))
