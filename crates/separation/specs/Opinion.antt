-- At full precision the set that a solver for Even gives is Even's winning set, and the rest is Odd's: both winning sets are
-- dominions, and none has more vertices than the game.
use Rattle.std.proofs.Common.{⊎_elim, sym, ◌∙◌, lt-ltb}
use Rattle.std.specs.Prelude.{◌≡◌, ℕ, ◌<◌}
use Rattle.rules.specs.Counting.{Set, without}
use Rattle.rules.specs.Game.{Player, Even, Odd, Game, everywhere, Total}
use Rattle.rules.specs.Winning.{WinningSets}
use Rattle.rules.specs.Zielonka.{zielonka_on, won_by}
use Rattle.basics.specs.Basics.{clash, bool_ext, count_le, without_intro, without_right}
use Rattle.theory.specs.Run.{Run}
use Rattle.theory.specs.RunSound.{run_sound}
use Rattle.theory.specs.Zielonka.{rules_run, run_wins, everywhere_below, everywhere_total}
use Rattle.separation.specs.Separates.{Small, Separates}

-- **Every set that parts the dominions of at most n vertices parts the game into the winning sets.**
pub opinion_wins :
    (g : Game) →
    Total g →
    (R : Set) →
    Separates g Even (everywhere g) g.size g.size R →
    WinningSets g (won_by Even R (without (everywhere g) R))
opinion_wins g total R s = sets
  where
    won : Player → Set
    won = (zielonka_on g (everywhere g)).won

    run : (σ : ℕ → ℕ) × Run g (everywhere g) won σ (zielonka_on g (everywhere g)).calls
    run = rules_run g (everywhere g) (everywhere_below g) (everywhere_total g total)

    small : (c : Player) → Small g c (everywhere g) g.size (won c)
    small c =
        record { choice = run.0; dominion = (run_sound run.1).dominion c; few = count_le g.size (won c) }

    even : (v : ℕ) → v < g.size → won Even v ≡ R v
    even v l =
        bool_ext (won Even v) (R v) (s.keeps (won Even) (small Even) v)
        (λ p.
        ⊎_elim (λ q. q) (λ q. absurd (clash p (s.drops (won Odd) (small Odd) v q)))
        ((run_sound run.1).splits.covers Even v (lt-ltb v g.size l)))

    odd : (v : ℕ) → v < g.size → won Odd v ≡ without (everywhere g) R v
    odd v l =
        bool_ext (won Odd v) (without (everywhere g) R v)
        (λ p. without_intro (everywhere g) R v (lt-ltb v g.size l) (s.drops (won Odd) (small Odd) v p))
        (λ p.
        ⊎_elim
        (λ q. absurd (clash (sym (even v l) ∙ q) (without_right (everywhere g) R v p)))
        (λ q. q)
        ((run_sound run.1).splits.covers Even v (lt-ltb v g.size l)))

    sets : WinningSets g (won_by Even R (without (everywhere g) R))
    sets Even v l =
        let exact = run_wins total run.1 Even v l in
        (λ p. exact.0 (even v l ∙ p), λ w. sym (even v l) ∙ exact.1 w)
    sets Odd v l =
        let exact = run_wins total run.1 Odd v l in
        (λ p. exact.0 (odd v l ∙ p), λ w. sym (odd v l) ∙ exact.1 w)
