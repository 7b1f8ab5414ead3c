-- What a door tells: the number it returns and what it writes through its last two references, as one outcome; and what its
-- function ensures, said of what the door was given and tells.
use Rattle.std.specs.Prelude.{List, ◌≡◌, ℕ}
use Rattle.std.proofs.Common.{subst}
use Rattle.rules.specs.Game.{Player}
use Rattle.rules.specs.Outcome.{Outcome}
use Rattle.rules.specs.Tables.{Tables}
use Rattle.rules.specs.Attracts as attractor
use Rattle.rules.specs.Attracts.{Attracts}

abbrev pub told : ℕ → ℕ → ℕ → Outcome
told number place count = record { number = number; place = place; count = count }

-- the attractor, by its player and its outcome
pub attracts_as :
    {p player : Player} {t : Tables} {within target : List ℕ} {before after : attractor.LentResult} {r o : Outcome} →
    p ≡ player →
    r ≡ o →
    Attracts t p within target before after r →
    Attracts t player within target before after o
attracts_as {player = player} {t} {within} {target} {before} {after} {r} e d h =
    subst (Attracts t player within target before after) d
    (subst (λ (a : Player). Attracts t a within target before after r) e h)
