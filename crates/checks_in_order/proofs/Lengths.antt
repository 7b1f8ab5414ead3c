-- Lengths that pass 1 to 3: as many priorities as vertices, and one offset more.
use Rattle.std.proofs.Common.{ℕ, ◌+◌, ◌≡◌, sym}
use Rattle.rules.specs.Outcome.{none, ◌then◌}
use Rattle.rules.specs.Tables.{check1, check2, check3}
use Rattle.parity_game.specs.Laws.{then_none, check2_none}

pub fit : (n p o m : ℕ) → none ≡ (check1 n then check2 n p o then check3 m) → (p ≡ n) × (o ≡ n + 1)
fit n p o m e =
    check2_none n p o (then_none (check2 n p o) (check3 m) (then_none (check1 n) (check2 n p o then check3 m) (sym e)).1).0
