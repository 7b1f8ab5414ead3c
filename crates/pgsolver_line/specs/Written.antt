-- What the writer's functions ask of the tables, once they are checked.
use Rattle.std.specs.Prelude.{◌≡◌, refl, ℕ, zero, suc, ◌<◌}
use Rattle.std.proofs.Common.{arith}
use Rattle.rules.specs.Tables.{Tables, vertices, Accepted}

-- accepted tables with a vertex
pub record PutWritten (t : Tables) : Type 0 where
  pub accepted : Accepted t
  pub some : 0 < vertices t

pub above : (n : ℕ) → (n ≡ 0 → ⊥) → 0 < n
above zero no_zero = absurd (no_zero refl)
above (suc n) no_zero = omega arith
