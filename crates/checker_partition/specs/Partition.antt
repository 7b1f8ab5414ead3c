-- The kind 21: the test of a bit as the code makes it, and that a search over it gives the rule's verdict.
use Rattle.std.specs.Prelude.{Bool, true, false, ◌||◌, not, cond, List, ◌≡◌, ℕ, ◌*◌, ◌≤◌, ◌<◌, ltb, length}
use Rattle.std.proofs.Common.{arith}
use borrow.Author.Tests.{lt-ltb, le-ltb}
use Rattle.rules.specs.Outcome.{outcome, answered}
use Rattle.rules.specs.Tables.{words}
use Rattle.rules.specs.Words.{set_of}
use Rattle.rules.specs.Checker.{check21}
use Rattle.parity_game.specs.Said.{refusal}
use Rattle.parity_game.specs.Search.{FailsBelow, outcome_found, outcome_none}

-- bit b speaks against the partition
unfoldable pub stray_at : ℕ → List ℕ → List ℕ → ℕ → Bool
stray_at n even odd b = cond (ltb b n) (cond (set_of even b) (set_of odd b) (not (set_of odd b))) (set_of even b || set_of odd b)

pub record Sets (n : ℕ) (even odd : List ℕ) : Type 0 where
  pub even_long : length even ≡ words n
  pub odd_long : length odd ≡ words n
  pub few : length even ≤ 64

module _ (n : ℕ) (even odd : List ℕ) (b : ℕ) where
  pub stray_in_past : set_of even b ≡ true → n ≤ b → true ≡ stray_at n even odd b
  unfolding stray_at
  stray_in_past e l = rw (e, le-ltb b n l)

  pub stray_in : set_of even b ≡ true → b < n → set_of odd b ≡ stray_at n even odd b
  unfolding stray_at
  stray_in e l = rw (e, lt-ltb b n l)

  pub stray_out : set_of even b ≡ false → b < n → not (set_of odd b) ≡ stray_at n even odd b
  unfolding stray_at
  stray_out e l = rw (e, lt-ltb b n l)

  pub stray_out_past : set_of even b ≡ false → n ≤ b → set_of odd b ≡ stray_at n even odd b
  unfolding stray_at
  stray_out_past e l = rw (e, le-ltb b n l)

module _ (n : ℕ) (even odd : List ℕ) (given : Sets n even odd) where
  pub partition_found :
      (b : ℕ) → b < 64 * length even → FailsBelow b (stray_at n even odd) → stray_at n even odd b ≡ true →
      refusal 21 b ≡ outcome (check21 n even odd) (answered 0)
  unfolding check21 stray_at
  partition_found b l h e =
      outcome_found 21 (64 * words n) (stray_at n even odd) (answered 0) b (omega (arith, given.even_long)) h e

  pub partition_none :
      (b : ℕ) → 64 * length even ≤ b → FailsBelow b (stray_at n even odd) →
      answered 0 ≡ outcome (check21 n even odd) (answered 0)
  unfolding check21 stray_at
  partition_none b l h =
      outcome_none 21 (64 * words n) (stray_at n even odd) (answered 0) (λ k m. h k (omega (arith, given.even_long)))
