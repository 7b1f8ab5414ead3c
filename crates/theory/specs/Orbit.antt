-- Moves that never leave the numbers below n come back to where they have been, by the pigeonhole.
use Rattle.std.specs.Prelude.{◌≡◌}
use Prim.Native.Nat.{ℕ, zero, suc, ◌+◌, ◌-◌, ◌<◌}
use native.Mathlib.Omega.{arith}
use Rattle.rules.specs.Winning.{Cycle, Reach}
use Rattle.basics.specs.Basics.{pigeonhole}
use Rattle.theory.specs.Walks.{Relation, sequence_walk, sequence_reach}

module _
    (priority : ℕ → ℕ)
    (R : Relation)
    (n : ℕ)
    (next : ℕ → ℕ)
    (along : (u : ℕ) → u < n → R u (next u))
    (small : (u : ℕ) → u < n → next u < n)
    (v : ℕ)
    (start : v < n) where
  -- the vertex after k moves
  visited : ℕ → ℕ
  visited zero = v
  visited (suc k) = next (visited k)

  visited_small : (k : ℕ) → visited k < n
  unfolding visited
  visited_small zero = start
  visited_small (suc k) = small (visited k) (visited_small k)

  -- Whoever moves on and on below n comes to a cycle.
  pub comes_back : (u : ℕ) × (m : ℕ) × Reach R v u × Cycle priority R u m
  unfolding visited
  comes_back =
      let moves : (k : ℕ) → R (visited k) (visited (suc k)) = λ k. along (visited k) (visited_small k) in
      let (i, j, less, top, again) = pigeonhole n visited (λ k l. visited_small k) in
      let (m, c) = sequence_walk {priority = priority} {R = R} visited moves i (j - suc i) in
      let back : i + suc (j - suc i) ≡ j = omega arith in
      (visited i, m, sequence_reach {R = R} visited moves i, rw (back, ← again) at c)
