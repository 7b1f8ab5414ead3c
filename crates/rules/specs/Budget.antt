-- Demand 3's budget for Zielonka: 2 · (C(n,0) + C(n,1) + ... + C(n,d)) − 1 for n vertices and d different priorities.
use Rattle.std.specs.Prelude.{◌&&◌, ℕ, zero, suc, ◌+◌, ◌-◌, ◌*◌, eqb}
use Rattle.rules.specs.Counting.{Set, some, count}
use Rattle.rules.specs.Game.{Game}
use Rattle.rules.specs.Zielonka.{highest_in}

-- C(n, k), by Pascal's rule
unfoldable pub choose : ℕ → ℕ → ℕ
choose n zero = 1
choose zero (suc k) = 0
choose (suc n) (suc k) = choose n k + choose n (suc k)

-- C(n, 0) + C(n, 1) + ... + C(n, d)
unfoldable pub choose_up_to : ℕ → ℕ → ℕ
choose_up_to n zero = choose n 0
choose_up_to n (suc d) = choose_up_to n d + choose n (suc d)

abbrev pub call_bound : ℕ → ℕ → ℕ
call_bound n d = 2 * choose_up_to n d - 1

-- d: how many different priorities the vertices of S have
unfoldable pub different_priorities : Game → Set → ℕ
different_priorities g S = count (suc (highest_in g S)) (λ p. some g.size (λ v. S v && eqb (g.priority v) p))
