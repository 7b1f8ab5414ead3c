-- Where the words from Even's won vertices to the number of the current level are as before, so is what each player has won.
use Rattle.std.specs.Prelude.{List, ◌≡◌, ℕ, ◌+◌, ◌≤◌, ◌<◌, get_or}
use Rattle.std.proofs.Common.{arith}
use Rattle.rules.specs.Game.{Player, Even, Odd}
use Rattle.rules.specs.Tables.{words}
use Rattle.area.specs.Area.{set_at}
use Rattle.area.specs.SetsAt.{set_kept}
use Rattle.promotion_levels.specs.Layout.{won_at, depth_at}

pub won_sets_kept :
    (n m : ℕ) {s : ℕ} →
    s ≡ words n → (before after : List ℕ) →
    ((i : ℕ) → won_at n m s Even ≤ i → i < depth_at n m s → get_or after i 0 ≡ get_or before i 0) →
    (b : Player) (v : ℕ) →
    set_at n (won_at n m s b) after v ≡ set_at n (won_at n m s b) before v
won_sets_kept n m {s} size before after same b =
    set_kept n (won_at n m s b) before after (λ i low high. same i (first b low) (second b high))
  where
    first : (b : Player) → {i : ℕ} → won_at n m s b ≤ i → won_at n m s Even ≤ i
    first Even l = l
    first Odd l = omega arith

    second : (b : Player) → {i : ℕ} → i < won_at n m s b + words n → i < depth_at n m s
    second Even l = omega arith
    second Odd l = omega arith
