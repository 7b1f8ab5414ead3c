-- No vertex has two winners. Each player moves by a winning choice; the one walk that results comes back to a vertex, and the
-- highest priority of that cycle would have both parities.
use Rattle.std.specs.Prelude.{◌≡◌, ℕ, ◌<◌}
use Rattle.std.proofs.Math.Path.{refl, ap}
use Rattle.std.proofs.Common.{sym, ◌∙◌}
use Rattle.rules.specs.Game.{Player, Even, Odd, opponent, Game, Edge, Total, parity}
use Rattle.rules.specs.Winning.{Step, Wins}
use Rattle.theory.specs.Players.{opponent_differs}
use Rattle.theory.specs.Walks.{walk_map, reach_map}
use Rattle.theory.specs.Orbit.{comes_back}

module _ (g : Game) (total : Total g) (v : ℕ) (start : v < g.size) (wins : (a : Player) → Wins g a v) where
  -- where the owner's choice leads
  next : ℕ → ℕ
  next u = (wins (g.owner u)).choice u

  next_edge : (u : ℕ) → u < g.size → Edge g u (next u)
  unfolding next
  next_edge u small = (wins (g.owner u)).fixes u small refl

  -- an edge that is left whoever has fixed the choice
  Shared : ℕ → ℕ → Type 0
  Shared u w = (a : Player) → Step g a (wins a).choice u w

  moves : (u : ℕ) → u < g.size → Shared u (next u)
  unfolding next Shared
  moves u small a =
      record { edge = next_edge u small; fixed = λ e. ap (λ (b : Player). (wins b).choice u) e }

  -- a vertex that both win has a cycle of both parities
  both_parities : (m : ℕ) × ((a : Player) → parity m ≡ a)
  unfolding Shared
  both_parities =
      let (u, m, reach, cycle) =
      comes_back
      g.priority
      Shared
      g.size
      next
      moves
      (λ u small. total.ends u (next u) (next_edge u small))
      v
      start in
      (m, λ a. (wins a).wins u m (reach_map (λ x y s. s a) reach) (walk_map (λ x y s. s a) cycle))

-- No vertex has two winners.
pub one_winner : (g : Game) → Total g → (v : ℕ) → v < g.size → Wins g Even v → Wins g Odd v → ⊥
one_winner g total v start even odd = opponent_differs Even (sym (shared.1 Even) ∙ shared.1 Odd)
  where
    wins : (a : Player) → Wins g a v
    wins Even = even
    wins Odd = odd

    shared : (m : ℕ) × ((a : Player) → parity m ≡ a)
    shared = both_parities g total v start wins

-- The same, for a player and the opponent.
pub not_both_win : (g : Game) → Total g → (a : Player) (v : ℕ) → v < g.size → Wins g a v → Wins g (opponent a) v → ⊥
not_both_win g total Even v start mine theirs = one_winner g total v start mine theirs
not_both_win g total Odd v start mine theirs = one_winner g total v start theirs mine
