-- Document 01's entries of an attractor, in its words: they lead to the target, so that no walk of n steps avoids it. A4 fixes which
-- entries are written; that those are such is `DistanceEntries` `entries_arrive`.
use Rattle.std.specs.Prelude.{true, false, List, ◌≡◌, ℕ, suc, ◌<◌}
use Rattle.rules.specs.Counting.{Set}
use Rattle.rules.specs.Game.{Player, Game, Edge}
use Rattle.rules.specs.Words.{no_entry, entry}

-- a walk of k steps that starts at v, goes by the entries at a's vertices and by any edge inside V elsewhere, and avoids T
pub data Avoids (g : Game) (a : Player) (V' T : Set) (strategy : List ℕ) : ℕ → ℕ → Type 0 where
  still : {v : ℕ} → T v ≡ false → Avoids g a V' T strategy 0 v
  own :
      {v k : ℕ} → T v ≡ false → g.owner v ≡ a → Avoids g a V' T strategy k (entry strategy v) → Avoids g a V' T strategy (suc k) v
  other :
      {v w k : ℕ} →
      T v ≡ false →
      (g.owner v ≡ a → ⊥) →
      Edge g v w →
      V' w ≡ true →
      Avoids g a V' T strategy k w →
      Avoids g a V' T strategy (suc k) v

-- each a-vertex of the result outside T gets as entry a target in the result, so that no walk of n steps from a member avoids
-- T; all other entries are none
pub record AttractorEntries (g : Game) (a : Player) (V' T S : Set) (strategy : List ℕ) : Type 0 where
  pub given :
      (v : ℕ) →
      v < g.size →
      S v ≡ true →
      T v ≡ false →
      g.owner v ≡ a →
      Edge g v (entry strategy v) × (S (entry strategy v) ≡ true)
  pub absent : (v : ℕ) → v < g.size → (S v ≡ true → T v ≡ false → g.owner v ≡ a → ⊥) → entry strategy v ≡ no_entry
  pub arrives : (v : ℕ) → v < g.size → S v ≡ true → Avoids g a V' T strategy g.size v → ⊥
