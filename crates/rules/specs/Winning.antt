-- Winning, as demand 2 has it: a vertex is a player's exactly when that player has one fixed edge for each own vertex so that
-- every cycle then reachable has a highest priority of that player's parity.
use Rattle.std.specs.Prelude.{true, List, ◌≡◌, ℕ, max, ◌<◌}
use Rattle.rules.specs.Counting.{Set}
use Rattle.rules.specs.Game.{Player, Game, Edge, parity}
use Rattle.rules.specs.Words.{no_entry, entry}

-- a walk of one edge or more along R, from one vertex to another, with the highest priority of the vertices that it leaves;
-- it may pass a vertex twice
pub data Walk (priority : ℕ → ℕ) (R : ℕ → ℕ → Type 0) : ℕ → ℕ → ℕ → Type 0 where
  one : {v w : ℕ} → R v w → Walk priority R v w (priority v)
  more : {v w u m : ℕ} → R v w → Walk priority R w u m → Walk priority R v u (max (priority v) m)

-- a cycle is a walk that ends where it began: it leaves every vertex that it passes
abbrev pub Cycle : (ℕ → ℕ) → (ℕ → ℕ → Type 0) → ℕ → ℕ → Type 0
Cycle priority R v highest = Walk priority R v v highest

-- u can be reached from v along R, in no step or more
pub data Reach (R : ℕ → ℕ → Type 0) : ℕ → ℕ → Type 0 where
  here : {v : ℕ} → Reach R v v
  step : {v w u : ℕ} → R v w → Reach R w u → Reach R v u

-- an edge that is left when player a has fixed the edge to σ v at each own vertex v
pub record Step (g : Game) (a : Player) (σ : ℕ → ℕ) (v w : ℕ) : Type 0 where
  pub edge : Edge g v w
  pub fixed : g.owner v ≡ a → w ≡ σ v

-- σ fixes one edge for each vertex of a's
abbrev pub Fixes : Game → Player → (ℕ → ℕ) → Type 0
Fixes g a σ = (v : ℕ) → v < g.size → g.owner v ≡ a → Edge g v (σ v)

-- with σ fixed, every cycle reachable from v has a highest priority of a's parity
abbrev pub WinsBy : Game → Player → (ℕ → ℕ) → ℕ → Type 0
WinsBy g a σ v =
    (u highest : ℕ) → Reach (Step g a σ) v u → Cycle g.priority (Step g a σ) u highest → parity highest ≡ a

-- the vertex v is a's
pub record Wins (g : Game) (a : Player) (v : ℕ) : Type 0 where
  pub choice : ℕ → ℕ
  pub fixes : Fixes g a choice
  pub wins : WinsBy g a choice v

-- the two sets are exactly the winning sets
abbrev pub WinningSets : Game → (Player → Set) → Type 0
WinningSets g won = (a : Player) (v : ℕ) → v < g.size → (won a v ≡ true → Wins g a v) × (Wins g a v → won a v ≡ true)

-- the entries are a winning choice: each winner's own vertex has one, all others have none, and whoever fixes a's edges so that
-- they agree with the entries in a's set wins from every vertex of it
pub record WinningEntries (g : Game) (won : Player → Set) (strategy : List ℕ) : Type 0 where
  pub given : (a : Player) (v : ℕ) → v < g.size → won a v ≡ true → g.owner v ≡ a → Edge g v (entry strategy v)
  pub absent : (a : Player) (v : ℕ) → v < g.size → won a v ≡ true → (g.owner v ≡ a → ⊥) → entry strategy v ≡ no_entry
  pub win :
      (a : Player) (σ : ℕ → ℕ) →
      Fixes g a σ →
      ((v : ℕ) → v < g.size → won a v ≡ true → g.owner v ≡ a → σ v ≡ entry strategy v) →
      (v : ℕ) →
      v < g.size →
      won a v ≡ true →
      WinsBy g a σ v
