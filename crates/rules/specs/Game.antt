-- The game that a set of tables stands for: vertices with an owner and a priority, and edges, parallel ones and self loops
-- among them. The highest priority decides; even is Even's.
use Rattle.std.specs.Prelude.{Bool, true, false, ℕ, zero, suc, ◌%◌, ◌<◌, ltb}
use mathlib.Core.List.{List, Memᴰ}
use Rattle.rules.specs.Counting.{Set, times}

pub data Player : Type 0 where
  Even Odd : Player

abbrev pub opponent : Player → Player
opponent Even = Odd
opponent Odd = Even

-- 0 is Even, anything else Odd
abbrev pub player_of : ℕ → Player
player_of zero = Even
player_of (suc n) = Odd

-- the player whose parity a priority has
abbrev pub parity : ℕ → Player
parity p = player_of (p % 2)

abbrev pub same : Player → Player → Bool
same Even Even = true
same Even Odd = false
same Odd Even = false
same Odd Odd = true

pub record Game : Type 0 where
  pub size : ℕ
  pub owner : ℕ → Player
  pub priority : ℕ → ℕ
  -- the targets of a vertex's edges, in order, one for each edge
  pub targets : ℕ → List ℕ

-- all vertices of the game
abbrev pub everywhere : Game → Set
everywhere g v = ltb v g.size

-- there is an edge from v to w
abbrev pub Edge : Game → ℕ → ℕ → Type 0
Edge g v w = Memᴰ w (g.targets v)

-- how many edges lead from v to w
unfoldable pub edges : Game → ℕ → ℕ → ℕ
edges g v w = times w (g.targets v)

-- every edge starts and ends at a vertex, and every vertex has one
pub record Total (g : Game) : Type 0 where
  pub starts : (v w : ℕ) → Edge g v w → v < g.size
  pub ends : (v w : ℕ) → Edge g v w → w < g.size
  pub leads : (v : ℕ) → v < g.size → (w : ℕ) × Edge g v w
