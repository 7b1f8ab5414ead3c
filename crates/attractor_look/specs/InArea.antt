-- The attractor's state as it stands in the work area, and what a step may change there.
use Rattle.std.specs.Prelude.{cond, List, ◌⊎◌, ◌≡◌, ℕ, ◌+◌, ◌≤◌, ◌<◌, ltb, length, get_or, take, drop}
use Rattle.rules.specs.Tables.{words}
use Rattle.basics.specs.Frame.{Beside}
use Rattle.predecessors.specs.Table.{SoundEdges}
use Rattle.area.specs.Area.{counters, distances, entries, layers, layer_words, met_at, free, set_at}
use Rattle.layer.specs.Layer.{Layer, in_layer}
use Rattle.attractor_drawing.specs.Drawn.{Plan, inside}
use Rattle.attractor_counters.specs.Counters.{own_of, counter_at, counts_in}
use Rattle.attractor_look.specs.State.{State}
use Rattle.attractor_look.specs.Looks.{Safe}

-- the n words at a base, and 0 past them
unfoldable pub cells : ℕ → ℕ → List ℕ → ℕ → ℕ
cells n base work v = cond (ltb v n) (get_or work (base + v) 0) 0

-- the words of a layer at a base
abbrev pub layer_at : ℕ → ℕ → List ℕ → List ℕ
layer_at n base work = take (layer_words n) (drop base work)

-- the counters of those not met yet are the first ones
abbrev pub state_at : (ℕ → ℕ) → ℕ → ℕ → ℕ → ℕ → List ℕ → State
state_at first n m set next work =
    record {
      members = set_at n set work;
      counter = counter_at first n m work;
      distance = cells n (distances n m) work;
      entry = cells n (entries n m) work;
      next = in_layer (layer_at n next work);
    }

-- two sets of n vertices stand in the free part of the work area, apart from each other
pub record SetsPlaced (n m within set : ℕ) (work : List ℕ) : Type 0 where
  pub within_low : free n m ≤ within
  pub within_high : within + words n ≤ length work
  pub set_low : free n m ≤ set
  pub set_high : set + words n ≤ length work
  pub apart : (within + words n ≤ set) ⊎ (set + words n ≤ within)

-- a word that no step changes: of the predecessor table, or one behind the entries that is neither the set's nor the next layer's
-- nor of those met
abbrev pub Aside : ℕ → ℕ → ℕ → ℕ → ℕ → Type 0
Aside n m set next i =
    (i < counters n m) ⊎
    ((layers n m ≤ i) × Beside (words n) set i × Beside (layer_words n) next i × Beside (words n) (met_at n m) i)

pub record TableKept (n m set next : ℕ) (before after : List ℕ) : Type 0 where
  pub long : length after ≡ length before
  pub rest : (i : ℕ) → Aside n m set next i → get_or after i 0 ≡ get_or before i 0

-- the set stands in the free part, and the next layer where layers stand
pub record SetRoom (n m set next : ℕ) (work : List ℕ) : Type 0 where
  pub low : free n m ≤ set
  pub high : set + words n ≤ length work
  pub next_low : layers n m ≤ next
  pub next_high : next + layer_words n ≤ met_at n m

-- a step that makes f of the state, and leaves a right layer where there was one
pub record Becomes (first : ℕ → ℕ) (n m set next : ℕ) (f : State → State) (before after : List ℕ) : Type 0 where
  pub kept : TableKept n m set next before after
  pub state : state_at first n m set next after ≡ f (state_at first n m set next before)
  pub layer : Layer (layer_at n next before) → Layer (layer_at n next after)

-- both over the work area of a drawing, where the counters of those not met yet are by V as it was before
abbrev pub state_in : Plan → List ℕ → ℕ → List ℕ → State
state_in d before next after = state_at (counts_in d before) (length d.owners) (length d.targets) d.set next after

abbrev pub Makes : (ℕ → ℕ) → Plan → ℕ → (State → State) → List ℕ → List ℕ → Type 0
Makes first d next f before after = Becomes first (length d.owners) (length d.targets) d.set next f before after

-- what `join` asks for
pub record Joinable (d : Plan) (next : ℕ) (work : List ℕ) (v : ℕ) : Type 0 where
  pub room : SetRoom (length d.owners) (length d.targets) d.set next work
  pub layer : Layer (layer_at (length d.owners) next work)
  pub small : v < length d.owners

-- what `touch` asks for
pub record Touchable (d : Plan) (next : ℕ) (work : List ℕ) (v : ℕ) : Type 0 where
  pub edges : SoundEdges (length d.owners) d.offsets d.targets
  pub placed : SetsPlaced (length d.owners) (length d.targets) d.within d.set work
  pub room : SetRoom (length d.owners) (length d.targets) d.set next work
  pub layer : Layer (layer_at (length d.owners) next work)
  pub safe : Safe (length d.owners) (inside d work) (own_of d) (state_in d work next work) v
