-- The level of a pass in the work area: V, then what is drawn; the next level, where the solver below stands, begins eight sets
-- on. What each piece asks for and leaves.
use Rattle.std.specs.Prelude.{true, false, List, ◌⊎◌, ◌≡◌, ℕ, ◌+◌, ◌-◌, ◌*◌, ◌≤◌, ◌<◌, eqb, length, get_or}
use Rattle.rules.specs.Counting.{Set, without}
use Rattle.rules.specs.Game.{Player, parity}
use Rattle.rules.specs.Tables.{Tables, game_of, vertices, edges_in, words, Accepted, tables_of}
use Rattle.rules.specs.Attractor.{attractor}
use Rattle.rules.specs.Zielonka.{with_priority}
use Rattle.basics.specs.Frame.{Below, Unchanged}
use Rattle.sets.specs.After.{Combined, Cleared}
use Rattle.area.specs.Area.{free, set_at}
use Rattle.attractor.specs.Attracted.{Listed}
use Rattle.quasi_level.specs.declared.passes.Passes.{Passes}
use Rattle.quasi_level.specs.declared.passes.Sharp.{Sharp}
use Rattle.quasi_level.specs.Standing.{AfterFound, AfterNothing}

-- where the next level begins
abbrev pub next_level : ℕ → ℕ → ℕ
next_level s base = base + 8 * s

-- the set V of the level at a base, and what is drawn there
abbrev pub on_level : Tables → ℕ → List ℕ → Set
on_level t base work = set_at (vertices t) base work

abbrev pub drawn_at : Tables → ℕ → List ℕ → Set
drawn_at t base work = set_at (vertices t) (base + words (vertices t)) work

-- a set of n vertices stands at a base
pub record Held (n s base : ℕ) (work : List ℕ) : Type 0 where
  pub few : n ≤ 4096
  pub size : s ≡ words n
  pub high : base + s ≤ length work
  pub below : (v : ℕ) → set_at n base work v ≡ true → v < n

-- and none of them has a priority at the height or above
pub record HeldUnder (priorities : List ℕ) (s base height : ℕ) (work : List ℕ) : Type 0 where
  pub held : Held (length priorities) s base work
  pub under : (v : ℕ) → set_at (length priorities) base work v ≡ true → get_or priorities v 0 < height

-- accepted tables with their predecessor table, V below n, and room for the level and the next V
pub record OpinionReady (t : Tables) (s base : ℕ) (work : List ℕ) : Type 0 where
  pub accepted : Accepted t
  pub table : Listed (vertices t) t.offsets t.targets work
  pub size : s ≡ words (vertices t)
  pub low : free (vertices t) (edges_in t) ≤ base
  pub high : base + 9 * s ≤ length work
  pub below : (v : ℕ) → on_level t base work v ≡ true → v < vertices t

-- the predecessor table stays, and every free word below a place
pub record OpinionStays (t : Tables) (top : ℕ) (before after : List ℕ) : Type 0 where
  pub long : length after ≡ length before
  pub table : Unchanged (Below (vertices t + 1 + edges_in t)) before after
  pub lower : (i : ℕ) → free (vertices t) (edges_in t) ≤ i → i < top → get_or after i 0 ≡ get_or before i 0

-- V stays, and V without what p's player draws to priority p stands at the next level
pub record TopCut (t : Tables) (p base : ℕ) (before after : List ℕ) : Type 0 where
  pub stays : OpinionStays t (base + words (vertices t)) before after
  pub rest :
      (v : ℕ) →
      on_level t (next_level (words (vertices t)) base) after v ≡
      without (on_level t base before)
      (attractor (game_of t) (parity p) (on_level t base before) (with_priority (game_of t) (on_level t base before) p))
      v

-- a player's set that was found at the next level lies in V, for tables with any priorities
pub record Droppable (owners offsets targets : List ℕ) (alpha s base : ℕ) (work : List ℕ) : Type 0 where
  pub priorities : List ℕ
  pub ready : OpinionReady (tables_of owners priorities offsets targets) s base work
  pub player : alpha ≤ 1
  pub part :
      (v : ℕ) →
      on_level (tables_of owners priorities offsets targets) (next_level s base) work v ≡ true →
      on_level (tables_of owners priorities offsets targets) base work v ≡ true

-- V has lost what the player draws to that set
pub record Dropped (t : Tables) (c : Player) (base : ℕ) (before after : List ℕ) : Type 0 where
  pub stays : OpinionStays t base before after
  pub left :
      (v : ℕ) →
      on_level t base after v ≡
      without (on_level t base before)
      (attractor (game_of t) c (on_level t base before) (on_level t (next_level (words (vertices t)) base) before))
      v

-- a pass that found something, at a vertex
pub record FoundSome
    (t : Tables) (c : Player) (base : ℕ) (before after : List ℕ) (sub : Sharp) (passes : Passes) (half : ℕ) (r : Passes)
    : Type 0 where
  pub vertex : ℕ
  pub member : on_level t (next_level (words (vertices t)) base) before vertex ≡ true
  pub dropped : Dropped t c base before after
  pub stand : AfterFound passes sub half r

-- one that found nothing
pub record FoundNothing
    (t : Tables) (base : ℕ) (before after : List ℕ) (sub : Sharp) (passes : Passes) (half : ℕ) (r : Passes)
    : Type 0 where
  pub nothing : (v : ℕ) → on_level t (next_level (words (vertices t)) base) before v ≡ false
  pub same : after ≡ before
  pub stand : AfterNothing passes sub half r

abbrev pub Settled :
    Tables → Player → ℕ → List ℕ → List ℕ → Sharp → Passes → ℕ → Passes → Type 0
Settled t c base before after sub passes half r =
    FoundSome t c base before after sub passes half r ⊎ FoundNothing t base before after sub passes half r

-- V is cleared, and where it had no vertex nothing was lost
pub record GaveUp (size s base : ℕ) (before after : List ℕ) (r : Sharp) : Type 0 where
  pub cleared : Cleared base s before after
  pub keeps : r.keeps ≡ eqb size 0
  pub drops : r.drops ≡ true

-- V has lost the set at the next level, and the two players are swapped
pub record TurnedOver (s base : ℕ) (before after : List ℕ) (turned r : Sharp) : Type 0 where
  pub reduced : Combined ◌-◌ base (next_level s base) s before after
  pub keeps : r.keeps ≡ turned.drops
  pub drops : r.drops ≡ turned.keeps
