-- What the pieces of a call ask for and leave behind.
use Rattle.std.specs.Prelude.{Bool, true, ◌&&◌, not, cond, List, ◌≡◌, ℕ, ◌+◌, ◌*◌, ◌≤◌, ◌<◌, length}
use Rattle.rules.specs.Counting.{some}
use Rattle.rules.specs.Game.{Player}
use Rattle.rules.specs.Tables.{Tables, vertices, words, tables_of}
use Rattle.basics.specs.Frame.{Beside, Unchanged}
use Rattle.area.specs.Area.{set_at}
use Rattle.priority_sets.specs.Sorting.{PriorityPlaceable}
use Rattle.set_difference.specs.Without.{MadeAt}
use Rattle.zielonka_level.specs.Level.{goes_to, is_odd, on_level, drawn_at, odd_place, drawn_place, first_level, Called}

-- a player gets the members of a set, of those that Odd won or not
abbrev pub PartWon : Player → ℕ → ℕ → ℕ → ℕ → List ℕ → List ℕ → Type 0
PartWon c n into of odd = MadeAt (λ x y. x && goes_to c y) n into of odd

-- the members of the set at `from` are now a player's, by what Odd won, at a place
pub record Gave (c : Player) (n place from : ℕ) (before after : List ℕ) : Type 0 where
  pub long : length after ≡ length before
  pub odd : (v : ℕ) → set_at n place after v ≡ cond (set_at n from before v) (is_odd c) (set_at n place before v)
  pub rest : Unchanged (Beside (words n) place) before after

-- a call with room for the level above it
pub record CallReady (t : Tables) (s base : ℕ) (work : List ℕ) : Type 0 where
  pub called : Called t base work
  pub size : s ≡ words (vertices t)
  pub high : base + 2 * s ≤ length work

-- the sets of some priorities stand in the work area, and p is below 256
pub record Sorted (owners offsets targets : List ℕ) (p s base : ℕ) (work : List ℕ) : Type 0 where
  pub priorities : List ℕ
  pub ready : CallReady (tables_of owners priorities offsets targets) s base work
  pub small : p < 256

-- a set to draw to stands in the attractor's place, for tables with any priorities
pub record Cuttable (owners offsets targets : List ℕ) (s base : ℕ) (work : List ℕ) : Type 0 where
  pub priorities : List ℕ
  pub ready : CallReady (tables_of owners priorities offsets targets) s base work
  pub part :
      (v : ℕ) →
      drawn_at (tables_of owners priorities offsets targets) work v ≡ true →
      on_level (tables_of owners priorities offsets targets) base work v ≡ true

-- two levels, above the first
pub record Levels (n m s base : ℕ) (work : List ℕ) : Type 0 where
  pub places : PriorityPlaceable n m s 255
  pub above : first_level n m ≤ base
  pub high : base + 2 * s ≤ length work

-- what a player won at the next level stands in the attractor's place, and whether it is nothing is told
pub record LostTold (c : Player) (n m s base : ℕ) (before after : List ℕ) (r : Bool) : Type 0 where
  pub part : PartWon c n (drawn_place n m) (base + words n) (odd_place n m) before after
  pub none : r ≡ not (some (64 * s) (set_at n (drawn_place n m) after))
