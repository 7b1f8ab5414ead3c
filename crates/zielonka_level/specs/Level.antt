-- A call's level of the work area, and what a call asks for and leaves behind. A level is the set V alone; the next level, where the
-- calls below stand, is the set behind it. Below all levels stand, behind the sets of the priorities, what Even and what Odd won,
-- for the whole recursion, and the attractor that was drawn last: a call decides the vertices of its V and leaves all others.
use Rattle.std.specs.Prelude.{Bool, true, false, ◌&&◌, not, List, ◌≡◌, ℕ, ◌+◌, ◌-◌, ◌*◌, ◌≤◌, ◌<◌, length, get_or}
use Rattle.rules.specs.Counting.{Set, count}
use Rattle.rules.specs.Game.{Player, Even, Odd}
use Rattle.rules.specs.Tables.{Tables, game_of, vertices, edges_in, words, Accepted}
use Rattle.basics.specs.Frame.{Beside, Below, Unchanged}
use Rattle.area.specs.Area.{free, set_at, entry_at}
use Rattle.priority_sets.specs.Sorting.{SetsOf}
use Rattle.attractor.specs.Attracted.{Listed}
use Rattle.theory.specs.AttractorComplement.{TotalIn}
use Rattle.theory.specs.Run.{Run}
use Rattle.theory.specs.RunSame.{Needs}

-- where what Even won stands, what Odd won, the attractor, and the first level
abbrev pub even_place : ℕ → ℕ → ℕ
even_place n m = free n m + 256 * words n

abbrev pub odd_place : ℕ → ℕ → ℕ
odd_place n m = even_place n m + words n

abbrev pub drawn_place : ℕ → ℕ → ℕ
drawn_place n m = odd_place n m + words n

abbrev pub first_level : ℕ → ℕ → ℕ
first_level n m = drawn_place n m + words n

-- where the next level begins
abbrev pub next_level : ℕ → ℕ → ℕ
next_level s base = base + s

-- the set V of the level at a base, the attractor, and what Odd won
abbrev pub on_level : Tables → ℕ → List ℕ → Set
on_level t base work = set_at (vertices t) base work

abbrev pub drawn_at : Tables → List ℕ → Set
drawn_at t work = set_at (vertices t) (drawn_place (vertices t) (edges_in t)) work

abbrev pub odd_at : Tables → List ℕ → Set
odd_at t work = set_at (vertices t) (odd_place (vertices t) (edges_in t)) work

-- whether a vertex is a player's, by whether Odd won it
abbrev pub goes_to : Player → Bool → Bool
goes_to Even odd = not odd
goes_to Odd odd = odd

-- whether it is Odd
abbrev pub is_odd : Player → Bool
is_odd Even = false
is_odd Odd = true

-- what each player won of V
abbrev pub won_of : Tables → Set → List ℕ → Player → Set
won_of t V' work c v = V' v && goes_to c (odd_at t work v)

-- the entries
abbrev pub entries_of : Tables → List ℕ → ℕ → ℕ
entries_of t work v = entry_at (vertices t) (edges_in t) work v

-- the sets of the priorities stand in the first free words
abbrev pub SortedIn : Tables → List ℕ → Type 0
SortedIn t = SetsOf (vertices t) t.priorities (vertices t) (free (vertices t) (edges_in t))

-- what a call asks for: accepted tables with their predecessor table and the sets of their priorities, V total and below n, and a
-- level for each vertex of V and one more
pub record Called (t : Tables) (base : ℕ) (work : List ℕ) : Type 0 where
  pub accepted : Accepted t
  pub table : Listed (vertices t) t.offsets t.targets work
  pub sorted : SortedIn t work
  pub above : first_level (vertices t) (edges_in t) ≤ base
  pub room : base + words (vertices t) * (count (vertices t) (on_level t base work) + 1) ≤ length work
  pub below : (v : ℕ) → on_level t base work v ≡ true → v < vertices t
  pub total : TotalIn (game_of t) (on_level t base work)

-- a word that is neither of what Odd won nor of the attractor
abbrev pub Aside : Tables → ℕ → Type 0
Aside t = Beside (2 * words (vertices t)) (odd_place (vertices t) (edges_in t))

-- the words that every step of a call leaves as they were: the predecessor table, every free word below its level but what Odd won
-- and the attractor, and V itself
pub record Stays (t : Tables) (base : ℕ) (before after : List ℕ) : Type 0 where
  pub long : length after ≡ length before
  pub table : Unchanged (Below (vertices t + 1 + edges_in t)) before after
  pub lower :
      (i : ℕ) → free (vertices t) (edges_in t) ≤ i → i < base + words (vertices t) → Aside t i → get_or after i 0 ≡ get_or before i 0

-- a call that ended within the budget, `made` calls in all, of which `calls` were made before it: it is a run of the recursion, which
-- leaves the winner and the entry of every vertex outside V as they were
pub record Done (t : Tables) (base calls budget made : ℕ) (before after : List ℕ) : Type 0 where
  pub needed : ℕ
  pub counts : made ≡ calls + needed
  pub within : made ≤ budget
  pub run : Run (game_of t) (on_level t base before) (won_of t (on_level t base before) after) (entries_of t after) needed
  pub stays : Stays t base before after
  pub odd : (v : ℕ) → on_level t base before v ≡ false → odd_at t after v ≡ odd_at t before v
  pub entries : (v : ℕ) → v < vertices t → on_level t base before v ≡ false → entries_of t after v ≡ entries_of t before v

-- a call that needs more than is left of the budget
abbrev pub Over : Tables → ℕ → ℕ → ℕ → List ℕ → Type 0
Over t base calls budget before = Needs (game_of t) (on_level t base before) (budget + 1 - calls)
