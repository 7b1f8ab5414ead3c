-- Where priority promotion's own words stand behind the attractor's and the priorities' sets: R, what Even and Odd have won, the number of
-- the current level, the levels' priorities, and the levels, which are sets.
use Rattle.std.specs.Prelude.{cond, List, ◌≡◌, ℕ, suc, ◌+◌, ◌-◌, ◌*◌, ◌≤◌, min, length, get_or}
use Rattle.rules.specs.Counting.{Set, without}
use Rattle.rules.specs.Game.{Player, Even, Odd}
use Rattle.rules.specs.Tables.{words}
use Rattle.rules.specs.Words.{no_entry}
use Rattle.predecessors.specs.Table.{SoundEdges}
use Rattle.area.specs.Area.{entries, free, set_at}
use Rattle.attractor.specs.Attracted.{Listed}
use Rattle.priority_sets.specs.Sorting.{SetsOf}
use Rattle.promotion_places.specs.Nesting.{region_of, Nesting, Proper}

-- R, behind the sets of the priorities, which are the first free words
abbrev pub held_at : ℕ → ℕ → ℕ → ℕ
held_at n m s = free n m + 256 * s

-- what a player has won, behind R
abbrev pub won_behind : ℕ → ℕ → Player → ℕ
won_behind s held Even = held + s
won_behind s held Odd = held + 2 * s

abbrev pub won_at : ℕ → ℕ → ℕ → Player → ℕ
won_at n m s = won_behind s (held_at n m s)

-- k, the current level
abbrev pub depth_at : ℕ → ℕ → ℕ → ℕ
depth_at n m s = held_at n m s + 3 * s

abbrev pub tops_at : ℕ → ℕ → ℕ → ℕ
tops_at n m s = depth_at n m s + 1

-- how many levels have room: one for each different priority, and two more
unfoldable pub deep : ℕ → ℕ
deep n = min n 256 + 2

abbrev pub levels_at : ℕ → ℕ → ℕ → ℕ
levels_at n m s = tops_at n m s + deep n

abbrev pub level_at : ℕ → ℕ → ℕ → ℕ → ℕ
level_at n m s j = levels_at n m s + j * s

abbrev pub end_at : ℕ → ℕ → ℕ → ℕ
end_at n m s = levels_at n m s + deep n * s

-- whether some of the current region is not new, in the last word before the levels: no level has its priority there
abbrev pub mark_at : ℕ → ℕ → ℕ → ℕ
mark_at n m s = levels_at n m s - 1

-- what the work area says of them
abbrev pub depth_in : ℕ → ℕ → ℕ → List ℕ → ℕ
depth_in n m s work = get_or work (depth_at n m s) 0

abbrev pub top_in : ℕ → ℕ → ℕ → List ℕ → ℕ → ℕ
top_in n m s work j = get_or work (tops_at n m s + j) 0

abbrev pub level_in : ℕ → ℕ → ℕ → List ℕ → ℕ → Set
level_in n m s work j = set_at n (level_at n m s j) work

abbrev pub held_in : ℕ → ℕ → ℕ → List ℕ → Set
held_in n m s = set_at n (held_at n m s)

-- the region of v as the levels tell it
abbrev pub region_in : ℕ → ℕ → ℕ → List ℕ → List ℕ → ℕ → ℕ
region_in n m s priorities work =
    region_of (level_in n m s work) (top_in n m s work) (λ v. get_or priorities v 0) (depth_in n m s work)

-- the entry of v: in the last level there is none, whatever its word says
abbrev pub entry_in : ℕ → ℕ → ℕ → List ℕ → ℕ → ℕ
entry_in n m s work v = cond (level_in n m s work (suc (depth_in n m s work)) v) no_entry (get_or work (entries n m + v) 0)

-- the region of the current level: what the level after does not hold
abbrev pub current_in : ℕ → ℕ → ℕ → List ℕ → Set
current_in n m s work =
    without (level_in n m s work (depth_in n m s work)) (level_in n m s work (suc (depth_in n m s work)))

-- R's place has all of it
abbrev pub Whole : ℕ → ℕ → ℕ → List ℕ → Type 0
Whole n m s work = (v : ℕ) → held_in n m s work v ≡ current_in n m s work v

-- what holds between two steps of a round
pub record Ready (n : ℕ) (priorities offsets targets : List ℕ) (s : ℕ) (work : List ℕ) : Type 0 where
  pub size : s ≡ words n
  pub edges : SoundEdges n offsets targets
  pub listed : Listed n offsets targets work
  pub room : end_at n (length targets) s ≤ length work
  pub depth : depth_in n (length targets) s work + 2 ≤ deep n
  pub sorted : SetsOf n priorities n (free n (length targets)) work
  pub nests :
      Nesting n (depth_in n (length targets) s work) (level_in n (length targets) s work) (top_in n (length targets) s work)
      (λ v. get_or priorities v 0)
  pub proper : Proper (depth_in n (length targets) s work) (level_in n (length targets) s work)
