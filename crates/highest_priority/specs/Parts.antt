-- What the functions below a call ask for and leave behind: the highest priority, and the vertices that have it.
use Rattle.std.specs.Prelude.{true, false, ◌&&◌, List, ◌≡◌, ℕ, ◌≤◌, ◌<◌, eqb, length, get_or}
use Rattle.rules.specs.Counting.{Set, greatest}
use Rattle.rules.specs.Tables.{words}
use Rattle.basics.specs.Frame.{Beside, Unchanged}
use Rattle.sets.specs.After.{Parts}
use Rattle.area.specs.Area.{set_at}
use Rattle.area.specs.Walked.{Walkable, Anything}

-- the highest priority of a set
abbrev pub highest_of : List ℕ → Set → ℕ
highest_of priorities S = greatest (length priorities) S (λ v. get_or priorities v 0)

-- the set at a base can be walked, and no vertex of it has a priority above `top`
pub record Searchable (priorities : List ℕ) (s base top : ℕ) (work : List ℕ) : Type 0 where
  pub walkable : Walkable (length priorities) s base Anything work
  pub under : (v : ℕ) → set_at (length priorities) base work v ≡ true → get_or priorities v 0 ≤ top

-- V stands at `within`, has no vertex at n or above, and the set at `into` is apart from it and empty
pub record Collects (n s within into : ℕ) (work : List ℕ) : Type 0 where
  pub size : s ≡ words n
  pub few : n ≤ 4096
  pub parts : Parts into within (words n) work
  pub below : (v : ℕ) → set_at n within work v ≡ true → v < n
  pub nothing : (v : ℕ) → set_at n into work v ≡ false

-- the members of V with priority p are the set at `into`
pub record Collected (priorities : List ℕ) (p within into : ℕ) (before after : List ℕ) : Type 0 where
  pub long : length after ≡ length before
  pub set :
      (v : ℕ) →
      set_at (length priorities) into after v ≡ (set_at (length priorities) within before v && eqb (get_or priorities v 0) p)
  pub rest : Unchanged (Beside (words (length priorities)) into) before after
