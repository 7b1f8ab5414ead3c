-- The size of a set of n vertices that stands in the work area.
use Rattle.std.specs.Prelude.{true, List, ◌≡◌, ℕ, ◌<◌}
use Rattle.rules.specs.Counting.{count}
use Rattle.sets.specs.Size.{size_below}
use Rattle.area.specs.Area.{set_at, size_at, words_at}

-- the size of a set of vertices below n is the number of them
pub size_at_lem :
    (n base : ℕ) (work : List ℕ) →
    ((v : ℕ) → set_at n base work v ≡ true → v < n) →
    size_at n base work ≡ count n (set_at n base work)
size_at_lem n base work below = size_below n (words_at n base work) below
