-- The frame of every contract that writes in what it is lent: every word outside a region stays.
use Rattle.std.specs.Prelude.{List, ◌⊎◌, ◌≡◌, ℕ, ◌+◌, ◌≤◌, ◌<◌, get_or}

-- a place before hi, and one at lo or behind it
abbrev pub Below : ℕ → ℕ → Type 0
Below hi i = i < hi

abbrev pub Behind : ℕ → ℕ → Type 0
Behind lo i = lo ≤ i

-- a place before lo, or at hi or behind it
abbrev pub Outside : ℕ → ℕ → ℕ → Type 0
Outside lo hi i = (i < lo) ⊎ (hi ≤ i)

-- none of the k places from `place` on
abbrev pub Beside : ℕ → ℕ → ℕ → Type 0
Beside k place = Outside place (place + k)

-- the words at such places are as they were
abbrev pub Unchanged : (ℕ → Type 0) → List ℕ → List ℕ → Type 0
Unchanged Out before after = (i : ℕ) → Out i → get_or after i 0 ≡ get_or before i 0
