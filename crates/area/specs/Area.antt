-- Where things stand in the work area of a game of n vertices and m edges: the predecessor table, then a counter, a distance and
-- an entry for each vertex, then the attractor's two layers and the set of those it met; from `free` on, sets and whatever a
-- solver keeps.
use Rattle.std.specs.Prelude.{List, ℕ, ◌+◌, ◌*◌, take, drop, get_or}
use Rattle.rules.specs.Counting.{Set}
use Rattle.rules.specs.Tables.{words}
use Rattle.rules.specs.Words.{set_of}
use Rattle.sets.specs.Size.{size}

abbrev pub counters : ℕ → ℕ → ℕ
counters n m = n + 1 + m

abbrev pub distances : ℕ → ℕ → ℕ
distances n m = counters n m + n

abbrev pub entries : ℕ → ℕ → ℕ
entries n m = distances n m + n

abbrev pub layers : ℕ → ℕ → ℕ
layers n m = entries n m + n

-- a layer is a set and one word more
abbrev pub layer_words : ℕ → ℕ
layer_words n = words n + 1

-- the vertices whose counter was made
abbrev pub met_at : ℕ → ℕ → ℕ
met_at n m = layers n m + 2 * layer_words n

abbrev pub free : ℕ → ℕ → ℕ
free n m = met_at n m + words n

-- the words of a set of n vertices that stands at a base
abbrev pub words_at : ℕ → ℕ → List ℕ → List ℕ
words_at n base work = take (words n) (drop base work)

-- that set
abbrev pub set_at : ℕ → ℕ → List ℕ → Set
set_at n base work = set_of (words_at n base work)

-- and its size, by the ones of its words
abbrev pub size_at : ℕ → ℕ → List ℕ → ℕ
size_at n base work = size (words_at n base work)

-- the distance and the entry of v
abbrev pub distance_at : ℕ → ℕ → List ℕ → ℕ → ℕ
distance_at n m work v = get_or work (distances n m + v) 0

abbrev pub entry_at : ℕ → ℕ → List ℕ → ℕ → ℕ
entry_at n m work v = get_or work (entries n m + v) 0
