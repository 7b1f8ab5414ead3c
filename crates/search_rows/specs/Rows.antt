-- Where the search for parts keeps what it knows in the work area, behind the predecessor table of n vertices and m edges: six
-- rows of a word for each vertex.
use Rattle.std.specs.Prelude.{ℕ, ◌+◌}

-- cursors of the first pass, plus 1; the finished vertices; the stack, or queue; the labels, plus 1; the labels whose part has
-- priority p, and those whose part has two vertices
abbrev pub marks : ℕ → ℕ → ℕ
marks n m = n + 1 + m

abbrev pub order : ℕ → ℕ → ℕ
order n m = marks n m + n

abbrev pub queue : ℕ → ℕ → ℕ
queue n m = order n m + n

abbrev pub labels : ℕ → ℕ → ℕ
labels n m = queue n m + n

abbrev pub hits : ℕ → ℕ → ℕ
hits n m = labels n m + n

abbrev pub pairs : ℕ → ℕ → ℕ
pairs n m = hits n m + n

-- the words behind
abbrev pub behind : ℕ → ℕ → ℕ
behind n m = pairs n m + n

-- behind one row more, and past the regions of the attractor: sets that it works on
abbrev pub sets_behind : ℕ → ℕ → ℕ
sets_behind n m = behind n m + n + 2
