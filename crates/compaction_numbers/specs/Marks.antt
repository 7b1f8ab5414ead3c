-- What compaction's steps promise one another.
use Rattle.std.specs.declared.option.Option.{Option}
use Rattle.std.specs.declared.option.Option.TheVariants.{None, Some}
use Rattle.std.specs.Prelude.{true, List, ◌≡◌, ℕ, ◌≤◌, ◌<◌, eqb, length, get_or}
use Rattle.rules.specs.Compaction.{Last, nothing, last, used, next_number, last_below}
use Rattle.rules.specs.Counting.{Set}

-- every entry has a place in a table of 256
abbrev pub Small : List ℕ → Type 0
Small priorities = (v : ℕ) → v < length priorities → get_or priorities v 0 ≤ 255

-- the priorities that are marked with 1
abbrev pub marked : List ℕ → Set
marked marks p = eqb (get_or marks p 0) 1

-- the marks tell which priorities are used
abbrev pub Marks : List ℕ → List ℕ → Type 0
Marks priorities marks = (p : ℕ) → p < 256 → marked marks p ≡ used priorities p

-- the last new number given, if any was
abbrev pub last_given : Option ℕ → Last
last_given None = nothing
last_given (Some q) = last q

-- each marked priority below k has its new number
abbrev pub Numbers : ℕ → List ℕ → List ℕ → Type 0
Numbers k marks numbers =
    (p : ℕ) → p < k → marked marks p ≡ true → get_or numbers p 0 ≡ next_number (last_below (marked marks) p) p
