-- The strategy and the distances that go out, entry by entry, of the words that the attractor left.
use Rattle.std.specs.Prelude.{true, false, ◌&&◌, not, cond, List, ◌≡◌, ℕ, ◌+◌, ◌*◌, ◌<◌, length, get_or}
use Rattle.rules.specs.Counting.{Set}
use Rattle.rules.specs.Distance.{outside}
use Rattle.rules.specs.Words.{set_of, no_entry}
use Rattle.attractor_counters.specs.Counters.{own_by}

-- the word of v in a row at a base
abbrev pub word_of : List ℕ → ℕ → ℕ → ℕ
word_of work base v = get_or work (base + v) 0

-- an own vertex of the result outside the target
abbrev pub drawn_in : List ℕ → ℕ → List ℕ → List ℕ → Set
drawn_in owners alpha target result v = set_of result v && (not (set_of target v) && own_by owners alpha v)

-- the entry of v, where f is what the attractor left
abbrev pub chosen : List ℕ → ℕ → List ℕ → List ℕ → (ℕ → ℕ) → ℕ → ℕ
chosen owners alpha target result f v = cond (drawn_in owners alpha target result v) (f v) no_entry

-- the distance of v
abbrev pub measure : List ℕ → List ℕ → (ℕ → ℕ) → ℕ → ℕ
measure target result f v = cond (set_of result v) (cond (set_of target v) 0 (f v)) outside

-- v has a word in the row, and a bit in both sets
pub record Seen (target result work : List ℕ) (base v : ℕ) : Type 0 where
  pub high : base + v < length work
  pub target_bits : v < 64 * length target
  pub result_bits : v < 64 * length result

-- what `strategy_entry` asks for
pub record EntryKnown (owners : List ℕ) (alpha : ℕ) (target result work : List ℕ) (base v : ℕ) : Type 0 where
  pub small : v < length owners
  pub seen : Seen target result work base v
  pub narrow : drawn_in owners alpha target result v ≡ true → word_of work base v < 65536

-- what `write_strategy` asks for
pub record EntriesWritable (owners : List ℕ) (alpha : ℕ) (target result work : List ℕ) (base : ℕ) (strategy : List ℕ) : Type 0 where
  pub each : length strategy ≡ length owners
  pub entered : (v : ℕ) → v < length owners → EntryKnown owners alpha target result work base v

-- what `distance_entry` asks for
pub record Measured (target result work : List ℕ) (base v : ℕ) : Type 0 where
  pub seen : Seen target result work base v
  pub narrow : set_of result v ≡ true → set_of target v ≡ false → word_of work base v < 65536

-- what `write_distances` asks for
abbrev pub Measurable : ℕ → List ℕ → List ℕ → List ℕ → ℕ → Type 0
Measurable n target result work base = (v : ℕ) → v < n → Measured target result work base v

-- ---- by cases

module _ (owners : List ℕ) (alpha : ℕ) (target result : List ℕ) (f : ℕ → ℕ) (v : ℕ) where
  pub chosen_out : set_of result v ≡ false → no_entry ≡ chosen owners alpha target result f v
  chosen_out p = rw p

  pub chosen_target : set_of result v ≡ true → set_of target v ≡ true → no_entry ≡ chosen owners alpha target result f v
  chosen_target p t = rw (p, t)

  pub chosen_other :
      set_of result v ≡ true →
      set_of target v ≡ false →
      own_by owners alpha v ≡ false →
      no_entry ≡ chosen owners alpha target result f v
  chosen_other p t o = rw (p, t, o)

  pub drawn_so :
      set_of result v ≡ true →
      set_of target v ≡ false →
      own_by owners alpha v ≡ true →
      drawn_in owners alpha target result v ≡ true
  drawn_so p t o = rw (p, t, o)

  pub chosen_own :
      set_of result v ≡ true → set_of target v ≡ false → own_by owners alpha v ≡ true → f v ≡ chosen owners alpha target result f v
  chosen_own p t o = rw (p, t, o)

module _ (target result : List ℕ) (f : ℕ → ℕ) (v : ℕ) where
  pub measure_out : set_of result v ≡ false → outside ≡ measure target result f v
  measure_out p = rw p

  pub measure_target : set_of result v ≡ true → set_of target v ≡ true → 0 ≡ measure target result f v
  measure_target p t = rw (p, t)

  pub measure_drawn : set_of result v ≡ true → set_of target v ≡ false → f v ≡ measure target result f v
  measure_drawn p t = rw (p, t)
