-- What a set's words hold after an operation, bit by bit.
use Rattle.std.specs.Prelude.{cond, List, ◌⊎◌, ◌≡◌, ℕ, ◌+◌, ◌*◌, ◌≤◌, ◌<◌, eqb, ltb, length, get_or, drop}
use Rattle.rules.specs.Words.{bit}
use Rattle.basics.specs.Frame.{Beside, Unchanged}

-- bit v is now d, and every other bit is as it was
pub record Put (v d : ℕ) (before after : List ℕ) : Type 0 where
  pub long : length after ≡ length before
  pub bits : (u : ℕ) → bit after u ≡ cond (eqb u v) d (bit before u)

-- two parts of s words that do not overlap
pub record Parts (into from s : ℕ) (words : List ℕ) : Type 0 where
  pub into_fits : into + s ≤ length words
  pub from_fits : from + s ≤ length words
  pub apart : (into + s ≤ from) ⊎ (from + s ≤ into)

-- each bit of the part at `into` is now f of its own and the other part's, and every word elsewhere is as it was
pub record Combined (f : ℕ → ℕ → ℕ) (into from s : ℕ) (before after : List ℕ) : Type 0 where
  pub long : length after ≡ length before
  pub bits : (v : ℕ) → v < 64 * s → bit (drop into after) v ≡ f (bit (drop into before) v) (bit (drop from before) v)
  pub rest : Unchanged (Beside s into) before after

-- the other part's bit: what a copy makes of two
abbrev pub other : ℕ → ℕ → ℕ
other x y = y

-- the s words from `at` on are now 0, and every other word is as it was
pub record Cleared (at s : ℕ) (before after : List ℕ) : Type 0 where
  pub long : length after ≡ length before
  pub zeros : (i : ℕ) → at ≤ i → i < at + s → get_or after i 0 ≡ 0
  pub rest : Unchanged (Beside s at) before after

-- every bit below n is now 1, and every other bit is as it was
pub record Filled (n : ℕ) (before after : List ℕ) : Type 0 where
  pub long : length after ≡ length before
  pub bits : (u : ℕ) → bit after u ≡ cond (ltb u n) 1 (bit before u)
