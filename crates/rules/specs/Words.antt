-- A set lent as words: vertex v at bit v mod 64 of word v / 64. A strategy lent as entries: a vertex number, or 65,535 for none.
use Rattle.std.specs.Prelude.{List, ◌≡◌, ℕ, ◌/◌, ◌%◌, ◌^◌, ◌≤◌, ◌<◌, eqb, length, get_or}
use Rattle.rules.specs.Counting.{Set}
use Rattle.rules.specs.Tables.{words}

-- the digit of a word at place k, 0 or 1
unfoldable pub digit : ℕ → ℕ → ℕ
digit word k = word / 2 ^ k % 2

-- the bit of vertex v, 0 or 1; 0 past the last word
unfoldable pub bit : List ℕ → ℕ → ℕ
bit xs v = digit (get_or xs (v / 64) 0) (v % 64)

-- the set that the words stand for
unfoldable pub set_of : List ℕ → Set
set_of xs v = eqb (bit xs v) 1

-- each word is one of 64 bits
abbrev pub Narrow : List ℕ → Type 0
Narrow xs = (i : ℕ) → get_or xs i 0 < 2 ^ 64

-- the words xs are an answered set S: s words of 64 bits, and every bit says whether S holds its vertex, at n and above zero
pub record Holds (n : ℕ) (S : Set) (xs : List ℕ) : Type 0 where
  pub long : length xs ≡ words n
  pub bits : (v : ℕ) → v < n → set_of xs v ≡ S v
  pub clear : (v : ℕ) → n ≤ v → bit xs v ≡ 0
  pub narrow : Narrow xs

-- the entry for none
abbrev pub no_entry : ℕ
no_entry = 65535

-- the entry of v
abbrev pub entry : List ℕ → ℕ → ℕ
entry strategy v = get_or strategy v no_entry
