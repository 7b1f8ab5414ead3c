-- A set's words by their bits alone, whatever else the words have; with words of 64 bits they are an answered set.
use Rattle.std.specs.Prelude.{List, ◌≡◌, ℕ, ◌≤◌, ◌<◌, length}
use Rattle.rules.specs.Counting.{Set}
use Rattle.rules.specs.Tables.{words}
use Rattle.rules.specs.Words.{bit, set_of, Narrow, Holds}

-- s words, and every bit says whether S holds its vertex, at n and above zero
pub record Bits (n : ℕ) (S : Set) (xs : List ℕ) : Type 0 where
  pub long : length xs ≡ words n
  pub bits : (v : ℕ) → v < n → set_of xs v ≡ S v
  pub clear : (v : ℕ) → n ≤ v → bit xs v ≡ 0

pub bits_of : {n : ℕ} {S : Set} {xs : List ℕ} → Holds n S xs → Bits n S xs
bits_of h = record { long = h.long; bits = h.bits; clear = h.clear }

pub narrow_holds : {n : ℕ} {S : Set} {xs : List ℕ} → Narrow xs → Bits n S xs → Holds n S xs
narrow_holds small b = record { long = b.long; bits = b.bits; clear = b.clear; narrow = small }
