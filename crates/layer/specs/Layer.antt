-- A layer as words: all but the last are a set, and the last has a digit for each of them that is not 0. What the operations
-- ask for and leave.
use Rattle.std.specs.Prelude.{true, ◌||◌, cond, List, ◌≡◌, ℕ, ◌+◌, ◌-◌, ◌*◌, ◌≤◌, ◌<◌, eqb, length, get_or, take}
use Rattle.rules.specs.Counting.{Set}
use Rattle.rules.specs.Words.{digit, set_of}
use Rattle.layer.specs.Lowest.{in_word}

-- how many words the set has
abbrev pub room : List ℕ → ℕ
room xs = length xs - 1

-- the last word
abbrev pub marks : List ℕ → ℕ
marks xs = get_or xs (room xs) 0

-- the set
abbrev pub in_layer : List ℕ → Set
in_layer xs = set_of (take (room xs) xs)

-- what is lent: at most 64 words and the one for the marks
pub record LentLayer (xs : List ℕ) : Type 0 where
  pub some : 1 ≤ length xs
  pub few : length xs ≤ 65

-- the marks are right
pub record Layer (xs : List ℕ) : Type 0 where
  pub lent : LentLayer xs
  pub marked : (i : ℕ) → i < 64 → digit (marks xs) i ≡ 1 → (i < room xs) × (get_or xs i 0 ≡ 0 → ⊥)
  pub blank : (i : ℕ) → i < room xs → digit (marks xs) i ≡ 0 → get_or xs i 0 ≡ 0

pub record Addable (v : ℕ) (xs : List ℕ) : Type 0 where
  pub layer : Layer xs
  pub small : v < 64 * room xs

-- after `add`: v came in
pub record Added (v : ℕ) (before after : List ℕ) : Type 0 where
  pub long : length after ≡ length before
  pub set : (u : ℕ) → in_layer after u ≡ cond (eqb u v) true (in_layer before u)
  pub layer : Layer after

pub record Poppable (xs : List ℕ) : Type 0 where
  pub layer : Layer xs
  pub some : marks xs ≡ 0 → ⊥

-- after `pop_word`: the lowest word with a member went out
pub record Popped (at word : ℕ) (before after : List ℕ) : Type 0 where
  pub long : length after ≡ length before
  pub small : at < 64
  pub some : word ≡ 0 → ⊥
  pub set : (u : ℕ) → in_layer before u ≡ (in_word at word u || in_layer after u)
  pub higher : (u : ℕ) → in_layer after u ≡ true → 64 * at + 64 ≤ u
  pub layer : Layer after
