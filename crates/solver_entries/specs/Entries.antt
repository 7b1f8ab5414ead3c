-- The entry of each vertex as it is written out, and the way that the code goes to it.
use Rattle.std.specs.Prelude.{Bool, true, cond, List, ◌≡◌, ℕ, ◌*◌, ◌<◌, eqb, length, get_or}
use Rattle.std.proofs.Common.{sym, ◌∙◌, eq-eqb, ne_eqb}
use Rattle.rules.specs.Counting.{Set}
use Rattle.rules.specs.Words.{set_of, no_entry}

-- whether the owner of v wins it
abbrev pub owner_wins : List ℕ → List ℕ → List ℕ → Set
owner_wins owners even odd v = cond (eqb (get_or owners v 0) 0) (set_of even v) (set_of odd v)

-- what `strategy_entry` asks for
pub record Entered (owners even odd entries : List ℕ) (v : ℕ) : Type 0 where
  pub small : v < length owners
  pub long : length entries ≡ length owners
  pub even_bits : v < 64 * length even
  pub odd_bits : v < 64 * length odd
  pub narrow : owner_wins owners even odd v ≡ true → get_or entries v 0 < 65536

-- the entry of v: its own where its owner wins it; else none
abbrev pub chosen : List ℕ → List ℕ → List ℕ → List ℕ → ℕ → ℕ
chosen owners even odd entries v = cond (owner_wins owners even odd v) (get_or entries v 0) no_entry

-- what `write_strategy` asks for
pub record StrategyWritable (owners even odd entries strategy : List ℕ) : Type 0 where
  pub each : length strategy ≡ length owners
  pub entered : (v : ℕ) → v < length owners → Entered owners even odd entries v

-- what it leaves
pub record StrategyWritten (owners even odd entries before after : List ℕ) : Type 0 where
  pub long : length after ≡ length before
  pub all : (v : ℕ) → v < length owners → get_or after v 0 ≡ chosen owners even odd entries v

-- the entry of v, by the way that the code goes
module _ {owners even odd entries : List ℕ} {v : ℕ} (given : Entered owners even odd entries v) where
  by_owner :
      {won : Bool} → owner_wins owners even odd v ≡ won →
      cond won (get_or entries v 0) no_entry ≡ chosen owners even odd entries v
  by_owner e = sym (rw e)

  wins_even : get_or owners v 0 ≡ 0 → {won : Bool} → won ≡ set_of even v → owner_wins owners even odd v ≡ won
  wins_even o e = rw (eq-eqb (get_or owners v 0) 0 o) (sym e)

  wins_odd : (get_or owners v 0 ≡ 0 → ⊥) → {won : Bool} → won ≡ set_of odd v → owner_wins owners even odd v ≡ won
  wins_odd o e = rw (ne_eqb (get_or owners v 0) 0 o) (sym e)

  -- Even's vertex, where it is known whether Even wins it
  pub entry_even :
      get_or owners v 0 ≡ 0 →
      {told won : Bool} → told ≡ set_of even v → told ≡ won →
      cond won (get_or entries v 0) no_entry ≡ chosen owners even odd entries v
  entry_even o e is = by_owner (wins_even o e ∙ is)

  -- Odd's vertex
  pub entry_odd :
      (get_or owners v 0 ≡ 0 → ⊥) →
      {told won : Bool} → told ≡ set_of odd v → told ≡ won →
      cond won (get_or entries v 0) no_entry ≡ chosen owners even odd entries v
  entry_odd o e is = by_owner (wins_odd o e ∙ is)

  -- where its owner wins it, the entry fits
  pub narrow_even :
      get_or owners v 0 ≡ 0 → {told : Bool} → told ≡ set_of even v → told ≡ true → get_or entries v 0 < 65536
  narrow_even o e p = given.narrow (wins_even o e ∙ p)

  pub narrow_odd :
      (get_or owners v 0 ≡ 0 → ⊥) → {told : Bool} → told ≡ set_of odd v → told ≡ true → get_or entries v 0 < 65536
  narrow_odd o e p = given.narrow (wins_odd o e ∙ p)
