-- The members of a set lose their entries: what the walk over them asks for and leaves.
use Rattle.std.specs.Prelude.{true, List, ◌≡◌, refl, ℕ, ◌+◌, ◌≤◌, ◌<◌, length, set}
use Rattle.std.proofs.Common.{inr, arith}
use Rattle.rules.specs.Tables.{words}
use Rattle.rules.specs.Words.{no_entry}
use Rattle.basics.specs.Frame.{Beside}
use Rattle.area.specs.Area.{set_at}
use Rattle.area.specs.Walked.{Walkable, Keeps, Turn, Always, word_of, store_turn, WalkedTo, Walked}
use Rattle.walk.specs.declared.members.Members.{Members}

-- a member has no entry
abbrev pub Forgets : ℕ → ℕ → ℕ → Type 0
Forgets u old new = new ≡ no_entry

-- what `forget` asks for: members below n, whose entries stand before the set
pub record Forgettable (n s base entries : ℕ) (work : List ℕ) : Type 0 where
  pub size : s ≡ words n
  pub few : n ≤ 4096
  pub order : entries + n ≤ base
  pub high : base + words n ≤ length work
  pub below : (v : ℕ) → set_at n base work v ≡ true → v < n

-- the members that the walk has passed have none
abbrev pub ForgottenTo : ℕ → ℕ → ℕ → List ℕ → Members → List ℕ → Type 0
ForgottenTo n base entries = WalkedTo n base (Beside n entries) Always (word_of entries) Forgets

-- all are passed: members have no entry, the other vertices theirs, and every other word is as it was
abbrev pub Forgotten : ℕ → ℕ → ℕ → List ℕ → List ℕ → Type 0
Forgotten n base entries = Walked n base (Beside n entries) Always (word_of entries) Forgets

module _ {n s base entries : ℕ} {work : List ℕ} (given : Forgettable n s base entries work) where
  pub forget_walkable : Walkable n s base (Beside n entries) work
  forget_walkable =
      record {
        size = given.size;
        few = given.few;
        high = given.high;
        below = given.below;
        out = λ i low high. inr (omega (arith, given.order));
      }

  module _ {now : List ℕ} (keeps : Keeps (Beside n entries) Always work now) where
    pub forget_fits : (v : ℕ) → v < n → entries + v < length now
    forget_fits v small = omega (arith, given.order, given.high, keeps.long)

    -- one more is stored
    pub forget_turn :
        {v : ℕ} → v < n → Turn n (Beside n entries) Always (word_of entries) Forgets v now (set now (entries + v) no_entry)
    forget_turn {v} small = store_turn entries no_entry small (omega (arith, given.order, given.high, keeps.long)) refl
