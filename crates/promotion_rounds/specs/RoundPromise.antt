-- The contract of a round: where the work area and the small state showed the state after k rounds, they show the state after
-- one more.
use Rattle.std.specs.Prelude.{List, ◌≡◌, ℕ, ◌+◌, ◌<◌, length}
use Rattle.rules.specs.Tables.{game_of, Accepted, tables_of}
use Rattle.rules.specs.Promotion.{round_of, after_rounds}
use Rattle.basics.specs.Frame.{Behind, Unchanged}
use Rattle.theory.specs.PromotionEntries.{RoundEntries, Rounded}
use Rattle.promotion_levels.specs.Layout.{end_at, entry_in}
use Rattle.promotion_rounds.specs.Shown.{Shows}

-- the work area and the small state show the state after some number of rounds, the entries are as these made them, and some
-- vertex is unsolved
pub record RoundReady (owners priorities offsets targets : List ℕ) (s current left rounds : ℕ) (work : List ℕ) : Type 0 where
  pub accepted : Accepted (tables_of owners priorities offsets targets)
  pub made : ℕ
  pub shows :
      Shows owners priorities offsets targets s (after_rounds (game_of (tables_of owners priorities offsets targets)) made) current
      left work
  pub entries :
      Rounded (game_of (tables_of owners priorities offsets targets))
      (after_rounds (game_of (tables_of owners priorities offsets targets)) made) (entry_in (length owners) (length targets) s work)
  pub unsolved : 0 < left
  pub more : rounds < 18446744073709551615

-- **they show the state after one round more, the entries are as a round makes them, and no word behind the tables changes**
pub record RoundDone (owners priorities offsets targets : List ℕ) (s current left rounds current' left' rounds' : ℕ)
    (before after : List ℕ) : Type 0 where
  pub long : length after ≡ length before
  pub counted : rounds' ≡ rounds + 1
  pub shown :
      (k : ℕ) →
      Shows owners priorities offsets targets s (after_rounds (game_of (tables_of owners priorities offsets targets)) k) current left
      before →
      Shows owners priorities offsets targets s
      (round_of (game_of (tables_of owners priorities offsets targets))
      (after_rounds (game_of (tables_of owners priorities offsets targets)) k))
      current' left' after ×
      RoundEntries (game_of (tables_of owners priorities offsets targets))
      (after_rounds (game_of (tables_of owners priorities offsets targets)) k)
      (entry_in (length owners) (length targets) s before) (entry_in (length owners) (length targets) s after)
  pub rest :
      Unchanged (Behind (end_at (length owners) (length targets) s)) before after
