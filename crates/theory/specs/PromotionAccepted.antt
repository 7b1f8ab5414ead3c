-- Priority promotion on accepted tables: it finishes within n · (n + 2) ^ d rounds, p never stays in an open round, and the sets and entries
-- at the end are right.
use Rattle.std.specs.Prelude.{true, false, List, ◌≡◌, ℕ, suc, ◌+◌, ◌*◌, ◌^◌, ◌≤◌, ◌<◌, length}
use Rattle.std.proofs.Common.{le_of_suc-le-suc, le_antisymm, le_trans, le-ltb}
use Rattle.rules.specs.Counting.{some, listed}
use Rattle.rules.specs.Game.{Player, everywhere}
use Rattle.rules.specs.Tables.{Tables, game_of, Accepted}
use Rattle.rules.specs.Words.{no_entry, entry}
use Rattle.rules.specs.Winning.{WinningSets, WinningEntries}
use Rattle.rules.specs.Outcome.{budgeted, answered}
use Rattle.rules.specs.Budget.{different_priorities}
use Rattle.rules.specs.Promotion.{Regions, region_set, region_is_open, after_rounds, round_of, all_solved, rounds_needed}
use Rattle.basics.specs.Basics.{clash, le_of_not_lt, IsLowest}
use Rattle.accepted.specs.Tables.{accepted_total, accepted_few, accepted_priority}
use Rattle.theory.specs.PromotionEntries.{Rounded}
use Rattle.theory.specs.PromotionRounds.{lower_vertices}
use Rattle.theory.specs.PromotionInvariant.{Invariant, rounded_invariant}
use Rattle.theory.specs.PromotionSound.{promotion_sets}
use Rattle.theory.specs.PromotionExists.{rounds_sets}
use Rattle.theory.specs.PromotionChosen.{promotion_entries_win}
use Rattle.theory.specs.PromotionSame.{rounded_strategy}
use Rattle.theory.specs.PromotionBound.{never_stays, needed_lowest}

module _ (t : Tables) (ok : Accepted t) where
  small_priorities : (v : ℕ) → v < (game_of t).size → (game_of t).priority v ≤ 255
  small_priorities v l = accepted_priority t ok v

  few_vertices : (game_of t).size ≤ no_entry
  few_vertices = accepted_few t ok

  -- **The rounds needed are the first after which all vertices are solved, and at most n · (n + 2) ^ d.**
  pub accepted_finishes :
      IsLowest (suc ((game_of t).size * ((game_of t).size + 2) ^ different_priorities (game_of t) (everywhere (game_of t))))
      (λ k. all_solved (game_of t) (after_rounds (game_of t) k))
      (rounds_needed (game_of t))
  accepted_finishes = needed_lowest (game_of t) (accepted_total t ok) small_priorities

  -- there is one such number
  pub accepted_needed :
      (k : ℕ) →
      all_solved (game_of t) (after_rounds (game_of t) k) ≡ true →
      ((j : ℕ) → j < k → all_solved (game_of t) (after_rounds (game_of t) j) ≡ false) →
      rounds_needed (game_of t) ≡ k
  accepted_needed k done first =
      le_antisymm
      (le_of_not_lt (λ less. clash done (accepted_finishes.first k less)))
      (le_of_not_lt (λ less. clash accepted_finishes.passes (first (rounds_needed (game_of t)) less)))

  -- **So 13 is never given at or above that budget.**
  pub accepted_within_budget :
      (budget : ℕ) →
      (game_of t).size * ((game_of t).size + 2) ^ different_priorities (game_of t) (everywhere (game_of t)) ≤ budget →
      budgeted budget (rounds_needed (game_of t)) ≡ answered (rounds_needed (game_of t))
  accepted_within_budget budget l =
      rw (le-ltb budget (rounds_needed (game_of t)) (le_trans (le_of_suc-le-suc accepted_finishes.below) l))

  -- **In an open round some unsolved vertex has a region below p, and p goes down.**
  pub accepted_never_stays :
      (k : ℕ) →
      region_is_open (game_of t) (after_rounds (game_of t) k) (region_set (game_of t) (after_rounds (game_of t) k)) ≡ true →
      (some (game_of t).size (lower_vertices (game_of t) (after_rounds (game_of t) k)) ≡ true) ×
      ((round_of (game_of t) (after_rounds (game_of t) k)).current < (after_rounds (game_of t) k).current)
  accepted_never_stays = never_stays (game_of t) (accepted_total t ok) small_priorities

  -- **Once all vertices are solved, the sets of the rules' rounds are exactly the winning sets.**
  pub accepted_rounds_sets :
      (k : ℕ) → all_solved (game_of t) (after_rounds (game_of t) k) ≡ true → WinningSets (game_of t) (after_rounds (game_of t) k).won
  accepted_rounds_sets = rounds_sets (game_of t) (accepted_total t ok) small_priorities few_vertices

  -- **and their entries are a winning choice.**
  pub accepted_rounds_entries :
      (k : ℕ) →
      all_solved (game_of t) (after_rounds (game_of t) k) ≡ true →
      WinningEntries (game_of t) (after_rounds (game_of t) k).won (listed (game_of t).size (after_rounds (game_of t) k).entries)
  accepted_rounds_entries = promotion_entries_win (game_of t) (accepted_total t ok) small_priorities few_vertices

  module _ {s : Regions} {σ : ℕ → ℕ} (rounded : Rounded (game_of t) s σ) where
    -- the invariant holds of what rounds reach
    pub accepted_invariant : Invariant (game_of t) s σ
    accepted_invariant = rounded_invariant (game_of t) (accepted_total t ok) small_priorities few_vertices rounded

    -- **the sets are exactly the winning sets,**
    pub accepted_promotion_sets : all_solved (game_of t) s ≡ true → WinningSets (game_of t) s.won
    accepted_promotion_sets = promotion_sets (game_of t) (accepted_total t ok) small_priorities few_vertices rounded

    -- **And a table of them, with none elsewhere, is the table of the state's entries.**
    pub accepted_promotion_strategy :
        all_solved (game_of t) s ≡ true →
        (strategy : List ℕ) →
        length strategy ≡ (game_of t).size →
        ((a : Player) (v : ℕ) → v < (game_of t).size → s.won a v ≡ true → (game_of t).owner v ≡ a → entry strategy v ≡ σ v) →
        ((a : Player) (v : ℕ) →
        v < (game_of t).size →
        s.won a v ≡ true →
        ((game_of t).owner v ≡ a → ⊥) →
        entry strategy v ≡ no_entry) →
        strategy ≡ listed (game_of t).size s.entries
    accepted_promotion_strategy = rounded_strategy (game_of t) (accepted_total t ok) small_priorities few_vertices rounded
