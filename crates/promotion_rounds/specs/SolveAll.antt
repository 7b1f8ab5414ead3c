-- Rounds one after another until all vertices are solved or the budget is used up, and what that says of the rounds needed.
use Rattle.std.specs.Prelude.{Bool, true, ◌&&◌, List, ◌≡◌, length}
use Rattle.std.proofs.Math.Bool.{false, not}
use Rattle.std.proofs.Common.{⊎_elim, ◌∙◌, arith}
use Rattle.std.proofs.Math.Path.{sym, ap, subst}
use Prim.Native.Nat.{ℕ, suc, ◌≤◌, ◌<◌}
use Rattle.std.proofs.Math.Decide.{ℕ_discrete}
use Rattle.std.proofs.Math.Numerals.{add-one}
use Rattle.std.proofs.Math.Dec.{ltb}
use Rattle.rules.specs.Counting.{Set, count}
use Rattle.rules.specs.Game.{Game}
use Rattle.rules.specs.Tables.{game_of, Accepted, tables_of}
use Rattle.rules.specs.Promotion.{Regions, unsolved, after_rounds, all_solved, rounds_needed}
use Rattle.basics.specs.Basics.{clash, lt_or_ge, some_intro, false_some, count_zero, count_some}
use Rattle.basics.specs.Frame.{Behind, Unchanged}
use Rattle.theory.specs.PromotionAccepted.{accepted_finishes, accepted_needed}
use Rattle.theory.specs.PromotionEntries.{Rounded, rounds}
use Rattle.promotion_levels.specs.Layout.{end_at, level_in, entry_in}
use Rattle.promotion_levels.specs.Places.{left_is as levels-left}
use Rattle.promotion_rounds.specs.Shown.{Shows}
use Rattle.promotion_rounds.specs.RoundPromise.{RoundReady, RoundDone}

abbrev game_by : List ℕ → List ℕ → List ℕ → List ℕ → Game
game_by owners priorities offsets targets = game_of (tables_of owners priorities offsets targets)

-- whether all are solved after k rounds
abbrev solved_after : List ℕ → List ℕ → List ℕ → List ℕ → ℕ → Bool
solved_after owners priorities offsets targets k =
    let g = game_by owners priorities offsets targets in all_solved g (after_rounds g k)

-- so many rounds were made, none of the states before had all solved, and the work area and the small state show the state
-- after them
pub record RoundsReached (owners priorities offsets targets : List ℕ) (s at many made : ℕ) (work : List ℕ) : Type 0 where
  pub accepted : Accepted (tables_of owners priorities offsets targets)
  pub shows :
      Shows owners priorities offsets targets s (after_rounds (game_of (tables_of owners priorities offsets targets)) made) at many
      work
  pub entries :
      Rounded (game_of (tables_of owners priorities offsets targets))
      (after_rounds (game_of (tables_of owners priorities offsets targets)) made) (entry_in (length owners) (length targets) s work)
  pub unfinished :
      (j : ℕ) → j < made →
      all_solved (game_of (tables_of owners priorities offsets targets))
      (after_rounds (game_of (tables_of owners priorities offsets targets)) j) ≡ false

-- the rounds end: all are solved within the budget, or the budget is used up
pub record Ended (owners priorities offsets targets : List ℕ) (s budget at many made : ℕ) (before after : List ℕ) : Type 0 where
  pub long : length after ≡ length before
  pub reached : RoundsReached owners priorities offsets targets s at many made after
  pub within : made ≤ budget
  pub over : 0 < many → made ≡ budget
  pub rest :
      Unchanged (Behind (end_at (length owners) (length targets) s)) before after

module _ {owners priorities offsets targets : List ℕ} {s : ℕ} where
  -- whether all are solved, by the number of unsolved vertices
  module _ {r : Regions} {at many : ℕ} {work : List ℕ} (shows : Shows owners priorities offsets targets s r at many work) where
    abbrev n : ℕ
    n = length owners

    abbrev m : ℕ
    m = length targets

    -- the unsolved vertices, in the work area and by the rules
    abbrev left : Set
    left = level_in n m s work 0

    abbrev left_by : Set
    left_by = unsolved (game_by owners priorities offsets targets) r.region

    pub left_is : (v : ℕ) → v < n → left v ≡ left_by v
    unfolding game_of
    left_is v l =
        sym (levels-left owners priorities offsets targets shows.ready.nests v) ∙
        ap (λ (x : ℕ). ltb v n && ltb x 256) (shows.region v l)

    pub none_left : many ≡ 0 → all_solved (game_of (tables_of owners priorities offsets targets)) r ≡ true
    unfolding all_solved game_of
    none_left e =
        ap not
        (false_some n left_by (λ v l. sym (left_is v l) ∙ count_zero n left (sym shows.left ∙ e) v l))

    pub some_left : 0 < many → all_solved (game_of (tables_of owners priorities offsets targets)) r ≡ false
    unfolding all_solved game_of
    some_left more =
        let here : 0 < count n left = rw shows.left at more in
        let (v, l, i) = count_some n left here in
        ap not (some_intro n left_by v l (sym (left_is v l) ∙ i))

  -- one round more
  pub reached_ready :
      {at many made : ℕ} {work : List ℕ} →
      RoundsReached owners priorities offsets targets s at many made work →
      0 < many →
      made < 18446744073709551615 →
      RoundReady owners priorities offsets targets s at many made work
  reached_ready {made = made} r left l =
      record { accepted = r.accepted; made = made; shows = r.shows; entries = r.entries; unsolved = left; more = l }

  pub reached_more :
      {at many made at' many' made' : ℕ} {work after : List ℕ} →
      RoundsReached owners priorities offsets targets s at many made work →
      0 < many →
      RoundDone owners priorities offsets targets s at many made at' many' made' work after →
      RoundsReached owners priorities offsets targets s at' many' made' after
  unfolding after_rounds
  reached_more {at} {many} {made} {at'} {many'} {made'} {work} {after} r left d =
      let (shows, entries) = d.shown made r.shows in
      subst (λ (k : ℕ). RoundsReached owners priorities offsets targets s at' many' k after) (sym (d.counted ∙ add-one made))
      (record {
        accepted = r.accepted;
        shows = shows;
        entries = rounds r.entries entries;
        unfinished = λ j l. go j l (ℕ_discrete j made);
      })
    where
      go :
          (j : ℕ) →
          j < suc made →
          Dec (j ≡ made) →
          solved_after owners priorities offsets targets j ≡ false
      go j l (yes e) =
          ap (λ (k : ℕ). solved_after owners priorities offsets targets k) e ∙
          some_left r.shows left
      go j l (no n) = r.unfinished j (omega (arith, n))

  -- **the rounds made are those needed, where all are solved**
  pub ended_needed :
      {budget at many made : ℕ} {before after : List ℕ} →
      Ended owners priorities offsets targets s budget at many made before after →
      many ≡ 0 →
      rounds_needed (game_of (tables_of owners priorities offsets targets)) ≡ made
  ended_needed {made = made} e z =
      accepted_needed (tables_of owners priorities offsets targets) e.reached.accepted made (none_left e.reached.shows z)
      e.reached.unfinished

  -- **and where some are left, more rounds are needed than the budget**
  pub ended_over :
      {budget at many made : ℕ} {before after : List ℕ} →
      Ended owners priorities offsets targets s budget at many made before after →
      0 < many →
      budget < rounds_needed (game_of (tables_of owners priorities offsets targets))
  ended_over {budget} {made = made} e more =
      let needed = rounds_needed (game_of (tables_of owners priorities offsets targets)) in
      let done = (accepted_finishes (tables_of owners priorities offsets targets) e.reached.accepted).passes in
      not_le_gt (λ l. clash done (go needed l (ℕ_discrete needed made)))
    where
      not_le_gt : {j : ℕ} → (j ≤ budget → ⊥) → budget < j
      not_le_gt {j} h = ⊎_elim (λ l. l) (λ l. absurd (h l)) (lt_or_ge budget j)

      go :
          (j : ℕ) →
          j ≤ budget →
          Dec (j ≡ made) →
          solved_after owners priorities offsets targets j ≡ false
      go j l (yes q) =
          ap (λ (k : ℕ). solved_after owners priorities offsets targets k) q ∙
          some_left e.reached.shows more
      go j l (no n) = e.reached.unfinished j (omega (arith, n, e.over more))
