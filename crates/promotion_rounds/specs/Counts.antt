-- The region counts always add up to the unsolved vertices: in whatever state the work area shows, so in all that the loop
-- reaches.
use Rattle.std.specs.Prelude.{List, ◌≡◌, refl, ℕ, zero, suc, ◌+◌, ◌≤◌, ◌<◌, eqb, ltb, length}
use Rattle.std.proofs.Common.{⊎_elim, sym, ◌∙◌, arith, eq-eqb, ne_eqb, lt-ltb, le-ltb}
use Rattle.rules.specs.Counting.{count}
use Rattle.rules.specs.Tables.{game_of, tables_of}
use Rattle.rules.specs.Promotion.{Regions, unsolved, round_of, after_rounds}
use Rattle.basics.specs.Basics.{count_cong, count_none, lt_or_ge}
use Rattle.predecessors.specs.Stages.{sum_to}
use Rattle.promotion_levels.specs.Nesting.{unsolved_is}
use Rattle.promotion_levels.specs.Layout.{level_in, region_in, Ready}
use Rattle.promotion_rounds.specs.Shown.{Shows}
use Rattle.promotion_rounds.specs.RoundPromise.{RoundReady, RoundDone}
use Rattle.promotion_rounds.specs.SolveAll.{RoundsReached, left_is}

-- how many vertices each of the regions 0 to 255 has by the levels, added up
abbrev pub counts_in : ℕ → ℕ → ℕ → List ℕ → List ℕ → ℕ
counts_in n m s priorities work = sum_to (λ q. count n (λ v. eqb (region_in n m s priorities work v) q)) 256

-- those below k + 1 are those below k and those at k
count_next :
    (n : ℕ) (f : ℕ → ℕ) (k : ℕ) →
    count n (λ v. ltb (f v) (suc k)) ≡ count n (λ v. ltb (f v) k) + count n (λ v. eqb (f v) k)
unfolding count
count_next zero f k = refl
count_next (suc n) f k =
    let before = count_next n f k in
    ⊎_elim
    (λ (below : f n < k).
    rw (lt-ltb (f n) (suc k) (omega arith), lt-ltb (f n) k below, ne_eqb (f n) k (λ e. omega arith)) (omega arith))
    (λ (above : k ≤ f n).
    ⊎_elim
    (λ (here : f n < suc k).
    rw (lt-ltb (f n) (suc k) here, le-ltb (f n) k above, eq-eqb (f n) k (omega arith)) (omega arith))
    (λ (past : suc k ≤ f n).
    rw (le-ltb (f n) (suc k) past, le-ltb (f n) k above, ne_eqb (f n) k (λ e. omega arith)) (omega arith))
    (lt_or_ge (f n) (suc k)))
    (lt_or_ge (f n) k)

-- the counts below region k are the vertices of a region below k
counts_below :
    (n : ℕ) (f : ℕ → ℕ) (k : ℕ) → sum_to (λ q. count n (λ v. eqb (f v) q)) k ≡ count n (λ v. ltb (f v) k)
unfolding sum_to
counts_below n f zero = sym (count_none n (λ v. ltb (f v) 0) (λ v b. le-ltb (f v) 0 (omega arith)))
counts_below n f (suc k) =
    let before = counts_below n f k in
    let next = count_next n f k in
    omega arith

-- **The region counts add up to the unsolved vertices.**
pub counts_add_up :
    {n : ℕ} {priorities offsets targets : List ℕ} {s : ℕ} {work : List ℕ} →
    Ready n priorities offsets targets s work →
    counts_in n (length targets) s priorities work ≡ count n (level_in n (length targets) s work 0)
counts_add_up {n} {priorities} {offsets} {targets} {s} {work} ready =
    counts_below n (region_in n (length targets) s priorities work) 256 ∙
    count_cong n _ _ (λ v l. unsolved_is ready.nests v)

-- the counts add up to the small state's number, and this is how many vertices are unsolved by the rules
pub record AddUp (owners priorities offsets targets : List ℕ) (s : ℕ) (r : Regions) (many : ℕ) (work : List ℕ) : Type 0 where
  pub counts : counts_in (length owners) (length targets) s priorities work ≡ many
  pub unsolved : many ≡ count (length owners) (unsolved (game_of (tables_of owners priorities offsets targets)) r.region)

module _ (owners priorities offsets targets : List ℕ) (s : ℕ) where
  -- **in every state that the work area shows,**
  pub shown_add_up :
      {r : Regions} {at many : ℕ} {work : List ℕ} →
      Shows owners priorities offsets targets s r at many work →
      AddUp owners priorities offsets targets s r many work
  shown_add_up shows =
      record {
        counts = counts_add_up shows.ready ∙ sym shows.left;
        unsolved = shows.left ∙ count_cong (length owners) _ _ (left_is shows);
      }

  -- **so in every state that the loop reaches, the first and the last included,**
  pub reached_add_up :
      {at many made : ℕ} {work : List ℕ} →
      RoundsReached owners priorities offsets targets s at many made work →
      AddUp owners priorities offsets targets s (after_rounds (game_of (tables_of owners priorities offsets targets)) made) many work
  reached_add_up reached = shown_add_up reached.shows

  -- **and after every single round.**
  pub round_add_up :
      {at many made at' many' made' : ℕ} {before after : List ℕ} →
      (ready : RoundReady owners priorities offsets targets s at many made before) →
      RoundDone owners priorities offsets targets s at many made at' many' made' before after →
      AddUp owners priorities offsets targets s
      (round_of (game_of (tables_of owners priorities offsets targets))
      (after_rounds (game_of (tables_of owners priorities offsets targets)) ready.made))
      many' after
  round_add_up ready done = shown_add_up (done.shown ready.made ready.shows).0
