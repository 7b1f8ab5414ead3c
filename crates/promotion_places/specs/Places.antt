-- The levels stand one after another, and below the end; and what they say is read off their own words alone.
use Rattle.std.specs.Prelude.{Bool, true, false, ◌&&◌, not, List, ◌⊎◌, ◌≡◌, refl, ℕ, suc, ◌+◌, ◌*◌, ◌≤◌, ◌<◌, length, get_or}
use Rattle.std.proofs.Common.{inl, inr, sym, ◌∙◌, mul-le-mul_right, add-mul, le_refl, arith, lt-ltb, le-ltb}
use Rattle.std.proofs.Math.Logic.{⊎_elim}
use Rattle.rules.specs.Counting.{Set}
use Rattle.rules.specs.Game.{Game}
use Rattle.rules.specs.Tables.{words, game_of, tables_of}
use Rattle.rules.specs.Promotion.{unsolved}
use Rattle.basics.specs.Basics.{bool_cases, lt_or_ge, not_true_is_false}
use Rattle.theory.specs.PromotionBasics.{at_region, up_to}
use Rattle.area.specs.SetsAt.{set_kept}
use Rattle.priority_sets.specs.Sorting.{SetsOf, set_of_priority, set_room}
use Rattle.promotion_places.specs.Nesting.{region_of, Nesting, inside_all, region_solved, here_is, up_is, unsolved_is}
use Rattle.promotion_places.specs.Layout.{levels_at, level_at, end_at, deep, level_in}

-- one set more, of those that stand from a place on
pub more_sets : (s at i j : ℕ) → i < j → at + i * s + s ≤ at + j * s
more_sets s at i j l =
    let more : i + 1 ≤ j = omega arith in
    let most = mul-le-mul_right s more in
    let e : (i + 1) * s ≡ i * s + 1 * s = add-mul i 1 s in
    omega arith

pub next_place : (s at j : ℕ) → at + (j + 1) * s ≡ at + j * s + s
next_place s at j = let e : (j + 1) * s ≡ j * s + 1 * s = add-mul j 1 s in omega arith

module _ (n m s : ℕ) where
  pub next_level : (j : ℕ) → level_at n m s (suc j) ≡ level_at n m s j + s
  next_level j = let e : suc j ≡ j + 1 = omega arith in rw e (next_place s (levels_at n m s) j)

  pub level_apart : (i j : ℕ) → i < j → level_at n m s i + s ≤ level_at n m s j
  level_apart i j l = more_sets s (levels_at n m s) i j l

  pub level_high : (j : ℕ) → j < deep n → level_at n m s j + s ≤ end_at n m s
  level_high j l = more_sets s (levels_at n m s) j (deep n) l

-- a level is as it was where its words are
pub level_kept :
    (n m s j : ℕ) (before after : List ℕ) →
    ((i : ℕ) → level_at n m s j ≤ i → i < level_at n m s j + words n → get_or after i 0 ≡ get_or before i 0) →
    (v : ℕ) →
    level_in n m s after j v ≡ level_in n m s before j v
level_kept n m s j before after same = set_kept n (level_at n m s j) before after same

-- and so are the sets of the priorities
pub sets_kept :
    (n at : ℕ) (priorities before after : List ℕ) →
    ((i : ℕ) → at ≤ i → i < at + 256 * words n → get_or after i 0 ≡ get_or before i 0) →
    SetsOf n priorities n at before →
    SetsOf n priorities n at after
sets_kept n at priorities before after same sets p v l =
    set_kept n (set_of_priority (words n) at p) before after
    (λ i low high. let room = set_room (words n) at p l in same i (omega arith) (omega arith)) v ∙
    sets p v l

-- ---- a round's sets by the regions that the levels tell

module _ (owners priorities offsets targets : List ℕ) {k : ℕ} {L : ℕ → Set} {P : ℕ → ℕ}
    (nests : Nesting (length owners) k L P (λ v. get_or priorities v 0))
  where
    abbrev n : ℕ
    n = length owners

    abbrev g : Game
    g = game_of (tables_of owners priorities offsets targets)

    abbrev T : ℕ → ℕ
    T = region_of L P (λ v. get_or priorities v 0) k

    pub solved_above : (v : ℕ) → n ≤ v → T v ≡ 256
    solved_above v l = region_solved nests v (not_true_is_false (L 0 v) (λ h. let b = nests.below v h in omega arith))

    -- **the unsolved vertices are level 0**
    pub left_is : (v : ℕ) → unsolved g T v ≡ L 0 v
    unfolding game_of
    left_is v =
        ⊎_elim
        (λ (l : v < n). rw (lt-ltb v n l) (unsolved_is nests v))
        (λ (l : n ≤ v).
        rw (le-ltb v n l) (sym (not_true_is_false (L 0 v) (λ h. let b = nests.below v h in omega arith))))
        (lt_or_ge v n)

    -- **those of region at most p are level k**
    pub up_to_is : (v : ℕ) → up_to (unsolved g T) T (P k) v ≡ L k v
    up_to_is v = go (bool_cases (L k v))
      where
        go : (L k v ≡ true) ⊎ (L k v ≡ false) → up_to (unsolved g T) T (P k) v ≡ L k v
        go (inl h) = rw (left_is v, up_is nests k v (le_refl k), inside_all nests 0 k v (omega arith) (omega arith) h, h)
        go (inr h) = rw (left_is v, up_is nests k v (le_refl k), h) (and_no (L 0 v))
          where
            and_no : (b : Bool) → (b && false) ≡ false
            and_no true = refl
            and_no false = refl

    -- **those of region p are level k without the next**
    pub at_region_is : (v : ℕ) → at_region (unsolved g T) T (P k) v ≡ (L k v && not (L (suc k) v))
    at_region_is v = go (bool_cases (L k v))
      where
        go : (L k v ≡ true) ⊎ (L k v ≡ false) → at_region (unsolved g T) T (P k) v ≡ (L k v && not (L (suc k) v))
        go (inl h) = rw (left_is v, here_is nests k v (le_refl k), inside_all nests 0 k v (omega arith) (omega arith) h)
        go (inr h) = rw (left_is v, here_is nests k v (le_refl k), h) (and_no (L 0 v))
          where
            and_no : (b : Bool) → (b && false) ≡ false
            and_no true = refl
            and_no false = refl
