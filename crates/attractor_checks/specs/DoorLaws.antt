-- Laws for the checks of the public attractor: the test of check 12 and the sizes by their cases, and what accepted sets say.
use Rattle.std.specs.Prelude.{Bool, true, false, ◌&&◌, not, List, [], ◌∷◌, ◌≡◌, refl, ℕ, ◌*◌, ◌≤◌, ◌<◌, length}
use Rattle.std.proofs.Common.{⊎_elim, sym, ◌∙◌, arith}
use borrow.Author.Tests.{lt-ltb, le-ltb, eq-eqb, ne_eqb}
use Rattle.rules.specs.Counting.{every_of}
use Rattle.rules.specs.Outcome.{Verdict, none, refused, ◌then◌}
use Rattle.rules.specs.Tables.{words, work_words, check9, check10}
use Rattle.rules.specs.Words.{set_of}
use Rattle.rules.specs.Attractor.{check12}
use Rattle.basics.specs.Basics.{clash, lt_or_ge, not_false_is_true}
use Rattle.parity_game.specs.Laws.{given_at_none, check9_set, check9_table, then_assoc}
use Rattle.sets.specs.Laws.{member_inside}
use Rattle.attractor_checks.specs.Door.{stray, size_checks}

-- ---- check 12

module _ (n : ℕ) (V' T : List ℕ) (b : ℕ) where
  pub stray_inside : b < n → set_of V' b ≡ true → false ≡ stray n V' T b
  stray_inside l i = rw (lt-ltb b n l, i) (go (set_of T b))
    where
      go : (t : Bool) → false ≡ (t && not true)
      go true = refl
      go false = refl

  pub stray_asked : b < n → set_of V' b ≡ false → set_of T b ≡ stray n V' T b
  stray_asked l o = rw (lt-ltb b n l, o) (go (set_of T b))
    where
      go : (t : Bool) → t ≡ (t && not false)
      go true = refl
      go false = refl

  pub stray_above : n ≤ b → set_of V' b ≡ true → true ≡ stray n V' T b
  stray_above l i = rw (le-ltb b n l, i)

  pub stray_above_asked : n ≤ b → set_of V' b ≡ false → set_of T b ≡ stray n V' T b
  stray_above_asked l o = rw (le-ltb b n l, o)

-- the sizes by cases: each that is wrong refuses, and where all are right the work area's length decides
module _ (n m within target result strategy distances work : ℕ) where
  abbrev sizes : Verdict
  sizes = size_checks n m within target result strategy distances work

  pub size_within : (within ≡ words n → ⊥) → refused 9 0 ≡ sizes
  unfolding check9 every_of
  size_within d = rw (ne_eqb within (words n) d)

  pub size_target : within ≡ words n → (target ≡ words n → ⊥) → refused 9 0 ≡ sizes
  unfolding check9 every_of
  size_target a d = rw (eq-eqb within (words n) a, ne_eqb target (words n) d)

  pub size_result : within ≡ words n → target ≡ words n → (result ≡ words n → ⊥) → refused 9 0 ≡ sizes
  unfolding check9 every_of
  size_result a b d = rw (eq-eqb within (words n) a, eq-eqb target (words n) b, ne_eqb result (words n) d)

  -- past the sizes of the sets
  module _ (a : within ≡ words n) (b : target ≡ words n) (c : result ≡ words n) where
    pub size_strategy : (strategy ≡ n → ⊥) → refused 9 0 ≡ sizes
    unfolding check9 every_of
    size_strategy d =
        rw (eq-eqb within (words n) a, eq-eqb target (words n) b, eq-eqb result (words n) c, ne_eqb strategy n d)

    pub size_distances : strategy ≡ n → (distances ≡ n → ⊥) → refused 9 0 ≡ sizes
    unfolding check9 every_of
    size_distances d e =
        rw (
          eq-eqb within (words n) a,
          eq-eqb target (words n) b,
          eq-eqb result (words n) c,
          eq-eqb strategy n d,
          ne_eqb distances n e,
        )

    -- and of the tables
    nine_passed : strategy ≡ n → distances ≡ n → check10 n m work ≡ sizes
    unfolding check9 every_of
    nine_passed d e =
        rw (
          eq-eqb within (words n) a,
          eq-eqb target (words n) b,
          eq-eqb result (words n) c,
          eq-eqb strategy n d,
          eq-eqb distances n e,
        )

    ten_refuses : work < work_words n m → check10 n m work ≡ refused 10 0
    unfolding check10
    ten_refuses l = rw (lt-ltb work (work_words n m) l)

    ten_passes : work_words n m ≤ work → check10 n m work ≡ none
    unfolding check10
    ten_passes l = rw (le-ltb work (work_words n m) l)

    pub size_work : strategy ≡ n → distances ≡ n → work < work_words n m → refused 10 0 ≡ sizes
    size_work d e l = sym (ten_refuses l) ∙ nine_passed d e

    pub size_right : strategy ≡ n → distances ≡ n → work_words n m ≤ work → none ≡ sizes
    size_right d e l = sym (ten_passes l) ∙ nine_passed d e

-- the sizes one by one are the sizes
module _ (n m within target result strategy distances work : ℕ) where
  abbrev one_set : ℕ → Verdict
  one_set k = check9 n (k ∷ []) []

  abbrev tables_left : Verdict
  tables_left = check9 n [] (strategy ∷ []) then check9 n [] (distances ∷ []) then check10 n m work

  pub sizes_in_order :
      one_set within then one_set target then one_set result then tables_left ≡
      size_checks n m within target result strategy distances work
  sizes_in_order =
      simp (
        check9_set n within (target ∷ result ∷ []) (strategy ∷ distances ∷ []),
        check9_set n target (result ∷ []) (strategy ∷ distances ∷ []),
        check9_set n result [] (strategy ∷ distances ∷ []),
        check9_table n strategy (distances ∷ []),
        then_assoc,
      )

-- sets that check 12 lets pass: V has no bit at n or above, and holds the target
module _ (n : ℕ) (V' T : List ℕ) (first : length V' ≡ words n) (second : length T ≡ words n) (passed : check12 n V' T ≡ none) where
  fails : (b : ℕ) → b < 64 * words n → stray n V' T b ≡ false
  unfolding check12
  fails = given_at_none 12 (64 * words n) (stray n V' T) passed

  pub within_below : (v : ℕ) → set_of V' v ≡ true → v < n
  within_below v p =
      let inside = member_inside V' v p in
      ⊎_elim
      (λ l. l)
      (λ l. absurd (clash (sym (stray_above n V' T v l p)) (fails v (omega arith))))
      (lt_or_ge v n)

  pub target_part : (v : ℕ) → set_of T v ≡ true → set_of V' v ≡ true
  target_part v p =
      let inside = member_inside T v p in
      not_false_is_true
      (set_of V' v)
      (λ o.
      ⊎_elim
      (λ l. clash (sym (stray_asked n V' T v l o) ∙ p) (fails v (omega arith)))
      (λ l. clash (sym (stray_above_asked n V' T v l o) ∙ p) (fails v (omega arith)))
      (lt_or_ge v n))
