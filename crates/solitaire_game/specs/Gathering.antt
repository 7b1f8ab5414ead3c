-- From the row of marked words to the two sets that the attractor works on: all vertices, and behind them the marked ones.
use Rattle.std.specs.Prelude.{Bool, true, false, ◌&&◌, cond, List, ◌⊎◌, ◌≡◌, refl, ℕ, ◌+◌, ◌-◌, ◌*◌, ◌≤◌, ◌<◌, eqb, ltb, length, get_or, take, drop}
use Rattle.std.proofs.Common.{inl, inr, ⊎_elim, sym, ap, ◌∙◌, arith, lt-ltb, le-ltb, ltb-true, eqb-true}
use Rattle.std.proofs.lemmas.Bool.{eqb-false}
use Rattle.rules.specs.Counting.{Set}
use Rattle.rules.specs.Tables.{words}
use Rattle.rules.specs.Words.{set_of}
use Rattle.basics.specs.Basics.{bool_cases, bool_ext, clash, and_intro, and_left, and_right}
use Rattle.basics.specs.Frame.{Beside, Below, Unchanged}
use Rattle.sets.specs.After.{Cleared, Filled, Put}
use Rattle.sets.specs.Laws.{put_set, filled_set}
use Rattle.area.specs.Area.{set_at, words_at}
use Rattle.area.specs.Lent.{part_is, part_length, part_set, words_cover, bit_fits, back, back_long, back_front, back_behind, back_part}
use Rattle.search_links.specs.Area.{marked, marked_alike, true_marked, false_marked, marked_true}
use Rattle.area.specs.SetsAt.{set_kept, set_cleared}

-- a row of n words, and behind it a set without a member
pub record Gatherable (n s row set : ℕ) (work : List ℕ) : Type 0 where
  pub size : s ≡ words n
  pub low : row + n ≤ set
  pub high : set + s ≤ length work
  pub blank : (v : ℕ) → set_at n set work v ≡ false

-- the marked vertices below k are in the set, and every word outside it is as it was
pub record Gathered (n row set k : ℕ) (before after : List ℕ) : Type 0 where
  pub long : length after ≡ length before
  pub rest : Unchanged (Beside (words n) set) before after
  pub found : (v : ℕ) → set_at n set after v ≡ (ltb v k && marked n row before v)

-- the words of a part that was lent and comes back as ys
back_words : (n s a : ℕ) (xs ys : List ℕ) → s ≡ words n → a + s ≤ length xs → length ys ≡ s → words_at n a (back a s xs ys) ≡ ys
back_words n s a xs ys size fits long =
    ap (λ (k : ℕ). take k (drop a (back a s xs ys))) (sym size) ∙ back_part a s xs ys fits long

-- one vertex more, in the set or not
test_passed : (M : Set) (k v : ℕ) → M k ≡ false → (ltb v k && M v) ≡ (ltb v (k + 1) && M v)
test_passed M k v out =
    bool_ext (ltb v k && M v) (ltb v (k + 1) && M v)
    (λ e. let l = ltb-true v k (and_left (ltb v k) (M v) e) in and_intro (lt-ltb v (k + 1) (omega arith)) (and_right (ltb v k) (M v) e))
    (λ e.
    let l = ltb-true v (k + 1) (and_left (ltb v (k + 1)) (M v) e) in
    let m = and_right (ltb v (k + 1)) (M v) e in
    let other : v ≡ k → ⊥ = λ is. clash m (ap M is ∙ out) in
    and_intro (lt-ltb v k (omega (arith, other))) m)

test_joined : (M : Set) (k v : ℕ) → M k ≡ true → cond (eqb v k) true (ltb v k && M v) ≡ (ltb v (k + 1) && M v)
test_joined M k v in' = go (bool_cases (eqb v k))
  where
    go : (eqb v k ≡ true) ⊎ (eqb v k ≡ false) → cond (eqb v k) true (ltb v k && M v) ≡ (ltb v (k + 1) && M v)
    go (inl e) =
        let is = eqb-true v k e in
        rw e (sym (and_intro (lt-ltb v (k + 1) (omega arith)) (ap M is ∙ in')))
    go (inr e) =
        let other = eqb-false v k e in
        rw e
        (bool_ext (ltb v k && M v) (ltb v (k + 1) && M v)
        (λ q. let l = ltb-true v k (and_left (ltb v k) (M v) q) in and_intro (lt-ltb v (k + 1) (omega arith)) (and_right (ltb v k) (M v) q))
        (λ q.
        let l = ltb-true v (k + 1) (and_left (ltb v (k + 1)) (M v) q) in
        and_intro (lt-ltb v k (omega (arith, other))) (and_right (ltb v (k + 1)) (M v) q)))

module _ (n s row set : ℕ) (w₀ : List ℕ) (given : Gatherable n s row set w₀) where
  pub gathered_none : Gathered n row set 0 w₀ w₀
  gathered_none =
      record {
        long = refl;
        rest = λ i o. refl;
        found = λ v. given.blank v ∙ sym (ap (λ (b : Bool). b && marked n row w₀ v) (le-ltb v 0 (omega arith)));
      }

  module _ (k : ℕ) (w : List ℕ) (g : Gathered n row set k w₀ w) (small : k < n) where
    fits : set + s ≤ length w
    fits = omega (arith, given.high, g.long)

    word : get_or w (row + k) 0 ≡ get_or w₀ (row + k) 0
    word = g.rest (row + k) (inl (omega (arith, given.low)))

    pub insert_fits : k < 64 * length (take ((set + s) - set) (drop set w))
    insert_fits = bit_fits n s set k w given.size (omega (arith, fits, given.size)) small

    -- a vertex that is not marked
    pub gathered_passed : get_or w (row + k) 0 ≡ 0 → Gathered n row set (k + 1) w₀ w
    gathered_passed z =
        record {
          long = g.long;
          rest = g.rest;
          found = λ v. g.found v ∙ test_passed (marked n row w₀) k v (false_marked n row w₀ k (sym word ∙ z));
        }

    -- a marked vertex
    pub gathered_joined :
        (get_or w (row + k) 0 ≡ 0 → ⊥) →
        (ys : List ℕ) →
        Put k 1 (take ((set + s) - set) (drop set w)) ys →
        Gathered n row set (k + 1) w₀ (back set s w ys)
    gathered_joined d ys p =
        record {
          long = back_long set s w ys fits as_long ∙ g.long;
          rest =
              λ i o.
              ⊎_elim (back_front set s w ys fits as_long i) (λ h. back_behind set s w ys fits as_long i (omega (arith, given.size))) o ∙ g.rest i o;
          found =
              λ v.
              ap (λ (xs : List ℕ). set_of xs v) (back_words n s set w ys given.size fits as_long) ∙
              put_set k 1 (take ((set + s) - set) (drop set w)) ys p v ∙
              ap (λ (S : Set). cond (eqb v k) true (S v)) (part_set n s set w given.size) ∙
              ap (λ (b : Bool). cond (eqb v k) true b) (g.found v) ∙
              test_joined (marked n row w₀) k v (true_marked n row w₀ k small (λ z. d (word ∙ z)));
        }
      where
        as_long : length ys ≡ s
        as_long = p.long ∙ ap length (part_is set s w) ∙ part_length set s w fits

-- ---- both sets

pub record GoodPlaceable (n s row base : ℕ) (work : List ℕ) : Type 0 where
  pub size : s ≡ words n
  pub low : row + n ≤ base
  pub high : base + s + s ≤ length work

-- all vertices at the base, the marked ones behind them, and every word before the base as it was
pub record GoodPlaced (n s row base : ℕ) (before after : List ℕ) : Type 0 where
  pub long : length after ≡ length before
  pub front : Unchanged (Below base) before after
  pub full : (v : ℕ) → set_at n base after v ≡ ltb v n
  pub found : (v : ℕ) → set_at n (base + s) after v ≡ marked n row before v

module _ (n s row base : ℕ) (w₀ : List ℕ) (given : GoodPlaceable n s row base w₀)
    (w₁ : List ℕ) (cleared : Cleared base (s + s) w₀ w₁)
  where
    fits₁ : base + s ≤ length w₁
    fits₁ = omega (arith, given.high, cleared.long)

    pub fill_fits : n ≤ 64 * length (take ((base + s) - base) (drop base w₁))
    fill_fits = rw (part_is base s w₁, part_length base s w₁ fits₁, given.size) (words_cover n)

    module _ (ys : List ℕ) (filled : Filled n (take ((base + s) - base) (drop base w₁)) ys) where
      abbrev w₂ : List ℕ
      w₂ = back base s w₁ ys

      as_long : length ys ≡ s
      as_long = filled.long ∙ ap length (part_is base s w₁) ∙ part_length base s w₁ fits₁

      long₂ : length w₂ ≡ length w₀
      long₂ = back_long base s w₁ ys fits₁ as_long ∙ cleared.long

      full₂ : (v : ℕ) → set_at n base w₂ v ≡ ltb v n
      full₂ v =
          ap (λ (xs : List ℕ). set_of xs v) (back_words n s base w₁ ys given.size fits₁ as_long) ∙
          filled_set n (take ((base + s) - base) (drop base w₁)) ys filled
          (λ u.
          ap (λ (S : Set). S u) (part_set n s base w₁ given.size) ∙
          set_cleared n base (s + s) base cleared (omega arith) (omega (arith, given.size)) u)
          v

      pub gather_ready : Gatherable n s row (base + s) w₂
      gather_ready =
          record {
            size = given.size;
            low = omega (arith, given.low);
            high = omega (arith, given.high, long₂);
            blank =
                λ v.
                set_kept n (base + s) w₁ w₂ (λ i a b. back_behind base s w₁ ys fits₁ as_long i a) v ∙
                set_cleared n base (s + s) (base + s) cleared (omega arith) (omega (arith, given.size)) v;
          }

      pub both_placed : (w₃ : List ℕ) → Gathered n row (base + s) n w₂ w₃ → GoodPlaced n s row base w₀ w₃
      both_placed w₃ g =
          record {
            long = g.long ∙ long₂;
            front = λ i l. g.rest i (inl (omega arith)) ∙ front₂ i l;
            full =
                λ v. set_kept n base w₂ w₃ (λ i a b. g.rest i (inl (omega (arith, given.size)))) v ∙ full₂ v;
            found = λ v. g.found v ∙ inside v ∙ ap (λ (S : Set). S v) row_kept;
          }
        where
          front₂ : Unchanged (Below base) w₀ w₂
          front₂ i l = back_front base s w₁ ys fits₁ as_long i l ∙ cleared.rest i (inl l)

          row_kept : marked n row w₂ ≡ marked n row w₀
          row_kept = marked_alike n row w₀ w₂ (λ v l. front₂ (row + v) (omega (arith, given.low)))

          inside : (v : ℕ) → (ltb v n && marked n row w₂ v) ≡ marked n row w₂ v
          inside v =
              bool_ext (ltb v n && marked n row w₂ v) (marked n row w₂ v)
              (and_right (ltb v n) (marked n row w₂ v))
              (λ e. and_intro (lt-ltb v n (marked_true n row w₂ v e).0) e)
