-- Regions as nested sets. Level j holds the unsolved vertices of region at most P j, so that region P j is level j without the next;
-- what lies in the last level, k + 1, has its priority as region, and what lies in none is solved. So a region goes back to its
-- priorities when its level is dropped, and nothing is written for it.
use Rattle.std.specs.Prelude.{true, false, ◌&&◌, not, cond, ◌⊎◌, ◌≡◌, eqb, ltb, leb}
use Rattle.std.proofs.Math.Bool.{and-false}
use Rattle.std.proofs.Common.{inl, inr, ⊎_elim, sym, ◌∙◌, le_refl, eq-or-lt_of_le, arith, eq-eqb, ne_eqb, lt-ltb, le-ltb, le-leb, eqb-true}
use Prim.Native.Nat.{ℕ, zero, suc, ◌+◌, ◌≤◌, ◌<◌}
use Rattle.std.proofs.Math.Nat.{le_step}
use Rattle.std.proofs.lemmas.Bool.{lt-leb, not-true, eqb-false}
use Rattle.rules.specs.Counting.{Set, count}
use Rattle.basics.specs.Basics.{bool_cases, clash, not_true_is_false, not_false_is_true, and_left, and_right}
use Rattle.basics.specs.Basics.{count_strict, count_le}

-- only 0 is at most 0
zero_only : (i : ℕ) → i ≤ 0 → i ≡ 0
zero_only i l = omega arith

-- the region by the levels up to j: the highest that holds v decides
unfoldable pub region_by : (ℕ → Set) → (ℕ → ℕ) → ℕ → ℕ → ℕ
region_by L P zero v = cond (L 0 v) (P 0) 256
region_by L P (suc j) v = cond (L (suc j) v) (P (suc j)) (region_by L P j v)

-- the region of v: its priority in the last level
unfoldable pub region_of : (ℕ → Set) → (ℕ → ℕ) → (ℕ → ℕ) → ℕ → ℕ → ℕ
region_of L P priority k v = cond (L (suc k) v) (priority v) (region_by L P k v)

pub record Nesting (n k : ℕ) (L : ℕ → Set) (P priority : ℕ → ℕ) : Type 0 where
  pub inside : (j v : ℕ) → j ≤ k → L (suc j) v ≡ true → L j v ≡ true
  pub below : (v : ℕ) → L 0 v ≡ true → v < n
  pub falls : (j : ℕ) → j < k → P (suc j) < P j
  pub small : P 0 < 256
  -- no priority in a level is above the level's, and in the last none reaches the one before
  pub most : (j v : ℕ) → j ≤ k → L j v ≡ true → priority v ≤ P j
  pub fresh : (v : ℕ) → L (suc k) v ≡ true → priority v < P k

-- while a vertex is unsolved, every level has a region
abbrev pub Proper : ℕ → (ℕ → Set) → Type 0
Proper k L =
    (u : ℕ) → L 0 u ≡ true → (j : ℕ) → j ≤ k → (v : ℕ) × (L j v ≡ true) × (L (suc j) v ≡ false)

module _ {n k : ℕ} {L : ℕ → Set} {P priority : ℕ → ℕ} (nests : Nesting n k L P priority) where
  -- a later level lies in an earlier one
  pub inside_all : (i j v : ℕ) → i ≤ j → j ≤ suc k → L j v ≡ true → L i v ≡ true
  inside_all i zero v l u h = rw (zero_only i l) h
  inside_all i (suc j) v l u h =
      ⊎_elim (λ (e : i ≡ suc j). rw e h) (λ (less : i < suc j). inside_all i j v (omega arith) (omega arith) (nests.inside j v (omega arith) h))
      (eq-or-lt_of_le l)

  pub outside_all : (i j v : ℕ) → i ≤ j → j ≤ suc k → L i v ≡ false → L j v ≡ false
  outside_all i j v l u out = not_true_is_false (L j v) (λ h. clash (inside_all i j v l u h) out)

  -- and has a lower priority
  pub falls_all : (i j : ℕ) → i ≤ j → j ≤ k → P j ≤ P i
  falls_all i zero l u = rw (zero_only i l) (le_refl (P 0))
  falls_all i (suc j) l u =
      ⊎_elim (λ (e : i ≡ suc j). rw e (le_refl (P (suc j))))
      (λ (less : i < suc j).
      let h = falls_all i j (omega arith) (omega arith) in
      let f = nests.falls j u in
      omega arith)
      (eq-or-lt_of_le l)

  -- ---- the region by the levels

  -- where v is in level j, that level decides
  by_level : (j v : ℕ) → L j v ≡ true → region_by L P j v ≡ P j
  unfolding region_by
  by_level zero v h = rw h
  by_level (suc j) v h = rw h

  by_rest : (j v : ℕ) → L (suc j) v ≡ false → region_by L P (suc j) v ≡ region_by L P j v
  unfolding region_by
  by_rest j v h = rw h

  by_none : (v : ℕ) → L 0 v ≡ false → region_by L P 0 v ≡ 256
  unfolding region_by
  by_none v h = rw h

  -- levels that do not hold v do not count
  by_drop : (j i v : ℕ) → j ≤ i → i ≤ k → L (suc j) v ≡ false → region_by L P i v ≡ region_by L P j v
  by_drop j zero v l u out = rw (zero_only j l)
  by_drop j (suc i) v l u out =
      ⊎_elim (λ (e : j ≡ suc i). rw e)
      (λ (less : j < suc i).
      by_rest i v (outside_all (suc j) (suc i) v (omega arith) (omega arith) out) ∙
      by_drop j i v (omega arith) (omega arith) out)
      (eq-or-lt_of_le l)

  -- outside level j the region is above its priority
  by_above : (j v : ℕ) → j ≤ k → L j v ≡ false → P j < region_by L P j v
  by_above zero v u out = rw (by_none v out) nests.small
  by_above (suc j) v u out =
      rw (by_rest j v out)
      (⊎_elim
      (λ (h : L j v ≡ true). rw (by_level j v h) (nests.falls j u))
      (λ (h : L j v ≡ false).
      let above = by_above j v (omega arith) h in
      let f = nests.falls j u in
      omega arith)
      (bool_cases (L j v)))

  -- in level j it is at most its priority
  by_most : (j i v : ℕ) → j ≤ i → i ≤ k → L j v ≡ true → region_by L P i v ≤ P j
  by_most j zero v l u h = rw (zero_only j l, by_level 0 v (rw (zero_only j l) at h)) (le_refl (P 0))
  by_most j (suc i) v l u h =
      ⊎_elim
      (λ (here : L (suc i) v ≡ true). rw (by_level (suc i) v here) (falls_all j (suc i) l u))
      (λ (out : L (suc i) v ≡ false).
      rw (by_rest i v out)
      (⊎_elim (λ (e : j ≡ suc i). absurd (clash (rw e at h) out))
      (λ (less : j < suc i). by_most j i v (omega arith) (omega arith) h)
      (eq-or-lt_of_le l)))
      (bool_cases (L (suc i) v))

  -- ---- the region of a vertex

  abbrev region : ℕ → ℕ
  region = region_of L P priority k

  -- in the last level the region is the priority
  pub region_fresh : (v : ℕ) → L (suc k) v ≡ true → region v ≡ priority v
  unfolding region_of
  region_fresh v h = rw h

  region_rest : (v : ℕ) → L (suc k) v ≡ false → region v ≡ region_by L P k v
  unfolding region_of
  region_rest v h = rw h

  -- **region P j is level j without the next**
  pub region_at : (j v : ℕ) → j ≤ k → L j v ≡ true → L (suc j) v ≡ false → region v ≡ P j
  region_at j v u h out =
      region_rest v (outside_all (suc j) (suc k) v (omega arith) (le_refl (suc k)) out) ∙ by_drop j k v u (le_refl k) out ∙ by_level j v h

  -- **in no level it is solved**
  pub region_solved : (v : ℕ) → L 0 v ≡ false → region v ≡ 256
  region_solved v out =
      region_rest v (outside_all 0 (suc k) v (omega arith) (le_refl (suc k)) out) ∙
      by_drop 0 k v (omega arith) (le_refl k) (outside_all 0 1 v (omega arith) (omega arith) out) ∙ by_none v out

  -- in the level after j it is below P j, and outside it at least P j
  pub region_under : (j v : ℕ) → j ≤ k → L (suc j) v ≡ true → region v < P j
  region_under j v u h =
      ⊎_elim
      (λ (last : L (suc k) v ≡ true).
      let less = nests.fresh v last in
      let down = falls_all j k u (le_refl k) in
      rw (region_fresh v last) (omega arith))
      (λ (out : L (suc k) v ≡ false).
      ⊎_elim
      (λ (e : j ≡ k). absurd (clash (rw e at h) out))
      (λ (less : j < k).
      let low = by_most (suc j) k v less (le_refl k) h in
      let f = nests.falls j less in
      rw (region_rest v out) (omega arith))
      (eq-or-lt_of_le u))
      (bool_cases (L (suc k) v))

  pub region_over : (j v : ℕ) → j ≤ k → L (suc j) v ≡ false → P j ≤ region v
  region_over j v u out =
      ⊎_elim
      (λ (h : L j v ≡ true). rw (region_at j v u h out) (le_refl (P j)))
      (λ (h : L j v ≡ false).
      let above = by_above j v u h in
      rw
      (region_rest v (outside_all (suc j) (suc k) v (omega arith) (le_refl (suc k)) out), by_drop j k v u (le_refl k) out)
      (omega arith))
      (bool_cases (L j v))

  pub region_above : (j v : ℕ) → j ≤ k → L j v ≡ false → P j < region v
  region_above j v u out =
      let next = outside_all j (suc j) v (omega arith) (omega arith) out in
      let above = by_above j v u out in
      rw
      (region_rest v (outside_all j (suc k) v (omega arith) (le_refl (suc k)) out), by_drop j k v u (le_refl k) next)
      above

  -- ---- the tests of a round, by levels

  -- **below P j: in the level after j**
  pub below_is : (j v : ℕ) → j ≤ k → ltb (region v) (P j) ≡ L (suc j) v
  below_is j v u =
      ⊎_elim
      (λ (h : L (suc j) v ≡ true). lt-ltb (region v) (P j) (region_under j v u h) ∙ sym h)
      (λ (h : L (suc j) v ≡ false). le-ltb (region v) (P j) (region_over j v u h) ∙ sym h)
      (bool_cases (L (suc j) v))

  -- **at P j: in level j and not in the next**
  pub here_is : (j v : ℕ) → j ≤ k → eqb (region v) (P j) ≡ (L j v && not (L (suc j) v))
  here_is j v u = go (bool_cases (L j v)) (bool_cases (L (suc j) v))
    where
      go :
          (L j v ≡ true) ⊎ (L j v ≡ false) → (L (suc j) v ≡ true) ⊎ (L (suc j) v ≡ false) →
          eqb (region v) (P j) ≡ (L j v && not (L (suc j) v))
      go (inl h) (inl i) =
          let less = region_under j v u i in
          ne_eqb (region v) (P j) (λ e. omega arith) ∙ sym (rw (h, i))
      go (inl h) (inr i) = eq-eqb (region v) (P j) (region_at j v u h i) ∙ sym (rw (h, i))
      go (inr h) i =
          let more = region_above j v u h in
          ne_eqb (region v) (P j) (λ e. omega arith) ∙ sym (rw h)

  -- **at most P j: in level j**
  pub up_is : (j v : ℕ) → j ≤ k → leb (region v) (P j) ≡ L j v
  up_is j v u = go (bool_cases (L j v)) (bool_cases (L (suc j) v))
    where
      go :
          (L j v ≡ true) ⊎ (L j v ≡ false) → (L (suc j) v ≡ true) ⊎ (L (suc j) v ≡ false) →
          leb (region v) (P j) ≡ L j v
      go (inl h) (inl i) = let less = region_under j v u i in le-leb (region v) (P j) (omega arith) ∙ sym h
      go (inl h) (inr i) = let e = region_at j v u h i in le-leb (region v) (P j) (omega arith) ∙ sym h
      go (inr h) i = lt-leb (region v) (P j) (region_above j v u h) ∙ sym h

  -- **unsolved: in level 0**
  pub unsolved_is : (v : ℕ) → ltb (region v) 256 ≡ L 0 v
  unsolved_is v = go (bool_cases (L 0 v)) (bool_cases (L 1 v))
    where
      go : (L 0 v ≡ true) ⊎ (L 0 v ≡ false) → (L 1 v ≡ true) ⊎ (L 1 v ≡ false) → ltb (region v) 256 ≡ L 0 v
      go (inl h) (inl i) =
          let less = region_under 0 v (omega arith) i in
          let s = nests.small in
          lt-ltb (region v) 256 (omega arith) ∙ sym h
      go (inl h) (inr i) =
          let e = region_at 0 v (omega arith) h i in
          let s = nests.small in
          lt-ltb (region v) 256 (omega arith) ∙ sym h
      go (inr h) i = le-ltb (region v) 256 (rw (region_solved v h) (le_refl 256)) ∙ sym h

-- ---- what a round does to the levels, and to the regions that they stand for

-- regions depend on the levels and priorities up to k alone
by_cong :
    (L L' : ℕ → Set) (P P' : ℕ → ℕ) (k v : ℕ) →
    ((j : ℕ) → j ≤ k → L' j v ≡ L j v) →
    ((j : ℕ) → j ≤ k → P' j ≡ P j) →
    region_by L' P' k v ≡ region_by L P k v
unfolding region_by
by_cong L L' P P' zero v levels tops = rw (levels 0 (le_refl 0), tops 0 (le_refl 0))
by_cong L L' P P' (suc k) v levels tops =
    rw (
      levels (suc k) (le_refl (suc k)),
      tops (suc k) (le_refl (suc k)),
      by_cong L L' P P' k v (λ j l. levels j (le_step l)) (λ j l. tops j (le_step l)),
    )

module _ {n k : ℕ} {L L' : ℕ → Set} {P P' priority : ℕ → ℕ} (nests : Nesting n k L P priority) where
  -- **R is drawn in**: the last level loses it, and it has region P k
  module _ {R : Set}
      (gained : (v : ℕ) → L k v ≡ true → L (suc k) v ≡ false → R v ≡ true)
      (part : (v : ℕ) → R v ≡ true → L k v ≡ true)
      (levels : (j v : ℕ) → j ≤ k → L' j v ≡ L j v)
      (tops : (j : ℕ) → j ≤ k → P' j ≡ P j)
      (last : (v : ℕ) → L' (suc k) v ≡ (L k v && not (R v)))
    where
      -- who is in level k and not in R was in the last level
      was_last : (v : ℕ) → L' (suc k) v ≡ true → (L k v ≡ true) × (L (suc k) v ≡ true) × (R v ≡ false)
      was_last v h =
          let both = sym (last v) ∙ h in
          let here = and_left (L k v) (not (R v)) both in
          let out = not-true (R v) (and_right (L k v) (not (R v)) both) in
          (here, not_false_is_true (L (suc k) v) (λ e. clash (gained v here e) out), out)

      pub drawn_nests : Nesting n k L' P' priority
      drawn_nests =
          record {
            inside =
                λ j v l h.
                ⊎_elim
                (λ (e : j ≡ k). rw (e, levels k v (le_refl k)) (was_last v (rw e at h)).0)
                (λ (less : j < k). levels j v l ∙ nests.inside j v l (sym (levels (suc j) v less) ∙ h))
                (eq-or-lt_of_le l);
            below = λ v h. nests.below v (sym (levels 0 v (omega arith)) ∙ h);
            falls = λ j l. rw (tops j (omega arith), tops (suc j) l) (nests.falls j l);
            small = rw (tops 0 (omega arith)) nests.small;
            most = λ j v l h. rw (tops j l) (nests.most j v l (sym (levels j v l) ∙ h));
            fresh = λ v h. rw (tops k (le_refl k)) (nests.fresh v (was_last v h).1);
          }

      pub drawn_region : (v : ℕ) → region_of L' P' priority k v ≡ cond (R v) (P k) (region_of L P priority k v)
      drawn_region v = go (bool_cases (R v)) (bool_cases (L (suc k) v))
        where
          same_by : region_by L' P' k v ≡ region_by L P k v
          same_by = by_cong L L' P P' k v (λ j l. levels j v l) (λ j l. tops j l)

          go :
              (R v ≡ true) ⊎ (R v ≡ false) → (L (suc k) v ≡ true) ⊎ (L (suc k) v ≡ false) →
              region_of L' P' priority k v ≡ cond (R v) (P k) (region_of L P priority k v)
          go (inl r) x =
              let out : L' (suc k) v ≡ false = last v ∙ rw (part v r, r) in
              region_at drawn_nests k v (le_refl k) (levels k v (le_refl k) ∙ part v r) out ∙ tops k (le_refl k) ∙ sym (rw r)
          go (inr r) (inl h) =
              let here : L' (suc k) v ≡ true = last v ∙ rw (nests.inside k v (le_refl k) h, r) in
              region_fresh drawn_nests v here ∙ sym (region_fresh nests v h) ∙ sym (rw r)
          go (inr r) (inr h) = rest h (bool_cases (L k v)) ∙ sym (rw r)
            where
              rest :
                  L (suc k) v ≡ false → (L k v ≡ true) ⊎ (L k v ≡ false) →
                  region_of L' P' priority k v ≡ region_of L P priority k v
              rest h (inl here) = absurd (clash (gained v here h) r)
              rest h (inr out) =
                  let gone : L' (suc k) v ≡ false = last v ∙ rw out in
                  region_rest drawn_nests v gone ∙ same_by ∙ sym (region_rest nests v h)

  -- **p goes down**: a level more, the next without the vertices of its priority; no region changes
  module _
      (p : ℕ)
      (less : p < P k)
      (highest : (v : ℕ) → L (suc k) v ≡ true → priority v ≤ p)
      (levels : (j v : ℕ) → j ≤ suc k → L' j v ≡ L j v)
      (tops : (j : ℕ) → j ≤ k → P' j ≡ P j)
      (top : P' (suc k) ≡ p)
      (last : (v : ℕ) → L' (suc (suc k)) v ≡ (L (suc k) v && not (eqb (priority v) p)))
    where
      pub lowered_nests : Nesting n (suc k) L' P' priority
      lowered_nests =
          record {
            inside =
                λ j v l h.
                ⊎_elim
                (λ (e : j ≡ suc k). rw (e, levels (suc k) v (le_refl (suc k))) (and_left (L (suc k) v) _ (sym (last v) ∙ (rw e at h))))
                (λ (down : j < suc k).
                levels j v l ∙ nests.inside j v (omega arith) (sym (levels (suc j) v down) ∙ h))
                (eq-or-lt_of_le l);
            below = λ v h. nests.below v (sym (levels 0 v (omega arith)) ∙ h);
            falls =
                λ j l.
                ⊎_elim
                (λ (e : suc j ≡ suc k).
                let is : j ≡ k = omega arith in rw (is, tops k (le_refl k), top) less)
                (λ (down : suc j < suc k). rw (tops j (omega arith), tops (suc j) (omega arith)) (nests.falls j (omega arith)))
                (eq-or-lt_of_le l);
            small = rw (tops 0 (omega arith)) nests.small;
            most =
                λ j v l h.
                ⊎_elim
                (λ (e : j ≡ suc k). rw (e, top) (highest v (sym (levels (suc k) v (le_refl (suc k))) ∙ (rw e at h))))
                (λ (down : j < suc k).
                rw (tops j (omega arith)) (nests.most j v (omega arith) (sym (levels j v l) ∙ h)))
                (eq-or-lt_of_le l);
            fresh =
                λ v h.
                let both = sym (last v) ∙ h in
                let low = highest v (and_left (L (suc k) v) _ both) in
                let other = eqb-false (priority v) p (not-true (eqb (priority v) p) (and_right (L (suc k) v) _ both)) in
                rw top (lt_of_ne low other);
          }
        where
          lt_of_ne : {a b : ℕ} → a ≤ b → (a ≡ b → ⊥) → a < b
          lt_of_ne l ne = ⊎_elim (λ e. absurd (ne e)) (λ h. h) (eq-or-lt_of_le l)

      pub lowered_region : (v : ℕ) → region_of L' P' priority (suc k) v ≡ region_of L P priority k v
      lowered_region v = go (bool_cases (L (suc k) v)) (bool_cases (eqb (priority v) p))
        where
          go :
              (L (suc k) v ≡ true) ⊎ (L (suc k) v ≡ false) → (eqb (priority v) p ≡ true) ⊎ (eqb (priority v) p ≡ false) →
              region_of L' P' priority (suc k) v ≡ region_of L P priority k v
          go (inl h) (inl e) =
              let out : L' (suc (suc k)) v ≡ false = last v ∙ rw (h, e) in
              region_at lowered_nests (suc k) v (le_refl (suc k)) (levels (suc k) v (le_refl (suc k)) ∙ h) out ∙ top ∙
              sym (eqb-true (priority v) p e) ∙ sym (region_fresh nests v h)
          go (inl h) (inr e) =
              region_fresh lowered_nests v (last v ∙ rw (h, e)) ∙ sym (region_fresh nests v h)
          go (inr h) x =
              let gone : L' (suc (suc k)) v ≡ false = last v ∙ rw h in
              region_rest lowered_nests v gone ∙
              by_rest lowered_nests k v (levels (suc k) v (le_refl (suc k)) ∙ h) ∙
              by_cong L L' P P' k v (λ j l. levels j v (le_step l)) (λ j l. tops j l) ∙
              sym (region_rest nests v h)

  -- **R goes over to level j**: the level after j loses it and is the last; lower regions go back to priorities
  module _ {R : Set} (j : ℕ) (down : j < k)
      (here : (v : ℕ) → R v ≡ (L k v && not (L (suc k) v)))
      (levels : (i v : ℕ) → i ≤ j → L' i v ≡ L i v)
      (tops : (i : ℕ) → i ≤ j → P' i ≡ P i)
      (last : (v : ℕ) → L' (suc j) v ≡ (L (suc j) v && not (R v)))
    where
      pub promoted_nests : Nesting n j L' P' priority
      promoted_nests =
          record {
            inside =
                λ i v l h.
                ⊎_elim
                (λ (e : i ≡ j).
                rw (e, levels j v (le_refl j))
                (nests.inside j v (omega arith) (and_left (L (suc j) v) _ (sym (last v) ∙ (rw e at h)))))
                (λ (less : i < j). levels i v l ∙ nests.inside i v (omega arith) (sym (levels (suc i) v less) ∙ h))
                (eq-or-lt_of_le l);
            below = λ v h. nests.below v (sym (levels 0 v (omega arith)) ∙ h);
            falls = λ i l. rw (tops i (omega arith), tops (suc i) l) (nests.falls i (omega arith));
            small = rw (tops 0 (omega arith)) nests.small;
            most = λ i v l h. rw (tops i l) (nests.most i v (omega arith) (sym (levels i v l) ∙ h));
            fresh =
                λ v h.
                let most = nests.most (suc j) v down (and_left (L (suc j) v) _ (sym (last v) ∙ h)) in
                let f = nests.falls j down in
                rw (tops j (le_refl j)) (omega arith);
          }

      pub promoted_region_lem :
          (v : ℕ) →
          region_of L' P' priority j v ≡
          cond (R v) (P j) (cond (ltb (region_of L P priority k v) (P j)) (priority v) (region_of L P priority k v))
      promoted_region_lem v = go (bool_cases (R v)) (bool_cases (L (suc j) v))
        where
          level_of : R v ≡ true → L k v ≡ true
          level_of r = and_left (L k v) _ (sym (here v) ∙ r)

          go :
              (R v ≡ true) ⊎ (R v ≡ false) → (L (suc j) v ≡ true) ⊎ (L (suc j) v ≡ false) →
              region_of L' P' priority j v ≡
              cond (R v) (P j) (cond (ltb (region_of L P priority k v) (P j)) (priority v) (region_of L P priority k v))
          go (inl r) x =
              let in-j = inside_all nests j k v (omega arith) (omega arith) (level_of r) in
              let out : L' (suc j) v ≡ false = last v ∙ rw r (and-false (L (suc j) v)) in
              region_at promoted_nests j v (le_refl j) (levels j v (le_refl j) ∙ in-j) out ∙ tops j (le_refl j) ∙ sym (rw r)
          go (inr r) (inl h) =
              region_fresh promoted_nests v (last v ∙ rw (h, r)) ∙
              sym (rw (r, below_is nests j v (omega arith) ∙ h))
          go (inr r) (inr h) =
              let gone : L' (suc j) v ≡ false = last v ∙ rw h in
              region_rest promoted_nests v gone ∙
              by_cong L L' P P' j v (λ i l. levels i v l) (λ i l. tops i l) ∙
              sym (by_drop nests j k v (omega arith) (le_refl k) h) ∙
              sym (region_rest nests v (outside_all nests (suc j) (suc k) v (omega arith) (le_refl (suc k)) h)) ∙
              sym (rw (r, below_is nests j v (omega arith) ∙ h))

-- **afresh**: of the vertices X that are left, those of the highest priority are the first region, and the others have theirs
module _ (n : ℕ) (L : ℕ → Set) (P priority : ℕ → ℕ) (X : Set) (p : ℕ)
    (small : p < 256)
    (below : (v : ℕ) → X v ≡ true → v < n)
    (highest : (v : ℕ) → X v ≡ true → priority v ≤ p)
    (top : P 0 ≡ p)
    (first : (v : ℕ) → L 0 v ≡ X v)
    (last : (v : ℕ) → L 1 v ≡ (X v && not (eqb (priority v) p)))
  where
    pub afresh_nests : Nesting n 0 L P priority
    afresh_nests =
        record {
          inside =
              λ j v l h.
              let e = zero_only j l in
              rw (e, first v) (and_left (X v) _ (sym (last v) ∙ (rw e at h)));
          below = λ v h. below v (sym (first v) ∙ h);
          falls = λ j l. absurd (omega arith);
          small = rw top small;
          most = λ j v l h. let e = zero_only j l in rw (e, top) (highest v (sym (first v) ∙ (rw e at h)));
          fresh =
              λ v h.
              let both = sym (last v) ∙ h in
              let other = eqb-false (priority v) p (not-true (eqb (priority v) p) (and_right (X v) _ both)) in
              rw top (⊎_elim (λ e. absurd (other e)) (λ l. l) (eq-or-lt_of_le (highest v (and_left (X v) _ both))));
        }

    pub afresh_region : (v : ℕ) → region_of L P priority 0 v ≡ cond (X v) (priority v) 256
    afresh_region v = go (bool_cases (X v)) (bool_cases (eqb (priority v) p))
      where
        go :
            (X v ≡ true) ⊎ (X v ≡ false) → (eqb (priority v) p ≡ true) ⊎ (eqb (priority v) p ≡ false) →
            region_of L P priority 0 v ≡ cond (X v) (priority v) 256
        go (inl x) (inl e) =
            region_at afresh_nests 0 v (le_refl 0) (first v ∙ x) (last v ∙ rw (x, e)) ∙ top ∙ sym (eqb-true (priority v) p e) ∙ sym (rw x)
        go (inl x) (inr e) = region_fresh afresh_nests v (last v ∙ rw (x, e)) ∙ sym (rw x)
        go (inr x) e = region_solved afresh_nests v (first v ∙ x) ∙ sym (rw x)

-- ---- every level has a region

-- **so there are no more levels than vertices, and no more than 255 above the first**
pub few_levels : {n k : ℕ} {L : ℕ → Set} {P priority : ℕ → ℕ} → Nesting n k L P priority → k < 256
few_levels {n} {k} {L} {P} nests = let d = down k (le_refl k) in let s = nests.small in omega arith
  where
    down : (j : ℕ) → j ≤ k → P j + j ≤ P 0
    down zero l = omega arith
    down (suc j) l = let h = down j (omega arith) in let f = nests.falls j l in omega arith

pub levels_below :
    {n k : ℕ} {L : ℕ → Set} {P priority : ℕ → ℕ} → Nesting n k L P priority → Proper k L → (u : ℕ) → L 0 u ≡ true →
    k < n
levels_below {n} {k} {L} nests proper u h =
    let all = shrinks k (le_refl k) in
    let (v, here, out) = proper u h k (le_refl k) in
    let last =
    count_strict n (L (suc k)) (L k) (λ w l i. nests.inside k w (le_refl k) i) v (small v k (omega arith) here) out here in
    let most = count_le n (L 0) in
    omega arith
  where
    small : (v j : ℕ) → j ≤ suc k → L j v ≡ true → v < n
    small v j l i = nests.below v (inside_all nests 0 j v (omega arith) l i)

    shrinks : (j : ℕ) → j ≤ k → count n (L j) + j ≤ count n (L 0)
    shrinks zero l = omega arith
    shrinks (suc j) l =
        let before = shrinks j (omega arith) in
        let (v, here, out) = proper u h j (omega arith) in
        let less =
        count_strict n (L (suc j)) (L j) (λ w k i. nests.inside j w (omega arith) i) v (small v j (omega arith) here) out here in
        omega arith

module _ (k : ℕ) (L L' : ℕ → Set) (proper : Proper k L) where
  -- R is drawn in
  pub drawn_proper :
      (R : Set) →
      ((v : ℕ) → L k v ≡ true → L (suc k) v ≡ false → R v ≡ true) →
      ((j v : ℕ) → j ≤ k → L' j v ≡ L j v) →
      ((v : ℕ) → L' (suc k) v ≡ (L k v && not (R v))) →
      Proper k L'
  drawn_proper R gained levels last u h j l =
      let (v, here, out) = proper u (sym (levels 0 u (omega arith)) ∙ h) j l in
      (v, levels j v l ∙ here, next v here out (eq-or-lt_of_le l))
    where
      next : (v : ℕ) → L j v ≡ true → L (suc j) v ≡ false → (j ≡ k) ⊎ (j < k) → L' (suc j) v ≡ false
      next v here out (inl e) = rw e (last v ∙ rw (gained v (rw e at here) (rw e at out)) (and-false (L k v)))
      next v here out (inr less) = levels (suc j) v less ∙ out

  -- p goes down
  pub lowered_proper :
      (priority : ℕ → ℕ) (p : ℕ) →
      ((v : ℕ) × (L (suc k) v ≡ true) × (priority v ≡ p)) →
      ((j v : ℕ) → j ≤ suc k → L' j v ≡ L j v) →
      ((v : ℕ) → L' (suc (suc k)) v ≡ (L (suc k) v && not (eqb (priority v) p))) →
      Proper (suc k) L'
  lowered_proper priority p (x, there, is) levels last u h j l =
      ⊎_elim
      (λ (e : j ≡ suc k).
      (x, rw (e, levels (suc k) x (le_refl (suc k))) there, rw (e, last x, there, eq-eqb (priority x) p is)))
      (λ (less : j < suc k).
      let (v, here, out) = proper u (sym (levels 0 u (omega arith)) ∙ h) j (omega arith) in
      (v, levels j v l ∙ here, levels (suc j) v less ∙ out))
      (eq-or-lt_of_le l)

  -- R goes over to level j
  pub promoted_proper :
      (R : Set) (j : ℕ) → j < k →
      ((i v : ℕ) → i ≤ j → L' i v ≡ L i v) →
      ((v : ℕ) → L' (suc j) v ≡ (L (suc j) v && not (R v))) →
      Proper j L'
  promoted_proper R j down levels last u h i l =
      let (v, here, out) = proper u (sym (levels 0 u (omega arith)) ∙ h) i (omega arith) in
      (v, levels i v l ∙ here, next v out (eq-or-lt_of_le l))
    where
      next : (v : ℕ) → L (suc i) v ≡ false → (i ≡ j) ⊎ (i < j) → L' (suc i) v ≡ false
      next v out (inl e) = rw e (last v ∙ rw (rw e at out))
      next v out (inr less) = levels (suc i) v less ∙ out

-- afresh
pub afresh_proper :
    (L : ℕ → Set) (priority : ℕ → ℕ) (X : Set) (p : ℕ) →
    ((u : ℕ) → X u ≡ true → (v : ℕ) × (X v ≡ true) × (priority v ≡ p)) →
    ((v : ℕ) → L 0 v ≡ X v) →
    ((v : ℕ) → L 1 v ≡ (X v && not (eqb (priority v) p))) →
    Proper 0 L
afresh_proper L priority X p met first last u h j l =
    let (v, here, is) = met u (sym (first u) ∙ h) in
    let e = zero_only j l in
    (v, rw (e, first v) here, rw (e, last v, here, eq-eqb (priority v) p is))
