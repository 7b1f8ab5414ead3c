-- The highest level below k that the opponent can go to from R: up from level to level along one edge, along the edges of one
-- vertex, and over all of R. A result r stands for level r - 1, and 0 for none.
use Rattle.std.specs.Prelude.{true, false, ◌&&◌, not, ◌⊎◌, ◌≡◌, refl, ℕ, zero, suc, ◌+◌, ◌≤◌, ◌<◌, length, get_or}
use mathlib.Core.List.{List, Memᴰ}
use Rattle.std.proofs.Common.{inl, inr, ⊎_elim, sym, ap, subst, le_refl, eq-or-lt_of_le, arith}
use Rattle.std.proofs.Math.Decide.{ℕ_discrete}
use Rattle.std.proofs.lemmas.Bool.{not-true}
use Rattle.rules.specs.Counting.{Set}
use Rattle.rules.specs.Tables.{targets_of}
use Rattle.basics.specs.Basics.{clash, not_true_is_false, and_intro, and_right, lt_or_ge}
use Rattle.successors.specs.Edges.{target_place, place_target}

-- each level lies in the one before
abbrev pub Nested : (ℕ → Set) → ℕ → Type 0
Nested L k = (j v : ℕ) → j < k → L (suc j) v ≡ true → L j v ≡ true

-- so a vertex outside one is outside the later ones
pub outside_later :
    {L : ℕ → Set} {k : ℕ} → Nested L k → (i j v : ℕ) → i ≤ j → j ≤ k → L i v ≡ false → L j v ≡ false
outside_later {L} {k} nested i zero v l u out = rw (only i l) at out
  where
    only : (i : ℕ) → i ≤ 0 → i ≡ 0
    only i l = omega arith
outside_later {L} {k} nested i (suc j) v l u out =
    ⊎_elim
    (λ (e : i ≡ suc j). rw e at out)
    (λ (less : i < suc j).
    not_true_is_false (L (suc j) v)
    (λ h. clash (nested j v u h) (outside_later nested i j v (omega arith) (omega arith) out)))
    (eq-or-lt_of_le l)

-- ---- along one edge

-- level r - 1 holds w and level r does not
abbrev pub Arrives : (ℕ → Set) → ℕ → ℕ → Type 0
Arrives L w r = (j : ℕ) × (r ≡ suc j) × (L j w ≡ true) × (L r w ≡ false)

-- from `best` up to r
pub record ClimbTo (L : ℕ → Set) (k w best r : ℕ) : Type 0 where
  pub up : best ≤ r
  pub top : r ≤ k
  pub reached : (r ≡ best) ⊎ ((j : ℕ) × (r ≡ suc j) × (L j w ≡ true))

pub record Climbed (L : ℕ → Set) (k w best r : ℕ) : Type 0 where
  pub to : ClimbTo L k w best r
  pub stops : r < k → L r w ≡ false

module _ {L : ℕ → Set} {k w best : ℕ} where
  pub climb_none : best ≤ k → ClimbTo L k w best best
  climb_none low = record { up = le_refl best; top = low; reached = inl refl }

  module _ {r : ℕ} (c : ClimbTo L k w best r) where
    pub climb_more : r < k → L r w ≡ true → ClimbTo L k w best (r + 1)
    climb_more less here =
        record { up = omega (arith, c.up); top = omega arith; reached = inr (r, omega arith, here) }

    -- the level does not hold w
    pub climb_stop : L r w ≡ false → Climbed L k w best r
    climb_stop out = record { to = c; stops = λ less. out }

    pub climb_end : k ≤ r → Climbed L k w best r
    climb_end end = record { to = c; stops = λ less. absurd (omega arith) }

-- ---- along the edges of v

pub record HighestOf (offsets targets : List ℕ) (L : ℕ → Set) (k v best r : ℕ) : Type 0 where
  pub up : best ≤ r
  pub top : r ≤ k
  pub reached : (r ≡ best) ⊎ ((w : ℕ) × Memᴰ w (targets_of offsets targets v) × Arrives L w r)
  -- none leads to a level from r on, but to k
  pub none : (w : ℕ) → Memᴰ w (targets_of offsets targets v) → L k w ≡ false → L r w ≡ false

-- of the edges before place e
pub record HighestTo (offsets targets : List ℕ) (L : ℕ → Set) (k v best e r : ℕ) : Type 0 where
  pub from : get_or offsets v 0 ≤ e
  pub upto : e ≤ get_or offsets (v + 1) 0
  pub up : best ≤ r
  pub top : r ≤ k
  pub reached : (r ≡ best) ⊎ ((w : ℕ) × Memᴰ w (targets_of offsets targets v) × Arrives L w r)
  pub none :
      (i : ℕ) → get_or offsets v 0 ≤ i → i < e → L k (get_or targets i 0) ≡ false → L r (get_or targets i 0) ≡ false

module _ {offsets targets : List ℕ} {L : ℕ → Set} {k v best : ℕ} where
  pub highest_none :
      best ≤ k → get_or offsets v 0 ≤ get_or offsets (v + 1) 0 → HighestTo offsets targets L k v best (get_or offsets v 0) best
  highest_none low rising =
      record {
        from = le_refl (get_or offsets v 0);
        upto = rising;
        up = le_refl best;
        top = low;
        reached = inl refl;
        none = λ i low high. absurd (omega arith);
      }

  module _ {e r : ℕ} (c : HighestTo offsets targets L k v best e r) where
    pub highest_all : get_or offsets (v + 1) 0 ≤ e → HighestOf offsets targets L k v best r
    highest_all end =
        record {
          up = c.up;
          top = c.top;
          reached = c.reached;
          none =
              λ w m.
              let (i, low, high, top, is) = target_place offsets targets v w m in
              subst (λ (x : ℕ). L k x ≡ false → L r x ≡ false) is (c.none i low (omega arith));
        }

    module _ (more : e < get_or offsets (v + 1) 0) where
      abbrev end : ℕ
      end = get_or targets e 0

      -- a result at least r that suits the edge, and the edges before
      step :
          {r' : ℕ} →
          Nested L k →
          r ≤ r' →
          r' ≤ k →
          (r' ≡ best) ⊎ ((w : ℕ) × Memᴰ w (targets_of offsets targets v) × Arrives L w r') →
          (L k end ≡ false → L r' end ≡ false) →
          HighestTo offsets targets L k v best (e + 1) r'
      step {r'} nested above low reached here =
          record {
            from = omega (arith, c.from);
            upto = omega arith;
            up = omega (arith, c.up);
            top = low;
            reached = reached;
            none = λ i first high. go i first high (ℕ_discrete i e);
          }
        where
          go :
              (i : ℕ) →
              get_or offsets v 0 ≤ i →
              i < e + 1 →
              Dec (i ≡ e) →
              L k (get_or targets i 0) ≡ false →
              L r' (get_or targets i 0) ≡ false
          go i first high (yes q) =
              subst (λ (x : ℕ). L k (get_or targets x 0) ≡ false → L r' (get_or targets x 0) ≡ false) (sym q) here
          go i first high (no d) =
              λ out. outside_later nested r r' (get_or targets i 0) above low (c.none i first (omega (arith, d)) out)

      -- the edge does not lead higher
      pub highest_same :
          Nested L k → (L r end && not (L k end)) ≡ false → HighestTo offsets targets L k v best (e + 1) r
      highest_same nested no-higher =
          step nested (le_refl r) c.top c.reached
          (λ out.
          not_true_is_false (L r end)
          (λ here. clash (and_intro here (ap not out)) no-higher))

      -- it does
      pub highest_new :
          {r' : ℕ} →
          Nested L k →
          get_or offsets (v + 1) 0 ≤ length targets →
          (L r end && not (L k end)) ≡ true →
          Climbed L k end r r' →
          HighestTo offsets targets L k v best (e + 1) r'
      highest_new {r'} nested inside higher climbed =
          step nested climbed.to.up climbed.to.top
          (⊎_elim
          (λ same.
          subst
          (λ (x : ℕ). (x ≡ best) ⊎ ((w : ℕ) × Memᴰ w (targets_of offsets targets v) × Arrives L w x))
          (sym same) c.reached)
          (λ found.
          let (j, is, here) = found in
          inr (end, place_target offsets targets v e c.from more (omega arith), (j, is, here, stopped)))
          climbed.to.reached)
          (λ o. stopped)
        where
          stopped : L r' end ≡ false
          stopped =
              ⊎_elim
              (λ (q : r' ≡ k). rw q (not-true (L k end) (and_right (L r end) (not (L k end)) higher)))
              (λ (less : r' < k). climbed.stops less)
              (eq-or-lt_of_le climbed.to.top)

-- ---- over all of R

-- no edge of the opponent's vertex u leads to a level from r on, but to k
abbrev pub NoneFrom : List ℕ → List ℕ → List ℕ → ℕ → (ℕ → Set) → ℕ → ℕ → ℕ → Type 0
NoneFrom owners offsets targets alpha L k r u =
    (get_or owners u 0 ≡ alpha → ⊥) → (w : ℕ) → Memᴰ w (targets_of offsets targets u) → L k w ≡ false → L r w ≡ false

-- some opponent's vertex of R leads to level r - 1
pub record ReachesLevel (owners offsets targets : List ℕ) (alpha : ℕ) (R : Set) (L : ℕ → Set) (r : ℕ) : Type 0 where
  pub from : ℕ
  pub to : ℕ
  pub member : R from ≡ true
  pub others : get_or owners from 0 ≡ alpha → ⊥
  pub edge : Memᴰ to (targets_of offsets targets from)
  pub arrives : Arrives L to r

-- **r - 1 is the highest level below k that an opponent's vertex of R leads to outside level k; there is none where r is 0**
pub record HighestLevel (owners offsets targets : List ℕ) (alpha : ℕ) (R : Set) (L : ℕ → Set) (k r : ℕ) : Type 0 where
  pub top : r ≤ k
  pub reached : (r ≡ 0) ⊎ ReachesLevel owners offsets targets alpha R L r
  pub most :
      (u : ℕ) →
      R u ≡ true →
      (get_or owners u 0 ≡ alpha → ⊥) →
      (w : ℕ) →
      Memᴰ w (targets_of offsets targets u) →
      L k w ≡ false →
      (j : ℕ) →
      j < k →
      L j w ≡ true →
      j < r

-- what is known between two turns of the walk, but for the vertices passed
pub record HighestSoFar (owners offsets targets : List ℕ) (alpha : ℕ) (R : Set) (L : ℕ → Set) (k r : ℕ) : Type 0 where
  pub top : r ≤ k
  pub reached : (r ≡ 0) ⊎ ReachesLevel owners offsets targets alpha R L r

module _ {owners offsets targets : List ℕ} {alpha : ℕ} {R : Set} {L : ℕ → Set} {k : ℕ} where
  pub highest_start : HighestSoFar owners offsets targets alpha R L k 0
  highest_start = record { top = omega arith; reached = inl refl }

  -- no level below k is higher
  pub highest_full :
      {r : ℕ} → HighestSoFar owners offsets targets alpha R L k r → r ≡ k → HighestLevel owners offsets targets alpha R L k r
  highest_full c all =
      record { top = c.top; reached = c.reached; most = λ u member other w m out j less here. omega arith }

  -- one vertex of the opponent's more
  pub highest_further :
      {v best r : ℕ} →
      HighestSoFar owners offsets targets alpha R L k best →
      R v ≡ true →
      (get_or owners v 0 ≡ alpha → ⊥) →
      HighestOf offsets targets L k v best r →
      HighestSoFar owners offsets targets alpha R L k r
  highest_further {v} {best} {r} c member other h =
      record {
        top = h.top;
        reached =
            ⊎_elim
            (λ same. subst (λ (x : ℕ). (x ≡ 0) ⊎ ReachesLevel owners offsets targets alpha R L x) (sym same) c.reached)
            (λ found.
            let (w, m, arrives) = found in
            inr (record { from = v; to = w; member = member; others = other; edge = m; arrives = arrives }))
            h.reached;
      }

  -- the walk is over
  pub highest_done :
      {r : ℕ} →
      Nested L k →
      HighestSoFar owners offsets targets alpha R L k r →
      ((u : ℕ) → R u ≡ true → NoneFrom owners offsets targets alpha L k r u) →
      HighestLevel owners offsets targets alpha R L k r
  highest_done {r} nested c none =
      record {
        top = c.top;
        reached = c.reached;
        most =
            λ u member other w m out j less here.
            ⊎_elim
            (λ (lower : j < r). lower)
            (λ (above : r ≤ j).
            absurd (clash here (outside_later nested r j w above (omega arith) (none u member other w m out))))
            (lt_or_ge j r);
      }

  -- **an edge that leaves level k leads to no level from r on**
  pub highest_none_from :
      {r : ℕ} →
      HighestLevel owners offsets targets alpha R L k r →
      (u : ℕ) →
      R u ≡ true →
      NoneFrom owners offsets targets alpha L k r u
  highest_none_from {r} h u member other w m out =
      ⊎_elim
      (λ (q : r ≡ k). rw q out)
      (λ (less : r < k).
      not_true_is_false (L r w)
      (λ here. let low = h.most u member other w m out r less here in omega arith))
      (eq-or-lt_of_le h.top)
