-- The highest level that the opponent can go to, told by regions in place of levels: it is the lowest region above that of R.
use Rattle.std.specs.Prelude.{true, false, ◌⊎◌, ◌≡◌, refl, get_or}
use mathlib.Core.List.{List, Memᴰ}
use Rattle.std.proofs.Math.Logic.{inl, inr}
use Rattle.std.proofs.Common.{⊎_elim, sym, ap, ◌∙◌}
use Prim.Native.Nat.{ℕ, zero, suc, ◌≤◌, ◌<◌}
use Rattle.std.proofs.Math.Nat.{le_refl}
use native.Mathlib.Omega.{arith}
use Rattle.std.proofs.lemmas.Bool.{lt-leb}
use Rattle.rules.specs.Counting.{Set}
use Rattle.rules.specs.Tables.{targets_of}
use Rattle.promotion_levels.specs.Nesting.{region_of, Nesting, falls_all, region_at, region_solved, region_over}
use Rattle.promotion_levels.specs.Nesting.{up_is}
use Rattle.promotion_escape.specs.Highest.{HighestLevel, highest_none_from}

-- ---- the lowest region above p

-- some opponent's vertex of R leads to region q above p
pub record ReachesAbove (owners offsets targets : List ℕ) (alpha : ℕ) (R : Set) (region : ℕ → ℕ) (p q : ℕ) : Type 0 where
  pub from : ℕ
  pub to : ℕ
  pub member : R from ≡ true
  pub others : get_or owners from 0 ≡ alpha → ⊥
  pub edge : Memᴰ to (targets_of offsets targets from)
  pub above : p < region to
  pub is : region to ≡ q

-- q is the lowest such region, 256 where there is none
pub record LowestAbove (owners offsets targets : List ℕ) (alpha : ℕ) (R : Set) (region : ℕ → ℕ) (p q : ℕ) : Type 0 where
  pub most : q ≤ 256
  pub reached : (q ≡ 256) ⊎ ReachesAbove owners offsets targets alpha R region p q
  pub lowest :
      (u : ℕ) →
      R u ≡ true →
      (get_or owners u 0 ≡ alpha → ⊥) →
      (w : ℕ) →
      Memᴰ w (targets_of offsets targets u) →
      p < region w →
      q ≤ region w

-- the region of level r - 1, 256 where there is none
unfoldable pub region_before : (ℕ → ℕ) → ℕ → ℕ
region_before P zero = 256
region_before P (suc j) = P j

module _ {n k : ℕ} {L : ℕ → Set} {P priority : ℕ → ℕ} (nests : Nesting n k L P priority) where
  -- a region above P k is that of a vertex outside level k
  leaves : (w : ℕ) → P k < region_of L P priority k w → L k w ≡ false
  leaves w up = sym (up_is nests k w (le_refl k)) ∙ lt-leb (region_of L P priority k w) (P k) up

  -- **the highest level is the lowest region**
  pub highest_lowest :
      {owners offsets targets : List ℕ} {alpha : ℕ} {R : Set} (r : ℕ) →
      HighestLevel owners offsets targets alpha R L k r →
      LowestAbove owners offsets targets alpha R (region_of L P priority k) (P k) (region_before P r)
  unfolding region_before
  highest_lowest zero h =
      record {
        most = le_refl 256;
        reached = inl refl;
        lowest =
            λ u member other w m up.
            rw (region_solved nests w (highest_none_from h u member other w m (leaves w up))) (le_refl 256);
      }
  highest_lowest (suc j) h =
      record {
        most = let low = falls_all nests 0 j (omega arith) (omega arith) in omega (arith, nests.small);
        reached =
            inr
            (⊎_elim
            (λ (e : suc j ≡ 0). absurd (omega arith))
            (λ reach.
            let (i, is, here, out) = reach.arrives in
            let same : i ≡ j = omega arith in
            let region = region_at nests j reach.to less_or (ap (λ (x : ℕ). L x reach.to) (sym same) ∙ here) out in
            record {
              from = reach.from;
              to = reach.to;
              member = reach.member;
              others = reach.others;
              edge = reach.edge;
              above = rw region above;
              is = region;
            })
            h.reached);
        lowest =
            λ u member other w m up.
            region_over nests j w less_or (highest_none_from h u member other w m (leaves w up));
      }
    where
      less_or : j ≤ k
      less_or = let t = h.top in omega arith

      above : P k < P j
      above =
          let down = falls_all nests (suc j) k h.top (le_refl k) in
          let next = nests.falls j h.top in
          omega arith
