-- The lowest-numbered end of an edge of a vertex inside a set, found along the vertex's edges.
use Rattle.std.specs.Prelude.{true, false, ◌&&◌, ◌⊎◌, ◌≡◌, refl, ℕ, ◌+◌, ◌≤◌, ◌<◌, eqb, get_or}
use mathlib.Core.List.{List, Memᴰ}
use Rattle.std.proofs.Common.{inl, inr, ⊎_elim, sym, ap, ◌∙◌, le_refl, arith, eqb-true, eq-eqb}
use Rattle.std.proofs.Math.Decide.{ℕ_discrete}
use Rattle.rules.specs.Counting.{Set, some_of, lowest}
use Rattle.rules.specs.Tables.{targets_of}
use Rattle.rules.specs.Words.{set_of}
use Rattle.basics.specs.Basics.{not_true_is_false, and_intro, and_left, and_right, lt_or_ge, some_of_intro, some_of_elim, false_some}
use Rattle.basics.specs.Basics.{lowest_unique, lowest_none}
use Rattle.area.specs.EdgesOf.{EdgesOf}
use Rattle.successors.specs.Edges.{target_place, place_target}

-- w is the end of an edge of v and in S
abbrev pub end_in : List ℕ → List ℕ → ℕ → Set → Set
end_in offsets targets v S w = S w && some_of (targets_of offsets targets v) (eqb w)

-- the lowest, n where there is none
abbrev pub lowest_end : ℕ → List ℕ → List ℕ → ℕ → List ℕ → ℕ
lowest_end n offsets targets v set = lowest n (end_in offsets targets v (set_of set))

-- r is the lowest over the edges before place e
pub record LowestTo (n : ℕ) (offsets targets : List ℕ) (v : ℕ) (S : Set) (e r : ℕ) : Type 0 where
  pub from : get_or offsets v 0 ≤ e
  pub upto : e ≤ get_or offsets (v + 1) 0
  pub most : r ≤ n
  pub reached : (r ≡ n) ⊎ ((S r ≡ true) × Memᴰ r (targets_of offsets targets v))
  pub least : (k : ℕ) → get_or offsets v 0 ≤ k → k < e → S (get_or targets k 0) ≡ true → r ≤ get_or targets k 0

module _ {offsets targets : List ℕ} {v : ℕ} {set : List ℕ} (given : EdgesOf offsets targets v set) (n : ℕ) where
  abbrev S : Set
  S = set_of set

  pub lowest_first : LowestTo n offsets targets v (set_of set) (get_or offsets v 0) n
  lowest_first =
      record {
        from = le_refl (get_or offsets v 0);
        upto = given.rising;
        most = le_refl n;
        reached = inl refl;
        least = λ k low high. absurd (omega arith);
      }

  module _ {e r : ℕ} (c : LowestTo n offsets targets v (set_of set) e r) where
    -- the edges before the next place: those before this one, and this one
    next_least :
        (x : ℕ) →
        x ≤ r →
        (S (get_or targets e 0) ≡ true → x ≤ get_or targets e 0) →
        (k : ℕ) →
        get_or offsets v 0 ≤ k →
        k < e + 1 →
        S (get_or targets k 0) ≡ true →
        x ≤ get_or targets k 0
    next_least x less here k low high i = go (ℕ_discrete k e)
      where
        go : Dec (k ≡ e) → x ≤ get_or targets k 0
        go (yes q) = rw q (here (ap (λ (j : ℕ). S (get_or targets j 0)) (sym q) ∙ i))
        go (no d) = let old = c.least k low (omega (arith, d)) i in omega arith

    module _ (more : e < get_or offsets (v + 1) 0) where
      -- the edge does not end lower inside
      pub lowest_same :
          (set_of set (get_or targets e 0) ≡ true → r ≤ get_or targets e 0) → LowestTo n offsets targets v (set_of set) (e + 1) r
      lowest_same here =
          record {
            from = omega (arith, c.from);
            upto = omega arith;
            most = c.most;
            reached = c.reached;
            least = next_least r (le_refl r) here;
          }

      -- it does
      pub lowest_new :
          get_or targets e 0 < r →
          set_of set (get_or targets e 0) ≡ true →
          LowestTo n offsets targets v (set_of set) (e + 1) (get_or targets e 0)
      lowest_new less here =
          record {
            from = omega (arith, c.from);
            upto = omega arith;
            most = omega (arith, c.most);
            reached = inr (here, place_target offsets targets v e c.from more (omega (arith, given.top)));
            least = next_least (get_or targets e 0) (omega arith) (λ i. le_refl (get_or targets e 0));
          }

    -- **past the last edge it is the lowest of all**
    pub lowest_all : get_or offsets (v + 1) 0 ≤ e → r ≡ lowest_end n offsets targets v set
    lowest_all end =
        ⊎_elim
        (λ (less : r < n).
        sym
        (lowest_unique n (end_in offsets targets v S) r
        (record { below = less; passes = passes less c.reached; first = below })))
        (λ (more : n ≤ r).
        let is : r ≡ n = omega (arith, c.most) in
        is ∙
        sym
        (lowest_none n (end_in offsets targets v S)
        (false_some n (end_in offsets targets v S) (λ x l. below x (omega arith)))))
        (lt_or_ge r n)
      where
        passes : r < n → (r ≡ n) ⊎ ((S r ≡ true) × Memᴰ r (targets_of offsets targets v)) → end_in offsets targets v S r ≡ true
        passes less (inl q) = absurd (omega arith)
        passes less (inr (i, m)) = and_intro i (some_of_intro (targets_of offsets targets v) (eqb r) r m (eq-eqb r r refl))

        -- no end inside is lower
        below : (x : ℕ) → x < r → end_in offsets targets v S x ≡ false
        below x less =
            not_true_is_false (end_in offsets targets v S x)
            (λ has.
            let (w, m, d) = some_of_elim (targets_of offsets targets v) (eqb x) (and_right (S x) _ has) in
            let same = eqb-true x w d in
            let (k, low, high, top, is) = target_place offsets targets v w m in
            let there : S (get_or targets k 0) ≡ true =
            ap S (is ∙ sym same) ∙ and_left (S x) (some_of (targets_of offsets targets v) (eqb x)) has in
            let bound = c.least k low (omega arith) there in
            omega arith)
