-- A level begins below the current one: no region and no entry changes.
use Rattle.std.specs.Prelude.{true, false, ◌&&◌, not, cond, List, ◌⊎◌, ◌≡◌, ℕ, suc, ◌+◌, ◌≤◌, ◌<◌, eqb, length, get_or}
use Rattle.std.proofs.Common.{inl, inr, ap, ◌∙◌, le_refl, arith}
use Rattle.rules.specs.Counting.{Set}
use Rattle.rules.specs.Words.{no_entry}
use Rattle.basics.specs.Basics.{bool_cases}
use Rattle.area.specs.Area.{entries}
use Rattle.promotion_places.specs.Nesting.{region_of, Nesting, Proper, inside_all, few_levels, levels_below, lowered_nests, lowered_region}
use Rattle.promotion_places.specs.Nesting.{lowered_proper}
use Rattle.promotion_places.specs.Layout.{depth_in, top_in, level_in, region_in, entry_in, Whole, Ready}
use Rattle.promotion_levels.specs.Descending.{Descended}
use Rattle.promotion_levels.specs.Going.{deeper, listed_again, sorted_again, last_is, held_again, most_is, met_is}

-- **p goes down**: the level after the current one is the current one now
module _ (priorities offsets targets : List ℕ) {s p : ℕ} {w0 w1 : List ℕ}
    (ready : Ready (length priorities) priorities offsets targets s w0)
    (u : ℕ)
    (some-lower :
    level_in (length priorities) (length targets) s w0 (suc (depth_in (length priorities) (length targets) s w0)) u ≡ true)
    (c : Descended priorities (length targets) s (suc (depth_in (length priorities) (length targets) s w0)) p w0 w1)
  where
    abbrev n : ℕ
    n = length priorities

    abbrev m : ℕ
    m = length targets

    abbrev k : ℕ
    k = depth_in n m s w0

    abbrev L : ℕ → Set
    L = level_in n m s w0

    abbrev P : ℕ → ℕ
    P = top_in n m s w0

    abbrev pr : ℕ → ℕ
    pr v = get_or priorities v 0

    small : (j v : ℕ) → j ≤ suc k → L j v ≡ true → v < n
    small j v l i = ready.nests.below v (inside_all ready.nests 0 j v (omega arith) l i)

    u_small : u < n
    u_small = small (suc k) u (le_refl (suc k)) some-lower

    u_first : L 0 u ≡ true
    u_first = inside_all ready.nests 0 (suc k) u (omega arith) (le_refl (suc k)) some-lower

    met : (v : ℕ) × (L (suc k) v ≡ true) × (pr v ≡ p)
    met = met_is priorities offsets targets ready.size ready.room c u u_small some-lower

    less : p < P k
    less = let (v, i, is) = met in let f = ready.nests.fresh v i in omega (arith, is)

    highest : (v : ℕ) → L (suc k) v ≡ true → pr v ≤ p
    highest v i =
        most_is priorities offsets targets ready.size ready.room c v (small (suc k) v (le_refl (suc k)) i) i

    levels1 : (j v : ℕ) → j ≤ suc k → level_in n m s w1 j v ≡ L j v
    levels1 = c.levels

    tops1 : (j : ℕ) → j ≤ k → top_in n m s w1 j ≡ P j
    tops1 j l = c.tops j (omega arith)

    last1 : (v : ℕ) → level_in n m s w1 (suc (suc k)) v ≡ (L (suc k) v && not (eqb (pr v) p))
    last1 = last_is priorities offsets targets ready.size ready.room c

    nests1 : Nesting n (suc k) (level_in n m s w1) (top_in n m s w1) pr
    nests1 = lowered_nests ready.nests p less highest levels1 tops1 c.top last1

    proper1 : Proper (suc k) (level_in n m s w1)
    proper1 = lowered_proper k L (level_in n m s w1) ready.proper pr p met levels1 last1

    pub lowered_ready : Ready n priorities offsets targets s w1
    lowered_ready =
        record {
          size = ready.size;
          edges = ready.edges;
          listed = listed_again priorities offsets targets ready.size ready.room c ready.listed;
          room = omega (arith, ready.room, c.long);
          depth =
              rw c.depth
              (deeper n k (levels_below ready.nests ready.proper u u_first) (few_levels ready.nests));
          sorted = sorted_again priorities offsets targets ready.size ready.room c ready.sorted;
          nests = rw c.depth nests1;
          proper = rw c.depth proper1;
        }

    -- all of its region is new
    pub lowered_whole : Whole n m s w1
    lowered_whole v = rw c.depth (held_again priorities offsets targets ready.size ready.room c v)

    pub lowered_regions : (v : ℕ) → region_in n m s priorities w1 v ≡ region_in n m s priorities w0 v
    lowered_regions v =
        ap (λ (j : ℕ). region_of (level_in n m s w1) (top_in n m s w1) pr j v) c.depth ∙
        lowered_region ready.nests p less highest levels1 tops1 c.top last1 v

    pub lowered_entries : (v : ℕ) → v < n → entry_in n m s w1 v ≡ entry_in n m s w0 v
    lowered_entries v l =
        ap (λ (j : ℕ). cond (level_in n m s w1 (suc j) v) no_entry (get_or w1 (entries n m + v) 0)) c.depth ∙
        go (bool_cases (L (suc k) v)) (bool_cases (eqb (pr v) p))
      where
        go :
            (L (suc k) v ≡ true) ⊎ (L (suc k) v ≡ false) → (eqb (pr v) p ≡ true) ⊎ (eqb (pr v) p ≡ false) →
            cond (level_in n m s w1 (suc (suc k)) v) no_entry (get_or w1 (entries n m + v) 0) ≡ entry_in n m s w0 v
        go (inl i) (inl e) = rw (last1 v, i, e) (c.forgotten v (c.region v ∙ rw (i, e)))
        go (inl i) (inr e) = rw (last1 v, i, e)
        go (inr i) e = rw (last1 v, i) (c.others v l (c.region v ∙ rw i))

    pub lowered_top : top_in n m s w1 (depth_in n m s w1) ≡ p
    lowered_top = rw c.depth c.top
