-- The first level begins again: all that is left in it has its priority as region, and no entry.
use Rattle.std.specs.Prelude.{true, false, ◌&&◌, not, cond, List, ◌⊎◌, ◌≡◌, ℕ, suc, ◌+◌, ◌≤◌, ◌<◌, eqb, length, get_or}
use Rattle.std.proofs.Common.{inl, inr, ap, ◌∙◌, le_refl, arith}
use Rattle.rules.specs.Counting.{Set}
use Rattle.rules.specs.Words.{no_entry}
use Rattle.basics.specs.Basics.{bool_cases}
use Rattle.basics.specs.Greatest.{greatest_le}
use Rattle.predecessors.specs.Table.{SoundEdges}
use Rattle.area.specs.Area.{entries}
use Rattle.attractor.specs.Attracted.{Listed}
use Rattle.promotion_places.specs.Nesting.{region_of}
use Rattle.promotion_places.specs.Nesting.{afresh_nests, afresh_region, afresh_proper}
use Rattle.promotion_places.specs.Layout.{held_at, levels_at, depth_in, top_in, level_in, region_in, entry_in, Whole, Ready}
use Rattle.promotion_levels.specs.Descending.{Descends, Descended}
use Rattle.promotion_levels.specs.Going.{listed_again, sorted_again, last_is, held_again, most_is, met_is}

-- **the first level begins again**: all that is left in it has its priority as region, and no entry
module _ (priorities offsets targets : List ℕ) {s p : ℕ} {w0 w1 : List ℕ}
    (given : Descends priorities (length targets) s (held_at (length priorities) (length targets) s)
    (levels_at (length priorities) (length targets) s) 0 255 w0)
    (edges : SoundEdges (length priorities) offsets targets)
    (listed : Listed (length priorities) offsets targets w0)
    (c : Descended priorities (length targets) s 0 p w0 w1)
  where
    abbrev n : ℕ
    n = length priorities

    abbrev m : ℕ
    m = length targets

    abbrev X : Set
    X = level_in n m s w0 0

    abbrev pr : ℕ → ℕ
    pr v = get_or priorities v 0

    first1 : (v : ℕ) → level_in n m s w1 0 v ≡ X v
    first1 v = c.levels 0 v (le_refl 0)

    last1 : (v : ℕ) → level_in n m s w1 1 v ≡ (X v && not (eqb (pr v) p))
    last1 = last_is priorities offsets targets given.size given.room c

    highest : (v : ℕ) → X v ≡ true → pr v ≤ p
    highest v i = most_is priorities offsets targets given.size given.room c v (given.below v i) i

    met : (u : ℕ) → X u ≡ true → (v : ℕ) × (X v ≡ true) × (pr v ≡ p)
    met u i = met_is priorities offsets targets given.size given.room c u (given.below u i) i

    top_small : p < 256
    top_small =
        let most = greatest_le n X pr 255 (λ v l i. given.under v i) in
        omega (arith, c.highest)

    pub afresh_ready : Ready n priorities offsets targets s w1
    afresh_ready =
        record {
          size = given.size;
          edges = edges;
          listed = listed_again priorities offsets targets given.size given.room c listed;
          room = omega (arith, given.room, c.long);
          depth = rw c.depth given.depth;
          sorted = sorted_again priorities offsets targets given.size given.room c given.sorted;
          nests =
              rw c.depth
              (afresh_nests n (level_in n m s w1) (top_in n m s w1) pr X p top_small given.below highest c.top first1 last1);
          proper = rw c.depth (afresh_proper (level_in n m s w1) pr X p met first1 last1);
        }

    -- all of its region is new
    pub afresh_whole : Whole n m s w1
    afresh_whole v = rw c.depth (held_again priorities offsets targets given.size given.room c v)

    pub afresh_regions : (v : ℕ) → region_in n m s priorities w1 v ≡ cond (level_in n m s w0 0 v) (get_or priorities v 0) 256
    afresh_regions v =
        ap (λ (j : ℕ). region_of (level_in n m s w1) (top_in n m s w1) pr j v) c.depth ∙
        afresh_region n (level_in n m s w1) (top_in n m s w1) pr X p top_small given.below highest c.top first1 last1 v

    pub afresh_entries :
        (v : ℕ) → v < n →
        entry_in n m s w1 v ≡ cond (level_in n m s w0 0 v) no_entry (get_or w0 (entries n m + v) 0)
    afresh_entries v l =
        ap (λ (j : ℕ). cond (level_in n m s w1 (suc j) v) no_entry (get_or w1 (entries n m + v) 0)) c.depth ∙
        go (bool_cases (X v)) (bool_cases (eqb (pr v) p))
      where
        go :
            (X v ≡ true) ⊎ (X v ≡ false) → (eqb (pr v) p ≡ true) ⊎ (eqb (pr v) p ≡ false) →
            cond (level_in n m s w1 1 v) no_entry (get_or w1 (entries n m + v) 0) ≡
            cond (X v) no_entry (get_or w0 (entries n m + v) 0)
        go (inl i) (inl e) = rw (last1 v, i, e) (c.forgotten v (c.region v ∙ rw (i, e)))
        go (inl i) (inr e) = rw (last1 v, i, e)
        go (inr i) e = rw (last1 v, i) (c.others v l (c.region v ∙ rw i))

    pub afresh_top : top_in n m s w1 (depth_in n m s w1) ≡ p
    afresh_top = rw c.depth c.top
