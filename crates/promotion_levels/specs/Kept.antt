-- Where no free word changes, levels, priorities, R and regions are as they were.
use Rattle.std.specs.Prelude.{List, ◌≡◌, ℕ, suc, ◌+◌, length, get_or}
use Rattle.std.proofs.Common.{sym, ap, ap₂, subst, subst₂, ◌∙◌, arith}
use Rattle.std.proofs.Math.Path.{fun_ext}
use Rattle.rules.specs.Counting.{Set}
use Rattle.basics.specs.Frame.{Below, Behind, Unchanged}
use Rattle.area.specs.Area.{free}
use Rattle.area.specs.SetsAt.{set_kept}
use Rattle.attractor.specs.Attracted.{listed_kept}
use Rattle.promotion_places.specs.Nesting.{region_of, Nesting, Proper}
use Rattle.promotion_places.specs.Layout.{held_at, depth_at, tops_at, level_at, depth_in, top_in, level_in, held_in, region_in, Whole, Ready}
use Rattle.promotion_places.specs.Places.{sets_kept}

module _ {n : ℕ} {priorities offsets targets : List ℕ} {s : ℕ} {w0 : List ℕ} (w1 : List ℕ)
    (ready : Ready n priorities offsets targets s w0)
    (long : length w1 ≡ length w0)
    (table : Unchanged (Below (n + 1 + length targets)) w0 w1)
    (rest : Unchanged (Behind (free n (length targets))) w0 w1)
  where
    abbrev m : ℕ
    m = length targets

    pub depth_same : depth_in n m s w1 ≡ depth_in n m s w0
    depth_same = rest (depth_at n m s) (omega arith)

    pub top_same : (j : ℕ) → top_in n m s w1 j ≡ top_in n m s w0 j
    top_same j = rest (tops_at n m s + j) (omega arith)

    pub level_same : (j v : ℕ) → level_in n m s w1 j v ≡ level_in n m s w0 j v
    level_same j = set_kept n (level_at n m s j) w0 w1 (λ i low high. rest i (omega arith))

    pub held_same : (v : ℕ) → held_in n m s w1 v ≡ held_in n m s w0 v
    held_same = set_kept n (held_at n m s) w0 w1 (λ i low high. rest i (omega arith))

    levels_are : level_in n m s w1 ≡ level_in n m s w0
    levels_are = fun_ext (λ j. fun_ext (level_same j))

    tops_are : top_in n m s w1 ≡ top_in n m s w0
    tops_are = fun_ext top_same

    pub region_same : (v : ℕ) → region_in n m s priorities w1 v ≡ region_in n m s priorities w0 v
    region_same v =
        ap (λ (k : ℕ). region_of (level_in n m s w1) (top_in n m s w1) (λ u. get_or priorities u 0) k v) depth_same ∙
        ap₂ (λ (L : ℕ → Set) (P : ℕ → ℕ). region_of L P (λ u. get_or priorities u 0) (depth_in n m s w0) v) levels_are tops_are

    -- **what holds between two steps holds still**
    pub ready_kept : Ready n priorities offsets targets s w1
    ready_kept =
        record {
          size = ready.size;
          edges = ready.edges;
          listed = listed_kept n offsets targets w0 w1 long table ready.listed;
          room = omega (arith, ready.room, long);
          depth = rw depth_same ready.depth;
          sorted = sets_kept n (free n m) priorities w0 w1 (λ i low high. rest i low) ready.sorted;
          nests =
              rw depth_same
              (subst₂ (λ (L : ℕ → Set) (P : ℕ → ℕ). Nesting n (depth_in n m s w0) L P (λ v. get_or priorities v 0))
              (sym levels_are) (sym tops_are) ready.nests);
          proper = rw depth_same (subst (λ (L : ℕ → Set). Proper (depth_in n m s w0) L) (sym levels_are) ready.proper);
        }

    pub whole_kept : Whole n m s w0 → Whole n m s w1
    whole_kept whole v =
        held_same v ∙ whole v ∙
        sym (rw (depth_same, level_same (depth_in n m s w0) v, level_same (suc (depth_in n m s w0)) v))
