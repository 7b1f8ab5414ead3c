-- Level k is the current one: its priority is the highest in it, and it begins.
use Rattle.std.specs.Prelude.{Bool, true, false, ◌&&◌, not, List, ◌≡◌, ℕ, ◌+◌, ◌-◌, ◌*◌, ◌≤◌, ◌<◌, eqb, length, get_or, set}
use Rattle.std.proofs.Common.{inl, inr, sym, ap, ◌∙◌, mul-le-mul_right, add-mul, arith, length-set, get_or-set_same, get_or-set_other}
use Rattle.rules.specs.Tables.{words}
use Rattle.rules.specs.Words.{no_entry}
use Rattle.basics.specs.Greatest.{greatest_le}
use Rattle.basics.specs.Frame.{Beside}
use Rattle.area.specs.Area.{entries, free, set_at}
use Rattle.area.specs.SetsAt.{set_kept}
use Rattle.priority_sets.specs.Sorting.{SetsOf, sets_stay}
use Rattle.highest_priority.specs.Parts.{highest_of, Searchable}
use Rattle.promotion_places.specs.Layout.{held_at, depth_at, tops_at, deep, levels_at, level_at, end_at}
use Rattle.promotion_places.specs.Layout.{depth_in, top_in, level_in, held_in}
use Rattle.promotion_levels.specs.LevelBegins.{LevelBeginnable, LevelBegun}

-- what `descend` asks for: the next level has room, and no priority of level k is above `bound`
pub record Descends (priorities : List ℕ) (m s held levels k bound : ℕ) (work : List ℕ) : Type 0 where
  pub size : s ≡ words (length priorities)
  pub few : length priorities ≤ 4096
  pub few_edges : m ≤ 16384
  pub held_is : held ≡ held_at (length priorities) m s
  pub levels_is : levels ≡ levels_at (length priorities) m s
  pub room : end_at (length priorities) m s ≤ length work
  pub depth : k + 2 ≤ deep (length priorities)
  pub sorted : SetsOf (length priorities) priorities (length priorities) (free (length priorities) m) work
  pub below : (v : ℕ) → level_in (length priorities) m s work k v ≡ true → v < length priorities
  pub under : (v : ℕ) → level_in (length priorities) m s work k v ≡ true → get_or priorities v 0 ≤ bound
  pub small : bound < 256

-- what it leaves: p is level k's priority, the next level has no vertex of it, and R has those of level k
pub record Descended (priorities : List ℕ) (m s k p : ℕ) (before after : List ℕ) : Type 0 where
  pub long : length after ≡ length before
  pub highest : p ≡ highest_of priorities (level_in (length priorities) m s before k)
  pub top : top_in (length priorities) m s after k ≡ p
  pub depth : depth_in (length priorities) m s after ≡ k
  pub tops : (j : ℕ) → j < k → top_in (length priorities) m s after j ≡ top_in (length priorities) m s before j
  pub levels :
      (j v : ℕ) → j ≤ k → level_in (length priorities) m s after j v ≡ level_in (length priorities) m s before j v
  pub last :
      (v : ℕ) →
      level_in (length priorities) m s after (k + 1) v ≡
      (level_in (length priorities) m s before k v && not (eqb (get_or priorities v 0) p))
  pub region :
      (v : ℕ) →
      held_in (length priorities) m s after v ≡
      (level_in (length priorities) m s before k v && eqb (get_or priorities v 0) p)
  pub forgotten :
      (v : ℕ) →
      held_in (length priorities) m s after v ≡ true →
      get_or after (entries (length priorities) m + v) 0 ≡ no_entry
  pub others :
      (v : ℕ) →
      v < length priorities →
      held_in (length priorities) m s after v ≡ false →
      get_or after (entries (length priorities) m + v) 0 ≡ get_or before (entries (length priorities) m + v) 0
  pub rest :
      (i : ℕ) →
      Beside (length priorities) (entries (length priorities) m) i →
      Beside s (held_at (length priorities) m s) i →
      (i ≡ depth_at (length priorities) m s → ⊥) →
      (i ≡ tops_at (length priorities) m s + k → ⊥) →
      Beside s (level_at (length priorities) m s (k + 1)) i →
      get_or after i 0 ≡ get_or before i 0

-- the two words that say which level is the current one, and what its priority is
abbrev pub marked : ℕ → ℕ → ℕ → ℕ → List ℕ → List ℕ
marked top depth k p work = set (set work top p) depth k

-- a level ends before a later one begins
levels_apart : (s at i j : ℕ) → i < j → at + i * s + s ≤ at + j * s
levels_apart s at i j l =
    let more : i + 1 ≤ j = omega arith in
    let most = mul-le-mul_right s more in
    let e : (i + 1) * s ≡ i * s + 1 * s = add-mul i 1 s in
    omega arith

next_place : (s at k : ℕ) → at + (k + 1) * s ≡ at + k * s + s
next_place s at k = let e : (k + 1) * s ≡ k * s + 1 * s = add-mul k 1 s in omega arith

module _ {priorities : List ℕ} {m s held levels k bound : ℕ} {work : List ℕ}
    (given : Descends priorities m s held levels k bound work)
  where
    abbrev n : ℕ
    n = length priorities

    abbrev base : ℕ
    base = level_at n m s k

    -- level k and the next have room
    level_room : base + s + s ≤ length work
    level_room =
        let most = mul-le-mul_right s given.depth in
        let e : (k + 2) * s ≡ k * s + 2 * s = add-mul k 2 s in
        omega (arith, given.room)

    pub descend_room : levels + k * s + s + s ≤ length work
    descend_room = omega (arith, level_room, given.levels_is)

    -- and the words before them
    pub descend_marks : held + 3 * s + 1 + k < levels
    descend_marks = omega (arith, given.held_is, given.levels_is, given.depth)

    -- also once the first is written
    pub descend_second : {depth : ℕ} → depth ≡ held + 3 * s → (top p : ℕ) → depth < length (set work top p)
    descend_second {depth} at top p = omega (arith, at, length-set work top p, descend_marks, descend_room)

    -- level k can be searched
    pub descend_searchable : Searchable priorities s (levels + k * s) bound work
    descend_searchable =
        rw given.levels_is
        record {
          walkable =
              record {
                size = given.size;
                few = given.few;
                high = omega (arith, level_room, given.size);
                below = given.below;
                out = λ i low high. tt;
              };
          under = given.under;
        }

    module _ {p : ℕ} (found : p ≡ highest_of priorities (set_at (length priorities) (levels + k * s) work)) where
      is_highest : p ≡ highest_of priorities (level_in n m s work k)
      is_highest = rw given.levels_is at found

      pub descend_small : p < 256
      descend_small =
          omega (
            arith,
            is_highest,
            greatest_le n (level_in n m s work k) (λ v. get_or priorities v 0) bound (λ v l h. given.under v h),
            given.small,
          )

      abbrev now : List ℕ
      now = marked (tops_at n m s + k) (depth_at n m s) k p work

      marked_long : length now ≡ length work
      marked_long =
          length-set (set work (tops_at n m s + k) p) (depth_at n m s) k ∙ length-set work (tops_at n m s + k) p

      marked_rest :
          (i : ℕ) → (i ≡ depth_at n m s → ⊥) → (i ≡ tops_at n m s + k → ⊥) → get_or now i 0 ≡ get_or work i 0
      marked_rest i d t =
          get_or-set_other (set work (tops_at n m s + k) p) (depth_at n m s) i k 0 d ∙
          get_or-set_other work (tops_at n m s + k) i p 0 t

      -- every level stays
      marked_level : (j v : ℕ) → level_in n m s now j v ≡ level_in n m s work j v
      marked_level j =
          set_kept n (level_at n m s j) work now
          (λ i low high.
          marked_rest i (λ e. omega (arith, given.depth)) (λ e. omega (arith, given.depth)))

      beginnable : LevelBeginnable n m p s (held_at n m s) base (entries n m) now
      beginnable =
          record {
            placeable =
                record { size = given.size; few = given.few; few_edges = given.few_edges; small = descend_small };
            sorted = omega arith;
            given = omega arith;
            order = omega arith;
            room = omega (arith, level_room, marked_long);
            below = λ v h. given.below v (sym (marked_level k v) ∙ h);
          }

      module _ {depth row top : ℕ} (at : depth ≡ held + 3 * s) (here : row ≡ entries n m) (above : top ≡ depth + 1 + k) where
        pub descend_beginnable : LevelBeginnable n m p s held (levels + k * s) row (marked top depth k p work)
        descend_beginnable = rw (above, at, here, given.held_is, given.levels_is) beginnable

        -- **Level k is the current one.**
        pub descended :
            {after : List ℕ} →
            ((xs : List ℕ) →
            SetsOf n xs n (free n m) (marked top depth k p work) →
            LevelBegun n xs p s held (levels + k * s) row (marked top depth k p work) after) →
            Descended priorities m s k p work after
        descended {after} gives =
            record {
              long = began.long ∙ marked_long;
              highest = is_highest;
              top =
                  stays (tops_at n m s + k) (inr (omega arith)) (inr (omega arith)) (inl (omega (arith, given.depth))) ∙
                  get_or-set_other (set work (tops_at n m s + k) p) (depth_at n m s) (tops_at n m s + k) k 0 (λ e. omega arith) ∙
                  get_or-set_same work (tops_at n m s + k) p 0 (omega (arith, level_room, given.depth));
              depth =
                  stays (depth_at n m s) (inr (omega arith)) (inr (omega arith)) (inl (omega arith)) ∙
                  get_or-set_same (set work (tops_at n m s + k) p) (depth_at n m s) k 0
                  (omega (arith, length-set work (tops_at n m s + k) p, level_room));
              tops =
                  λ j l.
                  stays (tops_at n m s + j) (inr (omega arith)) (inr (omega arith)) (inl (omega (arith, given.depth))) ∙
                  marked_rest (tops_at n m s + j) (λ e. omega arith) (λ e. omega arith);
              levels = λ j v l. level_stays j v l ∙ marked_level j v;
              last =
                  λ v.
                  ap (λ (at : ℕ). set_at n at after v) (next_place s (levels_at n m s) k) ∙
                  began.last v ∙
                  ap (λ (b : Bool). b && not (eqb (get_or priorities v 0) p)) (marked_level k v);
              region = λ v. began.region v ∙ ap (λ (b : Bool). b && eqb (get_or priorities v 0) p) (marked_level k v);
              forgotten = began.forgotten;
              others =
                  λ v l h.
                  began.others v l h ∙ marked_rest (entries n m + v) (λ e. omega arith) (λ e. omega arith);
              rest =
                  λ i e h d t b.
                  began.rest i e h (rw (next_place s (levels_at n m s) k) at b) ∙ marked_rest i d t;
            }
          where
            sets : SetsOf n priorities n (free n m) (marked top depth k p work)
            sets =
                sets_stay n priorities n (free n m) work (marked top depth k p work)
                (λ i low high.
                get_or-set_other (set work top p) depth i k 0 (λ e. omega (arith, at, given.held_is, given.size)) ∙
                get_or-set_other work top i p 0 (λ e. omega (arith, at, above, given.held_is, given.size)))
                given.sorted

            began : LevelBegun n priorities p s (held_at n m s) base (entries n m) now after
            began = rw (above, at, here, given.held_is, given.levels_is) at (gives priorities sets)

            -- words that no part of the beginning touches
            stays :
                (i : ℕ) →
                Beside n (entries n m) i →
                Beside s (held_at n m s) i →
                Beside s (base + s) i →
                get_or after i 0 ≡ get_or now i 0
            stays = began.rest

            level_stays : (j v : ℕ) → j ≤ k → level_in n m s after j v ≡ level_in n m s now j v
            level_stays j v l =
                set_kept n (level_at n m s j) now after
                (λ i low high.
                let apart = levels_apart s (levels_at n m s) j (k + 1) (omega arith) in
                stays i (inr (omega arith)) (inr (omega arith))
                (inl (omega (arith, given.size, next_place s (levels_at n m s) k))))
                v
