-- R goes over to level j: what `promote` leaves, and that the regions and the entries are then as a round of the rules asks.
use Rattle.std.specs.Prelude.{Bool, true, false, ◌&&◌, not, cond, List, ◌⊎◌, ◌≡◌, refl, ℕ, suc, ◌+◌, ◌-◌, ◌≤◌, ◌<◌, ltb, length, get_or, set}
use Rattle.std.proofs.Math.Bool.{and-false}
use Rattle.std.proofs.Common.{inl, inr, sym, ap, ◌∙◌, le_refl, arith, length-set, get_or-set_same, get_or-set_other}
use Rattle.std.proofs.lemmas.Bool.{not-true}
use Rattle.rules.specs.Counting.{Set, without}
use Rattle.rules.specs.Game.{Player, Even, Game}
use Rattle.rules.specs.Tables.{words}
use Rattle.rules.specs.Words.{no_entry}
use Rattle.rules.specs.Attractor.{Closed}
use Rattle.basics.specs.Basics.{bool_cases, and_left, and_right}
use Rattle.basics.specs.Frame.{Beside, Below, Unchanged}
use Rattle.theory.specs.PromotionBasics.{closed_cong}
use Rattle.area.specs.Area.{entries, free, set_at}
use Rattle.area.specs.SetsAt.{set_kept, set_reduced}
use Rattle.sets.specs.After.{Combined}
use Rattle.attractor.specs.Attracted.{listed_kept}
use Rattle.promotion_levels.specs.Nesting.{region_of, Nesting, inside_all, outside_all, below_is, promoted_nests, promoted_region_lem, promoted_proper}
use Rattle.promotion_levels.specs.Layout.{held_at, won_at, depth_at, tops_at, level_at, mark_at, depth_in, top_in, level_in, held_in}
use Rattle.promotion_levels.specs.Layout.{region_in, entry_in, Whole, Ready}
use Rattle.promotion_levels.specs.Places.{next_level, level_apart, level_high, level_kept, sets_kept}
use Rattle.promotion_levels.specs.Newcomers.{Newcomers}

-- what it asks for: the places lie in the work area, R's before the level word, that before the mark, and that before the levels
pub record Promotable (s held depth level mark : ℕ) (work : List ℕ) : Type 0 where
  pub held_low : held + s ≤ depth
  pub depth_low : depth < mark
  pub mark_low : mark < level
  pub high : level + s + s ≤ length work

-- what it leaves: the level after has lost R and is the last, the mark is set, and R stays
pub record PromotedTo (n s held depth level mark j : ℕ) (before after : List ℕ) : Type 0 where
  pub long : length after ≡ length before
  pub next :
      (v : ℕ) → set_at n (level + s) after v ≡ (set_at n (level + s) before v && not (set_at n held before v))
  pub depth_is : get_or after depth 0 ≡ j
  pub marked : get_or after mark 0 ≡ 1
  pub rest :
      (i : ℕ) →
      (i ≡ depth → ⊥) →
      (i ≡ mark → ⊥) →
      Beside s (level + s) i →
      get_or after i 0 ≡ get_or before i 0

-- **its three writes leave that**
pub promoted_made :
    {n s held depth level mark below j : ℕ} {w0 w1 : List ℕ} →
    s ≡ words n →
    Promotable s held depth level mark w0 →
    below ≡ level + s →
    Combined ◌-◌ below held s w0 w1 →
    PromotedTo n s held depth level mark j w0 (set (set w1 depth j) mark 1)
promoted_made {n} {s} {held} {depth} {level} {mark} {below} {j} {w0} {w1} size given behind c =
    record {
      long = length-set (set w1 depth j) mark 1 ∙ long1;
      next = λ v. rw (← behind) (after_next v ∙ set_reduced n below held w0 w1 (rw size at c) v);
      depth_is =
          get_or-set_other (set w1 depth j) mark depth 1 0 (λ e. omega (arith, given.depth_low)) ∙
          get_or-set_same w1 depth j 0 (omega (arith, c.long, given.depth_low, given.mark_low, given.high));
      marked = get_or-set_same (set w1 depth j) mark 1 0 (omega (arith, long1, given.mark_low, given.high));
      rest = λ i d k x. words_kept i d k ∙ c.rest i (rw behind x);
    }
  where
    long1 : length (set w1 depth j) ≡ length w0
    long1 = length-set w1 depth j ∙ c.long

    -- the two words written last
    words_kept : (i : ℕ) → (i ≡ depth → ⊥) → (i ≡ mark → ⊥) → get_or (set (set w1 depth j) mark 1) i 0 ≡ get_or w1 i 0
    words_kept i d k = get_or-set_other (set w1 depth j) mark i 1 0 k ∙ get_or-set_other w1 depth i j 0 d

    -- the level after is not touched again
    after_next : (v : ℕ) → set_at n below (set (set w1 depth j) mark 1) v ≡ set_at n below w1 v
    after_next =
        set_kept n below w1 (set (set w1 depth j) mark 1)
        (λ i low high.
        words_kept i (λ e. omega (arith, given.depth_low, given.mark_low)) (λ e. omega (arith, given.mark_low)))

-- b lies in y, which loses it: beside b, x without y is as before
beside_lost : (x y b : Bool) → (b ≡ true → y ≡ true) → ((x && not (y && not b)) && not b) ≡ (x && not y)
beside_lost false y b part = refl
beside_lost true true true part = refl
beside_lost true true false part = refl
beside_lost true false true part = part refl
beside_lost true false false part = refl

module _ {n : ℕ} {priorities offsets targets : List ℕ} {s : ℕ} {w0 : List ℕ}
    (ready : Ready n priorities offsets targets s w0) (j : ℕ)
  where
    abbrev m : ℕ
    m = length targets

    abbrev k : ℕ
    k = depth_in n m s w0

    abbrev H : ℕ
    H = held_at n m s

    abbrev X : ℕ
    X = level_at n m s j

    abbrev L : ℕ → Set
    L = level_in n m s w0

    abbrev R : Set
    R = held_in n m s w0

    size : s ≡ words n
    size = ready.size

    module _ (down : j < k) where
      y_is : level_at n m s (suc j) ≡ X + s
      y_is = next_level n m s j

      y_high : X + s + s ≤ length w0
      y_high =
          let high = level_high n m s (suc j) (omega (arith, ready.depth)) in
          omega (arith, ready.room, y_is)

      pub promote_ready : Promotable s H (depth_at n m s) X (mark_at n m s) w0
      promote_ready =
          record {
            held_low = omega arith;
            depth_low = omega (arith, ready.depth);
            mark_low = omega arith;
            high = y_high;
          }

      module _ (whole : Whole n m s w0) {w1 : List ℕ} (c : PromotedTo n s H (depth_at n m s) X (mark_at n m s) j w0 w1) where
        abbrev L1 : ℕ → Set
        L1 = level_in n m s w1

        -- words before the number of the current level are not changed
        low1 : Unchanged (Below (depth_at n m s)) w0 w1
        low1 i l = c.rest i (λ e. omega arith) (λ e. omega arith) (inl (omega arith))

        held1 : (v : ℕ) → held_in n m s w1 v ≡ R v
        held1 = set_kept n H w0 w1 (λ i low high. low1 i (omega (arith, size)))

        level1 : (i v : ℕ) → i ≤ j → L1 i v ≡ L i v
        level1 i v l =
            level_kept n m s i w0 w1
            (λ x low high.
            let a = level_apart n m s i (suc j) (omega arith) in
            c.rest x (λ e. omega arith) (λ e. omega arith) (inl (omega (arith, y_is, size)))) v

        top1 : (i : ℕ) → i ≤ j → top_in n m s w1 i ≡ top_in n m s w0 i
        top1 i l =
            c.rest (tops_at n m s + i) (λ e. omega arith) (λ e. omega (arith, ready.depth)) (inl (omega (arith, ready.depth)))

        place : X + s ≡ level_at n m s (suc j)
        place = sym y_is

        last1 : (v : ℕ) → L1 (suc j) v ≡ (L (suc j) v && not (R v))
        last1 v = rw place at (c.next v)

        depth1 : depth_in n m s w1 ≡ j
        depth1 = c.depth_is

        nests1 : Nesting n j L1 (top_in n m s w1) (λ v. get_or priorities v 0)
        nests1 = promoted_nests ready.nests {R = R} j down whole level1 top1 last1

        q : ℕ
        q = top_in n m s w0 j

        T : ℕ → ℕ
        T = region_in n m s priorities w0

        -- **the regions**
        pub region_promoted :
            (v : ℕ) →
            region_in n m s priorities w1 v ≡
            cond (held_in n m s w0 v) (top_in n m s w0 j)
            (cond (ltb (region_in n m s priorities w0 v) (top_in n m s w0 j)) (get_or priorities v 0)
            (region_in n m s priorities w0 v))
        region_promoted v =
            ap (λ (i : ℕ). region_of L1 (top_in n m s w1) (λ u. get_or priorities u 0) i v) depth1 ∙
            promoted_region_lem ready.nests {R = R} j down whole level1 top1 last1 v

        entry_word : (v : ℕ) → v < n → get_or w1 (entries n m + v) 0 ≡ get_or w0 (entries n m + v) 0
        entry_word v l = low1 (entries n m + v) (omega arith)

        -- **the entries**
        pub entry_promoted :
            (v : ℕ) → v < n →
            entry_in n m s w1 v ≡
            cond (held_in n m s w0 v) (entry_in n m s w0 v)
            (cond (ltb (region_in n m s priorities w0 v) (top_in n m s w0 j)) no_entry (entry_in n m s w0 v))
        entry_promoted v l =
            ap (λ (i : ℕ). cond (L1 (suc i) v) no_entry (get_or w1 (entries n m + v) 0)) depth1 ∙
            go (bool_cases (R v)) (bool_cases (L (suc j) v))
          where
            go :
                (R v ≡ true) ⊎ (R v ≡ false) → (L (suc j) v ≡ true) ⊎ (L (suc j) v ≡ false) →
                cond (L1 (suc j) v) no_entry (get_or w1 (entries n m + v) 0) ≡
                cond (R v) (entry_in n m s w0 v)
                (cond (ltb (region_in n m s priorities w0 v) (top_in n m s w0 j)) no_entry (entry_in n m s w0 v))
            go (inl r) x =
                let out : L (suc k) v ≡ false = not-true (L (suc k) v) (and_right (L k v) _ (sym (whole v) ∙ r)) in
                let gone : L1 (suc j) v ≡ false = last1 v ∙ rw r (and-false (L (suc j) v)) in
                rw (gone, r, out) (entry_word v l)
            go (inr r) (inl i) = rw (last1 v, i, r, below_is ready.nests j v (omega arith) ∙ i)
            go (inr r) (inr i) =
                let out = outside_all ready.nests (suc j) (suc k) v (omega arith) (le_refl (suc k)) i in
                rw (last1 v, i, r, below_is ready.nests j v (omega arith) ∙ i, out) (entry_word v l)

        -- **what holds between two steps holds again**
        pub ready_promoted : Ready n priorities offsets targets s w1
        ready_promoted =
            record {
              size = size;
              edges = ready.edges;
              listed = listed_kept n offsets targets w0 w1 c.long (λ i l. low1 i (omega arith)) ready.listed;
              room = omega (arith, ready.room, c.long);
              depth = rw depth1 (omega (arith, ready.depth));
              sorted = sets_kept n (free n m) priorities w0 w1 (λ i low high. low1 i (omega (arith, size))) ready.sorted;
              nests = rw depth1 nests1;
              proper = rw depth1 (promoted_proper k L L1 ready.proper R j down level1 last1);
            }

        -- R lies in the level after, which loses it
        held_next : (v : ℕ) → R v ≡ true → L (suc j) v ≡ true
        held_next v r = inside_all ready.nests (suc j) k v down (omega arith) (and_left (L k v) _ (sym (whole v) ∙ r))

        -- **R are the newcomers of the region of level j**: the others are all that it had
        pub newcomers_promoted :
            {g : Game} {a : Player} →
            Closed g a (level_in n m s w0 j) (without (level_in n m s w0 j) (level_in n m s w0 (suc j)))
            (without (level_in n m s w0 j) (level_in n m s w0 (suc j))) →
            Newcomers g a n m s w1
        newcomers_promoted closed =
            record {
              part =
                  λ v i.
                  let r : R v ≡ true = sym (held1 v) ∙ i in
                  let here = ready.nests.inside j v (omega arith) (held_next v r) in
                  rw (depth1, level1 j v (le_refl j), here, last1 v, r, and-false (L (suc j) v));
              unmarked = λ none. let no : ⊥ = omega (arith, c.marked) in absurd no;
              settled =
                  rw depth1
                  (closed_cong (L j) (L1 j) (without (L j) (L (suc j)))
                  (without (without (L1 j) (L1 (suc j))) (held_in n m s w1))
                  (λ v. sym (level1 j v (le_refl j)))
                  (λ v.
                  sym
                  (rw (level1 j v (le_refl j), last1 v, held1 v)
                  (beside_lost (L j v) (L (suc j) v) (R v) (held_next v))))
                  closed);
            }

        pub won_promoted : (i : ℕ) → won_at n m s Even ≤ i → i < depth_at n m s → get_or w1 i 0 ≡ get_or w0 i 0
        won_promoted i low high = low1 i high

        pub top_promoted : top_in n m s w1 (depth_in n m s w1) ≡ top_in n m s w0 j
        top_promoted = rw depth1 (top1 j (le_refl j))

        pub left_promoted : (v : ℕ) → level_in n m s w1 0 v ≡ level_in n m s w0 0 v
        left_promoted v = level1 0 v (omega arith)
