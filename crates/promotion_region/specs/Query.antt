-- Once region p is drawn in within the current level, and R has left the level after it, the regions and the entries are as a round of
-- the rules asks. R's heads stand where the level after that would.
use Rattle.std.specs.Prelude.{Bool, true, ◌&&◌, not, cond, List, ◌⊎◌, ◌≡◌, refl, ℕ, suc, ◌+◌, ◌≤◌, ◌<◌, eqb, ltb, length, get_or}
use Rattle.std.proofs.Math.Bool.{false, and-false}
use Rattle.std.proofs.Common.{inl, inr, ap, ap₂, ◌∙◌, le_refl, arith, lt-ltb}
use Rattle.std.proofs.Math.Path.{sym}
use Rattle.std.proofs.lemmas.Bool.{not-true}
use Rattle.rules.specs.Counting.{Set}
use Rattle.rules.specs.Game.{Player, Game, Even, parity, player_of}
use Rattle.rules.specs.Tables.{Tables, words, game_of, Accepted, tables_of}
use Rattle.rules.specs.Words.{no_entry}
use Rattle.rules.specs.Promotion.{unsolved}
use Rattle.basics.specs.Basics.{bool_cases, clash, not_true_is_false, not_false_is_true, and_right}
use Rattle.basics.specs.Frame.{Outside, Beside, Behind, Below, Unchanged}
use Rattle.theory.specs.PromotionBasics.{at_region, up_to}
use Rattle.theory.specs.PromotionEntries.{AttractsEntries}
use Rattle.area.specs.Area.{entries, free, set_at, entry_at}
use Rattle.area.specs.SetsAt.{set_kept}
use Rattle.attractor.specs.Attracted.{listed_kept}
use Rattle.priority_sets.specs.Sorting.{SetsOf, PriorityPlaceable, set_of_priority, set_room}
use Rattle.promotion_levels.specs.Nesting.{region_of, Nesting, inside_all, falls_all}
use Rattle.promotion_levels.specs.Nesting.{drawn_nests, drawn_region, drawn_proper}
use Rattle.promotion_levels.specs.Layout.{held_at, won_at, depth_at, tops_at, level_at, end_at, mark_at, depth_in, top_in, level_in, held_in, region_in}
use Rattle.promotion_levels.specs.Layout.{entry_in, current_in, Whole, Ready}
use Rattle.promotion_levels.specs.Places.{next_level, level_apart, level_kept, sets_kept, up_to_is, at_region_is}
use Rattle.promotion_levels.specs.Newcomers.{Newcomers}
use Rattle.promotion_levels.specs.Pulled.{Pulled, pulled_as}
use Rattle.set_difference.specs.Without.{CommonAt}

-- what `query` asks for: the tables are accepted with some priorities, p is the current level's, and its set stands at `base`
pub record QueryReady (owners offsets targets : List ℕ) (s p held base mark : ℕ) (work : List ℕ) : Type 0 where
  pub priorities : List ℕ
  pub accepted : Accepted (tables_of owners priorities offsets targets)
  pub ready : Ready (length owners) priorities offsets targets s work
  -- R's place has the newcomers of region p
  pub newcomers :
      Newcomers (game_of (tables_of owners priorities offsets targets)) (parity p) (length owners) (length targets) s work
  pub current : p ≡ top_in (length owners) (length targets) s work (depth_in (length owners) (length targets) s work)
  pub held_is : held ≡ held_at (length owners) (length targets) s
  pub base_is :
      base ≡ level_at (length owners) (length targets) s (depth_in (length owners) (length targets) s work)
  pub mark_is : mark ≡ mark_at (length owners) (length targets) s
  -- there is room for two levels more
  pub room : base + s + s + s ≤ end_at (length owners) (length targets) s

-- what `draw_region` asks for: all that `query` does, and alpha is the number of the player of p
pub record Drawable (owners offsets targets : List ℕ) (alpha s held base mark : ℕ) (work : List ℕ) : Type 0 where
  pub p : ℕ
  pub asked : QueryReady owners offsets targets s p held base mark work
  pub player : player_of alpha ≡ parity p
  pub side : alpha ≤ 1

-- what it leaves: R is drawn in by all of the region, whatever of it was new, and the level after has lost it
pub record RegionDrawn (owners priorities offsets targets : List ℕ) (s : ℕ) (a : Player) (before after : List ℕ) : Type 0 where
  pub long : length after ≡ length before
  pub pulled :
      let n = length owners in
      let m = length targets in
      Pulled (game_of (tables_of owners priorities offsets targets)) a (level_in n m s before (depth_in n m s before))
      (current_in n m s before) (held_in n m s after) (entry_at n m before) (entry_at n m after)
  pub left :
      let n = length owners in
      let m = length targets in
      let k = depth_in n m s before in
      (v : ℕ) → level_in n m s after (suc k) v ≡ (level_in n m s before k v && not (held_in n m s after v))
  -- the predecessor table is as it was, and so is every free word that is neither in these two sets nor the mark
  pub table : Unchanged (Below (length owners + 1 + length targets)) before after
  pub rest :
      let n = length owners in
      let m = length targets in
      (i : ℕ) →
      free n m ≤ i →
      Beside s (held_at n m s) i →
      Beside s (level_at n m s (suc (depth_in n m s before))) i →
      (i ≡ mark_at n m s → ⊥) →
      get_or after i 0 ≡ get_or before i 0

-- with all priorities with which the tables are accepted
abbrev pub RegionDraws : List ℕ → List ℕ → List ℕ → ℕ → Player → List ℕ → List ℕ → Type 0
RegionDraws owners offsets targets s a before after =
    (priorities : List ℕ) →
    Accepted (tables_of owners priorities offsets targets) →
    Ready (length owners) priorities offsets targets s before →
    Newcomers (game_of (tables_of owners priorities offsets targets)) a (length owners) (length targets) s before →
    RegionDrawn owners priorities offsets targets s a before after

-- what `query` leaves: R is the attractor of region p, and has region p now
pub record Queried (owners priorities offsets targets : List ℕ) (s p : ℕ) (before after : List ℕ) : Type 0 where
  pub long : length after ≡ length before
  pub ready : Ready (length owners) priorities offsets targets s after
  -- and R's place has all of it
  pub whole : Whole (length owners) (length targets) s after
  pub depth : depth_in (length owners) (length targets) s after ≡ depth_in (length owners) (length targets) s before
  pub tops :
      (j : ℕ) →
      j ≤ depth_in (length owners) (length targets) s before →
      top_in (length owners) (length targets) s after j ≡ top_in (length owners) (length targets) s before j
  pub levels :
      (j v : ℕ) →
      j ≤ depth_in (length owners) (length targets) s before →
      level_in (length owners) (length targets) s after j v ≡ level_in (length owners) (length targets) s before j v
  pub region :
      (v : ℕ) →
      region_in (length owners) (length targets) s priorities after v ≡
      cond (held_in (length owners) (length targets) s after v) p
      (region_in (length owners) (length targets) s priorities before v)
  pub attracts :
      let n = length owners in
      let m = length targets in
      let g = game_of (tables_of owners priorities offsets targets) in
      let T = region_in n m s priorities before in
      AttractsEntries g (unsolved g T) T p (held_in n m s after) (entry_in n m s before) (entry_in n m s after)
  -- R's heads, of priority p, stand two levels further on
  pub heads :
      (v : ℕ) →
      set_at (length owners)
      (level_at (length owners) (length targets) s (suc (suc (depth_in (length owners) (length targets) s before)))) after v ≡
      (held_in (length owners) (length targets) s after v && eqb (get_or priorities v 0) p)
  pub won :
      (i : ℕ) →
      won_at (length owners) (length targets) s Even ≤ i →
      i < depth_at (length owners) (length targets) s →
      get_or after i 0 ≡ get_or before i 0
  -- behind the levels nothing is touched
  pub rest : Unchanged (Behind (end_at (length owners) (length targets) s)) before after

module _ (owners priorities : List ℕ) {offsets targets : List ℕ} (ok : Accepted (tables_of owners priorities offsets targets))
    {s : ℕ} {w0 : List ℕ} (ready : Ready (length owners) priorities offsets targets s w0)
    (z-end :
    level_at (length owners) (length targets) s (suc (suc (depth_in (length owners) (length targets) s w0))) + s ≤
    end_at (length owners) (length targets) s)
  where
    abbrev n : ℕ
    n = length owners

    abbrev m : ℕ
    m = length targets

    abbrev t : Tables
    t = tables_of owners priorities offsets targets

    abbrev g : Game
    g = game_of t

    abbrev k : ℕ
    k = depth_in n m s w0

    abbrev p : ℕ
    p = top_in n m s w0 k

    -- the current level, the level after it, R's heads, R, and the set of priority p
    abbrev X : ℕ
    X = level_at n m s k

    abbrev Y : ℕ
    Y = level_at n m s (suc k)

    abbrev Z : ℕ
    Z = level_at n m s (suc (suc k))

    abbrev H : ℕ
    H = held_at n m s

    abbrev O : ℕ
    O = set_of_priority (words n) (free n m) p

    abbrev L : ℕ → Set
    L = level_in n m s w0

    abbrev C : Set
    C = current_in n m s w0

    size : s ≡ words n
    size = ready.size

    y_is : Y ≡ X + s
    y_is = next_level n m s k

    z_is : Z ≡ X + s + s
    z_is = next_level n m s (suc k) ∙ ap (λ (x : ℕ). x + s) y_is

    z_high : Z + s ≤ length w0
    z_high = omega (arith, z-end, ready.room)

    p_small : p < 256
    p_small = let low = falls_all ready.nests 0 k (omega arith) (le_refl k) in omega (arith, ready.nests.small)

    o_low : O + s ≤ H
    o_low = omega (arith, size, set_room (words n) (free n m) p p_small)

    in_small : (j v : ℕ) → j ≤ suc k → L j v ≡ true → v < n
    in_small j v l i = ready.nests.below v (inside_all ready.nests 0 j v (omega arith) l i)

    module _ {w1 w2 : List ℕ}
        (drawn : RegionDrawn owners priorities offsets targets s (parity p) w0 w1)
        (c2 : CommonAt n Z H O w1 w2)
      where
        long2 : length w2 ≡ length w0
        long2 = c2.long ∙ drawn.long

        -- words before R's heads
        low2 : (i : ℕ) → i < Z → get_or w2 i 0 ≡ get_or w1 i 0
        low2 i l = c2.rest i (inl l)

        -- words that neither R, nor the level after, nor the heads, nor the mark are
        same2 : (i : ℕ) → free n m ≤ i → Beside s H i → Outside Y (Z + s) i → (i ≡ mark_at n m s → ⊥) → get_or w2 i 0 ≡ get_or w0 i 0
        same2 i low o (inl l) d = low2 i (omega (arith, y_is, z_is)) ∙ drawn.rest i low o (inl l) d
        same2 i low o (inr l) d =
            c2.rest i (inr (omega (arith, size))) ∙ drawn.rest i low o (inr (omega (arith, y_is, z_is))) d

        depth2 : depth_in n m s w2 ≡ k
        depth2 =
            same2 (depth_at n m s) (omega arith) (inr (omega arith)) (inl (omega (arith, y_is))) (λ e. omega (arith, ready.depth))

        top2 : (j : ℕ) → j ≤ k → top_in n m s w2 j ≡ top_in n m s w0 j
        top2 j l =
            same2 (tops_at n m s + j) (omega arith) (inr (omega arith)) (inl (omega (arith, y_is, ready.depth)))
            (λ e. omega (arith, ready.depth))

        abbrev R : Set
        R = held_in n m s w2

        abbrev L2 : ℕ → Set
        L2 = level_in n m s w2

        level2 : (j v : ℕ) → j ≤ k → L2 j v ≡ L j v
        level2 j v l =
            level_kept n m s j w0 w2
            (λ i low high.
            let a = level_apart n m s j (suc k) (omega arith) in
            same2 i (omega arith) (inr (omega arith)) (inl (omega (arith, size))) (λ e. omega arith)) v

        R_is : (v : ℕ) → R v ≡ held_in n m s w1 v
        R_is = set_kept n H w1 w2 (λ i low high. low2 i (omega (arith, size, y_is, z_is)))

        last_is : (v : ℕ) → L2 (suc k) v ≡ (L k v && not (R v))
        last_is v =
            set_kept n Y w1 w2 (λ i low high. low2 i (omega (arith, size, y_is, z_is))) v ∙
            drawn.left v ∙
            ap (λ (b : Bool). L k v && not b) (sym (R_is v))

        cert2 : Pulled g (parity p) (L k) C R (entry_at n m w0) (entry_at n m w1)
        cert2 = pulled_as (λ v. refl) (λ v. refl) (λ v. sym (R_is v)) drawn.pulled

        part2 : (v : ℕ) → R v ≡ true → L k v ≡ true
        part2 v i = cert2.certificate.inside v i

        gained2 : (v : ℕ) → L k v ≡ true → L (suc k) v ≡ false → R v ≡ true
        gained2 v i out = cert2.certificate.closed.target v (rw (i, out))

        nests2 : Nesting n k L2 (top_in n m s w2) (λ v. get_or priorities v 0)
        nests2 = drawn_nests ready.nests {R = R} gained2 part2 level2 top2 last_is

        -- the level after has lost R, and R is what lies between
        held_between : (v : ℕ) → R v ≡ (L2 k v && not (L2 (suc k) v))
        held_between v = go (bool_cases (R v)) (bool_cases (L k v))
          where
            go : (R v ≡ true) ⊎ (R v ≡ false) → (L k v ≡ true) ⊎ (L k v ≡ false) → R v ≡ (L2 k v && not (L2 (suc k) v))
            go (inl r) x = r ∙ sym (rw (level2 k v (le_refl k), last_is v, part2 v r, r))
            go (inr r) (inl i) = r ∙ sym (rw (level2 k v (le_refl k), last_is v, i, r))
            go (inr r) (inr i) = r ∙ sym (rw (level2 k v (le_refl k), i))

        -- an entry by the levels, before and after
        entry0 : (v : ℕ) → L (suc k) v ≡ false → entry_in n m s w0 v ≡ entry_at n m w0 v
        entry0 v out = rw out

        entry2 : (v : ℕ) → v < n → L2 (suc k) v ≡ false → entry_in n m s w2 v ≡ entry_at n m w1 v
        entry2 v l out =
            ap (λ (j : ℕ). cond (L2 (suc j) v) no_entry (get_or w2 (entries n m + v) 0)) depth2 ∙
            rw out (low2 (entries n m + v) (omega (arith, z_is)))

        none0 : (v : ℕ) → L (suc k) v ≡ true → entry_in n m s w0 v ≡ no_entry
        none0 v i = rw i

        none2 : (v : ℕ) → L2 (suc k) v ≡ true → entry_in n m s w2 v ≡ no_entry
        none2 v i = ap (λ (j : ℕ). cond (L2 (suc j) v) no_entry (get_or w2 (entries n m + v) 0)) depth2 ∙ rw i

        gone2 : (v : ℕ) → R v ≡ true → L2 (suc k) v ≡ false
        gone2 v r = last_is v ∙ rw r (and-false (L k v))

        -- the table of regions before
        abbrev T : ℕ → ℕ
        T = region_in n m s priorities w0

        pulled2 :
            Pulled g (parity p) (up_to (unsolved g T) T p) (at_region (unsolved g T) T p) R (entry_at n m w0)
            (entry_at n m w1)
        pulled2 =
            pulled_as (λ v. sym (up_to_is owners priorities offsets targets ready.nests v))
            (λ v. sym (at_region_is owners priorities offsets targets ready.nests v)) (λ v. refl) cert2

        -- who is in region p is not in the level after
        at_held : (v : ℕ) → at_region (unsolved g T) T p v ≡ true → L (suc k) v ≡ false
        at_held v i =
            not-true (L (suc k) v)
            (and_right (L k v) _ (sym (at_region_is owners priorities offsets targets ready.nests v) ∙ i))

        small2 : (v : ℕ) → R v ≡ true → v < n
        small2 v i = in_small k v (omega arith) (part2 v i)

        attracts2 : AttractsEntries g (unsolved g T) T p R (entry_in n m s w0) (entry_in n m s w2)
        unfolding game_of
        attracts2 =
            record {
              certificate = pulled2.certificate;
              near = λ v i out o. pulled2.near v;
              pulled = λ v i out o. entry2 v (small2 v i) (gone2 v i) ∙ pulled2.entered v i out o;
              kept =
                  λ v i o.
                  let r = pulled2.certificate.closed.target v i in
                  entry2 v (small2 v r) (gone2 v r) ∙
                  pulled2.kept v (small2 v r) (λ x out. absurd (clash i out)) ∙
                  sym (entry0 v (at_held v i));
              elsewhere = λ v l out. elsewhere v l out (bool_cases (L k v));
            }
          where
            elsewhere :
                (v : ℕ) → v < n → R v ≡ false → (L k v ≡ true) ⊎ (L k v ≡ false) → entry_in n m s w2 v ≡ entry_in n m s w0 v
            elsewhere v l out (inl i) =
                none2 v (last_is v ∙ rw (i, out)) ∙
                sym (none0 v (not_false_is_true (L (suc k) v) (λ gone. clash (gained2 v i gone) out)))
            elsewhere v l out (inr i) =
                entry2 v l (last_is v ∙ rw i) ∙
                pulled2.kept v l (λ r. absurd (clash r out)) ∙
                sym (entry0 v (not_true_is_false (L (suc k) v) (λ h. clash (ready.nests.inside k v (le_refl k) h) i)))

        sorted2 : SetsOf n priorities n (free n m) w2
        sorted2 =
            sets_kept n (free n m) priorities w0 w2
            (λ i low high. same2 i low (inl (omega (arith, size))) (inl (omega (arith, size, y_is))) (λ e. omega (arith, size))) ready.sorted

        heads2 : (v : ℕ) → set_at n Z w2 v ≡ (R v && eqb (get_or priorities v 0) p)
        heads2 v =
            c2.made v ∙
            ap₂ (λ (x y : Bool). x && y)
            (sym (set_kept n H w1 w2 (λ i low high. c2.rest i (inl (omega (arith, size, y_is, z_is)))) v))
            (sym (set_kept n O w1 w2 (λ i low high. c2.rest i (inl (omega (arith, size, o_low, z_is)))) v) ∙ sorted2 p v p_small) ∙
            go (bool_cases (R v))
          where
            go :
                (R v ≡ true) ⊎ (R v ≡ false) →
                (R v && (ltb v n && eqb (get_or priorities v 0) p)) ≡ (R v && eqb (get_or priorities v 0) p)
            go (inl i) = rw (i, lt-ltb v n (small2 v i))
            go (inr i) = rw i

        -- **all is as a round of the rules asks**
        pub queried : Queried owners priorities offsets targets s p w0 w2
        queried =
            record {
              long = long2;
              ready =
                  record {
                    size = size;
                    edges = ready.edges;
                    listed =
                        listed_kept n offsets targets w0 w2 long2
                        (λ i l. low2 i (omega (arith, z_is)) ∙ drawn.table i l) ready.listed;
                    room = omega (arith, ready.room, long2);
                    depth = rw depth2 ready.depth;
                    sorted = sorted2;
                    nests = rw depth2 nests2;
                    proper = rw depth2 (drawn_proper k L L2 ready.proper R gained2 level2 last_is);
                  };
              whole = λ v. rw depth2 (held_between v);
              depth = depth2;
              tops = top2;
              levels = level2;
              region =
                  λ v. ap (λ (j : ℕ). region_of L2 (top_in n m s w2) (λ u. get_or priorities u 0) j v) depth2 ∙
                  drawn_region ready.nests {R = R} gained2 part2 level2 top2 last_is v;
              attracts = attracts2;
              heads = heads2;
              won = λ i low high. same2 i (omega arith) (inr (omega arith)) (inl (omega (arith, y_is))) (λ e. omega (arith, ready.depth));
              rest = λ i l. same2 i (omega arith) (inr (omega arith)) (inr (omega (arith, z-end))) (λ e. omega arith);
            }

-- ---- the same for the numbers that the code has

module _ {owners offsets targets : List ℕ} {s p held base mark : ℕ} {w0 : List ℕ}
    (q : QueryReady owners offsets targets s p held base mark w0)
  where
    abbrev n' : ℕ
    n' = length owners

    abbrev m' : ℕ
    m' = length targets

    room_behind : level_at n' m' s (suc (suc (depth_in n' m' s w0))) + s ≤ end_at n' m' s
    room_behind =
        let after = next_level n' m' s (depth_in n' m' s w0) in
        let behind = next_level n' m' s (suc (depth_in n' m' s w0)) in
        omega (arith, q.base_is, q.room)

    -- the places of the sets and of the mark
    pub given_fits : (base + s + s + s ≤ length w0) × (held + s ≤ mark) × (mark < base)
    given_fits =
        let high = z_high owners q.priorities q.accepted q.ready room_behind in
        let is = z_is owners q.priorities q.accepted q.ready room_behind in
        (omega (arith, q.base_is), omega (arith, q.mark_is, q.held_is), omega (arith, q.base_is, q.mark_is))

    -- and of the heads
    pub given_place : PriorityPlaceable (length owners) (length targets) s p
    given_place =
        record {
          size = q.ready.size;
          few = q.ready.edges.few_vertices;
          few_edges = q.ready.edges.few_edges;
          small = rw q.current (p_small owners q.priorities q.accepted q.ready room_behind);
        }

    -- the set of priority p stands below R
    pub given_low : {of : ℕ} → of ≡ set_of_priority (words (length owners)) (free (length owners) (length targets)) p → of + s ≤ held
    given_low {of} is =
        let low = o_low owners q.priorities q.accepted q.ready room_behind in
        let at : of ≡ set_of_priority (words n') (free n' m') (top_in n' m' s w0 (depth_in n' m' s w0)) =
        is ∙ ap (set_of_priority (words n') (free n' m')) q.current in
        omega (arith, q.held_is)

    -- the work area is as long as it was
    pub given_long : {a : Player} {w1 : List ℕ} → a ≡ parity p → RegionDraws owners offsets targets s a w0 w1 → length w1 ≡ length w0
    given_long own draws = (draws q.priorities q.accepted q.ready (rw own q.newcomers)).long

    module _ (priorities : List ℕ) (ok : Accepted (tables_of owners priorities offsets targets))
        (ready : Ready (length owners) priorities offsets targets s w0)
        (newcomers :
        Newcomers (game_of (tables_of owners priorities offsets targets)) (parity p) (length owners) (length targets) s w0)
        {w1 w2 : List ℕ} {a : Player} {of below heads : ℕ}
      where
        pub given_queried :
            below ≡ base + s →
            heads ≡ below + s →
            a ≡ parity p →
            RegionDraws owners offsets targets s a w0 w1 →
            of ≡ set_of_priority (words (length owners)) (free (length owners) (length targets)) p →
            ((n : ℕ) → s ≡ words n → CommonAt n heads held of w1 w2) →
            Queried owners priorities offsets targets s p w0 w2
        given_queried next last own draws is c2 =
            let behind : heads ≡ level_at n' m' s (suc (suc (depth_in n' m' s w0))) =
            last ∙
            ap (λ (x : ℕ). x + s) (next ∙ ap (λ (x : ℕ). x + s) q.base_is) ∙
            sym (z_is owners priorities ok ready room_behind) in
            let drawn = rw (own, q.current) at (draws priorities ok ready (rw own newcomers)) in
            let met = rw (behind, q.held_is, is, q.current) at (c2 (length owners) ready.size) in
            rw q.current (queried owners priorities ok ready room_behind drawn met)
