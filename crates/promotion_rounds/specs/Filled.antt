-- The entries of R's heads are filled once it is closed: levels and regions stay, and the entries are as a round of the rules asks,
-- since no other own vertex of R lacks one.
use Rattle.std.specs.Prelude.{Bool, true, false, ◌&&◌, List, ◌≡◌, ℕ, suc, ◌+◌, ◌%◌, ◌≤◌, ◌<◌, length, get_or}
use Rattle.std.proofs.Math.Bool.{cond}
use Rattle.std.proofs.Common.{inl, inr, ⊎_elim, ◌∙◌, arith, eq-eqb}
use Rattle.std.proofs.Math.Path.{sym, ap, fun_ext}
use Rattle.std.proofs.lemmas.Bool.{not-true}
use Rattle.std.proofs.Math.Dec.{eqb}
use Rattle.rules.specs.Counting.{Set, lowest}
use Rattle.rules.specs.Distance.{lowest_in}
use Rattle.rules.specs.Game.{Game, parity}
use Rattle.rules.specs.Tables.{Tables, game_of, Accepted, tables_of}
use Rattle.rules.specs.Words.{no_entry}
use Rattle.basics.specs.Basics.{bool_cases, and_intro, and_left, and_right}
use Rattle.basics.specs.Frame.{Below, Behind, Unchanged}
use Rattle.theory.specs.PromotionEntries.{ClosesEntries}
use Rattle.area.specs.Area.{entries, free, set_at}
use Rattle.successors.specs.Lowest.{end_in}
use Rattle.promotion_levels.specs.Nesting.{inside_all}
use Rattle.promotion_levels.specs.Layout.{held_at, depth_in, level_in, held_in, region_in, entry_in, Whole, Ready}
use Rattle.promotion_levels.specs.Kept as kept
use Rattle.promotion_levels.specs.Pulled.{owner_number}
use Rattle.promotion_moves.specs.Filling.{FillAll, FilledAll}

module _ (owners : List ℕ) {priorities offsets targets : List ℕ} (ok : Accepted (tables_of owners priorities offsets targets)) {s : ℕ}
    (p : ℕ) {w1 : List ℕ} (ready : Ready (length owners) priorities offsets targets s w1)
    (whole : Whole (length owners) (length targets) s w1)
  where
    abbrev n : ℕ
    n = length owners

    abbrev m : ℕ
    m = length targets

    abbrev t : Tables
    t = tables_of owners priorities offsets targets

    abbrev g : Game
    g = game_of t

    abbrev H : ℕ
    H = held_at n m s

    abbrev k : ℕ
    k = depth_in n m s w1

    -- R lies in the current level, and not in the last
    held_level : (v : ℕ) → held_in n m s w1 v ≡ true → level_in n m s w1 k v ≡ true
    held_level v i = and_left (level_in n m s w1 k v) _ (sym (whole v) ∙ i)

    held_out : (v : ℕ) → held_in n m s w1 v ≡ true → level_in n m s w1 (suc k) v ≡ false
    held_out v i = not-true (level_in n m s w1 (suc k) v) (and_right (level_in n m s w1 k v) _ (sym (whole v) ∙ i))

    pub held_small : (v : ℕ) → held_in n m s w1 v ≡ true → v < n
    held_small v i = ready.nests.below v (inside_all ready.nests 0 k v (omega arith) (omega arith) (held_level v i))

    pub fill_ready :
        {heads : ℕ} →
        held_at (length owners) (length targets) s ≤ heads →
        heads + s ≤ length w1 →
        ((v : ℕ) → set_at (length owners) heads w1 v ≡ true → v < length owners) →
        FillAll owners offsets targets s heads (held_at (length owners) (length targets) s)
        (entries (length owners) (length targets)) w1
    fill_ready behind high below =
        record {
          size = ready.size;
          few = ready.edges.few_vertices;
          edges = ready.edges;
          order = omega arith;
          behind = behind;
          high = omega (arith, ready.size, high);
          below = below;
        }

    module _ {alpha heads : ℕ} {w2 : List ℕ}
        (c : FilledAll owners offsets targets alpha heads (held_at (length owners) (length targets) s)
        (entries (length owners) (length targets)) w1 w2)
      where
        pub filled_long : length w2 ≡ length w1
        filled_long = c.keeps.long

        pub filled_table : Unchanged (Below (length owners + 1 + length targets)) w1 w2
        filled_table i l = c.keeps.rest i (inl (omega arith))

        pub filled_rest : Unchanged (Behind (free (length owners) (length targets))) w1 w2
        filled_rest i l = c.keeps.rest i (inr (omega arith))

        pub filled_ready : Ready (length owners) priorities offsets targets s w2
        filled_ready = kept.ready_kept w2 ready filled_long filled_table filled_rest

        pub filled_whole : Whole (length owners) (length targets) s w2
        filled_whole = kept.whole_kept w2 ready filled_long filled_table filled_rest whole

        pub filled_region :
            (v : ℕ) →
            region_in (length owners) (length targets) s priorities w2 v ≡
            region_in (length owners) (length targets) s priorities w1 v
        filled_region = kept.region_same w2 ready filled_long filled_table filled_rest

        -- an entry by the levels, inside R and elsewhere
        entry1 : (v : ℕ) → held_in n m s w1 v ≡ true → entry_in n m s w1 v ≡ get_or w1 (entries n m + v) 0
        entry1 v i = rw (held_out v i)

        last_same : (v : ℕ) → level_in n m s w2 (suc (depth_in n m s w2)) v ≡ level_in n m s w1 (suc k) v
        last_same v =
            ap (λ (j : ℕ). level_in n m s w2 (suc j) v) (kept.depth_same w2 ready filled_long filled_table filled_rest) ∙
            kept.level_same w2 ready filled_long filled_table filled_rest (suc k) v

        entry2 : (v : ℕ) → held_in n m s w1 v ≡ true → entry_in n m s w2 v ≡ get_or w2 (entries n m + v) 0
        entry2 v i = rw (last_same v ∙ held_out v i)

        -- what has an entry keeps it, head or not
        given_word :
            (v : ℕ) →
            held_in n m s w1 v ≡ true →
            (get_or w1 (entries n m + v) 0 ≡ no_entry → ⊥) →
            get_or w2 (entries n m + v) 0 ≡ get_or w1 (entries n m + v) 0
        given_word v here has =
            ⊎_elim
            (λ h. (c.inside v h).given (λ a none. has none))
            (λ h. c.outside v (held_small v here) h)
            (bool_cases (set_at n heads w1 v))

        -- **own vertices of R have got the entries that they lacked**
        pub filled_entries :
            (own : alpha ≡ p % 2) {R : Set} →
            ((v : ℕ) → held_in (length owners) (length targets) s w1 v ≡ R v) →
            ((v : ℕ) →
            set_at (length owners) heads w1 v ≡ (held_in (length owners) (length targets) s w1 v && eqb (get_or priorities v 0) p)) →
            ((v : ℕ) →
            R v ≡ true →
            (game_of (tables_of owners priorities offsets targets)).owner v ≡ parity p →
            entry_in (length owners) (length targets) s w1 v ≡ no_entry →
            (game_of (tables_of owners priorities offsets targets)).priority v ≡ p) →
            ClosesEntries (game_of (tables_of owners priorities offsets targets)) (parity p) R
            (entry_in (length owners) (length targets) s w1) (entry_in (length owners) (length targets) s w2)
        unfolding game_of lowest_in
        filled_entries own {R} is head_is but-heads =
            record {
              given =
                  λ v i o has.
                  let here = is v ∙ i in
                  entry2 v here ∙ given_word v here (λ none. has (entry1 v here ∙ none)) ∙ sym (entry1 v here);
              filled =
                  λ v i o none.
                  let here = is v ∙ i in
                  let l = held_small v here in
                  let h = head_is v ∙ and_intro here (eq-eqb (get_or priorities v 0) p (but-heads v i o none)) in
                  entry2 v here ∙
                  (c.inside v h).filled (owner_number t ok p v l o ∙ sym own) (sym (entry1 v here) ∙ none) ∙
                  ap (λ (S : Set). lowest n (end_in offsets targets v S)) (fun_ext is);
              elsewhere =
                  λ v l out.
                  ap (λ (b : Bool). cond b no_entry (get_or w2 (entries n m + v) 0)) (last_same v) ∙
                  ap (λ (x : ℕ). cond (level_in n m s w1 (suc k) v) no_entry x)
                  (c.outside v l (head_is v ∙ ap (λ (x : Bool). x && eqb (get_or priorities v 0) p) (is v ∙ out)));
            }
