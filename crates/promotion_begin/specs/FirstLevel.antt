-- The first level begins with nothing won: each of its vertices has its priority as region and no entry.
use Rattle.std.specs.Prelude.{Bool, true, false, cond, List, ◌≡◌, refl, ℕ, ◌+◌, ◌-◌, ◌*◌, ◌≤◌, ◌<◌, length, get_or}
use Rattle.std.proofs.Common.{inl, inr, sym, ap, subst, ◌∙◌, le_refl, arith}
use Rattle.rules.specs.Game.{Player, Even, Odd}
use Rattle.rules.specs.Counting.{greatest}
use Rattle.rules.specs.Tables.{words}
use Rattle.rules.specs.Words.{no_entry}
use Rattle.basics.specs.Greatest.{greatest_cong}
use Rattle.basics.specs.Frame.{Outside, Behind, Unchanged}
use Rattle.sets.specs.After.{Cleared}
use Rattle.predecessors.specs.Table.{SoundEdges}
use Rattle.area.specs.Area.{entries, free, set_at}
use Rattle.area.specs.SetsAt.{set_kept, set_zeros}
use Rattle.attractor.specs.Attracted.{Listed, listed_kept}
use Rattle.priority_sets.specs.Sorting.{Sortable, Sorts}
use Rattle.promotion_levels.specs.Layout.{held_at, won_at, depth_at, levels_at, level_at, end_at, deep, depth_in, top_in, level_in}
use Rattle.promotion_levels.specs.Layout.{region_in, entry_in, Whole, Ready}
use Rattle.promotion_levels.specs.Places.{level_high}
use Rattle.promotion_levels.specs.Descending.{Descends, Descended}
use Rattle.promotion_levels.specs.Going.{won_words}
use Rattle.promotion_levels.specs.Afresh.{afresh_ready, afresh_whole, afresh_regions, afresh_entries, afresh_top}

-- what `begin` asks for: the first level stands, no priority is above `top`, and there is room
pub record StartBeginnable (priorities : List ℕ) (m s held levels top : ℕ) (work : List ℕ) : Type 0 where
  pub size : s ≡ words (length priorities)
  pub few : length priorities ≤ 4096
  pub few_edges : m ≤ 16384
  pub held_is : held ≡ held_at (length priorities) m s
  pub levels_is : levels ≡ levels_at (length priorities) m s
  pub room : end_at (length priorities) m s ≤ length work
  pub below : (v : ℕ) → level_in (length priorities) m s work 0 v ≡ true → v < length priorities
  pub under : (v : ℕ) → v < length priorities → get_or priorities v 0 ≤ top
  pub small : top < 256

-- what it leaves, for n vertices
pub record BegunOf (n : ℕ) (priorities offsets targets : List ℕ) (s p : ℕ) (before after : List ℕ) : Type 0 where
  pub long : length after ≡ length before
  pub ready : Ready n priorities offsets targets s after
  pub whole : Whole n (length targets) s after
  pub highest : p ≡ greatest n (level_in n (length targets) s before 0) (λ v. get_or priorities v 0)
  pub top : p ≡ top_in n (length targets) s after (depth_in n (length targets) s after)
  pub first : (v : ℕ) → level_in n (length targets) s after 0 v ≡ level_in n (length targets) s before 0 v
  pub region :
      (v : ℕ) →
      region_in n (length targets) s priorities after v ≡
      cond (level_in n (length targets) s before 0 v) (get_or priorities v 0) 256
  pub entry :
      (v : ℕ) → v < n → level_in n (length targets) s before 0 v ≡ true → entry_in n (length targets) s after v ≡ no_entry
  pub won : (b : Player) (v : ℕ) → set_at n (won_at n (length targets) s b) after v ≡ false
  pub rest : Unchanged (Behind (end_at n (length targets) s)) before after

abbrev pub Begun : List ℕ → List ℕ → List ℕ → ℕ → ℕ → List ℕ → List ℕ → Type 0
Begun priorities = BegunOf (length priorities) priorities

-- there is room for the first level and the next
two_levels : (n : ℕ) → 2 ≤ deep n
unfolding deep
two_levels n = omega arith

module _ {priorities : List ℕ} {m s held levels top : ℕ} {w0 : List ℕ} (given : StartBeginnable priorities m s held levels top w0)
    {sets : ℕ} (sets-at : sets ≡ free (length priorities) m)
  where
    abbrev n : ℕ
    n = length priorities

    -- all that is written here stands before the levels
    pub begin_low : held + 3 * s ≤ length w0
    begin_low = omega (arith, given.held_is, given.room)

    module _ {w1 : List ℕ} (cleared : Cleared (held + s) (2 * s) w0 w1) where
      -- what `make` asks for
      pub begin_sortable : Sortable priorities s sets w1
      begin_sortable =
          record {
            size = given.size;
            few = given.few;
            small = λ v l. omega (arith, given.under v l, given.small);
            room = omega (arith, sets-at, begin_low, given.held_is, cleared.long);
          }

      module _ {w2 : List ℕ} (sorted : Sorts priorities sets w1 w2) where
        sorts : Sorts priorities (free n m) w1 w2
        sorts = subst (λ (at : ℕ). Sorts priorities at w1 w2) sets-at sorted

        same_long : length w2 ≡ length w0
        same_long = sorts.long ∙ cleared.long

        -- the words of the tables before the sets, and those from the levels on
        outside : Unchanged (Outside (free n m) (depth_at n m s)) w0 w2
        outside i (inl l) = sorts.rest i (inl l) ∙ cleared.rest i (inl (omega (arith, given.held_is)))
        outside i (inr h) =
            sorts.rest i (inr (omega (arith, given.size))) ∙ cleared.rest i (inr (omega (arith, given.held_is)))

        level_same : (v : ℕ) → level_in n m s w2 0 v ≡ level_in n m s w0 0 v
        level_same = set_kept n (level_at n m s 0) w0 w2 (λ i low high. outside i (inr (omega arith)))

        inside : (v : ℕ) → level_in n m s w2 0 v ≡ true → v < n
        inside v i = given.below v (sym (level_same v) ∙ i)

        descends :
            (at from bound : ℕ) → at ≡ held_at n m s → from ≡ levels_at n m s → top ≤ bound → bound < 256 →
            Descends priorities m s at from 0 bound w2
        descends at from bound is_held_lem is-levels most small =
            record {
              size = given.size;
              few = given.few;
              few_edges = given.few_edges;
              held_is = is_held_lem;
              levels_is = is-levels;
              room = omega (arith, given.room, same_long);
              depth = two_levels n;
              sorted = sorts.sets;
              below = inside;
              under = λ v i. omega (arith, given.under v (inside v i));
              small = small;
            }

        -- what `descend` asks for
        pub begin_descends : Descends priorities m s held levels 0 top w2
        begin_descends = descends held levels top given.held_is given.levels_is (le_refl top) given.small

        -- nobody has won anything
        no_words : (i : ℕ) → won_at n m s Even ≤ i → i < depth_at n m s → get_or w2 i 0 ≡ 0
        no_words i low high =
            sorts.rest i (inr (omega (arith, given.size))) ∙
            cleared.zeros i (omega (arith, given.held_is)) (omega (arith, given.held_is))

        behind : {p : ℕ} {w3 : List ℕ} → Descended priorities m s 0 p w2 w3 →
            Unchanged (Behind (end_at n m s)) w0 w3
        behind c i l =
            let high = level_high n m s 1 (two_levels n) in
            c.rest i (inr (omega arith)) (inr (omega arith)) (λ e. omega arith) (λ e. omega (arith, two_levels n))
            (inr (omega arith)) ∙
            outside i (inr (omega arith))

        -- **The first level has begun.**
        pub begun :
            {p : ℕ} {w3 : List ℕ} →
            Descended priorities m s 0 p w2 w3 →
            (offsets targets : List ℕ) →
            length targets ≡ m →
            SoundEdges (length priorities) offsets targets →
            Listed (length priorities) offsets targets w0 →
            Begun priorities offsets targets s p w0 w3
        begun {p} {w3} c offsets targets e edges listed = all
          where
            given2 : Descends priorities (length targets) s (held_at n (length targets) s) (levels_at n (length targets) s) 0 255 w2
            given2 =
                subst (λ (x : ℕ). Descends priorities x s (held_at n x s) (levels_at n x s) 0 255 w2) (sym e)
                (descends (held_at n m s) (levels_at n m s) 255 refl refl (omega (arith, given.small)) (omega arith))

            c2 : Descended priorities (length targets) s 0 p w2 w3
            c2 = subst (λ (x : ℕ). Descended priorities x s 0 p w2 w3) (sym e) c

            same2 : (v : ℕ) → level_in n (length targets) s w2 0 v ≡ level_in n (length targets) s w0 0 v
            same2 = subst (λ (x : ℕ). (v : ℕ) → level_in n x s w2 0 v ≡ level_in n x s w0 0 v) (sym e) level_same

            listed2 : Listed n offsets targets w2
            listed2 =
                listed_kept n offsets targets w0 w2 same_long (λ i l. outside i (inl (omega (arith, e)))) listed

            zeros : (i : ℕ) → won_at n (length targets) s Even ≤ i → i < depth_at n (length targets) s → get_or w3 i 0 ≡ 0
            zeros i low high =
                won_words priorities offsets targets given.size given2.room c2 i low high ∙
                no_words i (omega (arith, e)) (omega (arith, e))

            nobody_won : (b : Player) (v : ℕ) → set_at n (won_at n (length targets) s b) w3 v ≡ false
            nobody_won Even v =
                set_zeros n (won_at n (length targets) s Even) w3 (λ i low high. zeros i low (omega (arith, given.size))) v
            nobody_won Odd v =
                set_zeros n (won_at n (length targets) s Odd) w3
                (λ i low high. zeros i (omega arith) (omega (arith, given.size)))
                v

            all : Begun priorities offsets targets s p w0 w3
            all =
                record {
                  long = c.long ∙ same_long;
                  ready = afresh_ready priorities offsets targets given2 edges listed2 c2;
                  whole = afresh_whole priorities offsets targets given2 edges listed2 c2;
                  highest =
                      c2.highest ∙
                      greatest_cong n (level_in n (length targets) s w2 0) (level_in n (length targets) s w0 0)
                      (λ v. get_or priorities v 0)
                      (λ v. get_or priorities v 0)
                      (λ v l. same2 v)
                      (λ v l. refl);
                  top = sym (afresh_top priorities offsets targets given2 edges listed2 c2);
                  first = λ v. c2.levels 0 v (le_refl 0) ∙ same2 v;
                  region =
                      λ v.
                      afresh_regions priorities offsets targets given2 edges listed2 c2 v ∙
                      ap (λ (b : Bool). cond b (get_or priorities v 0) 256) (same2 v);
                  entry =
                      λ v l i.
                      afresh_entries priorities offsets targets given2 edges listed2 c2 v l ∙
                      ap (λ (b : Bool). cond b no_entry (get_or w2 (entries n (length targets) + v) 0)) (same2 v ∙ i);
                  won = nobody_won;
                  rest = λ i l. behind c i (omega (arith, sym e));
                }
