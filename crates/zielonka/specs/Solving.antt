-- From the recursion on all vertices to what the public solver writes out: the calls, the sets and the entries.
use Rattle.std.specs.Prelude.{List, ◌⊎◌, Bool, true, false, ◌&&◌, not, ◌≡◌, refl, ℕ, ◌+◌, ◌-◌, ◌*◌, ◌≤◌, ◌<◌, length, get_or}
use Rattle.std.proofs.Common.{inl, inr, sym, ap, ap₂, ◌∙◌, mul-le-mul_left, mul-le-mul_right, mul_comm, add-mul, arith}
use Rattle.std.proofs.Math.Path.{subst, fun_ext}
use borrow.Author.Tests.{lt-ltb, le-ltb}
use Rattle.rules.specs.Counting.{Set, count}
use Rattle.rules.specs.Game.{Player, Even, Odd, everywhere}
use Rattle.rules.specs.Tables.{Tables, game_of, vertices, edges_in, words, work_words, Accepted}
use Rattle.rules.specs.Zielonka.{zielonka}
use Rattle.theory.specs.AttractorComplement.{TotalIn}
use Rattle.basics.specs.Basics.{count_le, and_left, lt_or_ge}
use Rattle.basics.specs.Frame.{Outside}
use Rattle.theory.specs.Run.{Run, run_over_lem, run_agrees}
use Rattle.theory.specs.RunSame.{Same, Needs}
use Rattle.theory.specs.RunEntries.{run_strategy}
use Rattle.accepted.specs.Tables.{accepted_total, accepted_few, accepted_sound}
use Rattle.theory.specs.Zielonka.{everywhere_below, everywhere_total, run_is_zielonka, needs_zielonka, zielonka_wins}
use Rattle.theory.specs.Zielonka.{zielonka_entries_win}
use Rattle.sets.specs.After.{Parts, Cleared}
use Rattle.area.specs.Area.{entries, free, set_at}
use Rattle.area.specs.Regions.{two_words, free_words}
use Rattle.area.specs.SetsAt.{set_kept, set_cleared}
use Rattle.set_difference.specs.Without.{WithoutAt}
use Rattle.priority_sets.specs.Sorting.{Sortable, Sorts, sets_stay}
use Rattle.zielonka_level.specs.Level.{even_place, odd_place, first_level, on_level, odd_at, won_of, entries_of, Called, Done, Over}
use Rattle.zielonka_level.specs.Steps.{level_stays}
use Rattle.zielonka_recursion.specs.Calling.{level_fits}
use Rattle.zielonka_recursion.specs.Ending.{CalledUnder, Under}
use Rattle.attractor.specs.Attracted.{edges_sound, listed_kept}
use Rattle.solver.specs.Preparing.{Preparable, Prepared}
use Rattle.solver.specs.Outputs.{won_from, WinnersFound}

-- where a set takes two words or more there are many vertices, so that the levels that are left over have room for a set for each
-- priority; else those sets are 256 words
sets_room : (n : ℕ) → 247 * words n ≤ 7 * (n * words n) + 262
sets_room n = go (lt_or_ge (words n) 2)
  where
    go : (words n < 2) ⊎ (2 ≤ words n) → 247 * words n ≤ 7 * (n * words n) + 262
    go (inl l) = omega arith
    go (inr h) = let wide = mul-le-mul_right (words n) (two_words n h) in omega arith

-- W words have room for a set for each priority, three sets more, and a level for each vertex and one more, behind the attractor's
-- words
first_room : (n m k : ℕ) → k ≤ n → first_level n m + words n * (k + 1) ≤ work_words n m
first_room n m k few =
    let more : k + 1 ≤ n + 1 = omega arith in
    let some_levels = mul-le-mul_left (words n) more in
    let all_levels : words n * (n + 1) ≡ n * words n + 1 * words n = mul_comm (words n) (n + 1) ∙ add-mul n 1 (words n) in
    omega (arith, free_words n m, sets_room n)

-- the sets of the priorities begin where the free words do; behind them stand what Even and Odd won, the attractor, and the first
-- level
module _ (t : Tables) (ok : Accepted t) (w₀ : List ℕ)
    (room : length w₀ ≡ work_words (vertices t) (edges_in t))
    {at odd base : ℕ}
    (here : at ≡ free (vertices t) (edges_in t))
    (won : odd ≡ odd_place (vertices t) (edges_in t))
    (first : base ≡ first_level (vertices t) (edges_in t))
  where
    -- what `prepare` asks for
    pub run_preparable : {s : ℕ} → s ≡ words (vertices t) → Preparable (vertices t) t.offsets t.targets s base w₀
    run_preparable size =
        let fits = first_room (vertices t) (edges_in t) 0 (omega arith) in
        let one : words (vertices t) * (0 + 1) ≡ words (vertices t) = mul_comm (words (vertices t)) 1 ∙ one-mul in
        record {
          edges = edges_sound t ok;
          size = size;
          low = omega arith;
          high = omega arith;
        }
      where
        one-mul : 1 * words (vertices t) ≡ words (vertices t)
        one-mul = omega arith

    -- what `make` asks for
    pub run_sortable :
        {s : ℕ} {w : List ℕ} →
        s ≡ words (vertices t) →
        Prepared (vertices t) t.offsets t.targets base w₀ w →
        Sortable t.priorities s at w
    run_sortable size prepared =
        let sound = accepted_sound t ok in
        let fits = first_room (vertices t) (edges_in t) 0 (omega arith) in
        record {
          size = size ∙ ap words (sym sound.priority_each);
          few = omega (arith, sound.few_vertices, sound.priority_each);
          small = λ v l. let most = sound.priority_small v (omega (arith, sound.priority_each)) in omega arith;
          room = omega (arith, prepared.long);
        }

    -- what clearing what Odd won asks for
    pub run_clearable :
        {s : ℕ} {w w' : List ℕ} →
        s ≡ words (vertices t) →
        Prepared (vertices t) t.offsets t.targets base w₀ w →
        Sorts t.priorities at w w' →
        odd + s ≤ length w'
    run_clearable size prepared sorts =
        let fits = first_room (vertices t) (edges_in t) 0 (omega arith) in
        omega (arith, prepared.long, sorts.long)

    module _ {s : ℕ} {w' w'' w : List ℕ}
        (size : s ≡ words (vertices t))
        (prepared : Prepared (vertices t) t.offsets t.targets base w₀ w')
        (sorts : Sorts t.priorities at w' w'')
        (cleared : Cleared odd s w'' w)
      where
        -- the words before the sets of the priorities, and the levels, are as they were
        outside :
            (i : ℕ) →
            Outside (free (vertices t) (edges_in t)) base i →
            get_or w i 0 ≡ get_or w' i 0
        outside i (inl l) = cleared.rest i (inl (omega arith)) ∙ sorts.rest i (inl (omega arith))
        outside i (inr h) =
            cleared.rest i (inr (omega arith)) ∙
            sorts.rest i (inr (rw (accepted_sound t ok).priority_each (omega arith)))

        -- V is the set of all vertices
        full : (v : ℕ) → on_level t base w v ≡ everywhere (game_of t) v
        unfolding game_of
        full v = set_kept (vertices t) base w' w (λ i l h. outside i (inr l)) v ∙ prepared.full v

        -- Odd won nothing yet
        none_odd : (v : ℕ) → odd_at t w v ≡ false
        none_odd =
            set_cleared (vertices t) odd s (odd_place (vertices t) (edges_in t)) cleared (omega arith) (omega arith)

        -- what the recursion asks for
        called : Called t base w
        unfolding game_of
        called =
            record {
              accepted = ok;
              table =
                  listed_kept (vertices t) t.offsets t.targets w' w (cleared.long ∙ sorts.long)
                  (λ i l. outside i (inl (omega arith)))
                  prepared.listed;
              sorted =
                  sets_stay (vertices t) t.priorities (vertices t) (free (vertices t) (edges_in t)) w'' w
                  (λ i l h. cleared.rest i (inl (omega arith)))
                  (rw ((accepted_sound t ok).priority_each, here) at sorts.sets);
              above = omega arith;
              room =
                  let S = on_level t base w in
                  let fits = first_room (vertices t) (edges_in t) (count (vertices t) S) (count_le (vertices t) S) in
                  omega (arith, prepared.long, sorts.long, cleared.long);
              below = λ v p. everywhere_below (game_of t) v (sym (full v) ∙ p);
              total =
                  subst (λ (S : Set). TotalIn (game_of t) S) (sym (fun_ext full))
                  (everywhere_total (game_of t) (accepted_total t ok));
            }

        pub run_called : {top : ℕ} → Under t top → CalledUnder t base top w
        run_called under = record { called = called; under = λ v m. under v (called.below v m) }

        -- more calls are needed than the budget
        pub run_over_budget : {budget : ℕ} → Over t base 0 budget w → budget < (zielonka (game_of t)).calls
        run_over_budget {budget} over =
            let needs =
            needs_zielonka (game_of t) (budget + 1 - 0) (accepted_total t ok)
            (subst (λ (S : Set). Needs (game_of t) S (budget + 1 - 0)) (fun_ext full) over) in
            omega arith

        module _ {budget calls : ℕ} {w₄ : List ℕ} (done : Done t base 0 budget calls w w₄) where
          -- V is still there
          level : (v : ℕ) → on_level t base w₄ v ≡ on_level t base w v
          level = level_stays called.above done.stays

          pub run_calls : calls ≡ (zielonka (game_of t)).calls
          run_calls =
              omega (arith, done.counts, (run_is_zielonka (accepted_total t ok) (run_over_lem full done.run)).calls)

          run_fits : base + s ≤ length w₄
          run_fits = omega (arith, level_fits called refl, done.stays.long, size)

          -- what Even won may be made
          module _ {even : ℕ} (there : even ≡ even_place (vertices t) (edges_in t)) where
            pub run_parts : Parts even base s w₄ × Parts even odd s w₄
            run_parts = let fits = run_fits in (
              record { into_fits = omega arith; from_fits = omega arith; apart = inl (omega arith) },
              record { into_fits = omega arith; from_fits = omega arith; apart = inl (omega arith) },
            )

            module _ {w₅ : List ℕ} (made : WithoutAt (vertices t) even base odd w₄ w₅) where
              -- nothing but what Even won is written
              odd_same : (v : ℕ) → odd_at t w₅ v ≡ odd_at t w₄ v
              odd_same =
                  set_kept (vertices t) (odd_place (vertices t) (edges_in t)) w₄ w₅ (λ i l h. made.rest i (inr (omega arith)))

              entry_same : (v : ℕ) → v < vertices t → entries_of t w₅ v ≡ entries_of t w₄ v
              entry_same v l = made.rest (entries (vertices t) (edges_in t) + v) (inl (omega arith))

              -- the run, with the sets and entries as they stand in the end
              abbrev got : Player → Set
              got = won_of t (on_level t base w) w₄

              got_below : (c : Player) (v : ℕ) → got c v ≡ true → v < vertices t
              got_below c v p = called.below v (and_left _ _ p)

              whole_run : Run (game_of t) (everywhere (game_of t)) got (entries_of t w₅) done.needed
              whole_run =
                  run_agrees (entries_of t w₅) (λ c v p o. entry_same v (got_below c v p)) (run_over_lem full done.run)

              rules : Same got (zielonka (game_of t)).won done.needed (zielonka (game_of t)).calls
              rules = run_is_zielonka (accepted_total t ok) whole_run

              all_of : (v : ℕ) → v < vertices t → on_level t base w v ≡ true
              unfolding game_of
              all_of v l = full v ∙ lt-ltb v (vertices t) l

              none_of : (v : ℕ) → vertices t ≤ v → on_level t base w v ≡ false
              unfolding game_of
              none_of v l = full v ∙ le-ltb v (vertices t) l

              even_is : (v : ℕ) → set_at (vertices t) even w₅ v ≡ got Even v
              even_is v =
                  made.made v ∙
                  ap₂ (λ (x y : Bool). x && not y) (level v) (ap (λ (i : ℕ). set_at (vertices t) i w₄ v) won)

              odd_is : (v : ℕ) → set_at (vertices t) (even + s) w₅ v ≡ odd_at t w₄ v
              odd_is v =
                  let place : even + s ≡ odd_place (vertices t) (edges_in t) = omega arith in
                  ap (λ (i : ℕ). set_at (vertices t) i w₅ v) place ∙ odd_same v

              inside :
                  (c : Player) (v : ℕ) → v < vertices t → set_at (vertices t) (won_from s even c) w₅ v ≡ (zielonka (game_of t)).won c v
              inside Even v l = even_is v ∙ rules.sets Even v
              inside Odd v l =
                  odd_is v ∙ ap (λ (x : Bool). x && odd_at t w₄ v) (sym (all_of v l)) ∙ rules.sets Odd v

              bare : (c : Player) (v : ℕ) → vertices t ≤ v → set_at (vertices t) (won_from s even c) w₅ v ≡ false
              bare Even v l = even_is v ∙ ap (λ (x : Bool). x && not (odd_at t w₄ v)) (none_of v l)
              bare Odd v l = odd_is v ∙ done.odd v (none_of v l) ∙ none_odd v

              -- **What the recursion has found stands in the work area.**
              pub run_found : WinnersFound t (zielonka (game_of t)).won (zielonka (game_of t)).entries s even w₅
              unfolding game_of
              run_found =
                  record {
                    accepted = ok;
                    size = size;
                    low = omega arith;
                    high = let fits = run_fits in omega (arith, made.long);
                    inside = inside;
                    bare = bare;
                    sets = zielonka_wins (game_of t) (accepted_total t ok);
                    chosen =
                        λ strategy long given absent.
                        run_strategy (accepted_total t ok) (accepted_few t ok) whole_run strategy long
                        (λ c v l p. given c v l (sym (rules.sets c v) ∙ p))
                        (λ c v l p. absent c v l (sym (rules.sets c v) ∙ p));
                    wins = zielonka_entries_win (game_of t) (accepted_total t ok) (accepted_few t ok);
                  }
