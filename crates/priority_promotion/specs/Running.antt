-- From the checked tables to what a run leaves: W words have room, the first state is the rules', and the end of the rounds
-- is what is written out.
use Rattle.std.specs.Prelude.{true, false, List, ◌≡◌, refl, ℕ, suc, ◌+◌, ◌*◌, ◌≤◌, ◌<◌, length, get_or}
use Rattle.std.proofs.Math.Path.{sym, ap, subst}
use Rattle.std.proofs.Common.{◌∙◌, arith}
use Rattle.rules.specs.Counting.{Set}
use Rattle.rules.specs.Game.{Player, Even, Odd}
use Rattle.rules.specs.Tables.{Tables, game_of, words, work_words, Accepted, tables_of}
use Rattle.rules.specs.Promotion.{after_rounds, all_solved, rounds_needed}
use Rattle.theory.specs.PromotionAccepted.{accepted_promotion_sets, accepted_promotion_strategy, accepted_rounds_entries}
use Rattle.basics.specs.Basics.{count_zero}
use Rattle.accepted.specs.Tables.{accepted_sound}
use Rattle.predecessors.specs.Table.{SoundEdges}
use Rattle.area.specs.Area.{set_at, entry_at}
use Rattle.attractor.specs.Attracted.{Listed, edges_sound}
use Rattle.solver.specs.Preparing.{Preparable, Prepared}
use Rattle.solver.specs.Outputs.{won_from, WinnersFound}
use Rattle.kept_numbers.specs.Reading.{FreshlyCounted}
use Rattle.promotion_levels.specs.Nesting.{outside_all}
use Rattle.promotion_levels.specs.Layout.{held_at, won_at, levels_at, end_at, deep, depth_in, level_in, entry_in}
use Rattle.promotion_levels.specs.Places.{level_high}
use Rattle.promotion_begin.specs.FirstLevel.{StartBeginnable, Begun}
use Rattle.promotion_rounds.specs.SolveAll.{RoundsReached, Ended, none_left, ended_needed, ended_over}
use Rattle.priority_promotion.specs.FirstState.{tables_room, begin_ready, begun_reached}

-- there is a first level
some_levels : (n : ℕ) → 0 < deep n
unfolding deep
some_levels n = omega arith

-- the sets that the rules' rounds win
abbrev pub won_in : Tables → Player → Set
won_in t = (after_rounds (game_of t) (rounds_needed (game_of t))).won

-- and the entries that they choose
abbrev pub entries_in : Tables → ℕ → ℕ
entries_in t = (after_rounds (game_of t) (rounds_needed (game_of t))).entries

module _ (owners priorities offsets targets : List ℕ) (ok : Accepted (tables_of owners priorities offsets targets))
    {s held levels : ℕ} (size : s ≡ words (length owners)) (w0 : List ℕ)
    (room : length w0 ≡ work_words (length owners) (length targets))
    (held_is : held ≡ held_at (length owners) (length targets) s)
    (levels_is : levels ≡ held + 3 * s + 1 + deep (length owners))
  where
    abbrev n : ℕ
    n = length owners

    abbrev m : ℕ
    m = length targets

    tables_fit : end_at n m s ≤ length w0
    tables_fit = rw (size, room) (tables_room n m)

    levels_at_lem : levels ≡ levels_at n m s
    levels_at_lem = omega arith

    -- what `prepare` asks for
    pub run_preparable : Preparable (length owners) offsets targets s levels w0
    run_preparable =
        record {
          edges = edges_sound (tables_of owners priorities offsets targets) ok;
          size = size;
          low = omega (arith, size);
          high = let one = level_high n m s 0 (some_levels n) in omega (arith, tables_fit);
        }

    module _ {w1 : List ℕ} (prepared : Prepared (length owners) offsets targets levels w0 w1) where
      -- what `begin` asks for
      pub run_beginnable :
          {kept : List ℕ} →
          FreshlyCounted (tables_of owners priorities offsets targets) kept →
          StartBeginnable priorities (length targets) s held levels (get_or kept 257 0) w1
      run_beginnable counted =
          begin_ready owners priorities offsets targets ok s size w1 levels_at_lem prepared.full counted held_is
          (rw prepared.long tables_fit)

      -- what `begin` leaves
      pub run_begun :
          {w2 : List ℕ} {current : ℕ} →
          ((o t : List ℕ) →
          length t ≡ length targets →
          SoundEdges (length priorities) o t →
          Listed (length priorities) o t w1 →
          Begun priorities o t s current w1 w2) →
          Begun priorities offsets targets s current w1 w2
      run_begun gives =
          let t = tables_of owners priorities offsets targets in
          let as_many = (accepted_sound t ok).priority_each in
          gives offsets targets refl (rw as_many (edges_sound t ok)) (rw as_many prepared.listed)

      -- what `solve` asks for
      pub run_reached :
          {w2 : List ℕ} {current : ℕ} →
          Begun priorities offsets targets s current w1 w2 →
          RoundsReached owners priorities offsets targets s current (length owners) 0 w2
      run_reached = begun_reached owners priorities offsets targets ok s size w1 levels_at_lem prepared.full

module _ {owners priorities offsets targets : List ℕ} {s budget at many made : ℕ} {w2 w3 : List ℕ}
    (ended : Ended owners priorities offsets targets s budget at many made w2 w3)
  where
    abbrev t : Tables
    t = tables_of owners priorities offsets targets

    abbrev vs : ℕ
    vs = length owners

    abbrev es : ℕ
    es = length targets

    -- more rounds are needed than the budget
    pub run_over_lem : 0 < many → budget < rounds_needed (game_of (tables_of owners priorities offsets targets))
    run_over_lem = ended_over ended

    module _ (all : many ≡ 0) where
      -- the rounds made are those needed
      pub run_rounds : made ≡ rounds_needed (game_of (tables_of owners priorities offsets targets))
      run_rounds = sym (ended_needed ended all)

      solved : all_solved (game_of t) (after_rounds (game_of t) made) ≡ true
      solved = none_left ended.reached.shows all

      -- no level has a vertex, so that each entry is its word
      entry_word : (v : ℕ) → v < vs → entry_in vs es s w3 v ≡ entry_at vs es w3 v
      entry_word v l =
          let shows = ended.reached.shows in
          let k = depth_in vs es s w3 in
          let none : level_in vs es s w3 0 v ≡ false = count_zero vs (level_in vs es s w3 0) (sym shows.left ∙ all) v l in
          rw (outside_all shows.ready.nests 0 (suc k) v (omega arith) (omega arith) none)

      won_place : (c : Player) → won_from s (held_at vs es s + s) c ≡ won_at vs es s c
      won_place Even = refl
      won_place Odd = omega arith

      -- **What the rounds have found stands in the work area.**
      pub run_found :
          WinnersFound (tables_of owners priorities offsets targets) (won_in (tables_of owners priorities offsets targets))
          (entries_in (tables_of owners priorities offsets targets)) s
          (held_at (length owners) (length targets) s + s) w3
      unfolding game_of
      run_found =
          subst
          (λ (k : ℕ).
          WinnersFound t (after_rounds (game_of t) k).won (after_rounds (game_of t) k).entries s (held_at vs es s + s) w3)
          run_rounds
          (record {
            accepted = ended.reached.accepted;
            size = ended.reached.shows.ready.size;
            low = omega arith;
            high = omega (arith, ended.reached.shows.ready.room);
            inside = λ c v l. ap (λ (i : ℕ). set_at vs i w3 v) (won_place c) ∙ ended.reached.shows.won c v l;
            bare = λ c v l. ap (λ (i : ℕ). set_at vs i w3 v) (won_place c) ∙ ended.reached.shows.bare c v l;
            sets = accepted_promotion_sets t ended.reached.accepted ended.reached.entries solved;
            chosen =
                λ strategy long own other.
                accepted_promotion_strategy t ended.reached.accepted ended.reached.entries solved strategy long
                (λ a v l w o. own a v l w o ∙ sym (entry_word v l))
                other;
            wins = accepted_rounds_entries t ended.reached.accepted made solved;
          })

      -- the same where the code has the place of what Even won
      pub run_found_at :
          {won : ℕ} →
          won ≡ held_at (length owners) (length targets) s + s →
          WinnersFound (tables_of owners priorities offsets targets) (won_in (tables_of owners priorities offsets targets))
          (entries_in (tables_of owners priorities offsets targets)) s won w3
      run_found_at is = rw is run_found
