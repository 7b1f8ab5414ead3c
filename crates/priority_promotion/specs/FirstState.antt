-- The first state: the predecessor table, the set of all vertices as first level, and what `begin` leaves show the rules' state
-- before any round.
use Rattle.std.specs.Prelude.{Bool, true, cond, List, ◌⊎◌, ◌≡◌, refl, ℕ, zero, suc, ◌+◌, ◌*◌, ◌≤◌, ◌<◌, ltb, length}
use Rattle.std.proofs.Common.{inl, inr, ap, subst, ◌∙◌, le_refl, mul-le-mul_left, mul-le-mul_right, add-mul, arith, lt-ltb, ltb-true}
use Rattle.std.proofs.Math.Path.{sym}
use Rattle.std.proofs.Math.Nat.{le_step}
use Rattle.std.proofs.Math.ListN.{get_or}
use Rattle.rules.specs.Counting.{Set, count}
use Rattle.rules.specs.Game.{Game}
use Rattle.rules.specs.Tables.{words, work_words, game_of, Accepted, tables_of}
use Rattle.rules.specs.Promotion.{unsolved, at_start, after_rounds}
use Rattle.basics.specs.Basics.{lt_or_ge}
use Rattle.accepted.specs.Tables.{accepted_sound}
use Rattle.basics.specs.Greatest.{greatest_cong}
use Rattle.basics.specs.Basics.{noted_below}
use Rattle.theory.specs.PromotionEntries.{starts}
use Rattle.area.specs.Area.{set_at}
use Rattle.area.specs.Regions.{two_words, free_words}
use Rattle.kept_numbers.specs.Reading.{FreshlyCounted, kept_bounds, kept_small}
use Rattle.promotion_levels.specs.Layout.{held_at, levels_at, level_at, end_at, deep, level_in, region_in}
use Rattle.promotion_levels.specs.Newcomers.{whole_newcomers}
use Rattle.promotion_begin.specs.FirstLevel.{StartBeginnable, Begun, BegunOf}
use Rattle.promotion_rounds.specs.SolveAll.{RoundsReached}

-- all vertices are counted
count_full : (n : ℕ) (S : Set) → ((v : ℕ) → v < n → S v ≡ true) → count n S ≡ n
unfolding count
count_full zero S all = refl
count_full (suc n) S all = rw (count_full n S (λ v l. all v (le_step l)), all n (le_refl (suc n))) (omega arith)

few_levels : (n : ℕ) → (deep n ≤ n + 2) × (deep n ≤ 258)
unfolding deep
few_levels n = (omega arith, omega arith)

-- a set of two words or more is one of many vertices, so that the levels that are never used have room for the priorities' sets
spare : (n : ℕ) → 248 * words n + deep n ≤ 7 * (n * words n) + 268
spare n = go (lt_or_ge 0 (words n)) (lt_or_ge (words n) 2)
  where
    go : (0 < words n) ⊎ (words n ≤ 0) → (words n < 2) ⊎ (2 ≤ words n) → 248 * words n + deep n ≤ 7 * (n * words n) + 268
    go (inr none) two = omega (arith, few_levels n)
    go (inl one) (inl l) = let wide : n * 1 ≤ n * words n = mul-le-mul_left n one in omega (arith, few_levels n)
    go (inl one) (inr h) =
        let wide = mul-le-mul_right (words n) (two_words n h) in omega (arith, few_levels n)

-- W words have room for the promotion's tables
pub tables_room : (n m : ℕ) → end_at n m (words n) ≤ work_words n m
tables_room n m =
    let deepest : deep n * words n ≤ (n + 2) * words n = mul-le-mul_right (words n) (few_levels n).0 in
    let two : (n + 2) * words n ≡ n * words n + 2 * words n = add-mul n 2 (words n) in
    omega (arith, free_words n m, spare n)

module _ (owners priorities offsets targets : List ℕ) (ok : Accepted (tables_of owners priorities offsets targets)) (s : ℕ)
    (size : s ≡ words (length owners)) (w0 : List ℕ) {levels : ℕ}
    (levels_is : levels ≡ levels_at (length owners) (length targets) s)
    (full : (v : ℕ) → set_at (length owners) levels w0 v ≡ ltb v (length owners))
  where
    abbrev n : ℕ
    n = length owners

    abbrev m : ℕ
    m = length targets

    abbrev g : Game
    g = game_of (tables_of owners priorities offsets targets)

    as_many : length priorities ≡ n
    as_many = (accepted_sound (tables_of owners priorities offsets targets) ok).priority_each

    low : (v : ℕ) → v < n → get_or priorities v 0 ≤ 255
    low = (accepted_sound (tables_of owners priorities offsets targets) ok).priority_small

    -- the first level has all vertices
    full_level : (v : ℕ) → level_in n m s w0 0 v ≡ ltb v n
    full_level v = let e : level_at n m s 0 ≡ levels = omega arith in ap (λ (at : ℕ). set_at n at w0 v) e ∙ full v

    -- what `begin` asks for
    pub begin_ready :
        {kept : List ℕ} {held : ℕ} →
        FreshlyCounted (tables_of owners priorities offsets targets) kept →
        held ≡ held_at (length owners) (length targets) s →
        end_at (length owners) (length targets) s ≤ length w0 →
        StartBeginnable priorities (length targets) s held levels (get_or kept 257 0) w0
    begin_ready counted held_is room =
        let sound = accepted_sound (tables_of owners priorities offsets targets) ok in
        record {
          size = rw as_many size;
          few = rw as_many sound.few_vertices;
          few_edges = sound.few_edges;
          held_is = rw as_many held_is;
          levels_is = rw as_many levels_is;
          room = rw as_many room;
          below = rw as_many (λ v i. ltb-true v n (sym (full_level v) ∙ i));
          under = rw as_many (kept_bounds counted);
          small = omega (arith, kept_small counted);
        }

    module _ {w1 : List ℕ} {current : ℕ} (begun : Begun priorities offsets targets s current w0 w1) where
      b : BegunOf n priorities offsets targets s current w0 w1
      b = subst (λ (k : ℕ). BegunOf k priorities offsets targets s current w0 w1) as_many begun

      here : (v : ℕ) → v < n → level_in n m s w0 0 v ≡ true
      here v l = full_level v ∙ lt-ltb v n l

      first_region : (v : ℕ) → v < n → (at_start g).region v ≡ get_or priorities v 0
      unfolding at_start game_of
      first_region v l = noted_below 256 n g.priority v l

      region_is : (v : ℕ) → v < n → region_in n m s priorities w1 v ≡ (at_start g).region v
      region_is v l =
          b.region v ∙ ap (λ (x : Bool). cond x (get_or priorities v 0) 256) (here v l) ∙ sym (first_region v l)

      unsolved_first : (v : ℕ) → v < n → unsolved g (at_start g).region v ≡ true
      unfolding game_of
      unsolved_first v l =
          rw (lt-ltb v n l) (lt-ltb ((at_start g).region v) 256 (omega (arith, first_region v l, low v l)))

      current_is : current ≡ (at_start g).current
      unfolding at_start game_of
      current_is =
          b.highest ∙
          greatest_cong n (level_in n m s w0 0) (unsolved g (at_start g).region) (λ v. get_or priorities v 0) (at_start g).region
          (λ v l. here v l ∙ sym (unsolved_first v l))
          (λ v l. sym (first_region v l))

      -- **Before any round the work area and the small state show the rules' first state.**
      pub begun_reached : RoundsReached owners priorities offsets targets s current (length owners) 0 w1
      unfolding after_rounds at_start game_of
      begun_reached =
          record {
            accepted = ok;
            shows =
                record {
                  ready = b.ready;
                  newcomers = whole_newcomers n m s w1 b.whole;
                  current = current_is;
                  top = b.top;
                  region = region_is;
                  won = λ c v l. b.won c v;
                  bare = λ c v l. b.won c v;
                  left = sym (count_full n (level_in n m s w1 0) (λ v l. b.first v ∙ here v l));
                };
            entries = starts (λ v l. b.entry v l (here v l));
            unfinished = λ j l. absurd (omega arith);
          }
