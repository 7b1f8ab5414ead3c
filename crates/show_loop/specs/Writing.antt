-- From the way that the search left to the two lists.
use Rattle.std.specs.Prelude.{List, ◌∷◌, ◌⊎◌, Option, Some, None, MatchOption, ◌≡◌, refl, ℕ, suc, ◌+◌, ◌-◌, ◌*◌, ◌%◌, ◌≤◌, ◌<◌, length, get_or, drop}
use Rattle.std.proofs.Common.{inl, inr, ap, ◌∙◌, arith}
use Rattle.std.proofs.Math.ListN.{get_or-append}
use Rattle.rules.specs.Loop.{Path, alone, next}
use Rattle.rules.specs.Mending.{overwritten}
use Rattle.theory.specs.Chosen.{chosen_part_cycle}
use Rattle.theory.specs.Loop.{path_map, last_step}
use Rattle.theory.specs.Walks.{Relation}
use Rattle.search_rows.specs.Rows.{labels}
use Rattle.search_links.specs.Graph.{Graph, graph, game_in, Leads}
use Rattle.breadth_first.specs.Following.{Followable, Followed}
use Rattle.breadth_first.specs.Spreading.{way_words, way_once}
use Rattle.breadth_first.specs.SearchBegins.{Roundable, Rounded, Round}
use Rattle.show_loop.specs.declared.lists.Lengths.{Lengths}
use Rattle.loop_search.specs.Finding.{SearchReady, Led, Unled, Seekable, WayMet, Sought}

pub record LoopWritable (priorities offsets targets entries : List ℕ) (p : ℕ) (work : List ℕ) (v : ℕ)
    (path cycle : List ℕ) : Type 0 where
  pub ready : SearchReady priorities offsets targets entries work
  pub led : Led priorities offsets targets entries p work v
  pub few : length priorities ≤ 4096
  pub path_room : length priorities ≤ length path
  pub cycle_room : length priorities ≤ length cycle

-- a path from v to u and a way round from u, at the front of the two lists
pub record Wrote (priorities offsets targets entries : List ℕ) (p v : ℕ) (path path' cycle cycle' : List ℕ)
    (on round : ℕ) : Type 0 where
  pub vs : List ℕ
  pub ws : List ℕ
  pub first : ℕ
  pub last : ℕ
  pub leads : Path (Leads (graph priorities offsets targets entries 255)) v first vs
  pub rounds : Path (Leads (graph priorities offsets targets entries p)) first last ws
  pub back : Leads (graph priorities offsets targets entries p) last first
  pub once : 2 ≤ length ws → last ≡ first → ⊥
  pub exactly : get_or priorities first 0 ≡ p
  pub short : length vs ≤ length priorities
  pub round_short : length ws ≤ length priorities
  pub path_written : path' ≡ overwritten vs path
  pub cycle_written : cycle' ≡ overwritten ws cycle
  pub path_length_lem : on ≡ length vs
  pub cycle_length : round ≡ length ws

pub record Goable (priorities offsets targets entries : List ℕ) (parity : ℕ) (work : List ℕ) (v : ℕ)
    (path cycle : List ℕ) : Type 0 where
  pub seekable : Seekable priorities offsets targets entries parity work v
  pub few : length priorities ≤ 4096
  pub path_room : length priorities ≤ length path
  pub cycle_room : length priorities ≤ length cycle

-- no priority of the parity has a way, and nothing is written; or one has, and both lists are
pub record Went (priorities offsets targets entries : List ℕ) (parity v : ℕ) (work work' path path' cycle cycle' : List ℕ)
    (found : Option Lengths) : Type 0 where
  pub long : length work' ≡ length work
  pub went :
      MatchOption found
      (((j : ℕ) → j < 128 → Unled priorities offsets targets entries (2 * j + parity) v) × (path' ≡ path) × (cycle' ≡ cycle))
      (λ l. (p : ℕ) × (p % 2 ≡ parity) × Wrote priorities offsets targets entries p v path path' cycle cycle' l.path l.cycle)

pub path_some : {R : Relation} {v u : ℕ} {vs : List ℕ} → Path R v u vs → 0 < length vs
path_some alone = omega arith
path_some (next e r) = omega arith

-- the last vertex stands at the last place
path_last : {R : Relation} {v u : ℕ} {vs : List ℕ} → Path R v u vs → get_or vs (length vs - 1) 0 ≡ u
path_last alone = refl
path_last (next {v} {vs} e r) =
    let some = path_some r in
    let is : suc (length vs) - 1 ≡ suc (length vs - 1) = omega arith in
    ap (λ (k : ℕ). get_or (v ∷ vs) k 0) is ∙ path_last r

module _ (priorities offsets targets entries : List ℕ) (p : ℕ) (w₀ : List ℕ) (v : ℕ) (path cycle : List ℕ)
    (given : LoopWritable priorities offsets targets entries p w₀ v path cycle) where
  abbrev n : ℕ
  n = length priorities

  abbrev m : ℕ
  m = length targets

  abbrev G : Graph
  G = graph priorities offsets targets entries p

  abbrev u : ℕ
  u = given.led.way.last

  pub path_followable : Followable (length priorities) (labels (length priorities) (length targets)) w₀ v path
  path_followable =
      record {
        vs = given.led.vs;
        way = way_words given.led.way;
        fits = omega (arith, given.led.short, given.path_room);
        room = omega (arith, given.ready.room);
        few = given.few;
      }

  module _ (path' : List ℕ) (on : ℕ)
      (told : Followed (length priorities) (labels (length priorities) (length targets)) w₀ v path path' on) where
    followed : (path' ≡ overwritten given.led.vs path) × (on ≡ length given.led.vs)
    followed = told given.led.vs (way_words given.led.way) (omega (arith, given.led.short, given.path_room))

    some_vertex : 0 < length given.led.vs
    some_vertex = path_some given.led.way.path

    -- there is a last vertex, and it is u
    pub last_place : (0 < on) × (on ≤ length path)
    last_place =
        let some = some_vertex in
        (omega (arith, followed.1), omega (arith, followed.1, given.led.short, given.path_room))

    last_is : get_or path' (on - 1) 0 ≡ u
    last_is =
        let some = some_vertex in
        rw (followed.0, followed.1)
        (get_or-append given.led.vs (drop (length given.led.vs) path) 0 (length given.led.vs - 1) (omega arith) ∙
        path_last given.led.way.path)

    module _ (x : ℕ) (is : x ≡ get_or path' (on - 1) 0) where
      x_is : x ≡ u
      x_is = is ∙ last_is

      pub round_roundable : Roundable (graph priorities offsets targets entries p) w₀ x
      round_roundable =
          rw x_is
          (record {
            tables = record {
              sound = given.ready.sound p;
              room = omega
                  (arith, given.ready.room);
              rows = given.ready.rows p;
            };
            vertex = given.led.way.vertex;
            low = omega (arith, given.led.exactly);
          })

      module _ (w₁ : List ℕ) (rounded : Rounded (graph priorities offsets targets entries p) x w₀ w₁) where
        round : Round G w₁ x
        round =
            let (z, there, back) = last_step (chosen_part_cycle (game_in G) entries p u given.led.good) in
            rounded.round z (rw x_is there) (rw x_is back)

        pub cycle_followable : Followable (length priorities) (labels (length priorities) (length targets)) w₁ x cycle
        cycle_followable =
            record {
              vs = round.vs;
              way = way_words round.way;
              fits = omega (arith, round.short, given.cycle_room);
              room = omega (arith, given.ready.room, rounded.within.long);
              few = given.few;
            }

        pub wrote :
            (cycle' : List ℕ) (back : ℕ) →
            Followed (length priorities) (labels (length priorities) (length targets)) w₁ x cycle cycle' back →
            Wrote priorities offsets targets entries p v path path' cycle cycle' on back
        wrote cycle' back told' =
            let (written, long) = told' round.vs (way_words round.way) (omega (arith, round.short, given.cycle_room)) in
            record {
              vs = given.led.vs;
              ws = round.vs;
              first = x;
              last = round.way.last;
              leads = rw x_is (path_map (λ a b e. e.leads) given.led.way.path);
              rounds = path_map (λ a b e. e.leads) round.way.path;
              back = round.back;
              once = way_once round.way;
              exactly = rw x_is given.led.exactly;
              short = given.led.short;
              round_short = round.short;
              path_written = followed.0;
              cycle_written = written;
              path_length_lem = followed.1;
              cycle_length = long;
            }

-- ---- the lowest priority that has a way

module _ (priorities offsets targets entries : List ℕ) (parity : ℕ) (w₀ : List ℕ) (v : ℕ) (path cycle : List ℕ)
    (given : Goable priorities offsets targets entries parity w₀ v path cycle)
    (w₁ : List ℕ) (p : ℕ) (sought : Sought priorities offsets targets entries parity v w₀ w₁ p) where
  pub went_none : 255 < p → Went priorities offsets targets entries parity v w₀ w₁ path path cycle cycle None
  went_none high = record { long = sought.long; went = (go sought.met, refl, refl) }
    where
      go :
          ((p ≡ 256) × ((j : ℕ) → j < 128 → Unled priorities offsets targets entries (2 * j + parity) v)) ⊎
          WayMet priorities offsets targets entries parity v w₁ p →
          (j : ℕ) →
          j < 128 →
          Unled priorities offsets targets entries (2 * j + parity) v
      go (inl (is, none)) = none
      go (inr met) = absurd (omega (arith, met.low))

  pub way_met : p ≤ 255 → WayMet priorities offsets targets entries parity v w₁ p
  way_met low = go sought.met
    where
      go :
          ((p ≡ 256) × ((j : ℕ) → j < 128 → Unled priorities offsets targets entries (2 * j + parity) v)) ⊎
          WayMet priorities offsets targets entries parity v w₁ p →
          WayMet priorities offsets targets entries parity v w₁ p
      go (inl (is, none)) = absurd (omega arith)
      go (inr met) = met

  pub lists_writable : p ≤ 255 → LoopWritable priorities offsets targets entries p w₁ v path cycle
  lists_writable low =
      let met = way_met low in
      record { ready = met.ready; led = met.led; few = given.few; path_room = given.path_room; cycle_room = given.cycle_room }

  pub went_there :
      p ≤ 255 →
      (w₂ path' cycle' : List ℕ) (l : Lengths) →
      length w₂ ≡ length w₁ →
      Wrote priorities offsets targets entries p v path path' cycle cycle' l.path l.cycle →
      Went priorities offsets targets entries parity v w₀ w₂ path path' cycle cycle' (Some l)
  went_there low w₂ path' cycle' l long w = record { long = long ∙ sought.long; went = (p, (way_met low).side, w) }
