-- From the lists that were written to the rules: a run, or a vertex outside the solitaire set; and what the public function
-- leaves.
use Rattle.std.proofs.Math.Bool.{true}
use Rattle.std.specs.Prelude.{false, Option, Some, None, MatchOption, ◌≡◌, refl, ℕ, ◌+◌, ◌-◌, ◌*◌, ◌/◌, ◌%◌, ◌≤◌, ◌<◌, length, take, drop, replicate}
use mathlib.Core.List.{List, []}
use Rattle.std.proofs.Common.{sym, ap, subst, ◌∙◌, arith, eqb-true, length-take}
use Rattle.std.proofs.Math.ListN.{get_or}
use Rattle.rules.specs.Game.{everywhere, parity, player_of}
use Rattle.rules.specs.Loop.{Run, LentRun, loop_checks, check46, LoopLeaves, ShowsLoop}
use Rattle.rules.specs.Mending.{overwritten}
use Rattle.rules.specs.Outcome.{Outcome, Verdict, none, refused, outcome, answered}
use Rattle.rules.specs.Solitaire.{inside, at_most, on_part, solitaire, sole_owner, check11}
use Rattle.rules.specs.Solver.{cleared}
use Rattle.rules.specs.Tables.{Tables, game_of, vertices, edges_in, work_words, Accepted}
use Rattle.basics.specs.Basics.{not_true_is_false, and_left}
use Rattle.theory.specs.Players.{true_same}
use Rattle.theory.specs.Chosen.{chosen_part, on_part_chosen}
use Rattle.theory.specs.Links.{Linked}
use Rattle.theory.specs.Loop.{path_map, run_of, run_solitaire, solitaire_head}
use Rattle.theory.specs.Solitaire.{inside_elim, inside_intro, at_most_elim, at_most_intro, wider}
use Rattle.accepted.specs.Tables.{accepted_priority, accepted_total}
use Rattle.theory.specs.Walks.{Carries, reach_map}
use Rattle.parity_game.specs.Laws.{accepted_sound}
use Rattle.parity_game.specs.Said.{refusal}
use Rattle.predecessors.specs.Table as Table
use Rattle.predecessors.specs.Table.{Predecessors}
use Rattle.predecessors.specs.Whole.{accepted_edges}
use Rattle.attractor.specs.Attracted.{own_is}
use Rattle.search_rows.specs.Rows.{behind}
use Rattle.search_links.specs.Graph.{Graph, graph, game_in, Leads, SoundGraph, keeping}
use Rattle.search_links.specs.Leading.{link, leads}
use Rattle.subgame.specs.Parity.{predecessor_rows, graph_sound, game_of_lem}
use Rattle.show_loop.specs.declared.lists.Lengths.{Lengths}
use Rattle.loop_search.specs.Finding.{Unled}
use Rattle.solitaire_game.specs.Running.{rows_fit, sole_owner_small}
use Rattle.show_loop.specs.Checks.{LoopPassed}
use Rattle.show_loop.specs.Writing.{Wrote, Goable, Went, path_some}

-- what `run` asks for: accepted tables of one owner, a vertex, lists with room, and W words
pub record LoopRunnable (t : Tables) (v : ℕ) (path cycle work : List ℕ) : Type 0 where
  pub accepted : Accepted t
  pub one_owner : check11 (vertices t) t.owners ≡ none
  pub vertex : v < vertices t
  pub path_room : 2 * vertices t ≤ length path
  pub cycle_room : 2 * vertices t ≤ length cycle
  pub room : length work ≡ work_words (vertices t) (edges_in t)

-- a run at the front of the two lists
pub record RunWritten (t : Tables) (v : ℕ) (path path' cycle cycle' : List ℕ) (on round : ℕ) : Type 0 where
  pub vs : List ℕ
  pub ws : List ℕ
  pub run : Run (game_of t) (sole_owner t) v vs ws
  pub path_written : path' ≡ overwritten vs path
  pub cycle_written : cycle' ≡ overwritten ws cycle
  pub path_length_lem : on ≡ length vs
  pub cycle_length : round ≡ length ws

pub record LoopRan (t : Tables) (v : ℕ) (work work' path path' cycle cycle' : List ℕ) (found : Option Lengths) : Type 0 where
  pub zeros : work' ≡ replicate (length work) 0
  pub ran :
      MatchOption found
      ((solitaire (game_of t) (sole_owner t) v ≡ false) × (path' ≡ path) × (cycle' ≡ cycle))
      (λ l. RunWritten t v path path' cycle cycle' l.path l.cycle)

-- the graph of the tables, without entries
abbrev graph_of : Tables → ℕ → Graph
graph_of t top = graph t.priorities t.offsets t.targets [] top

module _ (t : Tables) (accepted : Accepted t) where
  each : length t.priorities ≡ vertices t
  each = (accepted_sound t accepted).priority_each

  sound : (top : ℕ) → SoundGraph (graph_of t top)
  sound top = graph_sound t accepted [] top (λ v l d. absurd (d refl))

  -- the graph's links are the rules' links, and the other way round
  to_links : (top : ℕ) → Carries (Leads (graph_of t top)) (Linked (game_of t).size (inside (game_of t) (at_most (game_of t) top)))
  unfolding game_of
  to_links top x y e =
      let l = link (graph_of t top) (sound top) x y e in
      let start : x < vertices t = rw (sym each) l.start in
      let end : y < vertices t = rw (sym each) l.end in
      record {
        edge =
            inside_intro (game_of t) (at_most (game_of t) top) x y (at_most_intro (game_of t) top x start l.start_low)
            (at_most_intro (game_of t) top y end l.end_low) l.edge;
        start = start;
        end = end;
      }

  from_links : Carries (Linked (game_of t).size (inside (game_of t) (everywhere (game_of t)))) (Leads (graph_of t 255))
  unfolding game_of keeping
  from_links x y e =
      leads (graph_of t 255) (sound 255) x y
      (record {
        edge = (inside_elim (game_of t) (everywhere (game_of t)) x y e.edge).2;
        start = rw each e.start;
        end = rw each e.end;
        start_low = accepted_priority t accepted x;
        end_low = accepted_priority t accepted y;
        kept = refl;
      })

  module _ (owner : ℕ) (is : owner ≡ get_or t.owners 0 0) where
    mine : (p : ℕ) → p % 2 ≡ owner → parity p ≡ sole_owner t
    mine p e = ap player_of (e ∙ is)

    side : (p : ℕ) → parity p ≡ sole_owner t → p % 2 ≡ owner
    side p e =
        eqb-true (p % 2) owner
        (own_is (p % 2) owner (omega arith) (sole_owner_small t accepted owner is) ∙
        true_same (player_of (p % 2)) (player_of owner) (e ∙ ap player_of (sym is)))

    -- a good part is one of the graph's
    good : (p u : ℕ) → on_part (game_of t) p u ≡ true → chosen_part (game_in (graph_of t p)) [] p u ≡ true
    good p u on = game_of_lem t accepted [] p p u ∙ sym (on_part_chosen (game_of t) [] (λ v l. refl) p u) ∙ on

    -- where no priority has a way the vertex is outside the set
    pub unled_outside :
        (v : ℕ) →
        ((j : ℕ) → j < 128 → Unled t.priorities t.offsets t.targets [] (2 * j + owner) v) →
        solitaire (game_of t) (sole_owner t) v ≡ false
    unfolding game_of
    unled_outside v unled = not_true_is_false (solitaire (game_of t) (sole_owner t) v) none_there
      where
        none_there : solitaire (game_of t) (sole_owner t) v ≡ true → ⊥
        none_there q =
            let (u, small, its, on, r) = solitaire_head (game_of t) (sole_owner t) v q in
            let p = get_or t.priorities u 0 in
            let low = accepted_priority t accepted u in
            let at : 2 * (p / 2) + owner ≡ p = omega (arith, side p its) in
            let below = (at_most_elim (game_of t) p u (and_left (at_most (game_of t) p u) _ on)).0 in
            unled (p / 2) (omega arith) u (rw each below) (sym at)
            (subst (λ (k : ℕ). chosen_part (game_in (graph_of t k)) [] k u ≡ true) (sym at) (good p u on))
            (reach_map from_links r)

    -- and what was written is a run
    pub wrote_run :
        {path path' cycle cycle' : List ℕ} {on round : ℕ} (v p : ℕ) → p % 2 ≡ owner →
        Wrote t.priorities t.offsets t.targets [] p v path path' cycle cycle' on round →
        RunWritten t v path path' cycle cycle' on round
    unfolding game_of
    wrote_run v p odd w =
        record {
          vs = w.vs;
          ws = w.ws;
          run =
              run_of (game_of t) (sole_owner t) p (mine p odd) w.exactly
              (path_map (λ x y e. wider (game_of t) 255 x y (to_links 255 x y e)) w.leads)
              (path_map (to_links p) w.rounds)
              (to_links p w.last w.first w.back)
              w.once
              (rw (sym each) w.short)
              (rw (sym each) w.round_short);
          path_written = w.path_written;
          cycle_written = w.cycle_written;
          path_length_lem = w.path_length_lem;
          cycle_length = w.cycle_length;
        }

module _ (t : Tables) (v : ℕ) (path cycle w₀ : List ℕ) (given : LoopRunnable t v path cycle w₀) (owner : ℕ)
    (is : owner ≡ get_or t.owners 0 0) where
  fits : behind (vertices t) (edges_in t) + vertices t ≤ length w₀
  fits = omega (arith, rows_fit (vertices t) (edges_in t), given.room)

  pub build_ready : Table.TableReady (vertices t) t.offsets t.targets w₀
  build_ready = record { edges = accepted_edges t given.accepted; room = omega (arith, fits) }

  module _ (w₁ : List ℕ) (built : Predecessors (vertices t) t.offsets t.targets w₀ w₁) where
    pub go_ready : Goable t.priorities t.offsets t.targets [] owner w₁ v path cycle
    unfolding game_of
    go_ready =
        let same = each t given.accepted in
        record {
          seekable =
              record {
                ready =
                    record {
                      sound = sound t given.accepted;
                      rows = λ top. predecessor_rows t given.accepted w₀ w₁ build_ready built [] top;
                      small = λ u l. accepted_priority t given.accepted u;
                      room = omega (arith, fits, built.long);
                    };
                side = sole_owner_small t given.accepted owner is;
                vertex = omega (arith, given.vertex);
              };
          few = omega (arith, (accepted_sound t given.accepted).few_vertices);
          path_room = omega (arith, given.path_room);
          cycle_room = omega (arith, given.cycle_room);
        }

    pub run_ran :
        (w₂ work' path' cycle' : List ℕ) (found : Option Lengths) →
        Went t.priorities t.offsets t.targets [] owner v w₁ w₂ path path' cycle cycle' found →
        work' ≡ replicate (length w₀) 0 →
        LoopRan t v w₀ work' path path' cycle cycle' found
    run_ran w₂ work' path' cycle' None w zeros =
        let (unled, p, c) = w.went in
        record { zeros = zeros; ran = (unled_outside t given.accepted owner is v unled, p, c) }
    run_ran w₂ work' path' cycle' (Some l) w zeros =
        let (p, odd, wrote) = w.went in record { zeros = zeros; ran = wrote_run t given.accepted owner is v p odd wrote }

-- ---- the public function

abbrev pub lent_of : List ℕ → List ℕ → List ℕ → ℕ → LentRun
lent_of path cycle work path_length = record { path = path; cycle = cycle; work = work; path_length = path_length }

-- a refusal is given as it is, and only the path's length is written
leaves_refused :
    (w last : Verdict) (t : Tables) (v : ℕ) (path cycle work : List ℕ) (k : ℕ) (o : Outcome) →
    o ≡ outcome w (answered 0) →
    (o.number ≡ 0 → ⊥) →
    LoopLeaves w last t v (lent_of path cycle work k) (lent_of path cycle work 0) o
leaves_refused none last t v path cycle work k o e h = absurd (h (ap (λ (x : Outcome). x.number) e))
leaves_refused (refused j p) last t v path cycle work k o e h = (e, refl)

pub shows_refused :
    (t : Tables) (v : ℕ) (path cycle work : List ℕ) (k : ℕ) (o : Outcome) →
    o ≡ outcome (loop_checks t v (lent_of path cycle work k)) (answered 0) →
    (o.number ≡ 0 → ⊥) →
    ShowsLoop t v (lent_of path cycle work k) (lent_of path cycle work 0) o
shows_refused t v path cycle work k o e h =
    leaves_refused (loop_checks t v (lent_of path cycle work k)) (check46 t v) t v path cycle work k o e h

-- 46
pub shows_none :
    (t : Tables) (v : ℕ) (path cycle work work' : List ℕ) (k : ℕ) →
    loop_checks t v (lent_of path cycle work k) ≡ none →
    solitaire (game_of t) (sole_owner t) v ≡ false →
    work' ≡ cleared t work →
    ShowsLoop t v (lent_of path cycle work k) (lent_of path cycle work' 0) (refusal 46 v)
unfolding check46
shows_none t v path cycle work work' k passed outside is =
    let no_loop : check46 t v ≡ refused 46 v = refuses outside in
    rw (passed, no_loop) (refl, ap (λ (xs : List ℕ). lent_of path cycle xs 0) is)
  where
    refuses : solitaire (game_of t) (sole_owner t) v ≡ false → check46 t v ≡ refused 46 v
    refuses q = rw q

-- an answer
pub shows_run :
    (t : Tables) (v : ℕ) (path cycle work path' cycle' work' : List ℕ) (k on round : ℕ) →
    Accepted t →
    loop_checks t v (lent_of path cycle work k) ≡ none →
    RunWritten t v path path' cycle cycle' on round →
    work' ≡ cleared t work →
    ShowsLoop t v (lent_of path cycle work k) (lent_of path' cycle' work' on) (answered (on + round))
unfolding check46
shows_run t v path cycle work path' cycle' work' k on round accepted passed w is =
    let in-set = run_solitaire (game_of t) (accepted_total t accepted) (sole_owner t) v w.run in
    rw (passed, admits in-set)
    (record {
      path = w.vs;
      cycle = w.ws;
      run = w.run;
      gives = rw (w.path_length_lem, w.cycle_length) refl;
      path_written = w.path_written;
      cycle_written = w.cycle_written;
      work = is;
      path_length_lem = w.path_length_lem;
    })
  where
    admits : solitaire (game_of t) (sole_owner t) v ≡ true → check46 t v ≡ none
    admits q = rw q

-- what `run` gives, told: no path is 46, and a path an answer
module _ (t : Tables) (v : ℕ) (path cycle work path' cycle' zeros before : List ℕ) (k : ℕ)
    (accepted : Accepted t)
    (passed : loop_checks t v (lent_of path cycle work k) ≡ none) where
  some_path : (on round : ℕ) → RunWritten t v path path' cycle cycle' on round → 0 < on
  some_path on round w = let some = path_some w.run.leads in omega (arith, w.path_length_lem)

  pub told_none :
      LoopRan t v before zeros path path' cycle cycle' None →
      (work' : List ℕ) → work' ≡ cleared t work →
      ShowsLoop t v (lent_of path cycle work k) (lent_of path' cycle' work' 0) (refusal 46 v)
  told_none r work' is = let (outside, p, c) = r.ran in rw (p, c) (shows_none t v path cycle work work' k passed outside is)

  module _ (l : Lengths) (r : LoopRan t v before zeros path path' cycle cycle' (Some l)) where
    pub told_run :
        (work' : List ℕ) → work' ≡ cleared t work →
        ShowsLoop t v (lent_of path cycle work k) (lent_of path' cycle' work' l.path) (answered (l.path + l.cycle))
    told_run work' is = shows_run t v path cycle work path' cycle' work' k l.path l.cycle accepted passed r.ran is

    pub told_few : l.path + l.cycle ≤ 8192
    unfolding game_of
    told_few =
        omega
        (arith, r.ran.run.few, r.ran.path_length_lem, r.ran.cycle_length, (accepted_sound t accepted).few_vertices)

-- past the checks the first W words are what the run asks for
pub run_ready :
    (t : Tables) (v w : ℕ) (path cycle work : List ℕ) →
    w ≡ work_words (vertices t) (edges_in t) →
    LoopPassed t v (length path) (length cycle) (length work) →
    LoopRunnable t v path cycle (take (w - 0) (drop 0 work))
run_ready t v w path cycle work is p =
    record {
      accepted = p.accepted;
      one_owner = p.one_owner;
      vertex = p.vertex;
      path_room = p.path_room;
      cycle_room = p.cycle_room;
      room = omega (arith, length-take (w - 0) work, p.work_size);
    }
