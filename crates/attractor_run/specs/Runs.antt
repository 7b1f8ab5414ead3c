-- The work of the public attractor: each part asks for what the parts before it left, and what comes out is what the rules ask
-- for.
use Rattle.std.specs.Prelude.{Bool, false, not, cond, List, ◌≡◌, ℕ, ◌+◌, ◌-◌, ◌≤◌, ◌<◌, length, take, drop}
use Rattle.std.proofs.Math.Bool.{true}
use Rattle.std.proofs.Common.{inl, ⊎_elim, ap, subst, subst₂, ◌∙◌, arith}
use Rattle.std.proofs.Math.Path.{sym}
use Rattle.rules.specs.Attractor.{attractor, looks_of}
use Rattle.rules.specs.Counting.{Set, listed}
use Rattle.rules.specs.Distance.{distance, attractor_entry}
use Rattle.rules.specs.Game.{Player, Game, player_of, same}
use Rattle.rules.specs.Tables.{Tables, game_of, vertices, edges_in, Accepted, tables_of}
use Rattle.rules.specs.Words.{set_of, no_entry}
use Rattle.theory.specs.Attractor.{Fits, attractor_below}
use Rattle.basics.specs.Basics.{clash, bool_cases, and_left, and_right, not_true_is_false}
use Rattle.theory.specs.Players.{same_true, true_same}
use Rattle.basics.specs.Basics.{length_listed, get_or_listed, listed_is}
use Rattle.theory.specs.Bits.{Bits, narrow_holds}
use Rattle.theory.specs.Distance.{distance_target, distance_outside, distance_low, entry_nearest, entry_none, nearest_sinks}
use Rattle.predecessors.specs.Table.{SoundEdges}
use Rattle.area.specs.Area.{free, set_at, words_at, entry_at, distance_at}
use Rattle.area.specs.Lent.{words_enough}
use Rattle.attractor.specs.Attracted.{Attractable, Attracted, edges_sound, owned}
use Rattle.attractor_counters.specs.Counters.{own_by}
use Rattle.attractor_outputs.specs.Outputs.{drawn_in, chosen, measure, drawn_so, measure_out, measure_target, measure_drawn}
use Rattle.attractor_run.specs.Work.{SetsPreparable, SetsPrepared, found, Handing, Handed, AttractorRunnable, AttractorRan}

-- two functions that agree below n have one list
listed_alike : (n : ℕ) (f h : ℕ → ℕ) → ((v : ℕ) → v < n → f v ≡ h v) → listed n f ≡ listed n h
listed_alike n f h agree =
    listed_is n h 0 (listed n f) (length_listed n f) (λ v l. get_or_listed n f v 0 l ∙ agree v l)

-- what an attractor gives, by the sets alone
record Drawn (t : Tables) (a : Player) (V' T : Set) (out : List ℕ) (looks : ℕ) (far entry : ℕ → ℕ) : Type 0 where
  holds : Bits (vertices t) (attractor (game_of t) a V' T) out
  met : looks ≡ looks_of (game_of t) (attractor (game_of t) a V' T)
  distances : (v : ℕ) → attractor (game_of t) a V' T v ≡ true → T v ≡ false → far v ≡ distance (game_of t) a V' T v
  entered :
      (v : ℕ) →
      attractor (game_of t) a V' T v ≡ true →
      T v ≡ false →
      (game_of t).owner v ≡ a →
      entry v ≡ attractor_entry (game_of t) a V' T v

drawn_of :
    (t : Tables) (a : Player) (within set : ℕ) (before after : List ℕ) (looks : ℕ) →
    Attracted t a within set before after looks →
    Drawn t a (set_at (vertices t) within before) (set_at (vertices t) set before) (words_at (vertices t) set after) looks
    (distance_at (vertices t) (edges_in t) after) (entry_at (vertices t) (edges_in t) after)
drawn_of t a within set before after looks d =
    record { holds = d.holds; met = d.met; distances = d.distances; entered = λ v p q o. d.entered v (p, q, o) }

-- V goes to the base, and the target behind it
module _ (owners offsets targets : List ℕ) (alpha : ℕ) (within target result strategy distances work : List ℕ)
    (given : AttractorRunnable owners offsets targets alpha within target result strategy distances work)
    {base : ℕ} (place : base ≡ free (length owners) (length targets)) {set : ℕ} (behind : set ≡ base + length within)
  where
    abbrev n : ℕ
    n = length owners

    abbrev m : ℕ
    m = length targets

    abbrev s : ℕ
    s = length within

    pub fits : base + s + s ≤ length work
    fits = omega (arith, place, given.room, given.within_size)

    sound_edges : SoundEdges n offsets targets
    sound_edges = edges_sound (tables_of owners given.priorities offsets targets) given.accepted

    pub few : (n ≤ 4096) × (m ≤ 16384)
    few = (sound_edges.few_vertices, sound_edges.few_edges)

    pub prepare_ready : SetsPreparable n offsets targets within target work base
    prepare_ready =
        record {
          edges = sound_edges;
          within_size = given.within_size;
          target_size = given.target_size;
          low = omega arith;
          high = fits;
        }

    module _ (one : List ℕ) (prepared : SetsPrepared n offsets targets within target work one base) where
      within_set : set_at n base one ≡ set_of within
      within_set = ap set_of prepared.first

      target_set : set_at n set one ≡ set_of target
      target_set = ap (λ (k : ℕ). set_at n k one) behind ∙ ap set_of prepared.second

      pub attract_ready : Attractable owners offsets targets alpha base set one
      attract_ready =
          record {
            placed =
                record {
                  within_low = omega (arith, given.within_size);
                  within_high = omega (arith, fits, prepared.long, given.within_size);
                  set_low = omega (arith, given.within_size);
                  set_high = omega (arith, fits, prepared.long, given.within_size);
                  apart = inl (omega (arith, given.within_size));
                };
            nested =
                record {
                  below = λ v p. given.below v (ap (λ (S : Set). S v) (sym within_set) ∙ p);
                  part =
                      λ v p.
                      ap (λ (S : Set). S v) within_set ∙ given.part v (ap (λ (S : Set). S v) (sym target_set) ∙ p);
                };
            edges = sound_edges;
            listed = prepared.table;
            side = given.side;
          }

      -- the attractor was found
      module _ (two : List ℕ) (looks : ℕ)
          (attracted :
          (priorities : List ℕ) →
          Accepted (tables_of owners priorities offsets targets) →
          Attracted (tables_of owners priorities offsets targets) (player_of alpha) base set one two looks)
        where
          pub two_long : length two ≡ length work
          two_long = (attracted given.priorities given.accepted).long ∙ prepared.long

          abbrev out : List ℕ
          out = found target two set

          out_is : out ≡ words_at n set two
          out_is = ap (λ (k : ℕ). take k (drop set two)) given.target_size

          module _ (priorities : List ℕ) (ok : Accepted (tables_of owners priorities offsets targets)) where
            abbrev t : Tables
            t = tables_of owners priorities offsets targets

            abbrev g : Game
            g = game_of t

            abbrev a : Player
            a = player_of alpha

            abbrev S : Set
            S = attractor g a (set_of within) (set_of target)

            drawn : Drawn t a (set_of within) (set_of target) (words_at n set two) looks (distance_at n m two) (entry_at n m two)
            drawn =
                subst₂
                (λ (V' T : Set). Drawn t a V' T (words_at n set two) looks (distance_at n m two) (entry_at n m two))
                within_set
                target_set
                (drawn_of t a base set one two looks (attracted priorities ok))

            in_game : Fits g (set_of within) (set_of target)
            unfolding game_of
            in_game = record { part = given.part; below = given.below }

            few_in : g.size ≤ 65535
            unfolding game_of
            few_in = omega (arith, sound_edges.few_vertices)

            own_same : (v : ℕ) → own_by owners alpha v ≡ same (g.owner v) a
            own_same = owned owners offsets targets alpha given.side priorities ok

            -- the words that go out say who is in
            out_in : (v : ℕ) → v < n → set_of out v ≡ S v
            out_in v l = ap (λ (l : List ℕ). set_of l v) out_is ∙ drawn.holds.bits v l

            -- a vertex that was drawn in, by what goes out
            member_of :
                (v : ℕ) →
                v < n →
                drawn_in owners alpha target out v ≡ true →
                (S v ≡ true) × (set_of target v ≡ false) × (g.owner v ≡ a)
            member_of v l p =
                let rest = and_right (set_of out v) _ p in (
                  sym (out_in v l) ∙ and_left (set_of out v) _ p,
                  not_true_is_false (set_of target v) (λ q. clash (and_left (not (set_of target v)) _ rest) (ap not q)),
                  same_true (g.owner v) a (sym (own_same v) ∙ and_right (not (set_of target v)) _ rest),
                )

            -- its entry is a vertex, and its distance is below n
            entry_small : (v : ℕ) → v < n → drawn_in owners alpha target out v ≡ true → entry_at n m two v < n
            unfolding game_of
            entry_small v l p =
                let (i, o, mine) = member_of v l p in
                let (e, q, r) = nearest_sinks g a (set_of within) (set_of target) in_game v i o mine in
                rw
                (drawn.entered v i o mine, entry_nearest g a (set_of within) (set_of target) in_game few_in v i o mine)
                (attractor_below g a (set_of within) (set_of target) _ q)

            distance_small : (v : ℕ) → v < n → set_of out v ≡ true → set_of target v ≡ false → distance_at n m two v < n
            unfolding game_of
            distance_small v l p o =
                let i : S v ≡ true = sym (out_in v l) ∙ p in
                rw (drawn.distances v i o) (distance_low g a (set_of within) (set_of target) in_game v i)

            -- what goes out is the rules' entry and the rules' distance
            entry_right :
                (v : ℕ) →
                v < n →
                chosen owners alpha target out (entry_at n m two) v ≡ attractor_entry g a (set_of within) (set_of target) v
            entry_right v l =
                ⊎_elim
                (λ (p : drawn_in owners alpha target out v ≡ true).
                let (i, o, mine) = member_of v l p in
                ap (λ (b : Bool). cond b (entry_at n m two v) no_entry) p ∙ drawn.entered v i o mine)
                (λ (p : drawn_in owners alpha target out v ≡ false).
                ap (λ (b : Bool). cond b (entry_at n m two v) no_entry) p ∙
                sym
                (entry_none g a (set_of within) (set_of target) in_game v
                (λ i o mine.
                clash
                (drawn_so owners alpha target out (entry_at n m two) v
                (out_in v l ∙ i) o (own_same v ∙ true_same (g.owner v) a mine))
                p)))
                (bool_cases (drawn_in owners alpha target out v))

            distance_right :
                (v : ℕ) → v < n → measure target out (distance_at n m two) v ≡ distance g a (set_of within) (set_of target) v
            distance_right v l =
                ⊎_elim
                (λ (p : set_of out v ≡ true).
                ⊎_elim
                (λ (q : set_of target v ≡ true).
                sym (measure_target target out (distance_at n m two) v p q) ∙
                sym (distance_target g a (set_of within) (set_of target) in_game v q))
                (λ (q : set_of target v ≡ false).
                sym (measure_drawn target out (distance_at n m two) v p q) ∙
                drawn.distances v (sym (out_in v l) ∙ p) q)
                (bool_cases (set_of target v)))
                (λ (p : set_of out v ≡ false).
                sym (measure_out target out (distance_at n m two) v p) ∙
                sym (distance_outside g a (set_of within) (set_of target) in_game v (sym (out_in v l) ∙ p)))
                (bool_cases (set_of out v))

          pub hand_ready : Handing owners m alpha target two set result strategy distances
          hand_ready =
              record {
                few = few;
                low = omega (arith, fits, two_long);
                high = omega (arith, fits, two_long, given.within_size, given.target_size);
                bits = λ v l. rw given.target_size (words_enough n v l);
                result_size = given.result_size ∙ sym given.target_size;
                strategy_size = given.strategy_size;
                distances_size = given.distances_size;
                entries_narrow =
                    λ v l p.
                    let h = entry_small given.priorities given.accepted v l p in
                    omega (arith, sound_edges.few_vertices);
                distances_narrow =
                    λ v l p q.
                    let h = distance_small given.priorities given.accepted v l p q in
                    omega (arith, sound_edges.few_vertices);
              }

          -- **what comes out is what the rules ask for**
          pub ran :
              (result' strategy' distances' : List ℕ) →
              Handed owners m alpha target two set result' strategy' distances' →
              (priorities : List ℕ) →
              Accepted (tables_of owners priorities offsets targets) →
              AttractorRan (tables_of owners priorities offsets targets) (player_of alpha) within target result' strategy' distances' looks
          ran result' strategy' distances' handed priorities ok =
              record {
                set =
                    narrow_holds handed.narrow
                    (subst
                    (λ (l : List ℕ). Bits n (S priorities ok) l)
                    (sym (handed.result_is ∙ out_is))
                    (drawn priorities ok).holds);
                entries = handed.strategy_is ∙ listed_alike n _ _ (entry_right priorities ok);
                far = handed.distances_is ∙ listed_alike n _ _ (distance_right priorities ok);
                met = (drawn priorities ok).met;
              }
