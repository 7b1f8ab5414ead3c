-- The pieces of a call leave what they promise.
use Rattle.std.specs.Prelude.{Bool, true, false, ◌&&◌, ◌||◌, not, cond, List, ◌⊎◌, ◌≡◌, ℕ, zero, suc, ◌+◌, ◌-◌, ◌*◌, ◌%◌, ◌≤◌, ◌<◌, max, eqb, ltb, length, get_or, take, drop}
use Rattle.std.proofs.Math.Logic.{inl, inr}
use Rattle.std.proofs.Common.{⊎_elim, ap₂, subst, ◌∙◌, arith, lt-ltb}
use Rattle.std.proofs.Math.Path.{refl, sym, ap, fun_ext}
use Rattle.rules.specs.Counting.{Set, without, some}
use Rattle.rules.specs.Game.{Player, Even, Odd, parity, player_of}
use Rattle.rules.specs.Tables.{Tables, game_of, vertices, edges_in, words, Accepted, tables_of}
use Rattle.rules.specs.Attractor.{attractor}
use Rattle.rules.specs.Distance.{lowest_in}
use Rattle.rules.specs.Words.{set_of}
use Rattle.rules.specs.Zielonka.{with_priority}
use Rattle.sets.specs.After.{Parts, Combined}
use Rattle.sets.specs.Laws.{bit_other}
use Rattle.theory.specs.Attractor.{Fits, attractor_below}
use Rattle.theory.specs.AttractorComplement.{TotalIn}
use Rattle.basics.specs.Basics.{lt_or_ge, and_left, not_true_is_false}
use Rattle.theory.specs.Run.{Cut, attractor_cut, cut_entry}
use Rattle.accepted.specs.Tables.{accepted_sound, accepted_few}
use Rattle.basics.specs.Frame.{Beside, Unchanged}
use Rattle.area.specs.Area.{entries, free, words_at, set_at}
use Rattle.attractor.specs.Attracted.{Attractable, Attracted, listed_kept, edges_sound}
use Rattle.area.specs.Lent.{part_is, part_length}
use Rattle.priority_sets.specs.Sorting.{set_of_priority, PriorityPlaceable, set_room}
use Rattle.successors.specs.Lowest.{lowest_end}
use Rattle.set_difference.specs.Without.{WithoutAt, CommonAt}
use Rattle.area.specs.SetsAt.{set_kept, set_united, set_reduced}
use Rattle.zielonka_level.specs.Level.{next_level, odd_place, drawn_place, first_level, on_level, drawn_at, odd_at, is_odd}
use Rattle.zielonka_level.specs.Level.{entries_of, Called, Stays}
use Rattle.zielonka_level.specs.Steps.{CutBy, AllAt, LostBy, Unmoved, stays_on, sorted_kept, level_stays, cut_over}
use Rattle.highest_priority.specs.Extending.{Extends, Extended}
use Rattle.zielonka_level.specs.Pieces.{PartWon, Gave, Levels, LostTold, CallReady, Cuttable}

-- ---- what stays

-- a step that writes the attractor's place alone
module _ (t : Tables) {base : ℕ} {x y : List ℕ} (above : first_level (vertices t) (edges_in t) ≤ base)
    (long : length y ≡ length x)
    (rest : Unchanged (Beside (words (vertices t)) (drawn_place (vertices t) (edges_in t))) x y)
  where
    pub drawn_only : Unmoved t base x y
    drawn_only =
        record {
          stays =
              record {
                long = long;
                table = λ i l. rest i (inl (omega arith));
                lower = λ i l h o. rest i (⊎_elim (λ k. inl (omega arith)) (λ k. inr (omega arith)) o);
              };
          odd =
              set_kept (vertices t) (odd_place (vertices t) (edges_in t)) x y
              (λ i l h. rest i (inl (omega arith)));
          entries = λ v l. rest (entries (vertices t) (edges_in t) + v) (inl (omega arith));
        }

-- what a call asks for stays
pub called_stays : {t : Tables} {base : ℕ} {x y : List ℕ} → Stays t base x y → Called t base x → Called t base y
called_stays {t} {base} {x} {y} stays c =
    record {
      accepted = c.accepted;
      table = listed_kept (vertices t) t.offsets t.targets x y stays.long stays.table c.table;
      sorted = sorted_kept t base x y c.above stays.lower c.sorted;
      above = c.above;
      room = rw (fun_ext same) (omega (arith, stays.long, c.room));
      below = λ v p. c.below v (sym (same v) ∙ p);
      total = subst (λ (S : Set). TotalIn (game_of t) S) (sym (fun_ext same)) c.total;
    }
  where
    same : (v : ℕ) → on_level t base y v ≡ on_level t base x v
    same = level_stays c.above stays

pub ready_stays : {t : Tables} {s base : ℕ} {x y : List ℕ} → Stays t base x y → CallReady t s base x → CallReady t s base y
ready_stays stays r =
    record { called = called_stays stays r.called; size = r.size; high = omega (arith, stays.long, r.high) }

-- a cut from an earlier state of the work area
pub cut_from :
    {t : Tables} {c : Player} {base : ℕ} {V' T : Set} {x y z : List ℕ} →
    Unmoved t base x y →
    CutBy t c base V' T y z →
    CutBy t c base V' T x z
cut_from still k =
    record {
      stays = stays_on still.stays k.stays;
      cut = k.cut;
      slot = k.slot;
      odd = λ v. k.odd v ∙ still.odd v;
      entered = k.entered;
      kept = λ v l d. k.kept v l d ∙ still.entries v l;
    }

-- ---- places

-- the places can be asked for
pub ready_places : {t : Tables} {s base : ℕ} {work : List ℕ} → CallReady t s base work → PriorityPlaceable (vertices t) (edges_in t) s 255
ready_places {t} r =
    let sound = accepted_sound t r.called.accepted in
    record { size = r.size; few = sound.few_vertices; few_edges = sound.few_edges; small = omega arith }

-- two sets apart
pub behind : {into from s : ℕ} {work : List ℕ} → into + s ≤ from → from + s ≤ length work → Parts into from s work
behind low high = record { into_fits = omega arith; from_fits = high; apart = inl low }

pub before : {into from s : ℕ} {work : List ℕ} → from + s ≤ into → into + s ≤ length work → Parts into from s work
before low high = record { into_fits = high; from_fits = omega arith; apart = inr low }

-- ---- the cut

-- what `attract` asks for
pub cut_attractable :
    {owners offsets targets : List ℕ} {alpha s base place : ℕ} {work : List ℕ} →
    Cuttable owners offsets targets s base work →
    alpha ≤ 1 →
    place ≡ drawn_place (length owners) (length targets) →
    Attractable owners offsets targets alpha base place work
cut_attractable {owners} {offsets} {targets} {s} {base} {place} {work} c side there =
    let called = c.ready.called in
    let size = c.ready.size in
    let high = c.ready.high in
    let above = called.above in
    record {
      placed =
          record {
            within_low = omega arith;
            within_high = omega arith;
            set_low = omega arith;
            set_high = omega arith;
            apart = inr (omega arith);
          };
      nested =
          record {
            below = called.below;
            part = λ v p. c.part v (ap (λ (k : ℕ). set_at (length owners) k work v) (sym there) ∙ p);
          };
      edges = edges_sound (tables_of owners c.priorities offsets targets) called.accepted;
      listed = called.table;
      side = side;
    }

module _ {t : Tables} {a : Player} {base looks : ℕ} {w₀ w₁ w₂ : List ℕ}
    (ok : Accepted t)
    (above : first_level (vertices t) (edges_in t) ≤ base)
    (fits : Fits (game_of t) (on_level t base w₀) (drawn_at t w₀))
    (drawn : Attracted t a base (drawn_place (vertices t) (edges_in t)) w₀ w₁ looks)
    (taken : WithoutAt (vertices t) (base + words (vertices t)) base (drawn_place (vertices t) (edges_in t)) w₁ w₂)
  where
    abbrev n : ℕ
    n = vertices t

    abbrev s : ℕ
    s = words (vertices t)

    abbrev S : Set
    S = attractor (game_of t) a (on_level t base w₀) (drawn_at t w₀)

    -- the words of the attractor are the rules'
    held : (v : ℕ) → drawn_at t w₁ v ≡ S v
    unfolding game_of
    held v = go (lt_or_ge v n)
      where
        go : (v < n) ⊎ (n ≤ v) → drawn_at t w₁ v ≡ S v
        go (inl l) = drawn.holds.bits v l
        go (inr l) =
            bit_other (words_at n (drawn_place n (edges_in t)) w₁) v (drawn.holds.clear v l) ∙
            sym
            (not_true_is_false (S v)
            (λ p. let less = attractor_below (game_of t) a (on_level t base w₀) (drawn_at t w₀) v p in omega arith))

    level : (v : ℕ) → on_level t base w₁ v ≡ on_level t base w₀ v
    level = set_kept n base w₀ w₁ (λ i l h. drawn.rest i (omega arith) (inr (omega arith)))

    rest : (v : ℕ) → on_level t (next_level s base) w₂ v ≡ without (on_level t base w₀) S v
    rest v = taken.made v ∙ ap₂ (λ (x y : Bool). x && not y) (level v) (held v)

    made : Cut (game_of t) a (on_level t base w₀) (drawn_at t w₀) S (on_level t (next_level s base) w₂)
    made = attractor_cut (game_of t) a (on_level t base w₀) (drawn_at t w₀) (on_level t (next_level s base) w₂) fits rest

    -- **A cut is made.**
    pub cut_made : CutBy t a base (on_level t base w₀) (drawn_at t w₀) w₀ w₂
    unfolding game_of
    cut_made =
        record {
          stays =
              record {
                long = taken.long ∙ drawn.long;
                table = λ i l. taken.rest i (inl (omega arith)) ∙ drawn.table i l;
                lower =
                    λ i l h o.
                    taken.rest i (inl h) ∙
                    drawn.rest i l (⊎_elim (λ k. inl (omega arith)) (λ k. inr (omega arith)) o);
              };
          cut = made;
          slot = λ v. set_kept n (drawn_place n (edges_in t)) w₁ w₂ (λ i l h. taken.rest i (inl (omega arith))) v ∙ held v;
          odd =
              λ v.
              set_kept n (odd_place n (edges_in t)) w₁ w₂ (λ i l h. taken.rest i (inl (omega arith))) v ∙
              set_kept n (odd_place n (edges_in t)) w₀ w₁ (λ i l h. drawn.rest i (omega arith) (inl (omega arith))) v;
          entered =
              λ v p out mine.
              let less = attractor_below (game_of t) a (on_level t base w₀) (drawn_at t w₀) v p in
              taken.rest (entries n (edges_in t) + v) (inl (omega arith)) ∙
              drawn.entered v (p, out, mine) ∙
              cut_entry fits (accepted_few t ok) made v p out mine;
          kept =
              λ v l d.
              taken.rest (entries n (edges_in t) + v) (inl (omega arith)) ∙ drawn.kept v l (λ q. d q.0 q.1 q.2);
        }

-- the same, by the number of words, the place and the player's number that the code has
pub cut_done :
    {owners offsets targets : List ℕ} {a : Player} {s base place up : ℕ} {w₀ : List ℕ} →
    Cuttable owners offsets targets s base w₀ →
    (alpha : ℕ) →
    player_of alpha ≡ a →
    place ≡ drawn_place (length owners) (length targets) →
    up ≡ base + s →
    (priorities : List ℕ) →
    Accepted (tables_of owners priorities offsets targets) →
    {looks : ℕ} {w₁ w₂ : List ℕ} →
    Attracted (tables_of owners priorities offsets targets) (player_of alpha) base place w₀ w₁ looks →
    WithoutAt (length owners) up base place w₁ w₂ →
    CutBy (tables_of owners priorities offsets targets) a base
    (on_level (tables_of owners priorities offsets targets) base w₀)
    (drawn_at (tables_of owners priorities offsets targets) w₀)
    w₀ w₂
unfolding game_of
cut_done c alpha whose there next priorities ok drawn taken =
    let size = c.ready.size in
    cut_made ok c.ready.called.above (record { part = c.part; below = c.ready.called.below })
    (rw (there, whose) at drawn)
    (rw (next, size, there) at taken)

-- ---- the first cut

-- in a set of vertices below n, "is below n and has priority p" is "has priority p"
both_tests : (n : ℕ) (x : Bool) (v p q : ℕ) → (x ≡ true → v < n) → (x && (ltb v n && eqb q p)) ≡ (x && eqb q p)
both_tests n true v p q h = rw (lt-ltb v n (h refl)) refl
both_tests n false v p q h = refl

module _ {t : Tables} {p s base : ℕ} {w₀ : List ℕ} (ready : CallReady t s base w₀) (small : p < 256) where
  size : s ≡ words (vertices t)
  size = ready.size

  -- where the set of priority p stands
  pub highest_placed : PriorityPlaceable (vertices t) (edges_in t) s p
  highest_placed =
      let sound = accepted_sound t ready.called.accepted in
      record { size = size; few = sound.few_vertices; few_edges = sound.few_edges; small = small }

  module _ {of place : ℕ}
      (from : of ≡ set_of_priority (words (vertices t)) (free (vertices t) (edges_in t)) p)
      (there : place ≡ drawn_place (vertices t) (edges_in t))
    where
      -- it stands below the attractor's place, and V above
      pub highest_parts : Parts place base s w₀ × Parts place of s w₀
      highest_parts =
          let room = set_room (words (vertices t)) (free (vertices t) (edges_in t)) p small in
          let above = ready.called.above in
          let high = ready.high in
          (behind (omega (arith, size)) (omega arith), before (omega (arith, size)) (omega (arith, size)))

      module _ {w₁ : List ℕ} (met : CommonAt (vertices t) place base of w₀ w₁) where
        -- nothing but the attractor's place is written
        pub highest_still : Unmoved t base w₀ w₁
        highest_still = drawn_only t ready.called.above met.long (rw there at met.rest)

        level₁ : (v : ℕ) → on_level t base w₁ v ≡ on_level t base w₀ v
        level₁ = level_stays ready.called.above highest_still.stays

        -- U stands in the attractor's place
        pub top_set : (v : ℕ) → drawn_at t w₁ v ≡ with_priority (game_of t) (on_level t base w₀) p v
        unfolding game_of
        top_set v =
            ap (λ (k : ℕ). set_at (vertices t) k w₁ v) (sym there) ∙
            met.made v ∙
            ap (λ (k : ℕ). on_level t base w₀ v && set_at (vertices t) k w₀ v) from ∙
            ap (λ (b : Bool). on_level t base w₀ v && b) (ready.called.sorted p v small) ∙
            both_tests (vertices t) (on_level t base w₀ v) v p (get_or t.priorities v 0) (ready.called.below v)

        -- what the cut asks for
        pub highest_cuttable : Cuttable t.owners t.offsets t.targets s base w₁
        highest_cuttable =
            record {
              priorities = t.priorities;
              ready = ready_stays highest_still.stays ready;
              part = λ v q. level₁ v ∙ and_left (on_level t base w₀ v) (eqb ((game_of t).priority v) p) (sym (top_set v) ∙ q);
            }

        -- **The first cut is made.**
        pub highest_made :
            {a : Player} {w₂ : List ℕ} →
            a ≡ parity p →
            CutBy t a base (on_level t base w₁) (drawn_at t w₁) w₁ w₂ →
            CutBy t (parity p) base (on_level t base w₀) (with_priority (game_of t) (on_level t base w₀) p) w₀ w₂
        highest_made whose k = cut_from highest_still (cut_over level₁ top_set (rw whose at k))

-- ---- what each player wins

-- the player's name is known
pub part_of :
    (c : Player) {c' : Player} {n into of odd : ℕ} {x y : List ℕ} → c' ≡ c → PartWon c n into of odd x y → PartWon c' n into of odd x y
part_of c {n} {into} {of} {odd} {x} {y} e part = subst (λ (a : Player). PartWon a n into of odd x y) (sym e) part

pub gave_of :
    (c : Player) {c' : Player} {n odd from : ℕ} {x y : List ℕ} → c' ≡ c → Gave c n odd from x y → Gave c' n odd from x y
gave_of c {n} {odd} {from} {x} {y} e gave = subst (λ (a : Player). Gave a n odd from x y) (sym e) gave

-- the members are taken out of what Odd won, or put into it
pub gave_even :
    {s odd from : ℕ} {x y : List ℕ} → Combined ◌-◌ odd from s x y → (n : ℕ) → s ≡ words n → Gave Even n odd from x y
gave_even {s} {odd} {from} {x} {y} c n size =
    record {
      long = c.long;
      odd = λ v. set_reduced n odd from x y (rw size at c) v ∙ taken (set_at n odd x v) (set_at n from x v);
      rest = λ i o. c.rest i (⊎_elim (λ k. inl k) (λ k. inr (omega arith)) o);
    }
  where
    taken : (a b : Bool) → (a && not b) ≡ cond b false a
    taken true true = refl
    taken true false = refl
    taken false true = refl
    taken false false = refl

pub gave_odd :
    {s odd from : ℕ} {x y : List ℕ} → Combined max odd from s x y → (n : ℕ) → s ≡ words n → Gave Odd n odd from x y
gave_odd {s} {odd} {from} {x} {y} c n size =
    record {
      long = c.long;
      odd = λ v. set_united n odd from x y (rw size at c) v ∙ joined (set_at n odd x v) (set_at n from x v);
      rest = λ i o. c.rest i (⊎_elim (λ k. inl k) (λ k. inr (omega arith)) o);
    }
  where
    joined : (a b : Bool) → (a || b) ≡ cond b true a
    joined true true = refl
    joined true false = refl
    joined false true = refl
    joined false false = refl

-- the three places that the lost are collected from and to stand apart
pub told_parts :
    {n m s base odd place up : ℕ} {work : List ℕ} →
    Levels n m s base work →
    odd ≡ odd_place n m →
    place ≡ drawn_place n m →
    up ≡ base + s →
    Parts place up s work × Parts place odd s work
told_parts given at there next =
    let size = given.places.size in
    let above = given.above in
    let high = given.high in
    (behind (omega arith) (omega arith), before (omega arith) (omega arith))

-- what is asked of them stands in the work area
pub told_made :
    {n m s base odd place up : ℕ} {x y : List ℕ} (c a : Player) {r : Bool} →
    Levels n m s base x →
    odd ≡ odd_place n m →
    place ≡ drawn_place n m →
    up ≡ base + s →
    a ≡ c →
    PartWon a n place up odd x y →
    (let lent = take ((place + s) - place) (drop place y) in r ≡ not (some (64 * length lent) (set_of lent))) →
    LostTold c n m s base x y r
told_made {n} {m} {s} {base} {odd} {place} {x = x} {y} c a given at there next whose part told =
    let size = given.places.size in
    let above = given.above in
    let high = given.high in
    record {
      part = rw (at, there, next, whose, size) at part;
      none =
          told ∙
          ap (λ (xs : List ℕ). not (some (64 * length xs) (set_of xs))) (part_is place s y) ∙
          ap (λ (k : ℕ). not (some (64 * k) (set_of (take s (drop place y)))))
          (part_length place s y (omega (arith, part.long))) ∙
          ap (λ (k : ℕ). not (some (64 * s) (set_of (take s (drop k y))))) there ∙
          ap (λ (k : ℕ). not (some (64 * s) (set_of (take k (drop (drawn_place n m) y))))) size;
    }

-- **The second cut is made, and its attractor is the player's.**
pub lost_made :
    {owners offsets targets : List ℕ} {s base odd place : ℕ} {a c : Player} {w₀ w₁ w₂ : List ℕ} →
    Cuttable owners offsets targets s base w₀ →
    a ≡ c →
    odd ≡ odd_place (length owners) (length targets) →
    place ≡ drawn_place (length owners) (length targets) →
    (priorities : List ℕ) →
    CutBy (tables_of owners priorities offsets targets) a base
    (on_level (tables_of owners priorities offsets targets) base w₀)
    (drawn_at (tables_of owners priorities offsets targets) w₀)
    w₀ w₁ →
    ((n : ℕ) → s ≡ words n → Gave a n odd place w₁ w₂) →
    LostBy (tables_of owners priorities offsets targets) c base
    (on_level (tables_of owners priorities offsets targets) base w₀)
    (drawn_at (tables_of owners priorities offsets targets) w₀)
    w₀ w₂
lost_made {owners} {w₁} given whose at there priorities k gave =
    record {
      mid = w₁;
      cut = rw whose at k;
      gave = rw (whose, at, there) at (gave (length owners) given.ready.size);
    }

-- the numbers 0 and 1 stand for different players
player_number : (a b : ℕ) → a ≤ 1 → b ≤ 1 → player_of a ≡ player_of b → a ≡ b
player_number zero zero h k e = refl
player_number zero (suc b) h k e = let z : ◌≡◌ {A = ℕ} 0 1 = cc in absurd (omega arith)
player_number (suc a) zero h k e = let z : ◌≡◌ {A = ℕ} 0 1 = cc in absurd (omega arith)
player_number (suc a) (suc b) h k e = omega arith

module _ {t : Tables} {s base : ℕ} (p : ℕ) {of place : ℕ} {w₀ w₁ : List ℕ}
    (ready : CallReady t s base w₀)
    (small : p < 256)
    (from : of ≡ set_of_priority (words (vertices t)) (free (vertices t) (edges_in t)) p)
    (there : place ≡ drawn_place (vertices t) (edges_in t))
    (met : CommonAt (vertices t) place base of w₀ w₁)
  where
    size₁ : s ≡ words (vertices t)
    size₁ = ready.size

    still : Unmoved t base w₀ w₁
    still = highest_still ready small from there met

    level_all : (v : ℕ) → on_level t base w₁ v ≡ on_level t base w₀ v
    level_all = level_stays ready.called.above still.stays

    top_all : (v : ℕ) → set_at (vertices t) place w₁ v ≡ with_priority (game_of t) (on_level t base w₀) p v
    top_all v = ap (λ (k : ℕ). set_at (vertices t) k w₁ v) there ∙ top_set ready small from there met v

    -- what the walk asks for
    pub all_extends : Extends t.owners t.offsets t.targets s base place w₁
    all_extends =
        let above = ready.called.above in
        let high = ready.high in
        record {
          size = size₁;
          few = (accepted_sound t ready.called.accepted).few_vertices;
          edges = edges_sound t ready.called.accepted;
          low = omega arith;
          high = omega (arith, met.long);
          from_low = omega arith;
          from_high = omega (arith, met.long, size₁);
          below =
              λ v q.
              ready.called.below v (and_left (on_level t base w₀ v) (eqb ((game_of t).priority v) p) (sym (top_all v) ∙ q));
        }

    module _ {odd : ℕ} {w₂ w₃ : List ℕ} {a : Player}
        (extended : Extended t.owners t.offsets t.targets p base place w₁ w₂)
        (whose : a ≡ parity p)
        (at : odd ≡ odd_place (vertices t) (edges_in t))
        (gave : Gave a (vertices t) odd base w₂ w₃)
      where
        gave_rest : Unchanged (Beside (words (vertices t)) (odd_place (vertices t) (edges_in t))) w₂ w₃
        gave_rest = rw at at gave.rest

        stays_last : Stays t base w₁ w₃
        stays_last =
            record {
              long = gave.long ∙ extended.long;
              table = λ i l. gave_rest i (inl (omega arith)) ∙ extended.rest i (inl (omega arith));
              lower =
                  λ i l h o.
                  gave_rest i (⊎_elim (λ k. inl k) (λ k. inr (omega arith)) o) ∙ extended.rest i (inr (omega arith));
            }

        -- the entries were written before V was given
        entry_last : (v : ℕ) → v < vertices t → entries_of t w₃ v ≡ entries_of t w₂ v
        entry_last v l = gave_rest (entries (vertices t) (edges_in t) + v) (inl (omega arith))

        level₂ : (v : ℕ) → set_at (vertices t) base w₂ v ≡ on_level t base w₀ v
        level₂ v =
            let above = ready.called.above in
            set_kept (vertices t) base w₁ w₂ (λ i l h. extended.rest i (inr (omega arith))) v ∙ level_all v

        odd₂ : (v : ℕ) → odd_at t w₂ v ≡ odd_at t w₀ v
        odd₂ v =
            set_kept (vertices t) (odd_place (vertices t) (edges_in t)) w₁ w₂ (λ i l h. extended.rest i (inr (omega arith))) v ∙
            still.odd v

        -- p's player owns v
        mine_number : (v : ℕ) → v < vertices t → (game_of t).owner v ≡ parity p → get_or t.owners v 0 ≡ p % 2
        unfolding game_of
        mine_number v l e =
            player_number (get_or t.owners v 0) (p % 2) ((accepted_sound t ready.called.accepted).owner_small v l)
            (omega arith)
            e

        number_mine : (v : ℕ) → get_or t.owners v 0 ≡ p % 2 → (game_of t).owner v ≡ parity p
        unfolding game_of
        number_mine v e = ap player_of e

        -- the lowest-numbered successor
        lowest_is :
            (v : ℕ) →
            lowest_end (vertices t) t.offsets t.targets v (words_at (vertices t) base w₁) ≡
            lowest_in (game_of t) (on_level t base w₁) v
        unfolding game_of lowest_in
        lowest_is v = refl

        -- **p's player wins everything.**
        pub all_made : AllAt t p base w₀ w₃
        all_made =
            record {
              stays = stays_on still.stays stays_last;
              odd =
                  λ v.
                  ap (λ (k : ℕ). set_at (vertices t) k w₃ v) (sym at) ∙
                  gave.odd v ∙
                  ap₂ (λ (b : Bool) (k : ℕ). cond b (is_odd a) (set_at (vertices t) k w₂ v)) (level₂ v) at ∙
                  ap₂ (λ (c : Player) (b : Bool). cond (on_level t base w₀ v) (is_odd c) b) whose (odd₂ v);
              chosen =
                  λ v u mine.
                  let l = ready.called.below v (and_left (on_level t base w₀ v) (eqb ((game_of t).priority v) p) u) in
                  entry_last v l ∙
                  extended.chosen v (top_all v ∙ u, mine_number v l mine) ∙
                  lowest_is v ∙
                  ap (λ (S : Set). lowest_in (game_of t) S v) (fun_ext level_all);
              kept =
                  λ v l d.
                  entry_last v l ∙
                  extended.kept v l (λ u. d (sym (top_all v) ∙ u.0) (number_mine v u.1)) ∙
                  still.entries v l;
            }
