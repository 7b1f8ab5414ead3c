-- The pieces of a pass leave what they promise.
use Rattle.std.specs.Prelude.{Bool, true, false, ◌&&◌, not, List, ◌⊎◌, ◌≡◌, ℕ, ◌+◌, ◌-◌, ◌*◌, ◌≤◌, ◌<◌, length, get_or, take, drop}
use Rattle.std.proofs.Common.{inl, inr, sym, ap₂, ◌∙◌, arith, length-take}
use Rattle.std.proofs.Math.Path.{ap, fun_ext}
use Rattle.std.proofs.lemmas.Bool.{not-true, not-false}
use Rattle.std.proofs.Math.Dec.{eqb}
use Rattle.rules.specs.Counting.{Set, without, some}
use Rattle.rules.specs.Game.{Player, parity, player_of}
use Rattle.rules.specs.Tables.{Tables, game_of, vertices, edges_in, words, Accepted, tables_of}
use Rattle.rules.specs.Attractor.{attractor}
use Rattle.rules.specs.Words.{set_of}
use Rattle.rules.specs.Zielonka.{with_priority}
use Rattle.sets.specs.After.{Combined, Cleared, other}
use Rattle.sets.specs.Laws.{bit_other, no_member}
use Rattle.theory.specs.Attractor.{attractor_below}
use Rattle.basics.specs.Basics.{lt_or_ge, and_left, not_true_is_false, some_elim}
use Rattle.accepted.specs.Tables.{accepted_sound}
use Rattle.area.specs.Area.{free, words_at, set_at}
use Rattle.area.specs.SetsAt.{set_kept, set_cleared, set_copied_here, set_reduced}
use Rattle.area.specs.Lent.{words_few}
use Rattle.area.specs.Walking.{lent_part_lem}
use Rattle.attractor.specs.Attracted.{Attractable, Attracted}
use Rattle.attractor.specs.Attracted.{listed_kept}
use Rattle.predecessors.specs.Table.{SoundEdges}
use Rattle.highest_priority.specs.Parts.{Searchable, Collects, Collected}
use Rattle.quasi_level.specs.Level.{next_level, on_level, drawn_at, Held, HeldUnder, OpinionReady, OpinionStays, TopCut, Droppable, Dropped}

-- what stays over two steps
pub stays_on : {t : Tables} {top : ℕ} {x y z : List ℕ} → OpinionStays t top x y → OpinionStays t top y z → OpinionStays t top x z
stays_on a b =
    record {
      long = b.long ∙ a.long;
      table = λ i l. b.table i l ∙ a.table i l;
      lower = λ i l h. b.lower i l h ∙ a.lower i l h;
    }

-- and below a lower place
pub stays_under : {t : Tables} {top low : ℕ} {x y : List ℕ} → low ≤ top → OpinionStays t top x y → OpinionStays t low x y
stays_under l a = record { long = a.long; table = a.table; lower = λ i f h. a.lower i f (omega arith) }

-- a set whose words stay
pub level_stays :
    {t : Tables} {top base : ℕ} {x y : List ℕ} →
    free (vertices t) (edges_in t) ≤ base →
    base + words (vertices t) ≤ top →
    OpinionStays t top x y →
    (v : ℕ) →
    on_level t base y v ≡ on_level t base x v
level_stays {t} {base = base} {x = x} {y = y} low high a =
    set_kept (vertices t) base x y (λ i l h. a.lower i (omega arith) (omega arith))

-- an operation above a place leaves what is below it
combined_stays :
    {t : Tables} {top into from s : ℕ} {f : ℕ → ℕ → ℕ} {x y : List ℕ} →
    free (vertices t) (edges_in t) ≤ top →
    top ≤ into →
    Combined f into from s x y →
    OpinionStays t top x y
combined_stays low l c =
    record {
      long = c.long;
      table = λ i h. c.rest i (inl (omega arith));
      lower = λ i f h. c.rest i (inl (omega arith));
    }

cleared_stays :
    {t : Tables} {top at s : ℕ} {x y : List ℕ} →
    free (vertices t) (edges_in t) ≤ top →
    top ≤ at →
    Cleared at s x y →
    OpinionStays t top x y
cleared_stays low l c =
    record {
      long = c.long;
      table = λ i h. c.rest i (inl (omega arith));
      lower = λ i f h. c.rest i (inl (omega arith));
    }

attracted_stays :
    {t : Tables} {c : Player} {within top looks : ℕ} {x y : List ℕ} →
    Attracted t c within top x y looks →
    OpinionStays t top x y
attracted_stays d = record { long = d.long; table = d.table; lower = λ i f h. d.rest i f (inl h) }

-- what a piece asks for stays
pub ready_stays :
    {t : Tables} {s base : ℕ} {x y : List ℕ} → OpinionStays t (base + words (vertices t)) x y → OpinionReady t s base x → OpinionReady t s base y
ready_stays {t} {base = base} {x = x} {y = y} stays r =
    record {
      accepted = r.accepted;
      table = listed_kept (vertices t) t.offsets t.targets x y stays.long stays.table r.table;
      size = r.size;
      low = r.low;
      high = omega (arith, stays.long, r.high);
      below = λ v p. r.below v (sym (level_stays r.low (omega arith) stays v) ∙ p);
    }

-- the edges of accepted tables are sound
pub sound_edges : (t : Tables) → Accepted t → SoundEdges (vertices t) t.offsets t.targets
sound_edges t ok =
    let f = accepted_sound t ok in
    record {
      few_vertices = f.few_vertices;
      few_edges = f.few_edges;
      offset_each = f.offset_each;
      offset_first = f.offset_first;
      offset_next = f.offset_next;
      offset_last = f.offset_last;
      target_below = f.target_below;
    }

-- what `attract` asks for
attractable :
    {t : Tables} {s base into alpha : ℕ} {w : List ℕ} →
    OpinionReady t s base w →
    into ≡ base + s →
    alpha ≤ 1 →
    ((v : ℕ) → drawn_at t base w v ≡ true → on_level t base w v ≡ true) →
    Attractable t.owners t.offsets t.targets alpha base into w
attractable {t} {s} {base} {w = w} r behind side part =
    let size = r.size in
    let high = r.high in
    let low = r.low in
    record {
      placed =
          record {
            within_low = low;
            within_high = omega arith;
            set_low = omega arith;
            set_high = omega arith;
            apart = inl (omega arith);
          };
      nested = record { below = r.below; part = λ v p. part v (rw (behind, size) at p) };
      edges = sound_edges t r.accepted;
      listed = r.table;
      side = side;
    }

-- the words of the attractor are the rules'
drawn_held :
    {t : Tables} {c : Player} {base looks : ℕ} {x y : List ℕ} →
    Attracted t c base (base + words (vertices t)) x y looks →
    (v : ℕ) →
    drawn_at t base y v ≡ attractor (game_of t) c (on_level t base x) (drawn_at t base x) v
unfolding game_of
drawn_held {t} {c} {base} {x = x} {y = y} drawn v = go (lt_or_ge v (vertices t))
  where
    go : (v < vertices t) ⊎ (vertices t ≤ v) → drawn_at t base y v ≡ attractor (game_of t) c (on_level t base x) (drawn_at t base x) v
    go (inl l) = drawn.holds.bits v l
    go (inr l) =
        bit_other (words_at (vertices t) (base + words (vertices t)) y) v (drawn.holds.clear v l) ∙
        sym
        (not_true_is_false (attractor (game_of t) c (on_level t base x) (drawn_at t base x) v)
        (λ p. let less = attractor_below (game_of t) c (on_level t base x) (drawn_at t base x) v p in omega arith))

-- ---- the first cut

module _ {t : Tables} {s base into : ℕ} {w₀ w₁ : List ℕ} (ready : OpinionReady t s base w₀) (behind : into ≡ base + s)
    (cleared : Cleared into s w₀ w₁)
  where
    size : s ≡ words (vertices t)
    size = ready.size

    long : length t.priorities ≡ vertices t
    long = (accepted_sound t ready.accepted).priority_each

    stays₁ : OpinionStays t (base + words (vertices t)) w₀ w₁
    stays₁ = cleared_stays (omega (arith, ready.low)) (omega (arith, size)) cleared

    -- what `collect` asks for
    pub top_collects : Collects (length t.priorities) s base into w₁
    top_collects =
        rw long
        (record {
          size = size;
          few = (accepted_sound t ready.accepted).few_vertices;
          parts =
              record {
                into_fits = omega (arith, size, ready.high, cleared.long);
                from_fits = omega (arith, size, ready.high, cleared.long);
                apart = inr (omega (arith, size));
              };
          below = (ready_stays stays₁ ready).below;
          nothing = set_cleared (vertices t) into s into cleared (omega arith) (omega (arith, size));
        })

    module _ {p : ℕ} {w₂ : List ℕ} (collected : Collected t.priorities p base into w₁ w₂) where
      stays₂ : OpinionStays t (base + words (vertices t)) w₀ w₂
      stays₂ =
          stays_on stays₁
          (record {
            long = collected.long;
            table = λ i l. collected.rest i (inl (omega (arith, ready.low)));
            lower = λ i f h. collected.rest i (inl (omega (arith, size)));
          })

      level₂ : (v : ℕ) → on_level t base w₂ v ≡ on_level t base w₀ v
      level₂ = level_stays ready.low (omega arith) stays₂

      -- U stands where is drawn
      top_set : (v : ℕ) → drawn_at t base w₂ v ≡ with_priority (game_of t) (on_level t base w₀) p v
      unfolding game_of
      top_set v =
          (rw (long, behind, size) at (collected.set v)) ∙
          ap (λ (b : Bool). b && eqb (get_or t.priorities v 0) p) (level_stays ready.low (omega arith) stays₁ v)

      -- what `attract` asks for
      pub top_attractable : {alpha : ℕ} → alpha ≤ 1 → Attractable t.owners t.offsets t.targets alpha base into w₂
      top_attractable side =
          attractable (ready_stays stays₂ ready) behind side
          (λ v q. level₂ v ∙ and_left (on_level t base w₀ v) (eqb ((game_of t).priority v) p) (sym (top_set v) ∙ q))

      -- **V without what is drawn to p stands at the next level.**
      pub top_made :
          {a : Player} {looks up : ℕ} {w₃ w₄ w₅ : List ℕ} →
          up ≡ next_level s base →
          a ≡ parity p →
          Attracted t a base into w₂ w₃ looks →
          Combined other up base s w₃ w₄ →
          Combined ◌-◌ up into s w₄ w₅ →
          TopCut t p base w₀ w₅
      top_made {looks = looks} {w₃ = w₃} {w₄} {w₅} next whose drawn copied reduced =
          record { stays = stays_on (stays_on stays₂ drawn_stays) above; rest = rest }
        where
          drawn' : Attracted t (parity p) base (base + words (vertices t)) w₂ w₃ looks
          drawn' = rw (behind, size, whose) at drawn

          copied' : Combined other (next_level (words (vertices t)) base) base (words (vertices t)) w₃ w₄
          copied' = rw (next, size) at copied

          reduced' : Combined ◌-◌ (next_level (words (vertices t)) base) (base + words (vertices t)) (words (vertices t)) w₄ w₅
          reduced' = rw (next, behind, size) at reduced

          drawn_stays : OpinionStays t (base + words (vertices t)) w₂ w₃
          drawn_stays = attracted_stays drawn'

          above : OpinionStays t (base + words (vertices t)) w₃ w₅
          above =
              stays_on (combined_stays (omega (arith, ready.low)) (omega arith) copied')
              (combined_stays (omega (arith, ready.low)) (omega arith) reduced')

          same_drawn :
              (v : ℕ) →
              drawn_at t base w₃ v ≡
              attractor (game_of t) (parity p) (on_level t base w₀) (with_priority (game_of t) (on_level t base w₀) p) v
          same_drawn v =
              drawn_held drawn' v ∙
              ap₂ (λ (X Y : Set). attractor (game_of t) (parity p) X Y v) (fun_ext level₂) (fun_ext top_set)

          rest :
              (v : ℕ) →
              on_level t (next_level (words (vertices t)) base) w₅ v ≡
              without (on_level t base w₀)
              (attractor (game_of t) (parity p) (on_level t base w₀) (with_priority (game_of t) (on_level t base w₀) p))
              v
          rest v =
              set_reduced (vertices t) (next_level (words (vertices t)) base) (base + words (vertices t)) w₄ w₅ reduced' v ∙
              ap₂ (λ (x y : Bool). x && not y)
              (set_copied_here (vertices t) (next_level (words (vertices t)) base) base w₃ w₄ copied' v ∙
              level_stays ready.low (omega arith) drawn_stays v ∙
              level₂ v)
              (set_kept (vertices t) (base + words (vertices t)) w₃ w₄
              (λ i l h. copied'.rest i (inl (omega arith))) v ∙ same_drawn v)

-- ---- the second cut

module _ {owners offsets targets : List ℕ} {alpha s base : ℕ} {w₀ w₁ : List ℕ}
    (droppable : Droppable owners offsets targets alpha s base w₀)
    {into up : ℕ} (behind : into ≡ base + s) (next : up ≡ next_level s base)
    (copied : Combined other into up s w₀ w₁)
  where
    size₁ : s ≡ words (length owners)
    size₁ = droppable.ready.size

    copied₁ : Combined other (base + words (length owners)) (next_level (words (length owners)) base) (words (length owners)) w₀ w₁
    copied₁ = rw (next, behind, size₁) at copied

    stays_copied : (priorities : List ℕ) → OpinionStays (tables_of owners priorities offsets targets) (base + words (length owners)) w₀ w₁
    stays_copied priorities = combined_stays (omega (arith, droppable.ready.low)) (omega arith) copied₁

    level_copied :
        (priorities : List ℕ) (v : ℕ) →
        on_level (tables_of owners priorities offsets targets) base w₁ v ≡
        on_level (tables_of owners priorities offsets targets) base w₀ v
    level_copied priorities = level_stays droppable.ready.low (omega arith) (stays_copied priorities)

    -- what was found stands where is drawn
    found_set :
        (priorities : List ℕ) (v : ℕ) →
        drawn_at (tables_of owners priorities offsets targets) base w₁ v ≡
        on_level (tables_of owners priorities offsets targets) (next_level (words (length owners)) base) w₀ v
    found_set priorities v =
        set_copied_here (length owners) (base + words (length owners)) (next_level (words (length owners)) base) w₀ w₁ copied₁ v

    -- what `attract` asks for
    pub drop_attractable : Attractable owners offsets targets alpha base into w₁
    drop_attractable =
        let priorities = droppable.priorities in
        attractable (ready_stays (stays_copied priorities) droppable.ready) behind droppable.player
        (λ v q.
        level_copied priorities v ∙
        droppable.part v
        (ap (λ (k : ℕ). set_at (length owners) (next_level k base) w₀ v) size₁ ∙ sym (found_set priorities v) ∙ q))

    -- **V loses what is drawn to what was found.**
    pub drop_made :
        (priorities : List ℕ) →
        {looks : ℕ} {w₂ w₃ : List ℕ} →
        Attracted (tables_of owners priorities offsets targets) (player_of alpha) base into w₁ w₂ looks →
        Combined ◌-◌ base into s w₂ w₃ →
        Dropped (tables_of owners priorities offsets targets) (player_of alpha) base w₀ w₃
    drop_made priorities {looks} {w₂} {w₃} drawn reduced =
        record {
          stays =
              stays_on (stays_under (omega arith) (stays_on (stays_copied priorities) drawn_stays))
              (combined_stays droppable.ready.low (omega arith) reduced');
          left =
              λ v.
              set_reduced (length owners) base (base + words (length owners)) w₂ w₃ reduced' v ∙
              ap₂ (λ (x y : Bool). x && not y)
              (level_stays droppable.ready.low (omega arith) drawn_stays v ∙ level_copied priorities v)
              (drawn_held drawn' v ∙
              ap₂ (λ (X Y : Set). attractor (game_of (tables_of owners priorities offsets targets)) (player_of alpha) X Y v)
              (fun_ext (level_copied priorities)) (fun_ext (found_set priorities)));
        }
      where
        drawn' :
            Attracted (tables_of owners priorities offsets targets) (player_of alpha) base
            (base + words (length owners)) w₁ w₂ looks
        drawn' = rw (behind, size₁) at drawn

        reduced' : Combined ◌-◌ base (base + words (length owners)) (words (length owners)) w₂ w₃
        reduced' = rw (behind, size₁) at reduced

        drawn_stays : OpinionStays (tables_of owners priorities offsets targets) (base + words (length owners)) w₁ w₂
        drawn_stays = attracted_stays drawn'

-- ---- a set of the work area that is lent, empty or not

module _ (n s at : ℕ) (w : List ℕ) (size : s ≡ words n) {r : Bool}
    (told : r ≡ not (some (64 * length (take ((at + s) - at) (drop at w))) (set_of (take ((at + s) - at) (drop at w)))))
  where
    pub lent_empty : r ≡ true → (v : ℕ) → set_at n at w v ≡ false
    lent_empty yes' = no_member (words_at n at w) (not-true _ (rw (lent_part_lem n s at w size) at (sym told ∙ yes')))

    pub lent_some : r ≡ false → (v : ℕ) × (set_at n at w v ≡ true)
    lent_some no' =
        let (v, l, p) =
        some_elim (64 * length (words_at n at w)) (set_of (words_at n at w))
        (not-false _ (rw (lent_part_lem n s at w size) at (sym told ∙ no'))) in
        (v, p)

module _ {n s at : ℕ} {w : List ℕ} (held : Held n s at w) where
  -- the words lent are its own
  pub held_lent : take ((at + s) - at) (drop at w) ≡ words_at n at w
  held_lent = lent_part_lem n s at w held.size

  -- a set of few vertices has few words
  pub held_few : length (take ((at + s) - at) (drop at w)) ≤ 64
  held_few =
      let few = words_few n held.few in
      rw held_lent (omega (arith, length-take (words n) (drop at w)))

-- a set below a height can be searched
pub held_under :
    {priorities : List ℕ} {s at height top : ℕ} {w : List ℕ} →
    HeldUnder priorities s at height w →
    top ≡ height - 1 →
    Searchable priorities s at top w
held_under h is =
    let held = h.held in
    record {
      walkable =
          record {
            size = held.size;
            few = held.few;
            high = omega (arith, held.high, held.size);
            below = held.below;
            out = λ i low high. tt;
          };
      under = λ v m. omega (arith, h.under v m);
    }
