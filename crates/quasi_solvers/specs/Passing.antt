-- From piece to piece of a solver: what each needs of those before it, and what the solver leaves by each way out.
use Rattle.std.specs.Prelude.{Bool, true, ◌&&◌, not, List, ◌≡◌, refl, ℕ, zero, suc, ◌+◌, ◌-◌, ◌*◌, ◌/◌, ◌%◌, ◌≤◌, ◌<◌, min, eqb, length}
use Rattle.std.proofs.Math.Bool.{false}
use Rattle.std.proofs.Common.{inl, inr, ⊎_elim, ap₂, ◌∙◌, mul-le-mul_left, mul-add, mul-one, add-one, arith, eq-eqb, eqb-true}
use Rattle.std.proofs.Math.Path.{sym, ap, subst, fun_ext}
use Rattle.std.proofs.lemmas.Bool.{eqb-false}
use Rattle.std.proofs.Math.ListN.{get_or}
use Rattle.rules.specs.Counting.{Set, without, count, greatest}
use Rattle.rules.specs.Game.{Player, Even, Odd, opponent, parity, player_of}
use Rattle.rules.specs.Tables.{Tables, game_of, vertices, words}
use Rattle.rules.specs.Attractor.{attractor}
use Rattle.rules.specs.Zielonka.{with_priority}
use Rattle.sets.specs.After.{Combined, other}
use Rattle.basics.specs.Basics.{bool_cases, clash, not_true_is_false, and_left}
use Rattle.basics.specs.Basics.{and_intro, without_left, without_right}
use Rattle.theory.specs.Players.{opponent_differs, opponent_twice}
use Rattle.basics.specs.Basics.{count_some, count_zero, count_strict, count_le}
use Rattle.theory.specs.Attractor.{Fits, attractor_is}
use Rattle.theory.specs.AttractorComplement.{TotalIn, rest_total}
use Rattle.theory.specs.Run.{Top, highest_top}
use Rattle.accepted.specs.Tables.{accepted_sound}
use Rattle.area.specs.Area.{set_at, size_at}
use Rattle.area.specs.Sizes.{size_at_lem}
use Rattle.area.specs.SetsAt.{set_cleared, set_copied_here, set_reduced}
use Rattle.attractor.specs.Attracted.{listed_kept}
use Rattle.separation.specs.Separates.{Separates, separates_over, gives_up, gives_up_empty, precision_cut, passed_over}
use Rattle.separation.specs.Passing.{Pass, found_inside}
use Rattle.separation.specs.Stages.{raised, precision_at, StagesStanding, stage_begins, stage_found, stage_nothing}
use Rattle.separation.specs.Stages.{stage_found_rises, stage_nothing_rises, cut_enough}
use Rattle.highest_priority.specs.Parts.{highest_of}
use Rattle.quasi_level.specs.Level.{next_level, on_level, Held, HeldUnder, OpinionReady, OpinionStays, TopCut}
use Rattle.quasi_level.specs.Level.{Droppable, FoundSome, Settled, GaveUp, TurnedOver}
use Rattle.quasi_level.specs.Pieces.{stays_on, stays_under, level_stays}
use Rattle.quasi_level.specs.Standing.{stage_number, Began, LevelEnded}
use Rattle.quasi_level.specs.declared.passes.Passes.{Passes}
use Rattle.quasi_level.specs.declared.passes.Sharp.{Sharp}
use Rattle.quasi_level.specs.declared.passes.Stage.{Stage}
use Rattle.quasi_level.specs.declared.passes.Stage.TheVariants.{Half, Full, HalfAgain, Done}
use Rattle.quasi_solvers.specs.Calling.{OpinionCalled, SmallDominions}

-- ---- numbers

-- a level for a lower height, above this one
room_down : (s j h base long : ℕ) → j < h → base + 8 * (s * (h + 1)) ≤ long → base + 8 * s + 8 * (s * (j + 1)) ≤ long
room_down s j h base long lower room =
    let fits = mul-le-mul_left s lower in
    let e : s * (h + 1) ≡ s * h + s = mul-add s h 1 ∙ ap (λ (x : ℕ). s * h + x) (mul-one s) in
    let d : s * (j + 1) ≡ s * suc j = ap (λ (x : ℕ). s * x) (add-one j) in
    omega arith

-- room for the level itself, and for the next where the height is above 0
room_here : (s h base long : ℕ) → base + 8 * (s * (h + 1)) ≤ long → base + s ≤ long
room_here s h base long room =
    let e : s * (h + 1) ≡ s * h + s = mul-add s h 1 ∙ ap (λ (x : ℕ). s * h + x) (mul-one s) in omega arith

room_next : (s h base long : ℕ) → 0 < h → base + 8 * (s * (h + 1)) ≤ long → base + 9 * s ≤ long
room_next s h base long pos room =
    let fits = mul-le-mul_left s pos in
    let one : s * 1 ≡ s = mul-one s in
    let e : s * (h + 1) ≡ s * h + s = mul-add s h 1 ∙ ap (λ (x : ℕ). s * h + x) (mul-one s) in
    omega arith

-- a number is even or odd, and its parity says which
parity_mod : (p h : ℕ) → parity p ≡ parity h → p % 2 ≡ h % 2
parity_mod p h e = go (p % 2) (h % 2) (omega arith) (omega arith) e
  where
    go : (k j : ℕ) → k < 2 → j < 2 → player_of k ≡ player_of j → k ≡ j
    go zero zero l m q = refl
    go zero (suc j) l m q = absurd (apart q)
      where
        apart : Even ≡ Odd → ⊥
        apart r = opponent_differs Even r
    go (suc k) zero l m q = absurd (opponent_differs Odd q)
    go (suc k) (suc j) l m q = omega arith

pub parity_next : (p : ℕ) → parity (p + 1) ≡ opponent (parity p)
parity_next p = go (p % 2) ((p + 1) % 2) (omega arith) (omega arith)
  where
    go : (k j : ℕ) → k < 2 → j ≡ 1 - k → player_of j ≡ opponent (player_of k)
    go zero j l e = ap player_of e
    go (suc zero) j l e = ap player_of e
    go (suc (suc k)) j l e = absurd (omega arith)

pub parity_even : (p : ℕ) → (p % 2 ≡ 1 → ⊥) → parity p ≡ Even
parity_even p no' = let e : p % 2 ≡ 0 = omega (arith, no') in ap player_of e

pub parity_odd : (p : ℕ) → (p % 2 ≡ 0 → ⊥) → parity p ≡ Odd
parity_odd p no' = let e : p % 2 ≡ 1 = omega (arith, no') in ap player_of e

-- ---- the level

-- nothing has changed
pub stays_same : {t : Tables} {top : ℕ} {w : List ℕ} → OpinionStays t top w w
stays_same = record { long = refl; table = λ i l. refl; lower = λ i f l. refl }

module _ {t : Tables} {a : Player} {base height : ℕ} {w₀ : List ℕ} (called : OpinionCalled t a base height w₀)
    {s : ℕ} (size : s ≡ words (vertices t))
  where
    -- V stands at the base
    pub called_held : Held (vertices t) s base w₀
    called_held =
        let room = room_here (words (vertices t)) height base (length w₀) called.room in
        record {
          few = (accepted_sound t called.accepted).few_vertices;
          size = size;
          high = omega arith;
          below = called.below;
        }

    -- as many priorities as vertices
    pub called_searched : HeldUnder t.priorities s base height w₀
    unfolding game_of
    called_searched =
        let each = (accepted_sound t called.accepted).priority_each in
        record { held = rw each called_held; under = rw each called.under }

    -- the size of V is the number of its vertices
    vertices_in : size_at (vertices t) base w₀ ≡ count (vertices t) (on_level t base w₀)
    vertices_in = size_at_lem (vertices t) base w₀ called.below

    -- V is empty, or the precision is 0
    pub called_gives_up :
        {size' mine own other : ℕ} {w₁ : List ℕ} {r : Sharp} →
        size' ≡ size_at (vertices t) base w₀ →
        mine ≡ min own size' →
        mine ≡ 0 →
        GaveUp size' s base w₀ w₁ r →
        SmallDominions t a base own other w₀ w₁ r
    unfolding raised game_of
    called_gives_up {size'} {mine} {own} {other} {w₁} {r} counted cut none gave =
        record {
          stays =
              record {
                long = gave.cleared.long;
                table = λ i l. gave.cleared.rest i (inl (omega (arith, called.low)));
                lower = λ i f l. gave.cleared.rest i (inl l);
              };
          parts = rw (gave.keeps, gave.drops) (⊎_elim empty zero_precision (bool_cases (eqb size' 0)));
        }
      where
        nothing : (v : ℕ) → on_level t base w₁ v ≡ false
        nothing = set_cleared (vertices t) base s base gave.cleared (omega arith) (omega (arith, size))

        Parted : Bool → Type 0
        Parted b =
            Separates (game_of t) a (on_level t base w₀) (raised (vertices t) b own) (raised (vertices t) true other)
            (on_level t base w₁)

        empty : eqb size' 0 ≡ true → Parted (eqb size' 0)
        empty e =
            gives_up_empty
            (λ v.
            not_true_is_false (on_level t base w₀ v)
            (λ p.
            clash p
            (count_zero (vertices t) (on_level t base w₀) (sym vertices_in ∙ sym counted ∙ eqb-true size' 0 e) v (called.below v p))))
            nothing

        zero_precision : eqb size' 0 ≡ false → Parted (eqb size' 0)
        zero_precision e =
            let some : size' ≡ 0 → ⊥ = eqb-false size' 0 e in
            let z : own ≡ 0 = omega (arith, some) in
            rw (e, z) (gives_up called.below nothing)

    -- where V has a vertex, what `highest_at` gives is the highest priority in V
    pub called_top :
        {size' mine p : ℕ} (own : ℕ) →
        size' ≡ size_at (vertices t) base w₀ →
        mine ≡ min own size' →
        (mine ≡ 0 → ⊥) →
        p ≡ highest_of t.priorities (set_at (length t.priorities) base w₀) →
        Top (game_of t) (on_level t base w₀) (parity p) p
    unfolding game_of
    called_top {size'} {mine} {p} own counted cut some told =
        let (v, l, q) = count_some (vertices t) (on_level t base w₀) (omega (arith, some, vertices_in)) in
        subst (λ (k : ℕ). Top (game_of t) (on_level t base w₀) (parity k) k)
        (sym
        (told ∙
        ap (λ (n : ℕ). greatest n (set_at n base w₀) (λ v. get_or t.priorities v 0))
        (accepted_sound t called.accepted).priority_each))
        (highest_top (game_of t) (on_level t base w₀) called.below v q)

    module _ {p : ℕ} (top : Top (game_of t) (on_level t base w₀) (parity p) p) where
      -- it is below the height
      pub top_lower : p < height
      top_lower = let less = called.under top.vertex top.member in omega (arith, top.has)

      -- there is room for the next level
      pub called_high : base + 9 * s ≤ length w₀
      called_high =
          let lower = top_lower in
          let room = room_next (words (vertices t)) height base (length w₀) (omega arith) called.room in
          omega arith

      -- ---- a height that no vertex has

      module _ (theirs : parity p ≡ opponent a) {up : ℕ} (next : up ≡ next_level s base) {w₁ : List ℕ}
          (copied : Combined other up base s w₀ w₁)
        where
          -- one more has the other parity, and is lower still
          pub turned_less : p + 1 < height
          turned_less =
              let lower = top_lower in
              let same_parity : p % 2 ≡ height % 2 = parity_mod p height (theirs ∙ sym called.turn) in
              omega arith

          up_at : up ≡ next_level (words (vertices t)) base
          up_at = next ∙ ap (λ (k : ℕ). next_level k base) size

          copied' : Combined other (next_level (words (vertices t)) base) base (words (vertices t)) w₀ w₁
          copied' = rw (next, size) at copied

          above : OpinionStays t (base + words (vertices t)) w₀ w₁
          above =
              record {
                long = copied'.long;
                table = λ i l. copied'.rest i (inl (omega (arith, called.low)));
                lower = λ i f l. copied'.rest i (inl (omega arith));
              }

          same_set : (v : ℕ) → on_level t up w₁ v ≡ on_level t base w₀ v
          same_set v =
              ap (λ (at : ℕ). on_level t at w₁ v) up_at ∙
              set_copied_here (vertices t) (next_level (words (vertices t)) base) base w₀ w₁ copied' v

          pub turned_called : OpinionCalled t (opponent a) up (p + 1) w₁
          turned_called =
              record {
                accepted = called.accepted;
                table = listed_kept (vertices t) t.offsets t.targets w₀ w₁ above.long above.table called.table;
                low = omega (arith, called.low, next);
                room =
                    let down = room_down (words (vertices t)) (p + 1) height base (length w₀) turned_less called.room in
                    omega (arith, above.long, up_at);
                below = λ v q. called.below v (sym (same_set v) ∙ q);
                total = subst (λ (S : Set). TotalIn (game_of t) S) (sym (fun_ext same_set)) called.total;
                under = λ v q. let l = top.most v (sym (same_set v) ∙ q) in omega arith;
                turn = parity_next p ∙ ap opponent theirs;
              }

          pub turned_solved :
              {own other : ℕ} {w₂ w₃ : List ℕ} {turned r : Sharp} →
              SmallDominions t (opponent a) up other own w₁ w₂ turned →
              TurnedOver s base w₂ w₃ turned r →
              SmallDominions t a base own other w₀ w₃ r
          turned_solved {own} {other} {w₂} {w₃} {turned} {r} solved over =
              record {
                stays =
                    stays_on (stays_on (stays_under (omega arith) above) (stays_under (omega (arith, next)) solved.stays))
                    (record {
                      long = over.reduced.long;
                      table = λ i l. over.reduced.rest i (inl (omega (arith, called.low)));
                      lower = λ i f l. over.reduced.rest i (inl l);
                    });
                parts =
                    rw (over.keeps, over.drops)
                    (separates_over (λ v. refl) (λ v. sym (left v))
                    (passed_over (separates_over same_set (λ v. refl) solved.parts)));
              }
            where
              reduced' : Combined ◌-◌ base (next_level (words (vertices t)) base) (words (vertices t)) w₂ w₃
              reduced' = rw size at over.reduced

              left : (v : ℕ) → on_level t base w₃ v ≡ without (on_level t base w₀) (on_level t up w₂) v
              left v =
                  set_reduced (vertices t) base (next_level (words (vertices t)) base) w₂ w₃ reduced' v ∙
                  ap₂ (λ (x y : Bool). x && not y)
                  (level_stays called.low (omega (arith, up_at)) solved.stays v ∙
                  level_stays called.low (omega arith) above v)
                  (ap (λ (at : ℕ). on_level t at w₂ v) (sym up_at))

-- ---- the passes

-- the test for the last stage
pub still_early : (stage : Stage) → eqb (stage_number stage) 3 ≡ false → stage_number stage < 3
still_early Half e = omega arith
still_early Full e = omega arith
still_early HalfAgain e = omega arith
still_early Done e = absurd (eqb-false 3 3 e refl)

pub not_early : (stage : Stage) → eqb (stage_number stage) 3 ≡ true → stage_number stage < 3 → ⊥
not_early stage e l = let last : stage_number stage ≡ 3 = eqb-true (stage_number stage) 3 e in omega arith

-- how the passes stand over the work area
pub record PassesGoing (t : Tables) (a : Player) (base mine full half : ℕ) (w₀ : List ℕ) (passes : Passes) (w : List ℕ) : Type 0 where
  pub stays : OpinionStays t base w₀ w
  pub standing :
      StagesStanding (game_of t) a mine full half (on_level t base w₀) (stage_number passes.stage) passes.keeps passes.drops (on_level t base w)

-- what falls from pass to pass: the size of V, and the stages that are left
abbrev pub to_go : ℕ → ℕ → List ℕ → Passes → ℕ
to_go n base w passes = 4 * size_at n base w + (3 - stage_number passes.stage)

module _ {t : Tables} {a : Player} {base height : ℕ} {w₀ : List ℕ} (called : OpinionCalled t a base height w₀)
    {s : ℕ} (size : s ≡ words (vertices t)) {p : ℕ} (top : Top (game_of t) (on_level t base w₀) (parity p) p)
    {mine full half : ℕ}
  where
    -- at first
    pub going_first : {passes : Passes} → Began half passes → PassesGoing t a base mine full half w₀ passes w₀
    unfolding game_of
    going_first {passes} began =
        record {
          stays = stays_same;
          standing =
              rw (began.stage, began.keeps, began.drops) (stage_begins called.below called.total);
        }

    module _ {passes : Passes} {w : List ℕ} (going : PassesGoing t a base mine full half w₀ passes w) where
      inside : (v : ℕ) → on_level t base w v ≡ true → on_level t base w₀ v ≡ true
      inside = going.standing.narrowed.inside

      below : (v : ℕ) → on_level t base w v ≡ true → v < vertices t
      below v q = called.below v (inside v q)

      -- what the first cut asks for
      pub going_ready : OpinionReady t s base w
      going_ready =
          record {
            accepted = called.accepted;
            table =
                listed_kept (vertices t) t.offsets t.targets w₀ w going.stays.long going.stays.table
                called.table;
            size = size;
            low = called.low;
            high = omega (arith, called_high called size top, going.stays.long);
            below = below;
          }

      module _ (ours : parity p ≡ a) {up : ℕ} (next : up ≡ next_level s base) {w₁ : List ℕ} (cut : TopCut t p base w w₁) where
        abbrev A : Set
        A = attractor (game_of t) a (on_level t base w) (with_priority (game_of t) (on_level t base w) p)

        up_is : up ≡ next_level (words (vertices t)) base
        up_is = next ∙ ap (λ (k : ℕ). next_level k base) size

        rest : (v : ℕ) → on_level t up w₁ v ≡ without (on_level t base w) A v
        rest v =
            ap (λ (at : ℕ). on_level t at w₁ v) up_is ∙
            cut.rest v ∙
            ap
            (λ (c : Player).
            without (on_level t base w)
            (attractor (game_of t) c (on_level t base w) (with_priority (game_of t) (on_level t base w) p)) v)
            ours

        fits : Fits (game_of t) (on_level t base w) (with_priority (game_of t) (on_level t base w) p)
        unfolding game_of
        fits = record { part = λ v q. and_left (on_level t base w v) _ q; below = below }

        -- what the solver below asks for
        pub going_called : OpinionCalled t (opponent a) up p w₁
        going_called =
            record {
              accepted = called.accepted;
              table =
                  listed_kept (vertices t) t.offsets t.targets w₀ w₁
                  (cut.stays.long ∙ going.stays.long)
                  (λ i l. cut.stays.table i l ∙ going.stays.table i l)
                  called.table;
              low = omega (arith, called.low, next);
              room =
                  let down = room_down (words (vertices t)) p height base (length w₀) (top_lower called size top)
                  called.room in
                  omega (arith, cut.stays.long, going.stays.long, up_is);
              below = λ v q. called.below v (inside v (without_left (on_level t base w) A v (sym (rest v) ∙ q)));
              total =
                  subst (λ (S : Set). TotalIn (game_of t) S) (sym (fun_ext rest))
                  (rest_total
                  (attractor_is (game_of t) a (on_level t base w) (with_priority (game_of t) (on_level t base w) p) fits).closed
                  going.standing.narrowed.total);
              under = under;
              turn = ours ∙ sym (opponent_twice a);
            }
          where
            under : (v : ℕ) → on_level t up w₁ v ≡ true → (game_of t).priority v < p
            under v q =
                let in_rest = sym (rest v) ∙ q in
                let in-V = without_left (on_level t base w) A v in_rest in
                let most = top.most v (inside v in-V) in
                let differs : (game_of t).priority v ≡ p → ⊥ =
                λ e.
                clash
                ((attractor_is (game_of t) a (on_level t base w)
                (with_priority (game_of t) (on_level t base w) p) fits).closed.target v
                (and_intro in-V (eq-eqb _ p e)))
                (without_right (on_level t base w) A v in_rest) in
                omega (arith, differs)

        module _ {k : ℕ} {w₂ : List ℕ} {sub : Sharp} (solved : SmallDominions t (opponent a) up k mine w₁ w₂ sub) where
          -- V stays
          stays₂ : OpinionStays t (base + words (vertices t)) w w₂
          stays₂ = stays_on cut.stays (stays_under (omega (arith, up_is)) solved.stays)

          level₂ : (v : ℕ) → on_level t base w₂ v ≡ on_level t base w v
          level₂ = level_stays called.low (omega arith) stays₂

          abbrev S : Set
          S = on_level t up w₂

          -- what a pass knows
          pass :
              Pass (game_of t) a (raised (vertices t) sub.drops mine) (raised (vertices t) sub.keeps k) (on_level t base w) S
          unfolding game_of
          pass =
              record {
                top = p;
                mine = ours;
                most = λ v q. top.most v (inside v q);
                below = below;
                total = going.standing.narrowed.total;
                found = separates_over rest (λ v. refl) solved.parts;
              }

          found_in : (v : ℕ) → on_level t up w₂ v ≡ true → on_level t base w v ≡ true
          found_in = found_inside pass

          -- what the end of a pass asks for
          pub going_droppable : {alpha : ℕ} → alpha ≤ 1 → Droppable t.owners t.offsets t.targets alpha s base w₂
          going_droppable side =
              record {
                priorities = t.priorities;
                ready =
                    record {
                      accepted = called.accepted;
                      table =
                          listed_kept (vertices t) t.offsets t.targets w₀ w₂
                          (stays₂.long ∙ going.stays.long)
                          (λ i l. stays₂.table i l ∙ going.stays.table i l)
                          called.table;
                      size = size;
                      low = called.low;
                      high = omega (arith, called_high called size top, going.stays.long, stays₂.long);
                      below = λ v q. called.below v (inside v (sym (level₂ v) ∙ q));
                    };
                player = side;
                part = λ v q. level₂ v ∙ found_in v (ap (λ (at : ℕ). on_level t at w₂ v) next ∙ q);
              }

          next_set : (v : ℕ) → on_level t (next_level (words (vertices t)) base) w₂ v ≡ S v
          next_set v = ap (λ (at : ℕ). on_level t at w₂ v) (sym up_is)

          below₀ : OpinionStays t base w₀ w₂
          below₀ = stays_on going.stays (stays_under (omega arith) stays₂)

          module _ (early : stage_number passes.stage < 3) {w₃ : List ℕ} {r : Passes} where
            left : FoundSome t (opponent a) base w₂ w₃ sub passes half r → (v : ℕ) →
                on_level t base w₃ v ≡ without (on_level t base w) (attractor (game_of t) (opponent a) (on_level t base w) S) v
            left f v =
                f.dropped.left v ∙
                ap₂ (λ (X Y : Set). without X (attractor (game_of t) (opponent a) X Y) v) (fun_ext level₂) (fun_ext next_set)

            -- **A pass leads on.**
            pub going_on :
                half ≡ full / 2 →
                k ≡ precision_at (stage_number passes.stage) half full →
                Settled t (opponent a) base w₂ w₃ sub passes half r →
                PassesGoing t a base mine full half w₀ r w₃
            unfolding game_of
            going_on halved at (inl f) =
                record {
                  stays = stays_on below₀ f.dropped.stays;
                  standing =
                      subst
                      (λ (X : Set).
                      StagesStanding (game_of t) a mine full half (on_level t base w₀) (stage_number r.stage) r.keeps r.drops X)
                      (sym (fun_ext (left f)))
                      (rw (f.stand.stage, f.stand.keeps, f.stand.drops)
                      (stage_found (omega arith) (stage_number passes.stage) sub.keeps sub.drops early going.standing
                      (rw at at pass)));
                }
            going_on halved at (inr f) =
                record {
                  stays = rw f.same below₀;
                  standing =
                      rw f.same
                      (subst
                      (λ (X : Set).
                      StagesStanding (game_of t) a mine full half (on_level t base w₀) (stage_number r.stage) r.keeps r.drops X)
                      (sym (fun_ext level₂))
                      (rw (f.stand.stage, f.stand.keeps, f.stand.drops)
                      (stage_nothing (omega arith) (stage_number passes.stage) sub.keeps sub.drops early going.standing
                      (rw at at pass)
                      (λ v. sym (next_set v) ∙ f.nothing v))));
                }

            drawn :
                (x : FoundSome t (opponent a) base w₂ w₃ sub passes half r) →
                attractor (game_of t) (opponent a) (on_level t base w) S x.vertex ≡ true
            unfolding game_of
            drawn x =
                (attractor_is (game_of t) (opponent a) (on_level t base w) S
                (record { part = found_in; below = below })
                ).closed.target
                x.vertex
                (sym (next_set x.vertex) ∙ x.member)

            -- **and what is left to do falls**
            pub going_less :
                Settled t (opponent a) base w₂ w₃ sub passes half r →
                to_go (vertices t) base w₃ r < to_go (vertices t) base w passes
            going_less (inl f) =
                let rises = stage_found_rises (stage_number passes.stage) sub.keeps half early in
                let stage = f.stand.stage in
                let B = attractor (game_of t) (opponent a) (on_level t base w) S in
                let found : S f.vertex ≡ true = sym (next_set f.vertex) ∙ f.member in
                let lost : on_level t base w₃ f.vertex ≡ false =
                not_true_is_false (on_level t base w₃ f.vertex)
                (λ q.
                clash
                (drawn f)
                (without_right (on_level t base w) B f.vertex (sym (left f f.vertex) ∙ q))) in
                let fewer =
                count_strict (vertices t) (on_level t base w₃) (on_level t base w)
                (λ v l q. without_left (on_level t base w) B v (sym (left f v) ∙ q))
                f.vertex
                (called.below f.vertex (inside f.vertex (found_in f.vertex found)))
                lost
                (found_in f.vertex found) in
                let smaller = size_at_lem (vertices t) base w₃ (λ v q. below v (without_left (on_level t base w) B v (sym (left f v) ∙ q))) in
                let larger = size_at_lem (vertices t) base w below in
                omega arith
            going_less (inr f) =
                let rises = stage_nothing_rises (stage_number passes.stage) sub.keeps half early in
                let stage = f.stand.stage in
                let alike : (v : ℕ) → on_level t base w₃ v ≡ on_level t base w v =
                λ v. ap (λ (x : List ℕ). on_level t base x v) f.same ∙ level₂ v in
                let same : count (vertices t) (on_level t base w₃) ≡ count (vertices t) (on_level t base w) =
                ap (λ (X : Set). count (vertices t) X) (fun_ext alike) in
                let after = size_at_lem (vertices t) base w₃ (λ v q. below v (sym (alike v) ∙ q)) in
                let before = size_at_lem (vertices t) base w below in
                omega arith

      -- **At the end V is what the solver gives.**
      pub going_ends :
          {own other size' : ℕ} {r : Sharp} →
          (stage_number passes.stage < 3 → ⊥) →
          size' ≡ size_at (vertices t) base w₀ →
          mine ≡ min own size' →
          full ≡ min other size' →
          LevelEnded passes mine full size' r →
          SmallDominions t a base own other w₀ w r
      unfolding game_of
      going_ends {own} {other} {size'} {r} late counted cut₁ cut₂ ended =
          let st = going.standing in
          let last : stage_number passes.stage ≡ 3 = omega (arith, st.known, late) in
          let few = count_le (vertices t) (on_level t base w₀) in
          let counts = vertices_in called size in
          record {
            stays = going.stays;
            parts =
                rw (ended.keeps, ended.drops)
                (precision_cut
                (λ k l h. cut_enough (vertices t) size' passes.keeps mine own k cut₁ (omega arith) (omega arith) h)
                (λ k l h. cut_enough (vertices t) size' passes.drops full other k cut₂ (omega arith) (omega arith) h)
                (st.ended last));
          }
