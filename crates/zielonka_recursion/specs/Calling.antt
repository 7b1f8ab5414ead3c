-- How far a call has come, from piece to piece: what each piece needs of those before it, and what the call leaves by each way
-- out.
use Rattle.std.specs.Prelude.{Bool, false, ◌&&◌, not, List, ◌≡◌, refl, ℕ, ◌+◌, ◌-◌, ◌*◌, ◌≤◌, ◌<◌, length, get_or, take, drop, Option, Some, None}
use Rattle.std.proofs.Math.Bool.{true}
use Rattle.std.proofs.Common.{⊎_elim, sym, ap, subst₂, ◌∙◌, mul-le-mul_left, mul-add, mul-one, arith, eq-eqb}
use Rattle.std.proofs.Math.Path.{subst, fun_ext}
use Rattle.std.proofs.Math.Decide.{ℕ_discrete}
use Rattle.std.proofs.lemmas.Bool.{not-true, not-false}
use Rattle.rules.specs.Attractor.{attractor}
use Rattle.rules.specs.Counting.{Set, some, count}
use Rattle.rules.specs.Game.{Player, opponent, parity}
use Rattle.rules.specs.Tables.{Tables, game_of, vertices, edges_in, words}
use Rattle.rules.specs.Words.{set_of}
use Rattle.rules.specs.Zielonka.{with_priority}
use Rattle.sets.specs.Laws.{no_member}
use Rattle.basics.specs.Basics.{clash, and_left, and_intro, without_right, not_true_is_false, some_elim, some_false, count_pos}
use Rattle.basics.specs.Basics.{lt_or_ge}
use Rattle.theory.specs.Run.{Top, Cut, highest_top, cut_inside}
use Rattle.accepted.specs.Tables.{accepted_sound}
use Rattle.area.specs.Area.{set_at, size_at, words_at}
use Rattle.area.specs.Sizes.{size_at_lem}
use Rattle.area.specs.SetsAt.{set_inside}
use Rattle.area.specs.Walking.{lent_part_lem}
use Rattle.highest_priority.specs.Parts.{highest_of, Searchable}
use Rattle.zielonka_recursion.specs.Ending.{CalledUnder, Ends, ends_over, ends_done}
use Rattle.zielonka_level.specs.Level.{next_level, drawn_place, on_level, drawn_at, odd_at, goes_to, won_of, Called, Stays, Done, Over}
use Rattle.zielonka_level.specs.Steps.{CutBy, AllAt, LostBy, Unmoved, stays_on, stays_next, level_stays, lost_stays, lost_cut}
use Rattle.zielonka_level.specs.Steps.{nested_called, first_less, cut_less}
use Rattle.zielonka_level.specs.Steps.{done_empty, done_all, done_some, over_first, over_nested, over_second}
use Rattle.zielonka_level.specs.Pieces.{Levels, LostTold, CallReady, Sorted, Cuttable}
use Rattle.zielonka_level.specs.PiecesHold.{drawn_only, ready_stays, ready_places}

-- there is room for the level above a call on a set that has a member
two_fit : (s k base long : ℕ) → 0 < k → base + s * (k + 1) ≤ long → base + 2 * s ≤ long
two_fit s k base long pos room =
    let fits = mul-le-mul_left s pos in
    let one : s * 1 ≡ s = mul-one s in
    let e : s * (k + 1) ≡ s * k + s = mul-add s k 1 ∙ ap (λ (x : ℕ). s * k + x) (mul-one s) in
    omega arith

one_fits : (s k base long : ℕ) → base + s * (k + 1) ≤ long → base + s ≤ long
one_fits s k base long room =
    let e : s * (k + 1) ≡ s * k + s = mul-add s k 1 ∙ ap (λ (x : ℕ). s * k + x) (mul-one s) in
    omega arith

module _ {t : Tables} {base : ℕ} {w₀ : List ℕ} (called : Called t base w₀) {s : ℕ} (size : s ≡ words (vertices t)) where
  -- a call has room for its own level
  pub level_fits : base + s ≤ length w₀
  level_fits =
      let fits = one_fits (words (vertices t)) (count (vertices t) (on_level t base w₀)) base (length w₀) called.room in
      omega arith

  lent : take ((base + s) - base) (drop base w₀) ≡ words_at (vertices t) base w₀
  lent = lent_part_lem (vertices t) s base w₀ size

  -- V can be searched
  pub highest_given :
      {top : ℕ} →
      ((v : ℕ) → on_level t base w₀ v ≡ true → get_or t.priorities v 0 ≤ top) →
      Searchable t.priorities s base top w₀
  highest_given under =
      let sound = accepted_sound t called.accepted in
      record {
        walkable =
            rw sound.priority_each
            record {
              size = size;
              few = sound.few_vertices;
              high = omega (arith, level_fits, size);
              below = called.below;
              out = λ i low high. tt;
            };
        under = rw sound.priority_each under;
      }

  -- V is empty
  pub level_empty :
      {r : Bool} →
      r ≡ not (some (64 * length (take ((base + s) - base) (drop base w₀))) (set_of (take ((base + s) - base) (drop base w₀)))) →
      r ≡ true →
      (v : ℕ) →
      on_level t base w₀ v ≡ false
  level_empty told yes' =
      no_member (words_at (vertices t) base w₀)
      (not-true _ (rw lent at (sym told ∙ yes')))

  -- or has a member
  pub level_some :
      {r : Bool} →
      r ≡ not (some (64 * length (take ((base + s) - base) (drop base w₀))) (set_of (take ((base + s) - base) (drop base w₀)))) →
      r ≡ false →
      (v : ℕ) × (on_level t base w₀ v ≡ true)
  level_some told no' =
      let (v, l, p) =
      some_elim (64 * length (words_at (vertices t) base w₀)) (set_of (words_at (vertices t) base w₀))
      (not-false _ (rw lent at (sym told ∙ no'))) in
      (v, p)

  module _ (vertex : ℕ) (member : on_level t base w₀ vertex ≡ true) where
    -- a member leaves room for the level above
    pub member_ready : CallReady t s base w₀
    member_ready =
        let fits =
        two_fit (words (vertices t)) (count (vertices t) (on_level t base w₀)) base (length w₀)
        (count_pos (vertices t) (on_level t base w₀) vertex (called.below vertex member) member)
        called.room in
        record { called = called; size = size; high = omega arith }

    -- what `get_highest_prio` gives is the highest priority in V
    pub member_top :
        {p : ℕ} →
        p ≡ highest_of t.priorities (set_at (length t.priorities) base w₀) →
        Top (game_of t) (on_level t base w₀) (parity p) p
    unfolding game_of
    member_top {p} told =
        subst (λ (q : ℕ). Top (game_of t) (on_level t base w₀) (parity q) q)
        (sym (rw (accepted_sound t called.accepted).priority_each at told))
        (highest_top (game_of t) (on_level t base w₀) called.below vertex member)

-- a call on an empty set ends as `count_call` says
pub empty_ends :
    {t : Tables} {base calls budget : ℕ} {made : Option ℕ} {w : List ℕ} →
    Called t base w →
    ((v : ℕ) → on_level t base w v ≡ false) →
    (budget ≤ calls → made ≡ None) × (calls < budget → made ≡ Some (calls + 1)) →
    Ends t base calls budget w w made
empty_ends {calls} {budget} called none (over, counted) =
    ⊎_elim
    (λ l. rw (counted l) (ends_done (done_empty called none l)))
    (λ l. rw (over l) (ends_over (over_first called l)))
    (lt_or_ge calls budget)

-- a priority that a vertex has is below 256
top_small :
    {t : Tables} {base : ℕ} {work : List ℕ} {a : Player} {p : ℕ} →
    Called t base work →
    Top (game_of t) (on_level t base work) a p →
    p < 256
unfolding game_of
top_small {t} called top =
    omega (
      arith,
      (accepted_sound t called.accepted).priority_small top.vertex (called.below top.vertex top.member),
      top.has,
    )

-- what the first cut and the last step ask for
pub ready_sorted :
    {t : Tables} {s base p : ℕ} {w₀ work : List ℕ} →
    Called t base w₀ →
    Top (game_of t) (on_level t base w₀) (parity p) p →
    CallReady t s base work →
    Sorted t.owners t.offsets t.targets p s base work
ready_sorted {t} called top ready = record { priorities = t.priorities; ready = ready; small = top_small called top }

-- a set with no member among the bits of its words has none
empty_set :
    (t : Tables) (place : ℕ) (work : List ℕ) →
    some (64 * words (vertices t)) (set_at (vertices t) place work) ≡ false →
    (v : ℕ) →
    set_at (vertices t) place work v ≡ false
empty_set t place work none v =
    let n = vertices t in
    not_true_is_false (set_at n place work v)
    (λ q. clash q (some_false (64 * words n) (set_at n place work) none v (set_inside n place work v q)))

-- V is smaller, by the ones of its words, where it has fewer vertices
smaller :
    {t : Tables} {base up : ℕ} {w w' : List ℕ} →
    Called t base w →
    Called t up w' →
    count (vertices t) (on_level t up w') < count (vertices t) (on_level t base w) →
    size_at (vertices t) up w' < size_at (vertices t) base w
smaller {t} {base} {up} {w} {w'} called nested less =
    omega (arith, size_at_lem (vertices t) base w called.below, size_at_lem (vertices t) up w' nested.below)

-- after the first cut
pub record FirstCut (t : Tables) (s base p : ℕ) (w₀ w₁ : List ℕ) : Type 0 where
  pub called : Called t base w₀
  pub ready : CallReady t s base w₀
  pub top : Top (game_of t) (on_level t base w₀) (parity p) p
  pub cut : CutBy t (parity p) base (on_level t base w₀) (with_priority (game_of t) (on_level t base w₀) p) w₀ w₁

-- after the first nested call
pub record Came (t : Tables) (s base p calls budget made : ℕ) (w₀ w₁ w₂ : List ℕ) : Type 0 where
  pub begun : FirstCut t s base p w₀ w₁
  pub done : Done t (next_level (words (vertices t)) base) (calls + 1) budget made w₁ w₂

-- what the opponent won there
abbrev pub lost_there : Tables → ℕ → ℕ → List ℕ → List ℕ → Set
lost_there t base p w₁ w₂ = won_of t (on_level t (next_level (words (vertices t)) base) w₁) w₂ (opponent (parity p))

-- it stands in the attractor's place
pub record LostCollected (t : Tables) (s base p calls budget made : ℕ) (w₀ w₁ w₂ w₃ : List ℕ) : Type 0 where
  pub came : Came t s base p calls budget made w₀ w₁ w₂
  pub still : Unmoved t base w₂ w₃
  pub lost : (v : ℕ) → drawn_at t w₃ v ≡ lost_there t base p w₁ w₂ v

-- after the second cut
pub record Lost (t : Tables) (s base p calls budget made : ℕ) (w₀ w₁ w₂ w₃ w₄ : List ℕ) : Type 0 where
  pub told : LostCollected t s base p calls budget made w₀ w₁ w₂ w₃
  pub vertex : ℕ
  pub lost : lost_there t base p w₁ w₂ vertex ≡ true
  pub by : LostBy t (opponent (parity p)) base (on_level t base w₀) (lost_there t base p w₁ w₂) w₃ w₄

-- V has a member, and the attractor of its vertices of the highest priority is cut off
pub begun_cut :
    {t : Tables} {s base p : ℕ} {w₀ w₁ : List ℕ} →
    Called t base w₀ →
    s ≡ words (vertices t) →
    {r : Bool} →
    r ≡ not (some (64 * length (take ((base + s) - base) (drop base w₀))) (set_of (take ((base + s) - base) (drop base w₀)))) →
    r ≡ false →
    p ≡ highest_of t.priorities (set_at (length t.priorities) base w₀) →
    (CallReady t s base w₀ →
    CutBy t (parity p) base (on_level t base w₀) (with_priority (game_of t) (on_level t base w₀) p) w₀ w₁) →
    FirstCut t s base p w₀ w₁
begun_cut called size told some' highest cut =
    let (v, q) = level_some called size told some' in
    let ready = member_ready called size v q in
    record { called = called; ready = ready; top = member_top called size v q highest; cut = cut ready }

-- `count_call` counts one more
pub counted_one :
    {calls budget used : ℕ} {r : Option ℕ} →
    (budget ≤ calls → r ≡ None) × (calls < budget → r ≡ Some (calls + 1)) →
    r ≡ Some used →
    (calls < budget) × (used ≡ calls + 1)
counted_one {calls} {budget} (over, counted) is =
    ⊎_elim (λ l. (l, let more = counted l in cc)) (λ l. let none = over l in cc) (lt_or_ge calls budget)

pub counted_more :
    {calls budget used : ℕ} {r : Option ℕ} →
    (budget ≤ calls → r ≡ None) × (calls < budget → r ≡ Some (calls + 1)) →
    r ≡ Some used →
    used ≡ calls + 1
counted_more counts is = (counted_one counts is).1

module _ {t : Tables} {s base p : ℕ} {w₀ w₁ : List ℕ} (b : FirstCut t s base p w₀ w₁) where
  -- no priority there is above p − 1: every vertex of priority p was drawn
  first_under : (v : ℕ) → on_level t (next_level (words (vertices t)) base) w₁ v ≡ true → get_or t.priorities v 0 ≤ p - 1
  unfolding game_of
  first_under v m = go (ℕ_discrete (get_or t.priorities v 0) p)
    where
      inside : on_level t base w₀ v ≡ true
      inside = cut_inside b.cut.cut v m

      drawn : Set
      drawn = attractor (game_of t) (parity p) (on_level t base w₀) (with_priority (game_of t) (on_level t base w₀) p)

      go : Dec (get_or t.priorities v 0 ≡ p) → get_or t.priorities v 0 ≤ p - 1
      go (yes e) =
          absurd
          (clash (b.cut.cut.drawn.closed.target v (and_intro inside (eq-eqb (get_or t.priorities v 0) p e)))
          (without_right (on_level t base w₀) drawn v (sym (b.cut.cut.left v) ∙ m)))
      go (no d) = omega (arith, d, b.top.most v inside)

  -- and it has what it asks for
  first_called : CalledUnder t (next_level (words (vertices t)) base) (p - 1) w₁
  first_called =
      record {
        called =
            nested_called b.called b.cut.stays b.cut.cut (first_less b.called b.top b.cut);
        under = first_under;
      }

  -- the same where the code has the next level
  module _ {up : ℕ} (next : up ≡ base + s) where
    pub begun_called : CalledUnder t up (p - 1) w₁
    begun_called = rw (next, b.ready.size) first_called

    -- on a set of fewer vertices
    pub begun_less : size_at (vertices t) up w₁ < size_at (vertices t) base w₀
    begun_less =
        smaller b.called begun_called.called (rw (next, b.ready.size) (first_less b.called b.top b.cut))

    pub begun_came :
        {calls budget made : ℕ} {w₂ : List ℕ} →
        Done t up (calls + 1) budget made w₁ w₂ →
        Came t s base p calls budget made w₀ w₁ w₂
    begun_came d = record { begun = b; done = rw (next, b.ready.size) at d }

    -- it needs more calls than are left
    pub begun_over : (calls budget : ℕ) → Over t up (calls + 1) budget w₁ → Over t base calls budget w₀
    begun_over calls budget over = over_nested b.called calls budget b.top b.cut (rw (next, b.ready.size) at over)

    -- this call was counted
    pub begun_made :
        {calls budget used made : ℕ} {w₂ : List ℕ} →
        used ≡ calls + 1 →
        Done t up used budget made w₁ w₂ →
        Came t s base p calls budget made w₀ w₁ w₂
    begun_made {calls} {budget} {used} {made} {w₂} counted d =
        begun_came (subst (λ (k : ℕ). Done t up k budget made w₁ w₂) counted d)

    pub begun_beyond : {used : ℕ} (calls budget : ℕ) → used ≡ calls + 1 → Over t up used budget w₁ → Over t base calls budget w₀
    begun_beyond calls budget counted over = begun_over calls budget (subst (λ (k : ℕ). Over t up k budget w₁) counted over)

module _ {t : Tables} {s base p calls budget made : ℕ} {w₀ w₁ w₂ : List ℕ} (c : Came t s base p calls budget made w₀ w₁ w₂) where
  sized : s ≡ words (vertices t)
  sized = c.begun.ready.size

  came_stays : Stays t base w₀ w₂
  came_stays = stays_on c.begun.cut.stays (stays_next c.done.stays)

  pub came_ready : CallReady t s base w₂
  came_ready = ready_stays came_stays c.begun.ready

  -- the last step can be made
  pub came_sorted : Sorted t.owners t.offsets t.targets p s base w₂
  came_sorted = ready_sorted c.begun.called c.begun.top came_ready

  -- the next level is empty, so the opponent won nothing there: it need not be asked
  pub came_all :
      {up : ℕ} {w₃ : List ℕ} →
      up ≡ base + s →
      ((v : ℕ) → on_level t up w₁ v ≡ false) →
      AllAt t p base w₂ w₃ →
      Done t base calls budget made w₀ w₃
  came_all next none all =
      done_all c.begun.called c.begun.top c.begun.cut c.done
      (λ v. ap (λ (b : Bool). b && goes_to (opponent (parity p)) (odd_at t w₂ v)) (rw (next, sized) at none v))
      (record {
        stays = record { long = refl; table = λ i l. refl; lower = λ i l h o. refl };
        odd = λ v. refl;
        entries = λ v l. refl;
      })
      all

  -- the levels can be asked what the opponent won
  pub came_levels : Levels (vertices t) (edges_in t) s base w₂
  came_levels = record { places = ready_places came_ready; above = came_ready.called.above; high = came_ready.high }

  -- what the opponent won stands in the attractor's place
  pub came_told :
      {r : Bool} {w₃ : List ℕ} →
      LostTold (opponent (parity p)) (vertices t) (edges_in t) s base w₂ w₃ r →
      LostCollected t s base p calls budget made w₀ w₁ w₂ w₃
  came_told {w₃} told =
      record {
        came = c;
        still = drawn_only t c.begun.called.above told.part.long told.part.rest;
        lost =
            λ v.
            told.part.made v ∙
            ap (λ (b : Bool). b && goes_to (opponent (parity p)) (odd_at t w₂ v))
            (level_stays (first_called c.begun).called.above c.done.stays v);
      }

module _ {t : Tables} {s base p calls budget made : ℕ} {w₀ w₁ w₂ w₃ : List ℕ}
    (d : LostCollected t s base p calls budget made w₀ w₁ w₂ w₃)
  where
    abbrev c : Came t s base p calls budget made w₀ w₁ w₂
    c = d.came

    told_stays : Stays t base w₀ w₃
    told_stays = stays_on (came_stays c) d.still.stays

    pub told_ready : CallReady t s base w₃
    told_ready = ready_stays told_stays c.begun.ready

    pub told_sorted : Sorted t.owners t.offsets t.targets p s base w₃
    told_sorted = ready_sorted c.begun.called c.begun.top told_ready

    told_none :
        {r : Bool} →
        r ≡ not (some (64 * s) (drawn_at t w₃)) →
        r ≡ not (some (64 * words (vertices t)) (drawn_at t w₃))
    told_none told = rw (sized c) at told

    -- it is nothing
    pub told_all :
        {r : Bool} {w₄ : List ℕ} →
        r ≡ not (some (64 * s) (drawn_at t w₃)) →
        r ≡ true →
        AllAt t p base w₃ w₄ →
        Done t base calls budget made w₀ w₄
    told_all told yes' all =
        done_all c.begun.called c.begun.top c.begun.cut c.done
        (λ v.
        sym (d.lost v) ∙
        empty_set t (drawn_place (vertices t) (edges_in t)) w₃ (not-true _ (sym (told_none told) ∙ yes')) v)
        d.still
        all

    -- what the opponent won lies in V
    told_inside : (v : ℕ) → lost_there t base p w₁ w₂ v ≡ true → on_level t base w₀ v ≡ true
    told_inside v q = cut_inside c.begun.cut.cut v (and_left _ _ q)

    -- the second cut has what it asks for
    pub told_cuttable : Cuttable t.owners t.offsets t.targets s base w₃
    told_cuttable =
        record {
          priorities = t.priorities;
          ready = told_ready;
          part = λ v q. level_stays c.begun.called.above told_stays v ∙ told_inside v (sym (d.lost v) ∙ q);
        }

    pub told_lost :
        {r : Bool} {w₄ : List ℕ} →
        r ≡ not (some (64 * s) (drawn_at t w₃)) →
        r ≡ false →
        LostBy t (opponent (parity p)) base (on_level t base w₃) (drawn_at t w₃) w₃ w₄ →
        Lost t s base p calls budget made w₀ w₁ w₂ w₃ w₄
    told_lost {w₄} told no' by =
        let (v, l, q) =
        some_elim (64 * words (vertices t)) (drawn_at t w₃) (not-false _ (sym (told_none told) ∙ no')) in
        record {
          told = d;
          vertex = v;
          lost = sym (d.lost v) ∙ q;
          by =
              subst₂ (λ (X Y : Set). LostBy t (opponent (parity p)) base X Y w₃ w₄)
              (fun_ext (level_stays c.begun.called.above told_stays))
              (fun_ext d.lost)
              by;
        }

module _ {t : Tables} {s base p calls budget made : ℕ} {w₀ w₁ w₂ w₃ w₄ : List ℕ}
    (l : Lost t s base p calls budget made w₀ w₁ w₂ w₃ w₄)
  where
    abbrev begun : FirstCut t s base p w₀ w₁
    begun = l.told.came.begun

    rest : Cut (game_of t) (opponent (parity p)) (on_level t base w₀) (lost_there t base p w₁ w₂)
        (attractor (game_of t) (opponent (parity p)) (on_level t base w₀) (lost_there t base p w₁ w₂))
        (on_level t (next_level (words (vertices t)) base) w₄)
    rest = lost_cut begun.called.above l.by

    less : count (vertices t) (on_level t (next_level (words (vertices t)) base) w₄) < count (vertices t) (on_level t base w₀)
    less = cut_less begun.called rest l.vertex l.lost

    second_under : (v : ℕ) → on_level t (next_level (words (vertices t)) base) w₄ v ≡ true → get_or t.priorities v 0 ≤ p
    unfolding game_of
    second_under v m = begun.top.most v (cut_inside rest v m)

    -- where the code has the next level
    module _ {up : ℕ} (next : up ≡ base + s) where
      pub lost_called : CalledUnder t up p w₄
      lost_called =
          rw (next, begun.ready.size)
          (record {
            called = nested_called begun.called (stays_on (told_stays l.told) (lost_stays begun.called.above l.by)) rest less;
            under = second_under;
          })

      -- the second nested call is on a set of fewer vertices
      pub lost_less : size_at (vertices t) up w₄ < size_at (vertices t) base w₀
      lost_less = smaller begun.called lost_called.called (rw (next, begun.ready.size) less)

      lost_over : Over t up made budget w₄ → Over t base calls budget w₀
      lost_over over =
          over_second begun.called calls begun.top begun.cut l.told.came.done l.vertex l.lost l.by
          (rw (next, begun.ready.size) at over)

      lost_done : {made₂ : ℕ} {w₅ : List ℕ} → Done t up made budget made₂ w₄ w₅ → Done t base calls budget made₂ w₀ w₅
      lost_done d =
          done_some begun.called begun.top begun.cut l.told.came.done l.told.still l.vertex l.lost l.by
          (rw (next, begun.ready.size) at d)

      -- the call ends as the second nested call does
      pub lost_ends :
          {made₂ : Option ℕ} {w₅ : List ℕ} →
          Ends t up made budget w₄ w₅ made₂ →
          Ends t base calls budget w₀ w₅ made₂
      lost_ends e = record { over = λ none. lost_over (e.over none); done = λ made some. lost_done (e.done made some) }
