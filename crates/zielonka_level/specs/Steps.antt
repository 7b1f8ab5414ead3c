-- The steps of a call over its level, and how they make a run: what the two cuts, the nested calls and the last step leave behind is
-- what the call promises.
use Rattle.std.specs.Prelude.{Bool, true, false, ◌&&◌, ◌||◌, not, List, ◌⊎◌, ◌≡◌, ℕ, suc, ◌+◌, ◌-◌, ◌*◌, ◌≤◌, ◌<◌, eqb, length, get_or}
use Rattle.std.proofs.Math.Bool.{cond}
use Rattle.std.proofs.Common.{inl, inr, ⊎_elim, sym, ap₂, subst₂, ◌∙◌, mul-le-mul_left, mul-add, mul-one, add-one, arith}
use Rattle.std.proofs.Math.Path.{refl, ap, fun_ext}
use Rattle.rules.specs.Counting.{Set, count, union, without}
use Rattle.rules.specs.Game.{Player, Even, Odd, opponent, Game, Edge, parity}
use Rattle.rules.specs.Tables.{Tables, game_of, vertices, edges_in, words}
use Rattle.rules.specs.Attractor.{attractor}
use Rattle.rules.specs.Distance.{lowest_in}
use Rattle.rules.specs.Zielonka.{with_priority}
use Rattle.area.specs.Area.{free, entries}
use Rattle.attractor.specs.Attracted.{listed_kept}
use Rattle.basics.specs.Basics.{bool_cases, clash, not_true_is_false, and_left, without_right}
use Rattle.theory.specs.Distance.{lowest_in_found}
use Rattle.theory.specs.Run.{Top, Cut, empty, all_won, some_lost}
use Rattle.theory.specs.Run.{cut_inside, cut_total, cut_fewer, first_fewer}
use Rattle.theory.specs.RunSame.{Needs, needs_one, needs_first, needs_both}
use Rattle.area.specs.SetsAt.{set_kept}
use Rattle.priority_sets.specs.Sorting.{sets_stay}
use Rattle.zielonka_level.specs.Level.{next_level, odd_place, drawn_place, first_level, on_level, drawn_at, odd_at, goes_to, is_odd}
use Rattle.zielonka_level.specs.Level.{won_of, entries_of, SortedIn, Called, Aside, Stays, Done, Over}
use Rattle.zielonka_level.specs.Pieces.{Gave}

-- the attractor S of T in V for player c is drawn, and V without S stands at the next level
pub record CutBy (t : Tables) (c : Player) (base : ℕ) (V' T : Set) (before after : List ℕ) : Type 0 where
  pub stays : Stays t base before after
  pub cut :
      Cut (game_of t) c V' T (attractor (game_of t) c V' T) (on_level t (next_level (words (vertices t)) base) after)
  pub slot : (v : ℕ) → drawn_at t after v ≡ attractor (game_of t) c V' T v
  pub odd : (v : ℕ) → odd_at t after v ≡ odd_at t before v
  pub entered :
      (v : ℕ) →
      attractor (game_of t) c V' T v ≡ true →
      T v ≡ false →
      (game_of t).owner v ≡ c →
      entries_of t after v ≡ cut.drawn.pull v
  pub kept :
      (v : ℕ) →
      v < vertices t →
      (attractor (game_of t) c V' T v ≡ true → T v ≡ false → (game_of t).owner v ≡ c → ⊥) →
      entries_of t after v ≡ entries_of t before v

-- p's player wins all of V: its vertices of priority p take their lowest-numbered successor in V
pub record AllAt (t : Tables) (p base : ℕ) (before after : List ℕ) : Type 0 where
  pub stays : Stays t base before after
  pub odd : (v : ℕ) → odd_at t after v ≡ cond (on_level t base before v) (is_odd (parity p)) (odd_at t before v)
  pub chosen :
      (v : ℕ) →
      with_priority (game_of t) (on_level t base before) p v ≡ true →
      (game_of t).owner v ≡ parity p →
      entries_of t after v ≡ lowest_in (game_of t) (on_level t base before) v
  pub kept :
      (v : ℕ) →
      v < vertices t →
      (with_priority (game_of t) (on_level t base before) p v ≡ true → (game_of t).owner v ≡ parity p → ⊥) →
      entries_of t after v ≡ entries_of t before v

-- a cut, after which the attractor is the player's
pub record LostBy (t : Tables) (c : Player) (base : ℕ) (V' T : Set) (before after : List ℕ) : Type 0 where
  pub mid : List ℕ
  pub cut : CutBy t c base V' T before mid
  pub gave :
      Gave c (vertices t) (odd_place (vertices t) (edges_in t)) (drawn_place (vertices t) (edges_in t)) mid after

-- a step that leaves V, what Odd won and the entries as they were
pub record Unmoved (t : Tables) (base : ℕ) (before after : List ℕ) : Type 0 where
  pub stays : Stays t base before after
  pub odd : (v : ℕ) → odd_at t after v ≡ odd_at t before v
  pub entries : (v : ℕ) → v < vertices t → entries_of t after v ≡ entries_of t before v

-- what is given to a player is that player's and not the opponent's
goes_own : (c : Player) → goes_to c (is_odd c) ≡ true
goes_own Even = refl
goes_own Odd = refl

goes_other : (c : Player) → goes_to (opponent c) (is_odd c) ≡ false
goes_other Even = refl
goes_other Odd = refl

goes_not : (c : Player) → goes_to c (is_odd (opponent c)) ≡ false
goes_not Even = refl
goes_not Odd = refl

and_none : (x : Bool) → (x && false) ≡ false
and_none true = refl
and_none false = refl

-- what stays over two steps
pub stays_on : {t : Tables} {base : ℕ} {w₀ w₁ w₂ : List ℕ} → Stays t base w₀ w₁ → Stays t base w₁ w₂ → Stays t base w₀ w₂
stays_on a b =
    record {
      long = b.long ∙ a.long;
      table = λ i l. b.table i l ∙ a.table i l;
      lower = λ i l h o. b.lower i l h o ∙ a.lower i l h o;
    }

-- what stays over a nested call
pub stays_next :
    {t : Tables} {base : ℕ} {w₀ w₁ : List ℕ} → Stays t (next_level (words (vertices t)) base) w₀ w₁ → Stays t base w₀ w₁
stays_next a = record { long = a.long; table = a.table; lower = λ i l h o. a.lower i l (omega arith) o }

-- the sets of the priorities stand below every level, so they stay
pub sorted_kept :
    (t : Tables) (base : ℕ) (before after : List ℕ) →
    first_level (vertices t) (edges_in t) ≤ base →
    ((i : ℕ) → free (vertices t) (edges_in t) ≤ i → i < base + words (vertices t) → Aside t i → get_or after i 0 ≡ get_or before i 0) →
    SortedIn t before →
    SortedIn t after
sorted_kept t base before after above lower =
    sets_stay (vertices t) t.priorities (vertices t) (free (vertices t) (edges_in t)) before after
    (λ i l h. lower i l (omega arith) (inl (omega arith)))

-- V stays
pub level_stays :
    {t : Tables} {base : ℕ} {before after : List ℕ} →
    first_level (vertices t) (edges_in t) ≤ base →
    Stays t base before after →
    (v : ℕ) →
    on_level t base after v ≡ on_level t base before v
level_stays {t} {base} {before} {after} low a =
    set_kept (vertices t) base before after (λ i l h. a.lower i (omega arith) h (inr (omega arith)))

-- a cut depends on its sets by their members alone
pub cut_over :
    {t : Tables} {c : Player} {base : ℕ} {V₁ V₂ T₁ T₂ : Set} {before after : List ℕ} →
    ((v : ℕ) → V₁ v ≡ V₂ v) →
    ((v : ℕ) → T₁ v ≡ T₂ v) →
    CutBy t c base V₁ T₁ before after →
    CutBy t c base V₂ T₂ before after
cut_over {t} {c} {base} {before} {after} e d k =
    subst₂ (λ (X Y : Set). CutBy t c base X Y before after) (fun_ext e) (fun_ext d) k

-- what the attractor given to the opponent leaves: the words but those of what Odd won, and so the cut
pub lost_stays :
    {t : Tables} {c : Player} {base : ℕ} {V' T : Set} {before after : List ℕ} →
    first_level (vertices t) (edges_in t) ≤ base →
    LostBy t c base V' T before after →
    Stays t base before after
lost_stays above by =
    stays_on by.cut.stays
    (record {
      long = by.gave.long;
      table = λ i l. by.gave.rest i (inl (omega arith));
      lower = λ i l h o. by.gave.rest i (⊎_elim (λ k. inl k) (λ k. inr (omega arith)) o);
    })

unfoldable pub lost_cut :
    {t : Tables} {c : Player} {base : ℕ} {V' T : Set} {before after : List ℕ} →
    first_level (vertices t) (edges_in t) ≤ base →
    LostBy t c base V' T before after →
    Cut (game_of t) c V' T (attractor (game_of t) c V' T) (on_level t (next_level (words (vertices t)) base) after)
lost_cut {t} {base} {after} above by =
    record {
      drawn = by.cut.cut.drawn;
      near = by.cut.cut.near;
      left =
          λ v.
          set_kept (vertices t) (next_level (words (vertices t)) base) by.mid after
          (λ i l h. by.gave.rest i (inr (omega arith))) v ∙
          by.cut.cut.left v;
    }

-- fewer calls needed are needed too
needs_less : {g : Game} {V' : Set} {n k : ℕ} → Needs g V' n → k ≤ n → Needs g V' k
needs_less needs l won σ m run = let more = needs won σ m run in omega arith

-- a level more for fewer vertices
room_next : (s k j base long : ℕ) → j < k → base + s * (k + 1) ≤ long → base + s + s * (j + 1) ≤ long
room_next s k j base long fewer room =
    let fits = mul-le-mul_left s fewer in
    let e : s * (k + 1) ≡ s * k + s = mul-add s k 1 ∙ ap (λ (x : ℕ). s * k + x) (mul-one s) in
    let d : s * (j + 1) ≡ s * suc j = ap (λ (x : ℕ). s * x) (add-one j) in
    omega arith

module _ {t : Tables} {base : ℕ} {w₀ : List ℕ} (called : Called t base w₀) where
  -- a cut leaves what a nested call on fewer vertices asks for
  pub nested_called :
      {c : Player} {T S : Set} {w : List ℕ} →
      Stays t base w₀ w →
      Cut (game_of t) c (on_level t base w₀) T S (on_level t (next_level (words (vertices t)) base) w) →
      count (vertices t) (on_level t (next_level (words (vertices t)) base) w) < count (vertices t) (on_level t base w₀) →
      Called t (next_level (words (vertices t)) base) w
  nested_called {w} stays k fewer =
      record {
        accepted = called.accepted;
        table = listed_kept (vertices t) t.offsets t.targets w₀ w stays.long stays.table called.table;
        sorted = sorted_kept t base w₀ w called.above stays.lower called.sorted;
        above = let above = called.above in omega arith;
        room =
            let long = stays.long in
            let room = room_next (words (vertices t)) (count (vertices t) (on_level t base w₀))
            (count (vertices t) (on_level t (next_level (words (vertices t)) base) w)) base (length w₀) fewer called.room in
            omega arith;
        below = λ v p. called.below v (cut_inside k v p);
        total = cut_total k called.total;
      }

  -- the first cut leaves fewer vertices
  pub first_less :
      {p : ℕ} {w w' : List ℕ} →
      Top (game_of t) (on_level t base w₀) (parity p) p →
      CutBy t (parity p) base (on_level t base w₀) (with_priority (game_of t) (on_level t base w₀) p) w w' →
      count (vertices t) (on_level t (next_level (words (vertices t)) base) w') < count (vertices t) (on_level t base w₀)
  unfolding game_of
  first_less top k = first_fewer called.below top k.cut

  -- and so does a cut with a target
  pub cut_less :
      {c : Player} {T S rest : Set} →
      Cut (game_of t) c (on_level t base w₀) T S rest →
      (v : ℕ) →
      T v ≡ true →
      count (vertices t) rest < count (vertices t) (on_level t base w₀)
  unfolding game_of
  cut_less k v q = cut_fewer called.below k v q

  -- a vertex outside V lies outside the attractor, and outside the rest
  out_drawn :
      {c : Player} {T : Set} {w w' : List ℕ} →
      CutBy t c base (on_level t base w₀) T w w' →
      (v : ℕ) →
      on_level t base w₀ v ≡ false →
      attractor (game_of t) c (on_level t base w₀) T v ≡ true →
      ⊥
  out_drawn k v out p = clash (k.cut.drawn.inside v p) out

  out_rest :
      {c : Player} {T : Set} {w w' : List ℕ} →
      CutBy t c base (on_level t base w₀) T w w' →
      (v : ℕ) →
      on_level t base w₀ v ≡ false →
      on_level t (next_level (words (vertices t)) base) w' v ≡ false
  out_rest {w'} k v out =
      not_true_is_false (on_level t (next_level (words (vertices t)) base) w' v) (λ p. clash (cut_inside k.cut v p) out)

  -- a vertex of the attractor lies outside the rest
  drawn_rest :
      {c : Player} {T : Set} {w w' : List ℕ} →
      CutBy t c base (on_level t base w₀) T w w' →
      (v : ℕ) →
      attractor (game_of t) c (on_level t base w₀) T v ≡ true →
      on_level t (next_level (words (vertices t)) base) w' v ≡ false
  drawn_rest {c} {T} {w'} k v p =
      not_true_is_false (on_level t (next_level (words (vertices t)) base) w' v)
      (λ q. clash p (without_right (on_level t base w₀) (attractor (game_of t) c (on_level t base w₀) T) v (sym (k.cut.left v) ∙ q)))

  -- V is empty
  pub done_empty :
      {calls budget : ℕ} →
      ((v : ℕ) → on_level t base w₀ v ≡ false) →
      calls < budget →
      Done t base calls budget (calls + 1) w₀ w₀
  done_empty none l =
      record {
        needed = 1;
        counts = refl;
        within = omega arith;
        run =
            empty {won = won_of t (on_level t base w₀) w₀} none
            (λ c v. ap (λ (b : Bool). b && goes_to c (odd_at t w₀ v)) (none v))
            refl;
        stays = record { long = refl; table = λ i k. refl; lower = λ i k h o. refl };
        odd = λ v out. refl;
        entries = λ v small out. refl;
      }

  -- p's player wins all of V
  pub done_all :
      {p calls budget made : ℕ} {w₁ w₂ w₃ w₄ : List ℕ} →
      Top (game_of t) (on_level t base w₀) (parity p) p →
      CutBy t (parity p) base (on_level t base w₀) (with_priority (game_of t) (on_level t base w₀) p) w₀ w₁ →
      Done t (next_level (words (vertices t)) base) (calls + 1) budget made w₁ w₂ →
      ((v : ℕ) → won_of t (on_level t (next_level (words (vertices t)) base) w₁) w₂ (opponent (parity p)) v ≡ false) →
      Unmoved t base w₂ w₃ →
      AllAt t p base w₃ w₄ →
      Done t base calls budget made w₀ w₄
  unfolding game_of
  done_all {p} {w₁} {w₂} {w₃} {w₄} top k d nothing still all =
      record {
        needed = 1 + d.needed;
        counts = let counts = d.counts in omega arith;
        within = d.within;
        run =
            all_won top k.cut d.run
            (record { nothing = nothing; mine = mine; theirs = theirs })
            (record { kept = kept; pulled = pulled; stays = inside; lowest = chosen })
            refl;
        stays = stays_on stays all.stays;
        odd =
            λ v out.
            all.odd v ∙
            ap (λ (b : Bool). cond b (is_odd (parity p)) (odd_at t w₃ v)) (level v ∙ out) ∙
            still.odd v ∙
            d.odd v (out_rest k v out) ∙
            k.odd v;
        entries =
            λ v small out.
            all.kept v small (λ u mine. clash (and_left _ _ u) (level v ∙ out)) ∙
            still.entries v small ∙
            d.entries v small (out_rest k v out) ∙
            k.kept v small (λ q u mine. out_drawn k v out q);
      }
    where
      U : Set
      U = with_priority (game_of t) (on_level t base w₀) p

      stays : Stays t base w₀ w₃
      stays = stays_on (stays_on k.stays (stays_next d.stays)) still.stays

      level : (v : ℕ) → on_level t base w₃ v ≡ on_level t base w₀ v
      level = level_stays called.above stays

      -- all of V is p's player's
      given : (v : ℕ) → on_level t base w₀ v ≡ true → odd_at t w₄ v ≡ is_odd (parity p)
      given v q = all.odd v ∙ ap (λ (b : Bool). cond b (is_odd (parity p)) (odd_at t w₃ v)) (level v ∙ q)

      mine : (v : ℕ) → won_of t (on_level t base w₀) w₄ (parity p) v ≡ on_level t base w₀ v
      mine v =
          ⊎_elim
          (λ q. ap₂ (λ (x y : Bool). x && goes_to (parity p) y) q (given v q) ∙ goes_own (parity p) ∙ sym q)
          (λ q. ap (λ (x : Bool). x && goes_to (parity p) (odd_at t w₄ v)) q ∙ sym q)
          (bool_cases (on_level t base w₀ v))

      theirs : (v : ℕ) → won_of t (on_level t base w₀) w₄ (opponent (parity p)) v ≡ false
      theirs v =
          ⊎_elim
          (λ q. ap₂ (λ (x y : Bool). x && goes_to (opponent (parity p)) y) q (given v q) ∙ goes_other (parity p))
          (λ q. ap (λ (x : Bool). x && goes_to (opponent (parity p)) (odd_at t w₄ v)) q)
          (bool_cases (on_level t base w₀ v))

      top_level : (v : ℕ) → with_priority (game_of t) (on_level t base w₃) p v ≡ with_priority (game_of t) (on_level t base w₀) p v
      top_level v = ap (λ (b : Bool). b && eqb ((game_of t).priority v) p) (level v)

      kept :
          (v : ℕ) →
          on_level t base w₀ v ≡ true →
          attractor (game_of t) (parity p) (on_level t base w₀) (with_priority (game_of t) (on_level t base w₀) p) v ≡ false →
          (game_of t).owner v ≡ parity p →
          entries_of t w₄ v ≡ entries_of t w₂ v
      kept v q out own =
          all.kept v (called.below v q) (λ u own'. clash (k.cut.drawn.closed.target v (sym (top_level v) ∙ u)) out) ∙
          still.entries v (called.below v q)

      pulled :
          (v : ℕ) →
          attractor (game_of t) (parity p) (on_level t base w₀) (with_priority (game_of t) (on_level t base w₀) p) v ≡ true →
          with_priority (game_of t) (on_level t base w₀) p v ≡ false →
          (game_of t).owner v ≡ parity p →
          entries_of t w₄ v ≡ k.cut.drawn.pull v
      pulled v q out own =
          let small = called.below v (k.cut.drawn.inside v q) in
          all.kept v small (λ u own'. clash (sym (top_level v) ∙ u) out) ∙
          still.entries v small ∙
          d.entries v small (drawn_rest k v q) ∙
          k.entered v q out own

      chosen :
          (v : ℕ) →
          with_priority (game_of t) (on_level t base w₀) p v ≡ true →
          (game_of t).owner v ≡ parity p →
          entries_of t w₄ v ≡ lowest_in (game_of t) (on_level t base w₀) v
      chosen v u own =
          all.chosen v (top_level v ∙ u) own ∙ ap (λ (S : Set). lowest_in (game_of t) S v) (fun_ext level)

      inside :
          (v : ℕ) →
          with_priority (game_of t) (on_level t base w₀) p v ≡ true →
          (game_of t).owner v ≡ parity p →
          Edge (game_of t) v (entries_of t w₄ v) × (on_level t base w₀ (entries_of t w₄ v) ≡ true)
      inside v u own =
          let (w, e, q) = called.total v (and_left _ _ u) in
          rw (chosen v u own) (lowest_in_found (game_of t) (on_level t base w₀) v w (called.below w q) e q)

  -- the opponent wins some of V
  pub done_some :
      {p calls budget made made₂ : ℕ} {w₁ w₂ w₃ w₄ w₅ : List ℕ} →
      Top (game_of t) (on_level t base w₀) (parity p) p →
      CutBy t (parity p) base (on_level t base w₀) (with_priority (game_of t) (on_level t base w₀) p) w₀ w₁ →
      Done t (next_level (words (vertices t)) base) (calls + 1) budget made w₁ w₂ →
      Unmoved t base w₂ w₃ →
      (v : ℕ) →
      won_of t (on_level t (next_level (words (vertices t)) base) w₁) w₂ (opponent (parity p)) v ≡ true →
      LostBy t (opponent (parity p)) base (on_level t base w₀)
      (won_of t (on_level t (next_level (words (vertices t)) base) w₁) w₂ (opponent (parity p))) w₃ w₄ →
      Done t (next_level (words (vertices t)) base) made budget made₂ w₄ w₅ →
      Done t base calls budget made₂ w₀ w₅
  unfolding lost_cut
  done_some {p} {w₁} {w₂} {w₃} {w₄} {w₅} top k d still v₁ lost by d₂ =
      record {
        needed = 1 + d.needed + d₂.needed;
        counts = let counts = d.counts in let counts₂ = d₂.counts in omega arith;
        within = d₂.within;
        run =
            some_lost top k.cut d.run (lost_cut called.above by) d₂.run
            (record { vertex = v₁; lost = lost; mine = mine; theirs = theirs })
            (record { kept = kept; pulled = pulled; later = λ c v q own. refl })
            refl;
        stays =
            stays_on (stays_on (stays_on k.stays (stays_next d.stays)) still.stays)
            (stays_on (lost_stays called.above by) (stays_next d₂.stays));
        odd =
            λ v out.
            d₂.odd v (rest_out v out) ∙
            gave_out v (not_true_is_false (B v) (λ q. clash (k₂.cut.drawn.inside v q) out)) ∙
            k₂.odd v ∙
            still.odd v ∙
            d.odd v (out_rest k v out) ∙
            k.odd v;
        entries =
            λ v small out.
            d₂.entries v small (rest_out v out) ∙
            gave_entry v small ∙
            k₂.kept v small (λ q u own. out_drawn k₂ v out q) ∙
            still.entries v small ∙
            d.entries v small (out_rest k v out) ∙
            k.kept v small (λ q u own. out_drawn k v out q);
      }
    where
      b : Player
      b = opponent (parity p)

      T : Set
      T = won_of t (on_level t (next_level (words (vertices t)) base) w₁) w₂ (opponent (parity p))

      B : Set
      B = attractor (game_of t) (opponent (parity p)) (on_level t base w₀) T

      k₂ : CutBy t (opponent (parity p)) base (on_level t base w₀) T w₃ by.mid
      k₂ = by.cut

      rest : (v : ℕ) → on_level t (next_level (words (vertices t)) base) w₄ v ≡ without (on_level t base w₀) B v
      rest v = (lost_cut called.above by).left v

      small : (v : ℕ) → B v ≡ true → v < vertices t
      small v q = called.below v (k₂.cut.drawn.inside v q)

      rest_out : (v : ℕ) → on_level t base w₀ v ≡ false → on_level t (next_level (words (vertices t)) base) w₄ v ≡ false
      rest_out v out = rest v ∙ ap (λ (x : Bool). x && not (B v)) out

      rest_drawn : (v : ℕ) → B v ≡ true → on_level t (next_level (words (vertices t)) base) w₄ v ≡ false
      rest_drawn v q =
          not_true_is_false (on_level t (next_level (words (vertices t)) base) w₄ v)
          (λ r. clash q (without_right (on_level t base w₀) B v (sym (rest v) ∙ r)))

      gave_out : (v : ℕ) → B v ≡ false → odd_at t w₄ v ≡ odd_at t by.mid v
      gave_out v q = by.gave.odd v ∙ ap (λ (x : Bool). cond x (is_odd b) (odd_at t by.mid v)) (k₂.slot v ∙ q)

      gave_entry : (v : ℕ) → v < vertices t → entries_of t w₄ v ≡ entries_of t by.mid v
      gave_entry v l = by.gave.rest (entries (vertices t) (edges_in t) + v) (inl (omega arith))

      -- B is the opponent's, and stays so
      taken : (v : ℕ) → B v ≡ true → odd_at t w₅ v ≡ is_odd (opponent (parity p))
      taken v q =
          d₂.odd v (rest_drawn v q) ∙
          by.gave.odd v ∙
          ap (λ (x : Bool). cond x (is_odd b) (odd_at t by.mid v)) (k₂.slot v ∙ q)

      -- a vertex of V lies in B or in the rest
      split :
          (v : ℕ) →
          (on_level t base w₀ v ≡ false) ⊎
          ((B v ≡ true) ⊎ ((B v ≡ false) × (on_level t (next_level (words (vertices t)) base) w₄ v ≡ true)))
      split v = go (bool_cases (on_level t base w₀ v)) (bool_cases (B v))
        where
          go :
              (on_level t base w₀ v ≡ true) ⊎ (on_level t base w₀ v ≡ false) →
              (B v ≡ true) ⊎ (B v ≡ false) →
              (on_level t base w₀ v ≡ false) ⊎
              ((B v ≡ true) ⊎ ((B v ≡ false) × (on_level t (next_level (words (vertices t)) base) w₄ v ≡ true)))
          go (inr out) q = inl out
          go (inl q) (inl r) = inr (inl r)
          go (inl q) (inr r) = inr (inr (r, rest v ∙ ap₂ (λ (x y : Bool). x && not y) q r))

      mine :
          (v : ℕ) →
          won_of t (on_level t base w₀) w₅ (parity p) v ≡
          won_of t (on_level t (next_level (words (vertices t)) base) w₄) w₅ (parity p) v
      mine v = go (split v)
        where
          go :
              (on_level t base w₀ v ≡ false) ⊎
              ((B v ≡ true) ⊎ ((B v ≡ false) × (on_level t (next_level (words (vertices t)) base) w₄ v ≡ true))) →
              won_of t (on_level t base w₀) w₅ (parity p) v ≡
              won_of t (on_level t (next_level (words (vertices t)) base) w₄) w₅ (parity p) v
          go (inl out) =
              ap (λ (x : Bool). x && goes_to (parity p) (odd_at t w₅ v)) out ∙
              sym (ap (λ (x : Bool). x && goes_to (parity p) (odd_at t w₅ v)) (rest_out v out))
          go (inr (inl q)) =
              ap (λ (y : Bool). on_level t base w₀ v && goes_to (parity p) y) (taken v q) ∙
              ap (λ (y : Bool). on_level t base w₀ v && y) (goes_not (parity p)) ∙
              and_none (on_level t base w₀ v) ∙
              sym (ap (λ (x : Bool). x && goes_to (parity p) (odd_at t w₅ v)) (rest_drawn v q))
          go (inr (inr (q, r))) =
              ap (λ (x : Bool). x && goes_to (parity p) (odd_at t w₅ v)) (cut_inside (lost_cut called.above by) v r) ∙
              sym (ap (λ (x : Bool). x && goes_to (parity p) (odd_at t w₅ v)) r)

      theirs :
          (v : ℕ) →
          won_of t (on_level t base w₀) w₅ (opponent (parity p)) v ≡
          union B (won_of t (on_level t (next_level (words (vertices t)) base) w₄) w₅ (opponent (parity p))) v
      theirs v = go (split v)
        where
          go :
              (on_level t base w₀ v ≡ false) ⊎
              ((B v ≡ true) ⊎ ((B v ≡ false) × (on_level t (next_level (words (vertices t)) base) w₄ v ≡ true))) →
              won_of t (on_level t base w₀) w₅ (opponent (parity p)) v ≡
              union B (won_of t (on_level t (next_level (words (vertices t)) base) w₄) w₅ (opponent (parity p))) v
          go (inl out) =
              ap (λ (x : Bool). x && goes_to b (odd_at t w₅ v)) out ∙
              sym
              (ap₂ (λ (x y : Bool). x || (y && goes_to b (odd_at t w₅ v)))
              (not_true_is_false (B v) (λ q. clash (k₂.cut.drawn.inside v q) out))
              (rest_out v out))
          go (inr (inl q)) =
              ap₂ (λ (x y : Bool). x && goes_to b y) (k₂.cut.drawn.inside v q) (taken v q) ∙
              goes_own b ∙
              sym
              (ap (λ (x : Bool). x || won_of t (on_level t (next_level (words (vertices t)) base) w₄) w₅ (opponent (parity p)) v) q)
          go (inr (inr (q, r))) =
              ap (λ (x : Bool). x && goes_to b (odd_at t w₅ v)) (cut_inside (lost_cut called.above by) v r) ∙
              sym (ap₂ (λ (x y : Bool). x || (y && goes_to b (odd_at t w₅ v))) q r)

      kept :
          (v : ℕ) →
          T v ≡ true →
          (game_of t).owner v ≡ opponent (parity p) →
          entries_of t w₅ v ≡ entries_of t w₂ v
      kept v q own =
          let drawn = k₂.cut.drawn.closed.target v q in
          d₂.entries v (small v drawn) (rest_drawn v drawn) ∙
          gave_entry v (small v drawn) ∙
          k₂.kept v (small v drawn) (λ r out own'. clash q out) ∙
          still.entries v (small v drawn)

      pulled :
          (v : ℕ) →
          B v ≡ true →
          T v ≡ false →
          (game_of t).owner v ≡ opponent (parity p) →
          entries_of t w₅ v ≡ k₂.cut.drawn.pull v
      pulled v q out own =
          d₂.entries v (small v q) (rest_drawn v q) ∙ gave_entry v (small v q) ∙ k₂.entered v q out own

  -- no call is left of the budget
  pub over_first : {calls budget : ℕ} → budget ≤ calls → Over t base calls budget w₀
  over_first l = needs_less (needs_one (game_of t) (on_level t base w₀)) (omega arith)

  -- the first nested call needs too many
  pub over_nested :
      (calls budget : ℕ) {p : ℕ} {w₁ : List ℕ} →
      Top (game_of t) (on_level t base w₀) (parity p) p →
      CutBy t (parity p) base (on_level t base w₀) (with_priority (game_of t) (on_level t base w₀) p) w₀ w₁ →
      Over t (next_level (words (vertices t)) base) (calls + 1) budget w₁ →
      Over t base calls budget w₀
  over_nested calls budget top k over = needs_less (needs_first top k.cut over) (omega arith)

  -- the second does
  pub over_second :
      (calls : ℕ) {p budget made : ℕ} {w₁ w₂ w₃ w₄ : List ℕ} →
      Top (game_of t) (on_level t base w₀) (parity p) p →
      CutBy t (parity p) base (on_level t base w₀) (with_priority (game_of t) (on_level t base w₀) p) w₀ w₁ →
      Done t (next_level (words (vertices t)) base) (calls + 1) budget made w₁ w₂ →
      (v : ℕ) →
      won_of t (on_level t (next_level (words (vertices t)) base) w₁) w₂ (opponent (parity p)) v ≡ true →
      LostBy t (opponent (parity p)) base (on_level t base w₀)
      (won_of t (on_level t (next_level (words (vertices t)) base) w₁) w₂ (opponent (parity p))) w₃ w₄ →
      Over t (next_level (words (vertices t)) base) made budget w₄ →
      Over t base calls budget w₀
  over_second calls top k d v lost by over =
      let counts = d.counts in
      needs_less (needs_both top k.cut d.run v lost (lost_cut called.above by) over) (omega arith)
