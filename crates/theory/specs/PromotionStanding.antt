-- Where the regions of priority promotion stand is kept by every round of the rules. An open round always finds a lower region, and a promotion
-- keeps the player.
use Rattle.std.specs.Prelude.{true, false, ◌⊎◌, ◌≡◌, ℕ, ◌≤◌, ◌<◌, eqb, ltb}
use Rattle.std.proofs.Common.{inl, inr, ⊎_elim, sym, subst, ◌∙◌, eq-or-lt_of_le, arith, eqb-true, ltb-true, lt-ltb}
use Rattle.std.proofs.Math.Path.{fun_ext}
use Rattle.rules.specs.Counting.{Set, some, some_of, noted, without}
use Rattle.rules.specs.Game.{Game, Edge, Total, same}
use Rattle.rules.specs.Promotion.{Regions, solved_region, unsolved, highest_region, at_start, region_set, region_is_open, way_out, round_of}
use Rattle.basics.specs.Basics.{bool_cases, clash, and_intro, and_left, and_right, some_intro, some_elim, lt_or_ge, le_of_not_lt, some_of_false}
use Rattle.theory.specs.AttractorComplement.{TotalIn, rest_total}
use Rattle.basics.specs.Greatest.{greatest_bounds, greatest_some}
use Rattle.basics.specs.Basics.{noted_below}
use Rattle.theory.specs.PromotionBasics.{at_intro, up_in, up_le}
use Rattle.theory.specs.PromotionEntries.{mover, remaining, promoted_to, dominion_set}
use Rattle.theory.specs.PromotionRegions.{Placed, SettledAt, below_total, placed_afresh, placed_attracted, attracted_settled}
use Rattle.theory.specs.PromotionRegions.{placed_lower, Promotes, Moved, lifted, reset, stayed, placed_promoted, gained_is}
use Rattle.theory.specs.PromotionTests.{unsolved_below, unsolved_intro, highest_present, highest_top, highest_small, region_certificate}
use Rattle.theory.specs.PromotionTests.{region_in_lem, region_out, open_elim, closed_other, way_intro, way_elim, way_at_lem, promoted_lowest}
use Rattle.theory.specs.PromotionTests.{promoted_small, dominion_certificate}
use Rattle.theory.specs.PromotionRounds.{attracted_region, attracted_gained, attracted_rest, promoted_region, promoted_gained, promoted_reset}
use Rattle.theory.specs.PromotionRounds.{promoted_kept, solved_regions, solved_rest, attracted_unsolved, promoted_unsolved, solved_unsolved}
use Rattle.theory.specs.PromotionRounds.{lower_vertices, lowered_to, lowered_state, promoted_state, solved_state, round_opens, round_promotes}
use Rattle.theory.specs.PromotionRounds.{round_solves, Round, opening, promoting, solving, round_kind}

module _ (g : Game) (r : ℕ → ℕ) where
  -- starting afresh from the priorities, at the highest
  pub placed_highest :
      TotalIn g (unsolved g r) →
      ((v : ℕ) → unsolved g r v ≡ true → r v ≡ g.priority v) →
      Placed g (unsolved g r) r (highest_region g r)
  placed_highest total same =
      placed_afresh (unsolved_below g r) total (highest_present g r) (highest_top g r) same

-- an open round

module _ (g : Game) (s : Regions) where
  lower_vertex :
      Placed g (remaining g s) s.region s.current →
      region_is_open g s (region_set g s) ≡ true →
      (w : ℕ) × (remaining g s w ≡ true) × (region_set g s w ≡ false) × (s.region w < s.current)
  lower_vertex placed p = let (v, m, how) = open_elim g s p in ⊎_elim (stuck v m) (λ found. found) how
    where
      stuck :
          (v : ℕ) →
          region_set g s v ≡ true →
          (g.owner v ≡ mover s) × (some_of (g.targets v) (region_set g s) ≡ false) →
          (w : ℕ) × (remaining g s w ≡ true) × (region_set g s w ≡ false) × (s.region w < s.current)
      stuck v m (o, none) =
          let (w, e, t) = below_total placed v ((region_certificate g s).inside v m) in
          let i = up_in (remaining g s) s.region s.current w t in
          let l = up_le (remaining g s) s.region s.current w t in
          let out = some_of_false (g.targets v) (region_set g s) none w e in (
            w,
            i,
            out,
            ⊎_elim (λ is. absurd (region_out g s w i out is)) (λ less. less) (eq-or-lt_of_le l),
          )

  -- **In an open round some unsolved vertex has a region below p**, so p never stays.
  pub open_goes_down :
      s.current < solved_region →
      Placed g (remaining g s) s.region s.current →
      region_is_open g s (region_set g s) ≡ true →
      some g.size (lower_vertices g s) ≡ true
  open_goes_down small placed p =
      let (w, i, out, l) = lower_vertex placed p in
      let here = attracted_rest g s w i out in
      some_intro g.size (lower_vertices g s) w
      (unsolved_below g s.region w i)
      (and_intro (sym (attracted_unsolved g s small w) ∙ i) (lt-ltb (attracted_region g s w) s.current (rw here l)))

  -- where the regions stand after each

  module _ (placed : Placed g (remaining g s) s.region s.current) where
    -- R is attracted
    pub placed_here : Placed g (remaining g s) (attracted_region g s) s.current
    placed_here = placed_attracted placed (region_certificate g s) (attracted_region g s) (attracted_gained g s) (attracted_rest g s)

    pub here_settled : SettledAt g (remaining g s) (attracted_region g s) s.current
    here_settled = attracted_settled placed (region_certificate g s) (attracted_region g s) (attracted_gained g s) (attracted_rest g s)

    -- the vertices that now have region p are R
    pub here_region : (v : ℕ) → remaining g s v ≡ true → attracted_region g s v ≡ s.current → region_set g s v ≡ true
    here_region v i e =
        gained_is placed (region_certificate g s) (attracted_region g s) (attracted_gained g s) (attracted_rest g s) v ∙
        at_intro (remaining g s) (attracted_region g s) s.current v i e

    -- it is a promotion
    pub way_promotes :
        region_is_open g s (region_set g s) ≡ false →
        some g.size (way_out g s (region_set g s)) ≡ true →
        Promotes g (remaining g s) (attracted_region g s) s.current (promoted_to g s)
    way_promotes closed has =
        let found = promoted_lowest g s closed has in
        let q = promoted_to g s in
        let (w, l, t) = some_elim g.size _ (and_right (ltb s.current q) _ found.passes) in
        let p = and_left (way_out g s (region_set g s) w) _ t in
        let (v, m, o, e, i, out) = way_elim g s w p in
        record {
          above = ltb-true s.current q (and_left (ltb s.current q) _ found.passes);
          from = v;
          to = w;
          from_in = region_in_lem g s v m;
          from_is = attracted_gained g s v m;
          from_theirs = o;
          edge = e;
          to_in = i;
          to_is =
              attracted_rest g s w i out ∙ eqb-true (s.region w) q (and_right (way_out g s (region_set g s) w) (eqb (s.region w) q) t);
          others = λ v w i is o e j. ⊎_elim (inside w) (outside v w i is o e j) (bool_cases (region_set g s w));
        }
      where
        inside :
            (w : ℕ) → region_set g s w ≡ true → (attracted_region g s w ≡ s.current) ⊎ (promoted_to g s ≤ attracted_region g s w)
        inside w m = inl (attracted_gained g s w m)

        outside :
            (v w : ℕ) →
            remaining g s v ≡ true →
            attracted_region g s v ≡ s.current →
            (g.owner v ≡ mover s → ⊥) →
            Edge g v w →
            remaining g s w ≡ true →
            region_set g s w ≡ false →
            (attracted_region g s w ≡ s.current) ⊎ (promoted_to g s ≤ attracted_region g s w)
        outside v w i is o e j out =
            let m = here_region v i is in
            let above = closed_other g s closed v w m o e j out in
            let there = way_at_lem g s w (way_intro g s v w m o e j out) above in
            let first = (promoted_lowest g s closed has).first (s.region w) in
            inr (rw (attracted_rest g s w j out) (le_of_not_lt (λ less. clash there (first less))))

    pub promotion_moves :
        (v : ℕ) → remaining g s v ≡ true → Moved g (attracted_region g s) (promoted_region g s) s.current (promoted_to g s) v
    promotion_moves v i =
        ⊎_elim
        (λ m. lifted (attracted_gained g s v m) (promoted_gained g s v m))
        (λ m.
        let stay = attracted_rest g s v i m in
        ⊎_elim
        (λ l. reset (λ e. region_out g s v i m (sym stay ∙ e)) (rw stay l) (promoted_reset g s v i m l))
        (λ l. stayed (rw stay l) (promoted_kept g s v i m l ∙ sym stay))
        (lt_or_ge (s.region v) (promoted_to g s)))
        (bool_cases (region_set g s v))

    -- p goes down to the next region
    module _ (small : s.current < solved_region) (opens : region_is_open g s (region_set g s) ≡ true) where
      pub lowered_vertex : (u : ℕ) × (remaining g s u ≡ true) × (attracted_region g s u ≡ lowered_to g s) × (attracted_region g s u < s.current)
      lowered_vertex =
          let (u, l, t, e) = greatest_some g.size (lower_vertices g s) (attracted_region g s) (open_goes_down small placed opens) in (
            u,
            attracted_unsolved g s small u ∙ and_left (unsolved g (attracted_region g s) u) _ t,
            e,
            ltb-true (attracted_region g s u) s.current (and_right (unsolved g (attracted_region g s) u) _ t),
          )

      pub lowered_less : lowered_to g s < s.current
      lowered_less = let (u, i, e, l) = lowered_vertex in rw (← e) l

      pub placed_opened : Placed g (remaining g s) (attracted_region g s) (lowered_to g s)
      placed_opened =
          let (u, i, e, l) = lowered_vertex in
          placed_lower (lowered_to g s) placed_here here_settled lowered_less u i e
          (λ v j k.
          greatest_bounds g.size (lower_vertices g s) (attracted_region g s) v
          (unsolved_below g s.region v j)
          (and_intro (sym (attracted_unsolved g s small v) ∙ j) (lt-ltb (attracted_region g s v) s.current k)))

  -- what D leaves unsolved is total
  pub left_total :
      Placed g (remaining g s) s.region s.current → TotalIn g (without (remaining g s) (dominion_set g s))
  left_total placed = rest_total (dominion_certificate g s).closed placed.total

-- the regions stand as they should, and p is no solved region
pub record Standing (g : Game) (s : Regions) : Type 0 where
  pub small : s.current < solved_region
  pub placed : Placed g (remaining g s) s.region s.current

-- where the regions stand depends on the unsolved vertices by their members alone
pub standing_of :
    (g : Game) (s : Regions) (X : Set) →
    ((v : ℕ) → X v ≡ remaining g s v) →
    s.current < solved_region →
    Placed g X s.region s.current →
    Standing g s
standing_of g s X same-members small placed =
    record {
      small = small;
      placed = subst (λ (Y : Set). Placed g Y s.region s.current) (fun_ext same-members) placed;
    }

module _ (g : Game) (total : Total g) (low : (v : ℕ) → v < g.size → g.priority v < solved_region) where
  start_unsolved : (v : ℕ) → unsolved g (noted solved_region g.size g.priority) v ≡ true → v < g.size
  start_unsolved v i = unsolved_below g (noted solved_region g.size g.priority) v i

  pub start_all : (v : ℕ) → v < g.size → remaining g (at_start g) v ≡ true
  unfolding at_start
  start_all v l =
      unsolved_intro g (noted solved_region g.size g.priority) v l
      (rw (noted_below solved_region g.size g.priority v l) (low v l))

  -- **At the start the regions stand as they should**,
  pub standing_start : Standing g (at_start g)
  unfolding at_start
  standing_start =
      let r = noted solved_region g.size g.priority in
      record {
        small = highest_small g r;
        placed =
            placed_highest g r
            (λ v i.
            let (w, e) = total.leads v (start_unsolved v i) in
            (w, e, start_all w (total.ends v w e)))
            (λ v i. noted_below solved_region g.size g.priority v (start_unsolved v i));
      }

  module _ (s : Regions) (standing : Standing g s) where
    standing_opened : region_is_open g s (region_set g s) ≡ true → Standing g (lowered_state g s)
    standing_opened opens =
        let small = standing.small in
        let less = lowered_less g s standing.placed small opens in
        standing_of g
        (lowered_state g s)
        (remaining g s)
        (attracted_unsolved g s small)
        (omega arith)
        (placed_opened g s standing.placed small opens)

    standing_promoted :
        region_is_open g s (region_set g s) ≡ false →
        some g.size (way_out g s (region_set g s)) ≡ true →
        Standing g (promoted_state g s)
    standing_promoted closed has =
        standing_of g
        (promoted_state g s)
        (remaining g s)
        (promoted_unsolved g s (promoted_small g s closed has) low)
        (promoted_small g s closed has)
        (placed_promoted
        (placed_here g s standing.placed)
        (way_promotes g s standing.placed closed has)
        (promoted_region g s)
        (promotion_moves g s standing.placed))

    pub solved_fresh : (v : ℕ) → unsolved g (solved_regions g s) v ≡ true → solved_regions g s v ≡ g.priority v
    solved_fresh v i = solved_rest g s v (solved_unsolved g s low v ∙ i)

    standing_solved : Standing g (solved_state g s)
    standing_solved =
        record {
          small = highest_small g (solved_regions g s);
          placed =
              placed_highest g
              (solved_regions g s)
              (subst
              (λ (X : Set). TotalIn g X)
              (fun_ext (solved_unsolved g s low))
              (left_total g s standing.placed))
              solved_fresh;
        }

    -- **and every round keeps it.**
    pub standing_round : Standing g (round_of g s)
    standing_round = go (round_kind g s)
      where
        go : Round g s → Standing g (round_of g s)
        go (opening opens) =
            rw
            (round_opens g s opens (open_goes_down g s standing.small standing.placed opens))
            (standing_opened opens)
        go (promoting closed has) = rw (round_promotes g s closed has) (standing_promoted closed has)
        go (solving closed none) = rw (round_solves g s closed none) standing_solved
