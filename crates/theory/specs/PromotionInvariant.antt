-- The invariant of priority promotion with its entries: where the regions stand, the entries inside them, and the solved part. It holds at
-- the start and every round keeps it.
use Rattle.std.specs.Prelude.{true, false, ◌≡◌, refl, ℕ, ◌≤◌, ◌<◌}
use Rattle.std.proofs.Common.{⊎_elim, sym, subst, ◌∙◌, arith, ltb-true}
use Rattle.std.proofs.Math.Path.{fun_ext}
use Rattle.rules.specs.Counting.{Set, some, noted, within, union}
use Rattle.rules.specs.Game.{Player, Game, Total, Edge}
use Rattle.rules.specs.Words.{no_entry}
use Rattle.rules.specs.Promotion.{Regions, solved_region, unsolved, at_start, region_set, region_is_open, way_out, round_of}
use Rattle.basics.specs.Basics.{clash, not_true_is_false, not_false_is_true, within_all, union_cases}
use Rattle.theory.specs.Players.{true_same, false_same}
use Rattle.basics.specs.Basics.{some_false}
use Rattle.basics.specs.Basics.{without_left, without_right}
use Rattle.theory.specs.Dominion.{Dominion, dominion_cong, dominion_drawn, ranked_held, good_cycles_sub}
use Rattle.theory.specs.AttractorComplement.{own_stays_out}
use Rattle.basics.specs.Basics.{noted_below}
use Rattle.theory.specs.PromotionBasics.{at_region, at_intro}
use Rattle.theory.specs.PromotionEntries.{mover, remaining, promoted_to, dominion_set, AttractedEntries, ClosesEntries}
use Rattle.theory.specs.PromotionEntries.{PromotedEntries, SolvedEntries}
use Rattle.theory.specs.PromotionEntries.{RoundEntries, opened, promotes, solves, Rounded, starts, rounds}
use Rattle.theory.specs.PromotionRegions.{Placed, Promotes}
use Rattle.theory.specs.PromotionInside.{EntriesInside, entered_afresh, entered_lower, entered_attracted, filled_own}
use Rattle.theory.specs.PromotionInside.{entered_filled, entered_promoted}
use Rattle.theory.specs.PromotionSolved.{SolvedAre, solved_none, solved_entries_lem, solved_more}
use Rattle.theory.specs.PromotionTests.{unsolved_below, region_in_lem, closed_own, way_intro, promoted_small}
use Rattle.theory.specs.PromotionRounds.{attracted_region, promoted_region, solved_regions, attracted_gained, attracted_rest}
use Rattle.theory.specs.PromotionRounds.{attracted_unsolved}
use Rattle.theory.specs.PromotionRounds.{promoted_unsolved, solved_unsolved, lowered_to, lowered_state, promoted_state}
use Rattle.theory.specs.PromotionRounds.{solved_state, round_opens}
use Rattle.theory.specs.PromotionRounds.{round_promotes, round_solves}
use Rattle.theory.specs.PromotionStanding.{Standing, standing_start, standing_round, start_all, solved_fresh, lowered_less}
use Rattle.theory.specs.PromotionStanding.{open_goes_down}
use Rattle.theory.specs.PromotionStanding.{placed_here, here_region, way_promotes, promotion_moves}

-- what is true of every state with entries that rounds reach
pub record Invariant (g : Game) (s : Regions) (σ : ℕ → ℕ) : Type 0 where
  pub standing : Standing g s
  pub entered : EntriesInside g (remaining g s) s.region s.current σ
  pub solved : SolvedAre g (remaining g s) s.won σ

module _
    (g : Game)
    (total : Total g)
    (low : (v : ℕ) → v < g.size → g.priority v ≤ 255)
    (few : g.size ≤ no_entry)
  where
    below_solved : (v : ℕ) → v < g.size → g.priority v < solved_region
    below_solved v l = let k = low v l in omega arith

    -- **The invariant holds at the start**,
    pub start_invariant : {σ : ℕ → ℕ} → ((v : ℕ) → v < g.size → σ v ≡ no_entry) → Invariant g (at_start g) σ
    unfolding at_start
    start_invariant {σ} none =
        let r = noted solved_region g.size g.priority in
        record {
          standing = standing_start g total below_solved;
          entered =
              entered_afresh
              (λ v i. noted_below solved_region g.size g.priority v (unsolved_below g r v i))
              (λ v i. none v (unsolved_below g r v i));
          solved = solved_none (start_all g total below_solved) (λ a v. refl);
        }

    module _ {s : Regions} {σ : ℕ → ℕ} (inv : Invariant g s σ) where
      abbrev placed : Placed g (remaining g s) s.region s.current
      placed = inv.standing.placed

      -- the entries and the solved part of the state t after the round
      abbrev After : Regions → (ℕ → ℕ) → Type 0
      After t σ' = EntriesInside g (remaining g t) t.region t.current σ' × SolvedAre g (remaining g t) t.won σ'

      -- they depend on the unsolved vertices by their members alone
      after_of :
          (t : Regions) (σ' : ℕ → ℕ) →
          ((v : ℕ) → remaining g s v ≡ remaining g t v) →
          EntriesInside g (remaining g s) t.region t.current σ' →
          SolvedAre g (remaining g s) t.won σ' →
          After t σ'
      after_of t σ' same-members entered solved =
          subst
          (λ (X : Set). EntriesInside g X t.region t.current σ' × SolvedAre g X t.won σ')
          (fun_ext same-members)
          (entered, solved)

      module _ {σ₁ : ℕ → ℕ} (attracted : AttractedEntries g s σ σ₁) where
        entered_here : EntriesInside g (remaining g s) (attracted_region g s) s.current σ₁
        entered_here =
            entered_attracted total few placed inv.entered attracted
            (attracted_region g s)
            (attracted_gained g s)
            (attracted_rest g s)

        -- entries of what was solved stay
        solved_stays : (v : ℕ) → v < g.size → remaining g s v ≡ false → σ₁ v ≡ σ v
        solved_stays v l out =
            attracted.elsewhere v l
            (not_true_is_false (region_set g s v) (λ m. clash (region_in_lem g s v m) out))

        -- an open round
        after_opened : region_is_open g s (region_set g s) ≡ true → After (lowered_state g s) σ₁
        after_opened opens =
            let small = inv.standing.small in
            after_of
            (lowered_state g s)
            σ₁
            (attracted_unsolved g s small)
            (entered_lower (lowered_to g s) (lowered_less g s placed small opens) entered_here)
            (solved_entries_lem σ₁ solved_stays inv.solved)

        module _ (closed : region_is_open g s (region_set g s) ≡ false) {σ₂ : ℕ → ℕ} (fills : ClosesEntries g (mover s) (region_set g s) σ₁ σ₂) where
          -- R is region p now
          is_region : (v : ℕ) → region_set g s v ≡ true → (remaining g s v ≡ true) × (attracted_region g s v ≡ s.current)
          is_region v m = (region_in_lem g s v m, attracted_gained g s v m)

          -- where R is closed, own vertices of R have an entry in R
          region_own : (v : ℕ) → region_set g s v ≡ true → g.owner v ≡ mover s → Edge g v (σ₂ v) × (region_set g s (σ₂ v) ≡ true)
          region_own =
              filled_own total few (placed_here g s placed) entered_here is_region (here_region g s placed)
              (closed_own g s closed)
              fills

          entered_closed : EntriesInside g (remaining g s) (attracted_region g s) s.current σ₂
          entered_closed =
              entered_filled total few (placed_here g s placed) entered_here is_region (here_region g s placed)
              (closed_own g s closed)
              fills

          -- entries of what was solved stay
          solved_still : (v : ℕ) → v < g.size → remaining g s v ≡ false → σ₂ v ≡ σ v
          solved_still v l out =
              fills.elsewhere v l (not_true_is_false (region_set g s v) (λ m. clash (region_in_lem g s v m) out)) ∙
              solved_stays v l out

          -- a promotion
          after_promoted :
              some g.size (way_out g s (region_set g s)) ≡ true →
              {σ' : ℕ → ℕ} →
              PromotedEntries g s σ₂ σ' →
              After (promoted_state g s) σ'
          after_promoted has {σ'} entries =
              after_of
              (promoted_state g s)
              σ'
              (promoted_unsolved g s (promoted_small g s closed has) below_solved)
              (entered_promoted
              (placed_here g s placed)
              entered_closed
              up
              (promoted_region g s)
              (promotion_moves g s placed)
              (λ v i is o.
              let (e, m) = region_own v (here_region g s placed v i is) o in
              (e, region_in_lem g s (σ₂ v) m, attracted_gained g s (σ₂ v) m ∙ sym is))
              (λ v i is. entries.promoted v (here_region g s placed v i is))
              (λ v i differs less.
              let out = not_true_is_false (region_set g s v) (λ m. differs (attracted_gained g s v m)) in
              entries.cleared v i out (rw (attracted_rest g s v i out) at less))
              (λ v i high.
              let out = not_true_is_false (region_set g s v) (outside v high) in
              entries.higher v i (rw (attracted_rest g s v i out) at high)))
              (solved_entries_lem σ' (λ v l out. entries.solved v l out ∙ solved_still v l out) inv.solved)
            where
              up : Promotes g (remaining g s) (attracted_region g s) s.current (promoted_to g s)
              up = way_promotes g s placed closed has

              outside : (v : ℕ) → promoted_to g s ≤ attracted_region g s v → region_set g s v ≡ true → ⊥
              outside v high m = let less = up.above in let is = attracted_gained g s v m in omega arith

          -- a dominion
          module _ (none : some g.size (way_out g s (region_set g s)) ≡ false) where
            region_dominion : Dominion g (mover s) (remaining g s) (region_set g s) σ₂
            region_dominion =
                record {
                  within = region_in_lem g s;
                  edge = λ v m o. (region_own v m o).0;
                  own = λ v m o. (region_own v m o).1;
                  other =
                      λ v w m o e i.
                      not_false_is_true
                      (region_set g s w)
                      (λ out.
                      clash
                      (way_intro g s v w m o e i out)
                      (some_false g.size (way_out g s (region_set g s)) none w (unsolved_below g s.region w i)));
                  cycles =
                      good_cycles_sub
                      (at_region (remaining g s) (attracted_region g s) s.current)
                      (region_set g s)
                      σ₂
                      σ₂
                      (λ v m.
                      at_intro (remaining g s) (attracted_region g s) s.current v (region_in_lem g s v m) (attracted_gained g s v m))
                      (λ v m o. refl)
                      (entered_closed.cycles s.current);
                }

            module _ {σ' : ℕ → ℕ} (entries : SolvedEntries g s σ₂ σ') where
              -- **R is a dominion of the unsolved, and so is D, its attractor among them**
              pub solved_dominion : Dominion g (mover s) (remaining g s) (dominion_set g s) σ'
              solved_dominion =
                  dominion_drawn
                  entries.certificate.closed.target
                  (dominion_cong
                  (remaining g s)
                  (region_set g s)
                  σ'
                  (λ v. refl)
                  (λ v. refl)
                  entries.kept
                  region_dominion)
                  (ranked_held
                  entries.certificate.rank
                  entries.certificate.inside
                  (λ v d out o. rw (entries.pulled v d out o) (entries.certificate.pulled v d out o))
                  (λ v w d out o e i. entries.certificate.pushed v d out o w e i))

              after_solved : After (solved_state g s) σ'
              after_solved = (
                entered_afresh (solved_fresh g total below_solved s inv.standing) cleared,
                solved_more
                    (mover s)
                    (dominion_set g s)
                    (unsolved_below g s.region)
                    (solved_entries_lem σ' (λ v l out. entries.solved v l out ∙ solved_still v l out) inv.solved)
                    solved_dominion
                    (λ v w i out o e. own_stays_out entries.certificate.closed v w i out o e)
                    (λ v. sym (solved_unsolved g s below_solved v))
                    mine
                    others,
              )
                where
                  cleared : (v : ℕ) → unsolved g (solved_regions g s) v ≡ true → σ' v ≡ no_entry
                  cleared v i =
                      let j = solved_unsolved g s below_solved v ∙ i in
                      entries.cleared v
                      (without_left (remaining g s) (dominion_set g s) v j)
                      (without_right (remaining g s) (dominion_set g s) v j)

                  inside : (v : ℕ) → union (s.won (mover s)) (dominion_set g s) v ≡ true → v < g.size
                  inside v m =
                      ⊎_elim
                      (λ w. ltb-true v g.size ((inv.solved.dominion (mover s)).within v w))
                      (λ d. unsolved_below g s.region v (entries.certificate.inside v d))
                      (union_cases (s.won (mover s)) (dominion_set g s) v m)

                  mine : (v : ℕ) → (solved_state g s).won (mover s) v ≡ union (s.won (mover s)) (dominion_set g s) v
                  mine v =
                      rw
                      (true_same (mover s) (mover s) refl)
                      (within_all g.size (union (s.won (mover s)) (dominion_set g s)) inside v)

                  others : (b : Player) → (b ≡ mover s → ⊥) → (v : ℕ) → (solved_state g s).won b v ≡ s.won b v
                  others b differs v = rw (false_same (mover s) b (λ e. differs (sym e)))

      -- **and every round keeps it.**
      pub round_keeps : {σ' : ℕ → ℕ} → RoundEntries g s σ σ' → Invariant g (round_of g s) σ'
      round_keeps {σ'} entries =
          let (entered, solved) = after entries in
          record { standing = standing_round g total below_solved s inv.standing; entered = entered; solved = solved }
        where
          after : {σ' : ℕ → ℕ} → RoundEntries g s σ σ' → After (round_of g s) σ'
          after (opened opens attracted) =
              rw
              (round_opens g s opens (open_goes_down g s inv.standing.small placed opens))
              (after_opened attracted opens)
          after (promotes closed has attracted fills entries) =
              rw (round_promotes g s closed has) (after_promoted attracted closed fills has entries)
          after (solves closed none attracted fills entries) =
              rw (round_solves g s closed none) (after_solved attracted closed fills none entries)

    -- **So it holds of every state with entries that rounds reach.**
    pub rounded_invariant : {s : Regions} {σ : ℕ → ℕ} → Rounded g s σ → Invariant g s σ
    rounded_invariant (starts none) = start_invariant none
    rounded_invariant (rounds before entries) = round_keeps (rounded_invariant before) entries
