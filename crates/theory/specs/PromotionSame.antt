-- Any table that rounds reach has the rules' entries at the vertices that their region's player, or their winner, owns: so, once all
-- vertices are solved, a table with those entries and none elsewhere is the rules' table.
use Rattle.std.proofs.Math.Bool.{true}
use Rattle.std.specs.Prelude.{false, List, ◌≡◌, refl, ℕ, ◌≤◌, ◌<◌, length}
use Rattle.std.proofs.Common.{⊎_elim, ap, ◌∙◌, arith, ltb-true}
use Rattle.std.proofs.Math.Logic.{by_cases}
use Rattle.std.proofs.Math.Path.{sym}
use Rattle.std.proofs.lemmas.Bool.{not-true}
use Rattle.rules.specs.Counting.{Set, some, listed, union, within}
use Rattle.rules.specs.Game.{Player, Game, Total, parity, same}
use Rattle.rules.specs.Words.{entry, no_entry}
use Rattle.rules.specs.Promotion.{Regions, solved_region, region_set, drawn_entries, closed_entries, region_is_open, way_out, round_of, at_start}
use Rattle.rules.specs.Promotion.{all_solved}
use Rattle.basics.specs.Basics.{bool_cases, clash, not_true_is_false, lt_or_ge, listed_is}
use Rattle.theory.specs.Players.{same_true, player_decided}
use Rattle.basics.specs.Basics.{some_false}
use Rattle.basics.specs.Basics.{within_member, union_cases, without_left, without_right}
use Rattle.basics.specs.Basics.{equal_cases}
use Rattle.theory.specs.PromotionBasics.{at_region, at_is}
use Rattle.theory.specs.PromotionEntries.{mover, remaining, promoted_to, dominion_set, AttractedEntries, ClosesEntries}
use Rattle.theory.specs.PromotionEntries.{PromotedEntries, SolvedEntries}
use Rattle.theory.specs.PromotionEntries.{RoundEntries, opened, promotes, solves, Rounded, starts, rounds}
use Rattle.theory.specs.PromotionTests.{unsolved_below, region_in_lem, promoted_small}
use Rattle.theory.specs.PromotionRounds.{round_opens, round_promotes, round_solves, lowered_state, promoted_state}
use Rattle.theory.specs.PromotionRounds.{solved_state}
use Rattle.theory.specs.PromotionRounds.{attracted_unsolved, attracted_gained, attracted_rest, promoted_unsolved}
use Rattle.theory.specs.PromotionRounds.{promoted_gained}
use Rattle.theory.specs.PromotionRounds.{promoted_kept, solved_unsolved}
use Rattle.theory.specs.PromotionRegions.{promoted_player}
use Rattle.theory.specs.PromotionStanding.{open_goes_down, placed_here, way_promotes}
use Rattle.theory.specs.PromotionInvariant.{Invariant, rounded_invariant}
use Rattle.theory.specs.PromotionExists.{drawn_outside, closed_outside, rules_attracted, rules_fills, rules_promoted}
use Rattle.theory.specs.PromotionExists.{rules_solved, rounded_after}
use Rattle.theory.specs.PromotionChosen.{after_bare}

-- σ has the state's entries where the region's player, or the winner, owns the vertex
pub record Agrees (g : Game) (s : Regions) (σ : ℕ → ℕ) : Type 0 where
  pub at_own : (v : ℕ) → remaining g s v ≡ true → g.owner v ≡ parity (s.region v) → σ v ≡ s.entries v
  pub at_won : (a : Player) (v : ℕ) → s.won a v ≡ true → g.owner v ≡ a → σ v ≡ s.entries v

module _
    (g : Game)
    (total : Total g)
    (low : (v : ℕ) → v < g.size → g.priority v ≤ 255)
    (few : g.size ≤ no_entry)
  where
    below_solved : (v : ℕ) → v < g.size → g.priority v < solved_region
    below_solved v l = let k = low v l in omega arith

    module _ {s : Regions} {σ : ℕ → ℕ} (inv : Invariant g s σ) (agrees : Agrees g s σ) where
      abbrev R : Set
      R = region_set g s

      won_below : (a : Player) (v : ℕ) → s.won a v ≡ true → v < g.size
      won_below a v m = ltb-true v g.size ((inv.solved.dominion a).within v m)

      won_solved : (a : Player) (v : ℕ) → s.won a v ≡ true → remaining g s v ≡ false
      won_solved a v m = not_true_is_false (remaining g s v) (λ i. clash m (inv.solved.apart a v i))

      won_outside : (a : Player) (v : ℕ) → s.won a v ≡ true → R v ≡ false
      won_outside a v m = not_true_is_false (R v) (λ r. clash (region_in_lem g s v r) (won_solved a v m))

      module _ {σ₁ : ℕ → ℕ} (attracted : AttractedEntries g s σ σ₁) where
        drawn_same : (v : ℕ) → R v ≡ true → g.owner v ≡ mover s → σ₁ v ≡ drawn_entries g s R v
        drawn_same v m o =
            ⊎_elim
            (λ (t : at_region (remaining g s) s.region s.current v ≡ true).
            attracted.kept v t o ∙
            agrees.at_own v (region_in_lem g s v m)
            (o ∙ ap parity (sym (at_is (remaining g s) s.region s.current v t))) ∙
            sym ((rules_attracted g s few).kept v t o))
            (λ (t : at_region (remaining g s) s.region s.current v ≡ false).
            attracted.pulled v m t o ∙
            attracted.near v m t o ∙
            sym ((rules_attracted g s few).near v m t o) ∙
            sym ((rules_attracted g s few).pulled v m t o))
            (bool_cases (at_region (remaining g s) s.region s.current v))

        agrees_opened : Agrees g (lowered_state g s) σ₁
        agrees_opened =
            record {
              at_own =
                  λ v i o.
                  let j = attracted_unsolved g s inv.standing.small v ∙ i in
                  let l = unsolved_below g s.region v j in
                  ⊎_elim
                  (λ m. drawn_same v m (o ∙ ap parity (attracted_gained g s v m)))
                  (λ m.
                  attracted.elsewhere v l m ∙
                  agrees.at_own v j (o ∙ ap parity (attracted_rest g s v j m)) ∙
                  sym (drawn_outside g s v l m))
                  (bool_cases (R v));
              at_won =
                  λ a v m o.
                  let l = won_below a v m in
                  let out = won_outside a v m in
                  attracted.elsewhere v l out ∙ agrees.at_won a v m o ∙ sym (drawn_outside g s v l out);
            }

        module _ (closed : region_is_open g s R ≡ false) {σ₂ : ℕ → ℕ} (fills : ClosesEntries g (mover s) R σ₁ σ₂) where
          closed_same : (v : ℕ) → R v ≡ true → g.owner v ≡ mover s → σ₂ v ≡ closed_entries g s R v
          closed_same v m o =
              let now = drawn_same v m o in
              ⊎_elim
              (λ e. fills.filled v m o e ∙ sym ((rules_fills g s).filled v m o (sym now ∙ e)))
              (λ n. fills.given v m o n ∙ now ∙ sym ((rules_fills g s).given v m o (λ k. n (now ∙ k))))
              (equal_cases (σ₁ v) no_entry)

          -- outside R nothing has changed
          still : (v : ℕ) → v < g.size → R v ≡ false → σ₂ v ≡ σ v
          still v l out = fills.elsewhere v l out ∙ attracted.elsewhere v l out

          won_still : (a : Player) (v : ℕ) → s.won a v ≡ true → g.owner v ≡ a → σ₂ v ≡ closed_entries g s R v
          won_still a v m o =
              let l = won_below a v m in
              let out = won_outside a v m in
              still v l out ∙ agrees.at_won a v m o ∙ sym (closed_outside g s v l out)

          agrees_promoted :
              some g.size (way_out g s R) ≡ true → {σ' : ℕ → ℕ} → PromotedEntries g s σ₂ σ' → Agrees g (promoted_state g s) σ'
          agrees_promoted has {σ'} entries =
              record {
                at_own =
                    λ v i o.
                    let j = promoted_unsolved g s (promoted_small g s closed has) below_solved v ∙ i in
                    let l = unsolved_below g s.region v j in
                    ⊎_elim
                    (λ m.
                    entries.promoted v m ∙
                    closed_same v m (o ∙ ap parity (promoted_gained g s v m) ∙ player) ∙
                    sym ((rules_promoted g s).promoted v m))
                    (λ m.
                    ⊎_elim
                    (λ less. entries.cleared v j m less ∙ sym ((rules_promoted g s).cleared v j m less))
                    (λ more.
                    entries.higher v j more ∙
                    still v l m ∙
                    agrees.at_own v j (o ∙ ap parity (promoted_kept g s v j m more)) ∙
                    sym (closed_outside g s v l m) ∙
                    sym ((rules_promoted g s).higher v j more))
                    (lt_or_ge (s.region v) (promoted_to g s)))
                    (bool_cases (R v));
                at_won =
                    λ a v m o.
                    let l = won_below a v m in
                    let out = won_solved a v m in
                    entries.solved v l out ∙ won_still a v m o ∙ sym ((rules_promoted g s).solved v l out);
              }
            where
              player : parity (promoted_to g s) ≡ mover s
              player =
                  promoted_player (placed_here g s inv.standing.placed) (way_promotes g s inv.standing.placed closed has)

          agrees_solved : {σ' : ℕ → ℕ} → SolvedEntries g s σ₂ σ' → Agrees g (solved_state g s) σ'
          agrees_solved {σ'} entries =
              record {
                at_own =
                    λ v i o.
                    let j = solved_unsolved g s below_solved v ∙ i in
                    let l = without_left (remaining g s) (dominion_set g s) v j in
                    let out = without_right (remaining g s) (dominion_set g s) v j in
                    entries.cleared v l out ∙ sym ((rules_solved g s few).cleared v l out);
                at_won =
                    λ b v m o. ⊎_elim (mine b v m o) (λ e. before b v (rw e at m) o) (bool_cases (same (mover s) b));
              }
            where
              before : (b : Player) (v : ℕ) → s.won b v ≡ true → g.owner v ≡ b → σ' v ≡ (solved_state g s).entries v
              before b v m o =
                  let l = won_below b v m in
                  let out = won_solved b v m in
                  entries.solved v l out ∙ won_still b v m o ∙ sym ((rules_solved g s few).solved v l out)

              drawn : (v : ℕ) → dominion_set g s v ≡ true → g.owner v ≡ mover s → σ' v ≡ (solved_state g s).entries v
              drawn v d o =
                  ⊎_elim
                  (λ (m : R v ≡ true).
                  entries.kept v m o ∙ closed_same v m o ∙ sym ((rules_solved g s few).kept v m o))
                  (λ (m : R v ≡ false).
                  entries.pulled v d m o ∙
                  entries.near v d m o ∙
                  sym ((rules_solved g s few).near v d m o) ∙
                  sym ((rules_solved g s few).pulled v d m o))
                  (bool_cases (R v))

              mine :
                  (b : Player) (v : ℕ) →
                  (solved_state g s).won b v ≡ true →
                  g.owner v ≡ b →
                  same (mover s) b ≡ true →
                  σ' v ≡ (solved_state g s).entries v
              mine b v m o e =
                  let won : within g.size (union (s.won b) (dominion_set g s)) v ≡ true = rw e at m in
                  ⊎_elim
                  (λ k. before b v k o)
                  (λ d. drawn v d (o ∙ sym (same_true (mover s) b e)))
                  (union_cases (s.won b) (dominion_set g s) v (within_member g.size _ v won).1)

      round_agrees : {σ' : ℕ → ℕ} → RoundEntries g s σ σ' → Agrees g (round_of g s) σ'
      round_agrees (opened opens attracted) =
          rw
          (round_opens g s opens (open_goes_down g s inv.standing.small inv.standing.placed opens))
          (agrees_opened attracted)
      round_agrees (promotes closed has attracted fills entries) =
          rw (round_promotes g s closed has) (agrees_promoted attracted closed fills has entries)
      round_agrees (solves closed none attracted fills entries) =
          rw (round_solves g s closed none) (agrees_solved attracted closed fills entries)

    start_agrees : {σ : ℕ → ℕ} → ((v : ℕ) → v < g.size → σ v ≡ no_entry) → Agrees g (at_start g) σ
    unfolding at_start
    start_agrees none =
        record {
          at_own = λ v i o. none v (unsolved_below g (at_start g).region v i);
          at_won = λ a v m o. absurd (clash m refl);
        }

    -- **Every table that rounds reach has the state's entries where the region's player, or the winner, owns the vertex.**
    pub rounded_agrees : {s : Regions} {σ : ℕ → ℕ} → Rounded g s σ → Agrees g s σ
    rounded_agrees (starts none) = start_agrees none
    rounded_agrees (rounds before entries) =
        round_agrees (rounded_invariant g total low few before) (rounded_agrees before) entries

    -- **So, once all vertices are solved, a table that has them at the winners' own vertices, and none elsewhere, is the rules'.**
    pub rounded_strategy :
        {s : Regions} {σ : ℕ → ℕ} →
        Rounded g s σ →
        all_solved g s ≡ true →
        (strategy : List ℕ) →
        length strategy ≡ g.size →
        ((a : Player) (v : ℕ) → v < g.size → s.won a v ≡ true → g.owner v ≡ a → entry strategy v ≡ σ v) →
        ((a : Player) (v : ℕ) → v < g.size → s.won a v ≡ true → (g.owner v ≡ a → ⊥) → entry strategy v ≡ no_entry) →
        strategy ≡ listed g.size s.entries
    unfolding all_solved
    rounded_strategy {s} {σ} rounded done strategy long chosen absent =
        listed_is g.size s.entries no_entry strategy long
        (λ v l.
        let (a, m) = (rounded_invariant g total low few rounded).solved.covered v l
        (some_false g.size (remaining g s) (not-true _ done) v l) in
        by_cases
        (player_decided (g.owner v) a)
        (λ o. chosen a v l m o ∙ (rounded_agrees rounded).at_won a v m o)
        (λ o. absent a v l m o ∙ sym (bare a v m o)))
      where
        bare : (a : Player) (v : ℕ) → s.won a v ≡ true → (g.owner v ≡ a → ⊥) → s.entries v ≡ no_entry
        bare =
            let (k, e) = rounded_after rounded in
            rw e (after_bare g total low few k).won_bare
