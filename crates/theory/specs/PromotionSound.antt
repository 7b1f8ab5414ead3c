-- Soundness of priority promotion: once all vertices are solved, the two sets are exactly the winning sets, and the entries at the winners' own
-- vertices are a winning choice. So the sets are those of any other solver that is right.
use Rattle.std.specs.Prelude.{true, List, ◌⊎◌, ◌≡◌, ℕ, ◌≤◌, ◌<◌}
use Rattle.std.proofs.Math.Logic.{inl, inr}
use Rattle.std.proofs.lemmas.Bool.{not-true}
use Rattle.rules.specs.Counting.{Set}
use Rattle.rules.specs.Game.{Player, Even, Odd, Game, Total}
use Rattle.rules.specs.Winning.{WinningSets, WinningEntries}
use Rattle.rules.specs.Words.{no_entry, entry}
use Rattle.rules.specs.Promotion.{Regions, all_solved}
use Rattle.basics.specs.Basics.{bool_ext, some_false}
use Rattle.theory.specs.Dominion.{partition_exact, partition_entries}
use Rattle.theory.specs.PromotionEntries.{remaining, Rounded}
use Rattle.theory.specs.PromotionInvariant.{Invariant, rounded_invariant}

-- two pairs of winning sets of a game agree
pub winning_sets_agree :
    (g : Game) (won won' : Player → Set) →
    WinningSets g won →
    WinningSets g won' →
    (a : Player) (v : ℕ) →
    v < g.size →
    won a v ≡ won' a v
winning_sets_agree g won won' exact exact' a v l =
    bool_ext
    (won a v)
    (won' a v)
    (λ m. (exact' a v l).1 ((exact a v l).0 m))
    (λ m. (exact a v l).1 ((exact' a v l).0 m))

module _
    (g : Game)
    (total : Total g)
    (low : (v : ℕ) → v < g.size → g.priority v ≤ 255)
    (few : g.size ≤ no_entry)
    {s : Regions}
    {σ : ℕ → ℕ}
    (rounded : Rounded g s σ)
  where
    invariant : Invariant g s σ
    invariant = rounded_invariant g total low few rounded

    module _ (done : all_solved g s ≡ true) where
      -- all vertices are solved, so each is won
      all_won : (v : ℕ) → v < g.size → (s.won Even v ≡ true) ⊎ (s.won Odd v ≡ true)
      unfolding all_solved
      all_won v l = go (invariant.solved.covered v l (some_false g.size (remaining g s) (not-true _ done) v l))
        where
          go : (a : Player) × (s.won a v ≡ true) → (s.won Even v ≡ true) ⊎ (s.won Odd v ≡ true)
          go (Even, m) = inl m
          go (Odd, m) = inr m

      -- **Once all vertices are solved, the two sets are exactly the winning sets.**
      pub promotion_sets : WinningSets g s.won
      promotion_sets = partition_exact g total s.won (λ a. σ) all_won invariant.solved.dominion

      -- **And a list of the entries at the winners' own vertices, with none elsewhere, is a winning choice.**
      pub promotion_entries :
          (strategy : List ℕ) →
          ((a : Player) (v : ℕ) → v < g.size → s.won a v ≡ true → g.owner v ≡ a → entry strategy v ≡ σ v) →
          ((a : Player) (v : ℕ) → v < g.size → s.won a v ≡ true → (g.owner v ≡ a → ⊥) → entry strategy v ≡ no_entry) →
          WinningEntries g s.won strategy
      promotion_entries strategy chosen absent =
          partition_entries g total s.won (λ a. σ) strategy invariant.solved.dominion chosen absent
