-- The entries beside the rules' state of priority promotion: what one round may do to a table of entries that is updated in place, and
-- the states with entries that rounds can reach. Entries of the opponent's vertices of what is gained are left free.
use Rattle.std.specs.Prelude.{true, false, ◌&&◌, ◌≡◌, ℕ, ◌≤◌, ◌<◌, eqb, ltb}
use Rattle.rules.specs.Counting.{Set, some, lowest}
use Rattle.rules.specs.Game.{Player, Game, parity}
use Rattle.rules.specs.Words.{no_entry}
use Rattle.rules.specs.Attractor.{attractor}
use Rattle.rules.specs.Distance.{lowest_in}
use Rattle.rules.specs.Promotion.{Regions, solved_region, unsolved, at_start, region_set, region_is_open, way_out, round_of}
use Rattle.theory.specs.PromotionBasics.{at_region, up_to}
use Rattle.theory.specs.Distance.{nearest}
use Rattle.theory.specs.AttractorRank.{Ranked}

-- p's player
abbrev pub mover : Regions → Player
mover s = parity s.current

-- the unsolved vertices
abbrev pub remaining : Game → Regions → Set
remaining g s = unsolved g s.region

-- the region that R is promoted to: the lowest above p among the ways out
abbrev pub promoted_to : Game → Regions → ℕ
promoted_to g s =
    lowest
    solved_region
    (λ q. ltb s.current q && some g.size (λ w. way_out g s (region_set g s) w && eqb (s.region w) q))

-- the attractor of R among the unsolved
abbrev pub dominion_set : Game → Regions → Set
dominion_set g s = attractor g (mover s) (remaining g s) (region_set g s)

-- R is attracted to region p of X: own vertices of R outside the old region p get the pull of a certificate for R by distances; those
-- of the old region p keep their entry, none or not; entries outside R stay
pub record AttractsEntries (g : Game) (X : Set) (r : ℕ → ℕ) (p : ℕ) (R : Set) (σ σ' : ℕ → ℕ) : Type 0 where
  pub certificate : Ranked g (parity p) (up_to X r p) (at_region X r p) R
  pub near :
      (v : ℕ) →
      R v ≡ true →
      at_region X r p v ≡ false →
      g.owner v ≡ parity p →
      certificate.pull v ≡ nearest g (parity p) (up_to X r p) (at_region X r p) v
  pub pulled :
      (v : ℕ) → R v ≡ true → at_region X r p v ≡ false → g.owner v ≡ parity p → σ' v ≡ certificate.pull v
  pub kept : (v : ℕ) → at_region X r p v ≡ true → g.owner v ≡ parity p → σ' v ≡ σ v
  pub elsewhere : (v : ℕ) → v < g.size → R v ≡ false → σ' v ≡ σ v

abbrev pub AttractedEntries : Game → Regions → (ℕ → ℕ) → (ℕ → ℕ) → Type 0
AttractedEntries g s = AttractsEntries g (remaining g s) s.region s.current (region_set g s)

-- R closes: a's vertices of R that have no entry take the lowest-numbered successor in R, the others keep theirs
pub record ClosesEntries (g : Game) (a : Player) (R : Set) (σ σ' : ℕ → ℕ) : Type 0 where
  pub given : (v : ℕ) → R v ≡ true → g.owner v ≡ a → (σ v ≡ no_entry → ⊥) → σ' v ≡ σ v
  pub filled : (v : ℕ) → R v ≡ true → g.owner v ≡ a → σ v ≡ no_entry → σ' v ≡ lowest_in g R v
  pub elsewhere : (v : ℕ) → v < g.size → R v ≡ false → σ' v ≡ σ v

-- R is promoted: entries of vertices whose region is reset become none, the others stay
pub record PromotedEntries (g : Game) (s : Regions) (σ σ' : ℕ → ℕ) : Type 0 where
  pub cleared :
      (v : ℕ) → remaining g s v ≡ true → region_set g s v ≡ false → s.region v < promoted_to g s → σ' v ≡ no_entry
  pub promoted : (v : ℕ) → region_set g s v ≡ true → σ' v ≡ σ v
  pub higher : (v : ℕ) → remaining g s v ≡ true → promoted_to g s ≤ s.region v → σ' v ≡ σ v
  pub solved : (v : ℕ) → v < g.size → remaining g s v ≡ false → σ' v ≡ σ v

-- R is a dominion, and D, its attractor among the unsolved, is solved: own vertices of D outside R get the pull of a certificate
-- for D by distances, entries of what stays unsolved become none, own entries of R and entries of what was solved before stay
pub record SolvedEntries (g : Game) (s : Regions) (σ σ' : ℕ → ℕ) : Type 0 where
  pub certificate : Ranked g (mover s) (remaining g s) (region_set g s) (dominion_set g s)
  pub near :
      (v : ℕ) →
      dominion_set g s v ≡ true →
      region_set g s v ≡ false →
      g.owner v ≡ mover s →
      certificate.pull v ≡ nearest g (mover s) (remaining g s) (region_set g s) v
  pub pulled :
      (v : ℕ) →
      dominion_set g s v ≡ true →
      region_set g s v ≡ false →
      g.owner v ≡ mover s →
      σ' v ≡ certificate.pull v
  pub kept : (v : ℕ) → region_set g s v ≡ true → g.owner v ≡ mover s → σ' v ≡ σ v
  pub cleared : (v : ℕ) → remaining g s v ≡ true → dominion_set g s v ≡ false → σ' v ≡ no_entry
  pub solved : (v : ℕ) → v < g.size → remaining g s v ≡ false → σ' v ≡ σ v

-- what one round may do to the entries, in each of its three cases
pub data RoundEntries (g : Game) (s : Regions) (σ : ℕ → ℕ) : (ℕ → ℕ) → Type 0 where
  opened :
      {σ' : ℕ → ℕ} → region_is_open g s (region_set g s) ≡ true → AttractedEntries g s σ σ' → RoundEntries g s σ σ'
  promotes :
      {σ₁ σ₂ σ' : ℕ → ℕ} →
      region_is_open g s (region_set g s) ≡ false →
      some g.size (way_out g s (region_set g s)) ≡ true →
      AttractedEntries g s σ σ₁ →
      ClosesEntries g (mover s) (region_set g s) σ₁ σ₂ →
      PromotedEntries g s σ₂ σ' →
      RoundEntries g s σ σ'
  solves :
      {σ₁ σ₂ σ' : ℕ → ℕ} →
      region_is_open g s (region_set g s) ≡ false →
      some g.size (way_out g s (region_set g s)) ≡ false →
      AttractedEntries g s σ σ₁ →
      ClosesEntries g (mover s) (region_set g s) σ₁ σ₂ →
      SolvedEntries g s σ₂ σ' →
      RoundEntries g s σ σ'

-- the states with entries that rounds can reach from the start, where no vertex has an entry
pub data Rounded (g : Game) : Regions → (ℕ → ℕ) → Type 0 where
  starts : {σ : ℕ → ℕ} → ((v : ℕ) → v < g.size → σ v ≡ no_entry) → Rounded g (at_start g) σ
  rounds : {s : Regions} {σ σ' : ℕ → ℕ} → Rounded g s σ → RoundEntries g s σ σ' → Rounded g (round_of g s) σ'
