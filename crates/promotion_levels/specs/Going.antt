-- A level begins: what that leaves of the tables and of what was won, and how its priority, R and the next level go together.
use Rattle.std.specs.Prelude.{Bool, true, false, ◌&&◌, not, List, ◌⊎◌, ◌≡◌, refl, ℕ, suc, ◌+◌, ◌≤◌, ◌<◌, eqb, length, get_or}
use Rattle.std.proofs.Common.{inl, inr, sym, ◌∙◌, le_refl, arith}
use Rattle.rules.specs.Game.{Even}
use Rattle.rules.specs.Tables.{words}
use Rattle.basics.specs.Greatest.{greatest_bounds, greatest_attained}
use Rattle.area.specs.Area.{entries, free}
use Rattle.attractor.specs.Attracted.{Listed, listed_kept}
use Rattle.priority_sets.specs.Sorting.{SetsOf}
use Rattle.promotion_places.specs.Layout.{held_at, won_at, depth_at, deep, end_at, level_in, held_in}
use Rattle.promotion_places.specs.Places.{sets_kept}
use Rattle.promotion_levels.specs.Descending.{Descended}

-- there is room for one level more than a vertex's
pub deeper : (n k : ℕ) → k < n → k < 256 → suc k + 2 ≤ deep n
unfolding deep
deeper n k l h = omega arith

-- of what a level has in its highest priority and what it has not
split : (a b : Bool) → (a && b) ≡ (a && not (a && not b))
split true true = refl
split true false = refl
split false b = refl

module _ (priorities offsets targets : List ℕ) {s k p : ℕ} {w0 w1 : List ℕ}
    (size : s ≡ words (length priorities))
    (room : end_at (length priorities) (length targets) s ≤ length w0)
    (c : Descended priorities (length targets) s k p w0 w1)
  where
    abbrev n : ℕ
    n = length priorities

    abbrev m : ℕ
    m = length targets

    -- the words of the tables and of the priorities' sets, and what was won
    low_words : (i : ℕ) → (i < entries n m) ⊎ ((free n m ≤ i) × (i < held_at n m s)) → get_or w1 i 0 ≡ get_or w0 i 0
    low_words i (inl l) =
        c.rest i (inl l) (inl (omega arith)) (λ e. omega arith) (λ e. omega arith) (inl (omega arith))
    low_words i (inr (low, high)) =
        c.rest i (inr (omega arith)) (inl high) (λ e. omega arith) (λ e. omega arith) (inl (omega arith))

    pub won_words : (i : ℕ) → won_at n m s Even ≤ i → i < depth_at n m s → get_or w1 i 0 ≡ get_or w0 i 0
    won_words i low high =
        c.rest i (inr (omega arith)) (inr (omega arith)) (λ e. omega arith) (λ e. omega arith) (inl (omega arith))

    pub listed_again : Listed n offsets targets w0 → Listed n offsets targets w1
    listed_again h = listed_kept n offsets targets w0 w1 c.long (λ i l. low_words i (inl (omega arith))) h

    pub sorted_again : SetsOf n priorities n (free n m) w0 → SetsOf n priorities n (free n m) w1
    sorted_again h =
        sets_kept n (free n m) priorities w0 w1 (λ i low high. low_words i (inr (low, omega (arith, size)))) h

    pub last_is :
        (v : ℕ) →
        level_in n m s w1 (suc k) v ≡ (level_in n m s w0 k v && not (eqb (get_or priorities v 0) p))
    last_is v = let e : k + 1 ≡ suc k = omega arith in rw e at (c.last v)

    pub held_again : (v : ℕ) → held_in n m s w1 v ≡ (level_in n m s w1 k v && not (level_in n m s w1 (suc k) v))
    held_again v =
        c.region v ∙ split (level_in n m s w0 k v) (eqb (get_or priorities v 0) p) ∙
        sym (rw (c.levels k v (le_refl k), last_is v))

    -- the highest priority of the level
    pub most_is : (v : ℕ) → v < n → level_in n m s w0 k v ≡ true → get_or priorities v 0 ≤ p
    most_is v l i =
        rw c.highest (greatest_bounds n (level_in n m s w0 k) (λ u. get_or priorities u 0) v l i)

    pub met_is :
        (u : ℕ) → u < n → level_in n m s w0 k u ≡ true →
        (v : ℕ) × (level_in n m s w0 k v ≡ true) × (get_or priorities v 0 ≡ p)
    met_is u l i =
        let x = greatest_attained n (level_in n m s w0 k) (λ v. get_or priorities v 0) u l i in
        (x.0, x.2, x.3 ∙ sym c.highest)
