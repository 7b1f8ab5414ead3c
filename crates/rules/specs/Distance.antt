-- A4: how far each member of an attractor is from the target, and the one entry that this fixes for each vertex.
use Rattle.std.specs.Prelude.{true, false, ◌&&◌, not, cond, List, [], ◌∷◌, ◌≡◌, ℕ, suc, min, max, ◌<◌, eqb}
use Rattle.rules.specs.Counting.{Set, some_of, lowest, noted}
use Rattle.rules.specs.Game.{Player, Game, same}
use Rattle.rules.specs.Attractor.{grown, attractor}
use Rattle.rules.specs.Words.{no_entry}

-- the distance of a vertex outside the result
abbrev pub outside : ℕ
outside = 65535

-- the least number that f gives to an entry of the list in S; 65,535 where there is none
unfoldable pub least_of : List ℕ → Set → (ℕ → ℕ) → ℕ
least_of [] S f = outside
least_of (w ∷ ws) S f = cond (S w) (min (f w) (least_of ws S f)) (least_of ws S f)

-- the greatest number that f gives to an entry of the list in S; 0 where there is none
unfoldable pub greatest_of : List ℕ → Set → (ℕ → ℕ) → ℕ
greatest_of [] S f = 0
greatest_of (w ∷ ws) S f = cond (S w) (max (f w) (greatest_of ws S f)) (greatest_of ws S f)

-- d is the distance in S, the attractor of T in V for a: 0 in the target; for a's own vertex one more than the least over its
-- successors in S; for an opponent's, one more than the greatest over its successors in V; outside S 65,535
pub record IsDistance (g : Game) (a : Player) (V' T S : Set) (d : ℕ → ℕ) : Type 0 where
  pub target : (v : ℕ) → v < g.size → T v ≡ true → d v ≡ 0
  pub own :
      (v : ℕ) →
      v < g.size →
      S v ≡ true →
      T v ≡ false →
      g.owner v ≡ a →
      d v ≡ suc (least_of (g.targets v) S d)
  pub other :
      (v : ℕ) →
      v < g.size →
      S v ≡ true →
      T v ≡ false →
      (g.owner v ≡ a → ⊥) →
      d v ≡ suc (greatest_of (g.targets v) V' d)
  pub beyond : (v : ℕ) → S v ≡ false → d v ≡ outside

-- by rounds: the first after which the vertex is there
unfoldable pub distance : Game → Player → Set → Set → ℕ → ℕ
distance g a V' T =
    let S = attractor g a V' T in
    noted outside g.size (λ v. cond (S v) (lowest g.size (λ k. grown g a V' T k v)) outside)

-- the lowest-numbered successor of v in S, by which the entry is chosen where any would do
unfoldable pub lowest_in : Game → Set → ℕ → ℕ
lowest_in g S v = lowest g.size (λ w. S w && some_of (g.targets v) (eqb w))

-- the entry of a's own vertex in the result outside the target is its lowest-numbered successor of least distance in the
-- result; every other entry is none
unfoldable pub attractor_entry : Game → Player → Set → Set → ℕ → ℕ
attractor_entry g a V' T =
    let S = attractor g a V' T in
    let d = distance g a V' T in
    noted no_entry g.size
    (λ v.
    cond (S v && not (T v) && same (g.owner v) a)
    (lowest_in g (λ w. S w && eqb (d w) (least_of (g.targets v) S d)) v)
    no_entry)
