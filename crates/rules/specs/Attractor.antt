-- The attractor of T in V for player a: as the smallest set, by rounds that compute it, and its looks. Going by steps, and what entries
-- lead to, are theory (`theory/specs/Steps.antt`, `theory/specs/Arriving.antt`).
use Rattle.std.specs.Prelude.{true, ◌&&◌, ◌||◌, not, cond, List, ◌≡◌, ℕ, zero, suc, ◌+◌, ◌*◌, ltb}
use Rattle.rules.specs.Counting.{Set, some_of, every_of, times, within}
use Rattle.rules.specs.Game.{Player, Game, edges, same}
use Rattle.rules.specs.Outcome.{Verdict, given_at}
use Rattle.rules.specs.Tables.{words}
use Rattle.rules.specs.Words.{set_of}

-- v may be drawn into S: an a-vertex of V with an edge into S, or another vertex of V that has an edge inside V and all such
-- edges into S
unfoldable pub drawn : Game → Player → Set → Set → Set
drawn g a V' S v =
    V' v &&
    cond (same (g.owner v) a)
    (some_of (g.targets v) S)
    (some_of (g.targets v) V' && every_of (g.targets v) (λ w. not (V' w) || S w))

-- S holds T and every vertex that may be drawn into it
pub record Closed (g : Game) (a : Player) (V' T S : Set) : Type 0 where
  pub target : (v : ℕ) → T v ≡ true → S v ≡ true
  pub attracted : (v : ℕ) → drawn g a V' S v ≡ true → S v ≡ true

-- S is the attractor: the smallest set that is closed
pub record IsAttractor (g : Game) (a : Player) (V' T S : Set) : Type 0 where
  pub closed : Closed g a V' T S
  pub smallest : (S' : Set) → Closed g a V' T S' → (v : ℕ) → S v ≡ true → S' v ≡ true

-- T after k rounds, each of which draws in every vertex that may be drawn
unfoldable pub grown : Game → Player → Set → Set → ℕ → Set
grown g a V' T zero = within g.size T
grown g a V' T (suc k) =
    let before = grown g a V' T k in within g.size (λ v. before v || drawn g a V' before v)

-- as many rounds as there are vertices are enough
unfoldable pub attractor : Game → Player → Set → Set → Set
attractor g a V' T = grown g a V' T g.size

-- the sources are the predecessor entries of w: v once for each edge from v to w
abbrev pub Sources : Game → ℕ → List ℕ → Type 0
Sources g w sources = (v : ℕ) → times v sources ≡ edges g v w

-- how many edges end in w
unfoldable pub indegree : Game → ℕ → ℕ
indegree g w = total g.size
  where
    total : ℕ → ℕ
    total zero = 0
    total (suc v) = total v + edges g v w

-- looks: the number of entries met when no member is left, which is the number of edges that end in the attractor
unfoldable pub looks_of : Game → Set → ℕ
looks_of g S = total g.size
  where
    total : ℕ → ℕ
    total zero = 0
    total (suc w) = total w + cond (S w) (indegree g w) 0

-- 12: a bit at n or above in V or target, or a target bit not in V, at the lowest such bit
unfoldable pub check12 : ℕ → List ℕ → List ℕ → Verdict
check12 n V' T =
    given_at 12 (64 * words n)
    (λ b. cond (ltb b n) (set_of T b && not (set_of V' b)) (set_of V' b || set_of T b))
