-- The attractor: what it is to be drawn in, that as many rounds as there are vertices give the smallest closed set,
-- and that there is only one such set.
use Rattle.std.proofs.Math.Bool.{true, not}
use Rattle.std.specs.Prelude.{false, ◌&&◌, ◌||◌, cond, ◌⊎◌, ◌≡◌}
use Rattle.std.proofs.Math.Logic.{inl, inr, ⊎_elim}
use Rattle.std.proofs.Common.{ap₂, ◌∙◌, le_of_suc-le-suc, eq-or-lt_of_le, arith}
use Rattle.std.proofs.Math.Path.{fun_ext}
use Prim.Native.Nat.{ℕ, zero, suc, ◌≤◌, ◌<◌, zero-le}
use Rattle.rules.specs.Counting.{Set, some_of, every_of, within}
use Rattle.rules.specs.Game.{Player, Game, Edge, same}
use Rattle.rules.specs.Attractor.{drawn, Closed, IsAttractor, grown, attractor}
use Rattle.basics.specs.Basics.{bool_cases, bool_ext, and_intro, and_left, and_right, or_left, or_right, or_cases}
use Rattle.theory.specs.Players.{same_true, same_false, true_same, false_same}
use Rattle.basics.specs.Basics.{some_of_intro, some_of_elim, every_of_intro, every_of_elim}
use Rattle.theory.specs.Rounds.{Settled, rounds_settle}
use Rattle.basics.specs.Basics.{within_below, within_member}

-- v may be drawn into S, with the edges that show it
pub data Draws (g : Game) (a : Player) (V' S : Set) (v : ℕ) : Type 0 where
  by_own : {w : ℕ} → V' v ≡ true → g.owner v ≡ a → Edge g v w → S w ≡ true → Draws g a V' S v
  by_other :
      {w : ℕ} →
      V' v ≡ true →
      (g.owner v ≡ a → ⊥) →
      Edge g v w →
      V' w ≡ true →
      ((u : ℕ) → Edge g v u → V' u ≡ true → S u ≡ true) →
      Draws g a V' S v

module _ {g : Game} {a : Player} {V' : Set} where
  -- the rule's test says so
  pub draws : {S : Set} (v : ℕ) → drawn g a V' S v ≡ true → Draws g a V' S v
  unfolding drawn
  draws {S} v p = ⊎_elim mine theirs (bool_cases (same (g.owner v) a))
    where
      inside : V' v ≡ true
      inside = and_left (V' v) _ p

      rule :
          cond
          (same (g.owner v) a)
          (some_of (g.targets v) S)
          (some_of (g.targets v) V' && every_of (g.targets v) (λ w. not (V' w) || S w)) ≡
          true
      rule = and_right (V' v) _ p

      mine : same (g.owner v) a ≡ true → Draws g a V' S v
      mine e =
          let (w, m, s) = some_of_elim (g.targets v) S (rw e at rule) in
          by_own inside (same_true (g.owner v) a e) m s

      theirs : same (g.owner v) a ≡ false → Draws g a V' S v
      theirs e =
          let both : (some_of (g.targets v) V' && every_of (g.targets v) (λ w. not (V' w) || S w)) ≡ true = rw e at rule in
          let (w, m, i) = some_of_elim (g.targets v) V' (and_left (some_of (g.targets v) V') _ both) in
          let all = every_of_elim (g.targets v) (λ w. not (V' w) || S w) (and_right (some_of (g.targets v) V') _ both) in
          by_other inside (same_false (g.owner v) a e) m i (λ u d j. rw j at (all u d))

  -- and the other way
  pub drawn_so : {S : Set} (v : ℕ) → Draws g a V' S v → drawn g a V' S v ≡ true
  unfolding drawn
  drawn_so {S} v (by_own i o d s) = rw (i, true_same (g.owner v) a o) (some_of_intro (g.targets v) S _ d s)
  drawn_so {S} v (by_other i o d j all) =
      rw (i, false_same (g.owner v) a o)
      (and_intro
      (some_of_intro (g.targets v) V' _ d j)
      (every_of_intro (g.targets v) (λ w. not (V' w) || S w) (λ u e. ⊎_elim (λ k. rw k (all u e k)) (λ k. rw k) (bool_cases (V' u)))))

  -- what is drawn into a set is drawn into one that holds as many of its targets, so into a larger one
  pub draws_along :
      {S S' : Set} {v : ℕ} → ((w : ℕ) → Edge g v w → S w ≡ true → S' w ≡ true) → Draws g a V' S v → Draws g a V' S' v
  draws_along more (by_own i o d s) = by_own i o d (more _ d s)
  draws_along more (by_other i o d j all) = by_other i o d j (λ u e k. more u e (all u e k))

  pub draws_more : {S S' : Set} {v : ℕ} → ((w : ℕ) → S w ≡ true → S' w ≡ true) → Draws g a V' S v → Draws g a V' S' v
  draws_more more = draws_along (λ w e. more w)

  -- what is drawn lies in V'
  pub draws_inside : {S : Set} {v : ℕ} → Draws g a V' S v → V' v ≡ true
  draws_inside (by_own i o d s) = i
  draws_inside (by_other i o d j all) = i

  -- of an own vertex that is drawn in some target is in, of another's each target in V', and there is one
  pub draws_own : {S : Set} {v : ℕ} → g.owner v ≡ a → Draws g a V' S v → some_of (g.targets v) S ≡ true
  draws_own {S} {v} mine (by_own i o d s) = some_of_intro (g.targets v) S _ d s
  draws_own {S} {v} mine (by_other i o d j all) = absurd (o mine)

  pub draws_all :
      {S : Set} {v : ℕ} → (g.owner v ≡ a → ⊥) → Draws g a V' S v → (w : ℕ) → Edge g v w → V' w ≡ true → S w ≡ true
  draws_all theirs (by_own i o d s) = absurd (theirs o)
  draws_all theirs (by_other i o d j all) = all

  pub draws_one : {S : Set} {v : ℕ} → (g.owner v ≡ a → ⊥) → Draws g a V' S v → (w : ℕ) × Edge g v w × (V' w ≡ true)
  draws_one theirs (by_own i o d s) = absurd (theirs o)
  draws_one theirs (by_other {w} i o d j all) = (w, d, j)

  -- so some target is in, whoever owns it
  pub draws_some : {S : Set} {v : ℕ} → Draws g a V' S v → (w : ℕ) × Edge g v w × (S w ≡ true)
  draws_some (by_own {w} i o d s) = (w, d, s)
  draws_some (by_other {w} i o d j all) = (w, d, all w d j)

-- a set worked out once holds its members below n, and no others
within_in : (n : ℕ) (S : Set) (v : ℕ) → v < n → S v ≡ true → within n S v ≡ true
within_in n S v l p = within_below n S v l ∙ p

-- the rounds
module _ (g : Game) (a : Player) (V' T : Set) where
  pub grown_below : (k v : ℕ) → grown g a V' T k v ≡ true → v < g.size
  unfolding grown
  grown_below zero v p = (within_member g.size _ v p).0
  grown_below (suc k) v p = (within_member g.size _ v p).0

  -- after no round there is T
  pub grown_zero : (v : ℕ) → grown g a V' T 0 v ≡ true → T v ≡ true
  unfolding grown
  grown_zero v p = (within_member g.size _ v p).1

  pub zero_grown : (v : ℕ) → v < g.size → T v ≡ true → grown g a V' T 0 v ≡ true
  unfolding grown
  zero_grown v l p = within_in g.size _ v l p

  -- a round keeps what was in, draws in whatever may be drawn, and nothing else
  pub grown_kept : (k v : ℕ) → grown g a V' T k v ≡ true → grown g a V' T (suc k) v ≡ true
  unfolding grown
  grown_kept k v p = within_in g.size _ v (grown_below k v p) (or_left (grown g a V' T k v) _ p)

  pub grown_draws : (k v : ℕ) → v < g.size → Draws g a V' (grown g a V' T k) v → grown g a V' T (suc k) v ≡ true
  unfolding grown
  grown_draws k v l d = within_in g.size _ v l (or_right (grown g a V' T k v) _ (drawn_so v d))

  pub grown_back :
      (k v : ℕ) →
      grown g a V' T (suc k) v ≡ true →
      (grown g a V' T k v ≡ true) ⊎ Draws g a V' (grown g a V' T k) v
  unfolding grown
  grown_back k v p =
      ⊎_elim inl (λ d. inr (draws v d)) (or_cases (grown g a V' T k v) _ (within_member g.size _ v p).1)

  -- what was in stays in
  pub grown_later : (j k v : ℕ) → j ≤ k → grown g a V' T j v ≡ true → grown g a V' T k v ≡ true
  grown_later j zero v l p = let e : j ≡ 0 = omega arith in rw e at p
  grown_later j (suc k) v l p =
      ⊎_elim (λ e. rw (← e) p) (λ less. grown_kept k v (grown_later j k v (le_of_suc-le-suc less) p)) (eq-or-lt_of_le l)

  -- T stays in
  pub grown_target : (k v : ℕ) → v < g.size → T v ≡ true → grown g a V' T k v ≡ true
  grown_target k v l p = grown_later 0 k v zero-le (zero_grown v l p)

  -- whatever closed set there is, no round leaves it
  pub grown_smallest : (S' : Set) → Closed g a V' T S' → (k v : ℕ) → grown g a V' T k v ≡ true → S' v ≡ true
  grown_smallest S' c zero v p = c.target v (grown_zero v p)
  grown_smallest S' c (suc k) v p =
      ⊎_elim
      (λ q. grown_smallest S' c k v q)
      (λ d. c.attracted v (drawn_so v (draws_more (λ w q. grown_smallest S' c k w q) d)))
      (grown_back k v p)

  settled_stays : (k : ℕ) → Settled (grown g a V' T) k → Settled (grown g a V' T) (suc k)
  settled_stays k s v p =
      ⊎_elim
      (λ q. q)
      (λ d. grown_draws k v (grown_below (suc (suc k)) v p) (draws_more s d))
      (grown_back (suc k) v p)

  -- after as many rounds as there are vertices it has settled
  attractor_settled : Settled (grown g a V' T) g.size
  attractor_settled = rounds_settle g.size (grown g a V' T) grown_below grown_kept settled_stays

-- T lies in V' and V' among the vertices
pub record Fits (g : Game) (V' T : Set) : Type 0 where
  pub part : (v : ℕ) → T v ≡ true → V' v ≡ true
  pub below : (v : ℕ) → V' v ≡ true → v < g.size

-- a set that is the attractor lies in V'
pub is_inside : {g : Game} {a : Player} {V' T S : Set} → Fits g V' T → IsAttractor g a V' T S → (v : ℕ) → S v ≡ true → V' v ≡ true
is_inside {V'} f is = is.smallest V' (record { target = f.part; attracted = λ w q. draws_inside (draws w q) })

module _ (g : Game) (a : Player) (V' T : Set) where
  -- the attractor lies among the vertices
  pub attractor_below : (v : ℕ) → attractor g a V' T v ≡ true → v < g.size
  unfolding attractor
  attractor_below = grown_below g a V' T g.size

  -- **the rounds give the attractor**: it holds T and what may be drawn into it, and lies in every set that does
  pub attractor_is : Fits g V' T → IsAttractor g a V' T (attractor g a V' T)
  unfolding attractor
  attractor_is f =
      record {
        closed =
            record {
              target = λ v p. grown_target g a V' T g.size v (f.below v (f.part v p)) p;
              attracted =
                  λ v p.
                  let d = draws v p in
                  attractor_settled g a V' T v (grown_draws g a V' T g.size v (f.below v (draws_inside d)) d);
            };
        smallest = λ S' c. grown_smallest g a V' T S' c g.size;
      }

  -- it lies in V'
  pub attractor_inside : Fits g V' T → (v : ℕ) → attractor g a V' T v ≡ true → V' v ≡ true
  attractor_inside f = is_inside f (attractor_is f)

-- there is one attractor
pub attractor_unique :
    {g : Game} {a : Player} {V' T S S' : Set} → IsAttractor g a V' T S → IsAttractor g a V' T S' → (v : ℕ) → S v ≡ S' v
attractor_unique {S} {S'} is is' v =
    bool_ext (S v) (S' v) (is.smallest S' is'.closed v) (is'.smallest S is.closed v)

-- the attractor depends on V' and T only by their members
pub attractor_same :
    (g : Game) (a : Player) {V' W' T T' : Set} →
    ((v : ℕ) → V' v ≡ W' v) →
    ((v : ℕ) → T v ≡ T' v) →
    (v : ℕ) →
    attractor g a V' T v ≡ attractor g a W' T' v
attractor_same g a p q v = ap₂ (λ (X Y : Set). attractor g a X Y v) (fun_ext p) (fun_ext q)
