-- What is left of V' when the attractor is taken away: a total rest stays total, no own vertex of it has an edge into the attractor, and
-- another's vertex of it has an edge inside V' that ends outside.
use Rattle.std.specs.Prelude.{true, false, ◌||◌, not, ◌≡◌, ℕ}
use Rattle.std.proofs.Math.Logic.{by_cases}
use Rattle.std.proofs.lemmas.Bool.{not-false}
use Rattle.rules.specs.Counting.{Set, every_of, without}
use Rattle.rules.specs.Game.{Player, Game, Edge}
use Rattle.rules.specs.Attractor.{Closed, IsAttractor}
use Rattle.basics.specs.Basics.{clash, not_true_is_false, every_of_elim, every_of_false, or_false_both}
use Rattle.theory.specs.Players.{player_decided}
use Rattle.basics.specs.Basics.{without_intro, without_left, without_right}
use Rattle.theory.specs.Attractor.{Draws, by_own, by_other, draws, drawn_so, draws_inside, Fits}

-- each vertex of V' has an edge that ends in V'
abbrev pub TotalIn : Game → Set → Type 0
TotalIn g V' = (v : ℕ) → V' v ≡ true → (w : ℕ) × Edge g v w × (V' w ≡ true)

module _ {g : Game} {a : Player} {V' T S : Set} (closed : Closed g a V' T S) where
  -- no own vertex outside has an edge into S
  pub own_stays_out : (v w : ℕ) → V' v ≡ true → S v ≡ false → g.owner v ≡ a → Edge g v w → S w ≡ false
  own_stays_out v w i n o e = not_true_is_false (S w) (λ s. clash (closed.attracted v (drawn_so v (by_own i o e s))) n)

  -- another's vertex outside that has an edge inside V' has one that ends outside S
  pub other_gets_out :
      (v w : ℕ) →
      V' v ≡ true →
      S v ≡ false →
      (g.owner v ≡ a → ⊥) →
      Edge g v w →
      V' w ≡ true →
      (u : ℕ) × Edge g v u × (V' u ≡ true) × (S u ≡ false)
  other_gets_out v w i n o e j =
      let (u, d, m) = every_of_false (g.targets v) (λ x. not (V' x) || S x) (not_true_is_false _ all_in) in
      let (k, s) = or_false_both (not (V' u)) (S u) m in
      (u, d, not-false (V' u) k, s)
    where
      all_in : every_of (g.targets v) (λ x. not (V' x) || S x) ≡ true → ⊥
      all_in all =
          clash
          (closed.attracted v
          (drawn_so v (by_other i o e j (λ x d k. rw k at (every_of_elim (g.targets v) _ all x d)))))
          n

  -- **where V' is total, each vertex of V' outside S has an edge inside V' that ends outside S**
  pub gets_out :
      TotalIn g V' →
      (v : ℕ) →
      V' v ≡ true →
      S v ≡ false →
      (u : ℕ) × Edge g v u × (V' u ≡ true) × (S u ≡ false)
  gets_out total v i n =
      let (w, e, j) = total v i in
      by_cases
      (player_decided (g.owner v) a)
      (λ o. (w, e, j, own_stays_out v w i n o e))
      (λ o. other_gets_out v w i n o e j)

  -- **so what is left of it is total**
  pub rest_total : TotalIn g V' → TotalIn g (without V' S)
  rest_total total v p =
      let (u, e, i, n) = gets_out total v (without_left V' S v p) (without_right V' S v p) in (u, e, without_intro V' S u i n)

-- **a trap that T misses is missed by the attractor**: D, whose a-vertices have no edge to the rest of V' and whose other vertices
-- have an edge that ends in D
pub trap_missed :
    {g : Game} {a : Player} {V' T S : Set} (D : Set) →
    IsAttractor g a V' T S →
    Fits g V' T →
    ((v : ℕ) → D v ≡ true → V' v ≡ true) →
    ((v : ℕ) → T v ≡ true → D v ≡ false) →
    ((v w : ℕ) → D v ≡ true → g.owner v ≡ a → Edge g v w → V' w ≡ true → D w ≡ true) →
    ((v : ℕ) → D v ≡ true → (g.owner v ≡ a → ⊥) → (w : ℕ) × Edge g v w × (D w ≡ true)) →
    (v : ℕ) →
    S v ≡ true →
    D v ≡ false
trap_missed {g} {a} {V'} {T} D is fits part apart kept leads v p =
    without_right V' D v
    (is.smallest
    (without V' D)
    (record {
      target = λ u t. without_intro V' D u (fits.part u t) (apart u t);
      attracted = λ u d. without_intro V' D u (draws_inside (draws u d)) (not_true_is_false (D u) (λ q. stuck u q (draws u d)));
    })
    v
    p)
  where
    stuck : (u : ℕ) → D u ≡ true → Draws g a V' (without V' D) u → ⊥
    stuck u q (by_own {w} i o e s) = clash (kept u w q o e (without_left V' D w s)) (without_right V' D w s)
    stuck u q (by_other i o e j all) =
        let (w, d, k) = leads u q o in clash k (without_right V' D w (all w d (part w k)))
