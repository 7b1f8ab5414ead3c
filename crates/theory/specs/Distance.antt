-- Distances in an attractor: the rules' rounds meet the equations, which have one solution; the members within distance k are what k
-- rounds gave; and which distance and which entry a vertex has that is drawn in.
use Rattle.std.specs.Prelude.{true, false, ◌&&◌, ◌≡◌, ℕ, zero, suc, pred, ◌≤◌, ◌<◌, eqb}
use Rattle.std.proofs.Math.Bool.{not}
use mathlib.Core.List.Memᴰ
use mathlib.Core.List.{List, [], ◌∷◌, Memᴰ}
use Rattle.std.proofs.Math.Logic.{⊎_elim, by_cases}
use Rattle.std.proofs.Math.Path.{refl}
use Rattle.std.proofs.Common.{sym, ap, ◌∙◌, zero-le, le_refl, arith}
use borrow.Author.Tests.{eqb-true, eq-eqb, not-true}
use Rattle.rules.specs.Counting.{Set, some, some_of, lowest}
use Rattle.rules.specs.Game.{Player, Game, Edge, same}
use Rattle.rules.specs.Words.{no_entry}
use Rattle.rules.specs.Attractor.{grown, attractor}
use Rattle.rules.specs.Distance.{outside, least_of, greatest_of, IsDistance, distance, lowest_in, attractor_entry}
use Rattle.basics.specs.Basics.{bool_cases, clash}
use Rattle.basics.specs.Basics.{not_true_is_false, and_intro, and_left, and_right, lt_or_ge}
use Rattle.theory.specs.Players.{player_decided}
use Rattle.theory.specs.Players.{same_true, true_same}
use Rattle.basics.specs.Basics.{some_intro, some_elim, some_false, some_of_intro, some_of_elim}
use Rattle.basics.specs.Basics.{IsLowest, lowest_none, lowest_found, below_lowest, lowest_unique, le_of_not_lt, pigeonhole}
use Rattle.basics.specs.Basics.{noted_below, noted_above}
use Rattle.theory.specs.Attractor.{Draws, by_own, by_other, draws_more, draws_own, draws_all, draws_one, draws_some, Fits}
use Rattle.theory.specs.Attractor.{grown_zero, zero_grown, grown_back, grown_draws, grown_later, grown_smallest}
use Rattle.theory.specs.Attractor.{attractor_is, attractor_below, attractor_inside}

-- the least and the greatest over the entries of a list in S

pub least_le : (xs : List ℕ) (S : Set) (f : ℕ → ℕ) (w : ℕ) → Memᴰ w xs → S w ≡ true → least_of xs S f ≤ f w
unfolding least_of
least_le [] S f w m p = elim m [ ]
least_le (x ∷ xs) S f w (Memᴰ.head e) p =
    let here : S x ≡ true = ap S (sym e) ∙ p in let same_at = ap f e in rw here (omega arith)
least_le (x ∷ xs) S f w (Memᴰ.tail m) p =
    let rest = least_le xs S f w m p in
    ⊎_elim (λ q. rw q (omega arith)) (λ q. rw q rest) (bool_cases (S x))

pub least_ge :
    (xs : List ℕ) (S : Set) (f : ℕ → ℕ) (k : ℕ) →
    k ≤ outside →
    ((w : ℕ) → Memᴰ w xs → S w ≡ true → k ≤ f w) →
    k ≤ least_of xs S f
unfolding least_of
least_ge [] S f k l all = l
least_ge (x ∷ xs) S f k l all =
    let rest = least_ge xs S f k l (λ w m. all w (Memᴰ.tail m)) in
    ⊎_elim
    (λ q. let here = all x (Memᴰ.head refl) q in rw q (omega arith))
    (λ q. rw q rest)
    (bool_cases (S x))

pub greatest_ge : (xs : List ℕ) (S : Set) (f : ℕ → ℕ) (w : ℕ) → Memᴰ w xs → S w ≡ true → f w ≤ greatest_of xs S f
unfolding greatest_of
greatest_ge [] S f w m p = elim m [ ]
greatest_ge (x ∷ xs) S f w (Memᴰ.head e) p =
    let here : S x ≡ true = ap S (sym e) ∙ p in let same_at = ap f e in rw here (omega arith)
greatest_ge (x ∷ xs) S f w (Memᴰ.tail m) p =
    let rest = greatest_ge xs S f w m p in
    ⊎_elim (λ q. rw q (omega arith)) (λ q. rw q rest) (bool_cases (S x))

pub greatest_le :
    (xs : List ℕ) (S : Set) (f : ℕ → ℕ) (k : ℕ) →
    ((w : ℕ) → Memᴰ w xs → S w ≡ true → f w ≤ k) →
    greatest_of xs S f ≤ k
unfolding greatest_of
greatest_le [] S f k all = zero-le
greatest_le (x ∷ xs) S f k all =
    let rest = greatest_le xs S f k (λ w m. all w (Memᴰ.tail m)) in
    ⊎_elim
    (λ q. let here = all x (Memᴰ.head refl) q in rw q (omega arith))
    (λ q. rw q rest)
    (bool_cases (S x))

-- the greatest depends on what f gives to those entries, and is beyond k where that is so
pub greatest_cong :
    (xs : List ℕ) (S : Set) (f h : ℕ → ℕ) →
    ((w : ℕ) → Memᴰ w xs → S w ≡ true → f w ≡ h w) →
    greatest_of xs S f ≡ greatest_of xs S h
unfolding greatest_of
greatest_cong [] S f h agree = refl
greatest_cong (x ∷ xs) S f h agree =
    let rest = greatest_cong xs S f h (λ w m. agree w (Memᴰ.tail m)) in
    ⊎_elim
    (λ q. let here = agree x (Memᴰ.head refl) q in rw q (omega arith))
    (λ q. rw q rest)
    (bool_cases (S x))

pub greatest_far :
    (xs : List ℕ) (S : Set) (f h : ℕ → ℕ) (k : ℕ) →
    ((w : ℕ) → Memᴰ w xs → S w ≡ true → k < f w → k < h w) →
    k < greatest_of xs S f →
    k < greatest_of xs S h
greatest_far xs S f h k further far =
    ⊎_elim
    (λ less. less)
    (λ near.
    let low =
    greatest_le xs S f k
    (λ w m p.
    le_of_not_lt
    (λ less. let beyond = further w m p less in let most = greatest_ge xs S h w m p in omega arith)) in
    absurd (omega arith))
    (lt_or_ge k (greatest_of xs S h))

-- the lowest-numbered successor in S

module _ (g : Game) (S : Set) (v : ℕ) where
  -- the rules' test
  abbrev Meets : Set
  Meets w = S w && some_of (g.targets v) (eqb w)

  meets_intro : (w : ℕ) → Edge g v w → S w ≡ true → Meets w ≡ true
  meets_intro w e p = and_intro p (some_of_intro (g.targets v) (eqb w) w e (eq-eqb w w refl))

  meets_edge : (w : ℕ) → Meets w ≡ true → Edge g v w
  meets_edge w p =
      let (u, m, e) = some_of_elim (g.targets v) (eqb w) (and_right (S w) _ p) in Memᴰ.cast (eqb-true w u e) m

  -- where there is one, it is one
  pub lowest_in_found :
      (w : ℕ) → w < g.size → Edge g v w → S w ≡ true → Edge g v (lowest_in g S v) × (S (lowest_in g S v) ≡ true)
  unfolding lowest_in
  lowest_in_found w l e p =
      let found = lowest_found g.size Meets (some_intro g.size Meets w l (meets_intro w e p)) in
      (meets_edge _ found.passes, and_left (S (lowest g.size Meets)) _ found.passes)

  -- and a successor in S below which there is no other is it
  pub lowest_in_is :
      (w : ℕ) →
      w < g.size →
      Edge g v w →
      S w ≡ true →
      ((u : ℕ) → u < w → Edge g v u → S u ≡ true → ⊥) →
      lowest_in g S v ≡ w
  unfolding lowest_in
  lowest_in_is w l e p first =
      lowest_unique g.size Meets w
      (record {
        below = l;
        passes = meets_intro w e p;
        first = λ u less. not_true_is_false (Meets u) (λ q. first u less (meets_edge u q) (and_left (S u) _ q));
      })

-- the members at distance k
abbrev pub at_distance : Game → Player → Set → Set → ℕ → Set
at_distance g a V' T k w = attractor g a V' T w && eqb (distance g a V' T w) k

-- the lowest-numbered successor that is nearer by one
unfoldable pub nearest : Game → Player → Set → Set → ℕ → ℕ
nearest g a V' T v = lowest_in g (at_distance g a V' T (pred (distance g a V' T v))) v

module _ (g : Game) (a : Player) (V' T : Set) (fits : Fits g V' T) where
  abbrev S : Set
  S = attractor g a V' T

  abbrev d : ℕ → ℕ
  d = distance g a V' T

  -- outside the attractor
  pub distance_outside : (v : ℕ) → S v ≡ false → d v ≡ outside
  unfolding distance
  distance_outside v out =
      ⊎_elim
      (λ l. noted_below outside g.size _ v l ∙ rw out)
      (λ l. noted_above outside g.size _ v l)
      (lt_or_ge v g.size)

  -- a member's is the first round after which it is there
  first_round : (v : ℕ) → S v ≡ true → d v ≡ lowest g.size (λ k. grown g a V' T k v)
  unfolding distance
  first_round v p = noted_below outside g.size _ v (attractor_below g a V' T v p) ∙ rw p

  -- and no later round than the last
  there_at : (v : ℕ) → S v ≡ true → grown g a V' T (lowest g.size (λ k. grown g a V' T k v)) v ≡ true
  unfolding attractor
  there_at v p =
      ⊎_elim
      (λ q. (lowest_found g.size _ q).passes)
      (λ q. rw (lowest_none g.size (λ k. grown g a V' T k v) q) p)
      (bool_cases (some g.size (λ k. grown g a V' T k v)))

  -- **the members within distance k are what k rounds gave**
  pub grown_near : (k v : ℕ) → grown g a V' T k v ≡ true → (S v ≡ true) × (d v ≤ k)
  grown_near k v p = (member, let e = first_round v member in let l = low in omega arith)
    where
      member : S v ≡ true
      member = grown_smallest g a V' T S (attractor_is g a V' T fits).closed k v p

      low : lowest g.size (λ j. grown g a V' T j v) ≤ k
      low = le_of_not_lt (λ less. clash p (below_lowest g.size (λ j. grown g a V' T j v) k less))

  pub near_grown : (k v : ℕ) → S v ≡ true → d v ≤ k → grown g a V' T k v ≡ true
  near_grown k v p l = grown_later g a V' T _ k v (rw (first_round v p) at l) (there_at v p)

  -- so no member is further than there are vertices (nor as far: see below)
  distance_most : (v : ℕ) → S v ≡ true → d v ≤ g.size
  unfolding attractor
  distance_most v p = (grown_near g.size v p).1

  -- what is drawn to the members within distance k is a member within distance k + 1
  pub drawn_near : (k v : ℕ) → v < g.size → Draws g a V' (grown g a V' T k) v → (S v ≡ true) × (d v ≤ suc k)
  drawn_near k v l draw = grown_near (suc k) v (grown_draws g a V' T k v l draw)

  -- T has distance 0, and a member outside T was drawn to those that are nearer
  pub distance_target : (v : ℕ) → T v ≡ true → d v ≡ 0
  distance_target v t =
      let l = (grown_near 0 v (zero_grown g a V' T v (fits.below v (fits.part v t)) t)).1 in omega arith

  pub distance_draws : (v : ℕ) → S v ≡ true → T v ≡ false → (k : ℕ) × (d v ≡ suc k) × Draws g a V' (grown g a V' T k) v
  distance_draws v p t = go (d v) refl
    where
      go : (r : ℕ) → d v ≡ r → (k : ℕ) × (d v ≡ suc k) × Draws g a V' (grown g a V' T k) v
      go zero e = absurd (clash (grown_zero g a V' T v (near_grown 0 v p (omega arith))) t)
      go (suc k) e =
          ⊎_elim
          (λ q. let l = (grown_near k v q).1 in absurd (omega arith))
          (λ draw. (k, e, draw))
          (grown_back g a V' T k v (near_grown (suc k) v p (omega arith)))

  -- no own vertex of V is further than one more than a successor in the attractor
  pub own_near : (v w : ℕ) → V' v ≡ true → g.owner v ≡ a → Edge g v w → S w ≡ true → (S v ≡ true) × (d v ≤ suc (d w))
  own_near v w i o e p =
      drawn_near (d w) v (fits.below v i) (by_own i o e (near_grown (d w) w p (le_refl (d w))))

  -- the least over an own member's successors, where it is one less
  own_least : (v k : ℕ) → S v ≡ true → T v ≡ false → g.owner v ≡ a → k ≤ outside → d v ≡ suc k → least_of (g.targets v) S d ≡ k
  own_least v k p t o l e =
      let (j, f, draw) = distance_draws v p t in
      let (w, m, q) = some_of_elim (g.targets v) (grown g a V' T j) (draws_own o draw) in
      let (s, near) = grown_near j w q in
      let most = least_le (g.targets v) S d w m s in
      let least =
      least_ge (g.targets v) S d k l
      (λ u n r. let far = (own_near v u (attractor_inside g a V' T fits v p) o n r).1 in omega arith) in
      omega arith

  -- an own vertex of V outside T whose nearest successor in the attractor is at k joins at k + 1
  pub own_joins :
      (v w : ℕ) →
      V' v ≡ true →
      T v ≡ false →
      g.owner v ≡ a →
      Edge g v w →
      S w ≡ true →
      ((u : ℕ) → Edge g v u → S u ≡ true → d w ≤ d u) →
      (S v ≡ true) × (d v ≡ suc (d w))
  own_joins v w i t o e p least =
      let (s, near) = own_near v w i o e p in
      let (k, f, draw) = distance_draws v s t in
      let (u, m, q) = some_of_elim (g.targets v) (grown g a V' T k) (draws_own o draw) in
      let (r, l) = grown_near k u q in
      let far = least u m r in
      (s, omega arith)

  -- another's vertex of V outside T whose successors in V are all members, the last at k, joins at k + 1
  pub other_joins :
      (v w : ℕ) →
      V' v ≡ true →
      T v ≡ false →
      (g.owner v ≡ a → ⊥) →
      Edge g v w →
      V' w ≡ true →
      ((u : ℕ) → Edge g v u → V' u ≡ true → (S u ≡ true) × (d u ≤ d w)) →
      (S v ≡ true) × (d v ≡ suc (d w))
  other_joins v w i t o e j all =
      let (s, near) =
      drawn_near (d w) v (fits.below v i) (by_other i o e j (λ u n r. let (q, l) = all u n r in near_grown (d w) u q l)) in
      let (k, f, draw) = distance_draws v s t in
      let far = (grown_near k w (draws_all o draw w e j)).1 in
      (s, omega arith)

  -- **the rules' distance meets the equations**, where no vertex is as far as 65,535
  pub distance_is : g.size ≤ outside → IsDistance g a V' T S d
  distance_is few =
      record {
        target = λ v l t. distance_target v t;
        own =
            λ v l p t o.
            let (k, e, draw) = distance_draws v p t in
            let most = distance_most v p in
            let least = own_least v k p t o (omega arith) e in
            omega arith;
        other =
            λ v l p t o.
            let (k, e, draw) = distance_draws v p t in
            let (w, m, i) = draws_one o draw in
            let top = greatest_of (g.targets v) V' d in
            let low = greatest_le (g.targets v) V' d k (λ u n j. (grown_near k u (draws_all o draw u n j)).1) in
            let near =
            (drawn_near top v l
            (by_other (attractor_inside g a V' T fits v p) o m i
            (λ u n j.
            near_grown top u (grown_near k u (draws_all o draw u n j)).0 (greatest_ge (g.targets v) V' d u n j)))).1 in
            omega arith;
        beyond = λ v out. distance_outside v out;
      }

  -- what meets them is the rules' distance: within k rounds the same, and beyond k where that is
  module _ (few : g.size ≤ outside) {d' : ℕ → ℕ} (is : IsDistance g a V' T S d') where
    abbrev Agrees : ℕ → Type 0
    Agrees k = (v : ℕ) → S v ≡ true → (d v ≤ k → d' v ≡ d v) × (k < d v → k < d' v)

    below_size : (v : ℕ) → S v ≡ true → v < g.size
    below_size = attractor_below g a V' T

    agrees_next : (k : ℕ) → Agrees k → Agrees (suc k)
    agrees_next k before v p = ⊎_elim at_target outside_target (bool_cases (T v))
      where
        at_target : T v ≡ true → (d v ≤ suc k → d' v ≡ d v) × (suc k < d v → suc k < d' v)
        at_target t =
            let e = distance_target v t in let e' = is.target v (below_size v p) t in
            (λ l. omega arith, λ l. absurd (omega arith))

        outside_target : T v ≡ false → (d v ≤ suc k → d' v ≡ d v) × (suc k < d v → suc k < d' v)
        outside_target t = by_cases (player_decided (g.owner v) a) mine theirs
          where
            mine : g.owner v ≡ a → (d v ≤ suc k → d' v ≡ d v) × (suc k < d v → suc k < d' v)
            mine o =
                let (j, e, draw) = distance_draws v p t in
                let e' = is.own v (below_size v p) p t o in
                let most = distance_most v p in
                let (w, m, q) = some_of_elim (g.targets v) (grown g a V' T j) (draws_own o draw) in
                let (s, near) = grown_near j w q in
                let le' = least_le (g.targets v) S d' w m s in
                let far = (own_near v w (attractor_inside g a V' T fits v p) o m s).1 in (
                  (λ l.
                      let at-w = (before w s).0 (omega arith) in
                      let ge' =
                      least_ge (g.targets v) S d' j (omega arith)
                      (λ u n r.
                      let far-u = (own_near v u (attractor_inside g a V' T fits v p) o n r).1 in
                      ⊎_elim
                      (λ less. let beyond = (before u r).1 less in omega arith)
                      (λ near-u. let same-u = (before u r).0 near-u in omega arith)
                      (lt_or_ge k (d u))) in
                      omega arith),
                  (λ l.
                      let ge' =
                      least_ge (g.targets v) S d' (suc k) (omega arith)
                      (λ u n r.
                      let far-u = (own_near v u (attractor_inside g a V' T fits v p) o n r).1 in
                      (before u r).1 (omega arith)) in
                      omega arith),
                )

            theirs : (g.owner v ≡ a → ⊥) → (d v ≤ suc k → d' v ≡ d v) × (suc k < d v → suc k < d' v)
            theirs o =
                let e = (distance_is few).other v (below_size v p) p t o in
                let e' = is.other v (below_size v p) p t o in
                let (j, f, draw) = distance_draws v p t in (
                  (λ l.
                      let same_all =
                      greatest_cong (g.targets v) V' d' d
                      (λ u n i.
                      let (s, near) = grown_near j u (draws_all o draw u n i) in (before u s).0 (omega arith)) in
                      omega arith),
                  (λ l.
                      let most = distance_most v p in
                      let beyond = greatest_far (g.targets v) V' d d' k
                      (λ u n i. let (s, near) = grown_near j u (draws_all o draw u n i) in (before u s).1) (omega arith) in
                      omega arith),
                )

    agrees : (k : ℕ) → Agrees k
    agrees zero v p =
        ⊎_elim
        (λ t.
        let e = distance_target v t in
        let e' = is.target v (below_size v p) t in
        (λ l. omega arith, λ l. absurd (omega arith)))
        (λ t.
        let (j, e, draw) = distance_draws v p t in (
          λ l. absurd (omega arith),
          λ l.
              by_cases
              (player_decided (g.owner v) a)
              (λ o. let e' = is.own v (below_size v p) p t o in omega arith)
              (λ o. let e' = is.other v (below_size v p) p t o in omega arith),
        ))
        (bool_cases (T v))
    agrees (suc k) v p = agrees_next k (agrees k) v p

    pub distance_unique : (v : ℕ) → d' v ≡ d v
    distance_unique v =
        ⊎_elim
        (λ p. (agrees (d v) v p).0 (le_refl (d v)))
        (λ p. is.beyond v p ∙ sym (distance_outside v p))
        (bool_cases (S v))

  -- **two functions that meet the equations agree on every vertex**
  pub distance_one :
      g.size ≤ outside →
      {d₁ d₂ : ℕ → ℕ} →
      IsDistance g a V' T S d₁ →
      IsDistance g a V' T S d₂ →
      (v : ℕ) →
      d₁ v ≡ d₂ v
  distance_one few is₁ is₂ v = distance_unique few is₁ v ∙ sym (distance_unique few is₂ v)

  -- below a member at k + 1 there is a member at k
  one_nearer : (k v : ℕ) → S v ≡ true → d v ≡ suc k → (w : ℕ) × (S w ≡ true) × (d w ≡ k)
  one_nearer k v p e =
      ⊎_elim
      (λ q.
      let (w, l, r) = some_elim g.size layer q in
      (w, and_left (S w) _ r, eqb-true (d w) k (and_right (S w) _ r)))
      (λ q. absurd (gap k refl q))
      (bool_cases (some g.size layer))
    where
      layer : Set
      layer w = S w && eqb (d w) k

      out : T v ≡ false
      out = not_true_is_false (T v) (λ t. let z = distance_target v t in omega arith)

      nearer : some g.size layer ≡ false → (w : ℕ) → grown g a V' T k w ≡ true → d w < k
      nearer none w q =
          let (s, l) = grown_near k w q in
          let differs : d w ≡ k → ⊥ =
          λ same_at.
          clash (and_intro s (eq-eqb (d w) k same_at)) (some_false g.size layer none w (attractor_below g a V' T w s)) in
          omega arith

      gap : (j : ℕ) → k ≡ j → some g.size layer ≡ false → ⊥
      gap zero z none =
          let (i, f, draw) = distance_draws v p out in
          let (w, m, q) = draws_some draw in
          let (s, near) = grown_near i w q in
          let l = nearer none w (near_grown k w s (omega arith)) in
          omega arith
      gap (suc j) z none =
          let (i, f, draw) = distance_draws v p out in
          let same_at : i ≡ k = omega arith in
          let less =
          (drawn_near j v (attractor_below g a V' T v p)
          (draws_more
          (λ w q. let l = nearer none w (rw same_at at q) in near_grown j w (grown_near i w q).0 (omega arith))
          draw)).1 in
          omega arith

  -- and so at every number below it
  all_nearer : (k v : ℕ) → S v ≡ true → d v ≡ k → (j : ℕ) → j ≤ k → (w : ℕ) × (S w ≡ true) × (d w ≡ j)
  all_nearer zero v p e j l = (v, p, omega arith)
  all_nearer (suc k) v p e j l =
      ⊎_elim
      (λ less. let (w, q, f) = one_nearer k v p e in all_nearer k w q f j (omega arith))
      (λ more. (v, p, omega arith))
      (lt_or_ge j (suc k))

  -- **every distance is below the number of vertices**
  pub distance_low : (v : ℕ) → S v ≡ true → d v < g.size
  distance_low v p = ⊎_elim (λ l. l) (λ l. absurd (too_many l)) (lt_or_ge (d v) g.size)
    where
      layer : ℕ → Set
      layer k w = S w && eqb (d w) k

      too_many : g.size ≤ d v → ⊥
      too_many far =
          let (i, j, less, top, e) = pigeonhole g.size (λ k. lowest g.size (layer k)) (λ k l. (found k l).below) in
          let at_i = at_layer i (omega arith) in
          let at_j = at_layer j top in
          let e' = ap d e in
          omega arith
        where
          found : (k : ℕ) → k ≤ g.size → IsLowest g.size (layer k) (lowest g.size (layer k))
          found k l =
              let (w, q, f) = all_nearer (d v) v p refl k (omega arith) in
              lowest_found g.size (layer k)
              (some_intro g.size (layer k) w (attractor_below g a V' T w q) (and_intro q (eq-eqb (d w) k f)))

          at_layer : (k : ℕ) → k ≤ g.size → d (lowest g.size (layer k)) ≡ k
          at_layer k l = eqb-true _ k (and_right (S (lowest g.size (layer k))) _ (found k l).passes)

  -- **the entry of an own member at k + 1 outside T: its lowest-numbered successor at k**
  pub entry_at :
      g.size ≤ outside →
      (v k : ℕ) →
      S v ≡ true →
      T v ≡ false →
      g.owner v ≡ a →
      d v ≡ suc k →
      attractor_entry g a V' T v ≡ lowest_in g (at_distance g a V' T k) v
  unfolding attractor_entry
  entry_at few v k p t o e =
      let most = distance_most v p in
      noted_below no_entry g.size _ v (attractor_below g a V' T v p) ∙
      rw (p, t, true_same (g.owner v) a o, own_least v k p t o (omega arith) e) refl

  -- so of the successors at k, in rising order, the first
  pub entry_first :
      g.size ≤ outside →
      (v w : ℕ) →
      S v ≡ true →
      T v ≡ false →
      g.owner v ≡ a →
      Edge g v w →
      S w ≡ true →
      d v ≡ suc (d w) →
      ((u : ℕ) → u < w → Edge g v u → S u ≡ true → d u ≡ d w → ⊥) →
      attractor_entry g a V' T v ≡ w
  entry_first few v w p t o e q f first =
      entry_at few v (d w) p t o f ∙
      lowest_in_is g (at_distance g a V' T (d w)) v w
      (attractor_below g a V' T w q)
      e
      (and_intro q (eq-eqb (d w) (d w) refl))
      (λ u less n r. first u less n (and_left (S u) _ r) (eqb-true (d u) (d w) (and_right (S u) _ r)))

  -- the same in a game of any size
  pub entry_nearest :
      g.size ≤ outside → (v : ℕ) → S v ≡ true → T v ≡ false → g.owner v ≡ a → attractor_entry g a V' T v ≡ nearest g a V' T v
  unfolding nearest
  entry_nearest few v p t o = let (k, e, draw) = distance_draws v p t in entry_at few v k p t o e ∙ rw e refl

  pub nearest_sinks :
      (v : ℕ) →
      S v ≡ true →
      T v ≡ false →
      g.owner v ≡ a →
      Edge g v (nearest g a V' T v) × (S (nearest g a V' T v) ≡ true) × (d (nearest g a V' T v) < d v)
  unfolding nearest
  nearest_sinks v p t o =
      let (k, e, draw) = distance_draws v p t in
      let (w, m, q) = some_of_elim (g.targets v) (grown g a V' T k) (draws_own o draw) in
      let (s, near) = grown_near k w q in
      let far = (own_near v w (attractor_inside g a V' T fits v p) o m s).1 in
      let (f, r) =
      lowest_in_found g (at_distance g a V' T (pred (d v))) v w
      (attractor_below g a V' T w s)
      m
      (and_intro s (eq-eqb (d w) (pred (d v)) (omega arith))) in
      let x = lowest_in g (at_distance g a V' T (pred (d v))) v in
      let is = eqb-true (d x) (pred (d v)) (and_right (S x) _ r) in
      (f, and_left (S x) _ r, omega arith)

  -- every other entry is none
  pub entry_none : (v : ℕ) → (S v ≡ true → T v ≡ false → g.owner v ≡ a → ⊥) → attractor_entry g a V' T v ≡ no_entry
  unfolding attractor_entry
  entry_none v not_so =
      ⊎_elim
      (λ l.
      noted_below no_entry g.size _ v l ∙
      rw
      (not_true_is_false
      (S v && not (T v) && same (g.owner v) a)
      (λ q.
      not_so
      (and_left (S v) _ (and_left (S v && not (T v)) _ q))
      (not-true (T v) (and_right (S v) _ (and_left (S v && not (T v)) _ q)))
      (same_true (g.owner v) a (and_right (S v && not (T v)) _ q))))
      refl)
      (λ l. noted_above no_entry g.size _ v l)
      (lt_or_ge v g.size)
