-- The tests of the rules' rounds of priority promotion in plain words: unsolved and highest, what R holds, what open and a way out mean, and
-- the region that R is promoted to.
use Rattle.std.specs.Prelude.{Bool, false, ◌&&◌, cond, ◌⊎◌, ◌≡◌, refl, eqb, ltb}
use Rattle.std.proofs.Math.Bool.{true, not}
use Rattle.std.proofs.Common.{inl, inr, ◌∙◌, le_of_eq, eq-or-lt_of_le, lt_irrefl, arith}
use Rattle.std.proofs.Math.Logic.{⊎_elim}
use mathlib.Core.List.Memᴰ
use Rattle.std.proofs.Math.Path.{sym}
use Prim.Native.Nat.{ℕ, ◌≤◌, ◌<◌}
use borrow.Author.Tests.{eqb-true, eq-eqb, ltb-true, lt-ltb, not-true}
use Rattle.rules.specs.Counting.{Set, some, some_of}
use Rattle.rules.specs.Game.{Game, Edge, same}
use Rattle.rules.specs.Promotion.{Regions, solved_region, unsolved, highest_region, region_set, drawn_regions, region_is_open, way_out}
use Rattle.basics.specs.Basics.{bool_cases, clash, and_intro, and_left, and_right, not_false_is_true, not_true_is_false}
use Rattle.theory.specs.Players.{same_true, true_same, same_false}
use Rattle.theory.specs.Players.{false_same}
use Rattle.basics.specs.Basics.{some_intro, some_elim, some_false, lt_or_ge, some_of_intro, some_of_elim}
use Rattle.basics.specs.Basics.{IsLowest, lowest_found}
use Rattle.theory.specs.Attractor.{Fits}
use Rattle.theory.specs.AttractorRank.{Ranked, attractor_certificate, attractor_pull}
use Rattle.theory.specs.Distance.{nearest, entry_nearest, entry_none}
use Rattle.rules.specs.Distance.{outside, attractor_entry}
use Rattle.rules.specs.Words.{no_entry}
use Rattle.basics.specs.Greatest.{greatest_bounds, greatest_some, greatest_none}
use Rattle.basics.specs.Basics.{noted_below}
use Rattle.theory.specs.PromotionBasics.{at_region, up_to, at_intro, at_in, at_is, up_intro}
use Rattle.theory.specs.PromotionBasics.{up_in, up_le}
use Rattle.theory.specs.PromotionEntries.{mover, remaining, promoted_to, dominion_set}

-- the unsolved

pub unsolved_below : (g : Game) (r : ℕ → ℕ) (v : ℕ) → unsolved g r v ≡ true → v < g.size
unsolved_below g r v i = ltb-true v g.size (and_left (ltb v g.size) (ltb (r v) solved_region) i)

pub unsolved_region : (g : Game) (r : ℕ → ℕ) (v : ℕ) → unsolved g r v ≡ true → r v < solved_region
unsolved_region g r v i = ltb-true (r v) solved_region (and_right (ltb v g.size) (ltb (r v) solved_region) i)

pub unsolved_intro : (g : Game) (r : ℕ → ℕ) (v : ℕ) → v < g.size → r v < solved_region → unsolved g r v ≡ true
unsolved_intro g r v l k = and_intro (lt-ltb v g.size l) (lt-ltb (r v) solved_region k)

-- the highest region is that of a vertex, is not below that of any, and is no solved region
module _ (g : Game) (r : ℕ → ℕ) where
  pub highest_present : (v : ℕ) → unsolved g r v ≡ true → (u : ℕ) × (unsolved g r u ≡ true) × (r u ≡ highest_region g r)
  highest_present v i =
      let (u, l, j, e) =
      greatest_some g.size (unsolved g r) r (some_intro g.size (unsolved g r) v (unsolved_below g r v i) i) in
      (u, j, e)

  pub highest_top : (v : ℕ) → unsolved g r v ≡ true → r v ≤ highest_region g r
  highest_top v i = greatest_bounds g.size (unsolved g r) r v (unsolved_below g r v i) i

  pub highest_small : highest_region g r < solved_region
  highest_small =
      ⊎_elim
      (λ p.
      let (u, l, j, e) = greatest_some g.size (unsolved g r) r p in rw (← e) (unsolved_region g r u j))
      (λ p. rw (greatest_none g.size (unsolved g r) r p) (omega arith))
      (bool_cases (some g.size (unsolved g r)))

-- R, the attractor of region p

module _ (g : Game) (s : Regions) where
  pub region_fits : Fits g (up_to (remaining g s) s.region s.current) (at_region (remaining g s) s.region s.current)
  region_fits =
      record {
        part =
            λ v t.
            up_intro (remaining g s) s.region s.current v
            (at_in (remaining g s) s.region s.current v t)
            (le_of_eq (at_is (remaining g s) s.region s.current v t));
        below = λ v t. unsolved_below g s.region v (up_in (remaining g s) s.region s.current v t);
      }

  -- the rules' R has a certificate
  pub region_certificate :
      Ranked g
      (mover s)
      (up_to (remaining g s) s.region s.current)
      (at_region (remaining g s) s.region s.current)
      (region_set g s)
  unfolding region_set
  region_certificate = attractor_certificate g (mover s) _ _ region_fits

  -- by distances, and so with the rules' entries
  pub region_near :
      (v : ℕ) →
      region_certificate.pull v ≡
      nearest g (mover s) (up_to (remaining g s) s.region s.current) (at_region (remaining g s) s.region s.current) v
  unfolding region_certificate
  region_near v = attractor_pull g (mover s) _ _ region_fits v

  pub region_entry :
      g.size ≤ outside →
      (v : ℕ) →
      region_set g s v ≡ true →
      at_region (remaining g s) s.region s.current v ≡ false →
      g.owner v ≡ mover s →
      attractor_entry g (mover s) (up_to (remaining g s) s.region s.current)
      (at_region (remaining g s) s.region s.current) v ≡
      region_certificate.pull v
  unfolding region_set
  region_entry few v m t o = entry_nearest g (mover s) _ _ region_fits few v m t o ∙ sym (region_near v)

  -- none where the opponent owns the vertex
  pub region_bare :
      (v : ℕ) →
      (g.owner v ≡ mover s → ⊥) →
      attractor_entry g (mover s) (up_to (remaining g s) s.region s.current)
      (at_region (remaining g s) s.region s.current) v ≡
      no_entry
  region_bare v o = entry_none g (mover s) _ _ region_fits v (λ p t mine. o mine)

  -- R is unsolved, in regions up to p, and holds region p
  pub region_in_lem : (v : ℕ) → region_set g s v ≡ true → remaining g s v ≡ true
  region_in_lem v m = up_in (remaining g s) s.region s.current v (region_certificate.inside v m)

  pub region_low : (v : ℕ) → region_set g s v ≡ true → s.region v ≤ s.current
  region_low v m = up_le (remaining g s) s.region s.current v (region_certificate.inside v m)

  pub region_out : (v : ℕ) → remaining g s v ≡ true → region_set g s v ≡ false → s.region v ≡ s.current → ⊥
  region_out v i out e =
      clash (region_certificate.closed.target v (at_intro (remaining g s) s.region s.current v i e)) out

  -- open, and not open

  -- the regions once R has region p
  abbrev drawn_to : ℕ → ℕ
  drawn_to = drawn_regions g s (region_set g s)

  -- an unsolved vertex of a region below p: it is outside R, and has the region that it had
  abbrev lower_outside : Set
  lower_outside w = unsolved g drawn_to w && ltb (drawn_to w) s.current

  lower_place : (w : ℕ) → lower_outside w ≡ true → w < g.size
  lower_place w t = unsolved_below g drawn_to w (and_left (unsolved g drawn_to w) _ t)

  lower_drawn : (w : ℕ) → lower_outside w ≡ true → drawn_to w < s.current
  lower_drawn w t = ltb-true (drawn_to w) s.current (and_right (unsolved g drawn_to w) _ t)

  lower_outside_out : (w : ℕ) → lower_outside w ≡ true → region_set g s w ≡ false
  lower_outside_out w t =
      not_true_is_false (region_set g s w)
      (λ m.
      let is : drawn_to w ≡ s.current =
      noted_below solved_region g.size _ w (lower_place w t) ∙ rw m in
      lt_irrefl s.current (rw is at (lower_drawn w t)))

  drawn_outside : (w : ℕ) → w < g.size → region_set g s w ≡ false → drawn_to w ≡ s.region w
  drawn_outside w l out = noted_below solved_region g.size _ w l ∙ rw out

  lower_outside_in : (w : ℕ) → lower_outside w ≡ true → remaining g s w ≡ true
  lower_outside_in w t =
      unsolved_intro g s.region w (lower_place w t)
      (rw (drawn_outside w (lower_place w t) (lower_outside_out w t)) at
      (unsolved_region g drawn_to w (and_left (unsolved g drawn_to w) _ t)))

  lower_outside_low : (w : ℕ) → lower_outside w ≡ true → s.region w < s.current
  lower_outside_low w t = rw (drawn_outside w (lower_place w t) (lower_outside_out w t)) at (lower_drawn w t)

  -- v makes R open
  abbrev opens_at : Set
  opens_at v =
      region_set g s v &&
      cond
      (same (g.owner v) (mover s))
      (not (some_of (g.targets v) (region_set g s)))
      (some_of (g.targets v) lower_outside)

  pub open_elim :
      region_is_open g s (region_set g s) ≡ true →
      (v : ℕ) ×
      (region_set g s v ≡ true) ×
      (((g.owner v ≡ mover s) × (some_of (g.targets v) (region_set g s) ≡ false)) ⊎
      ((w : ℕ) × (remaining g s w ≡ true) × (region_set g s w ≡ false) × (s.region w < s.current)))
  unfolding region_is_open
  open_elim p =
      let (v, l, t) = some_elim g.size opens_at p in
      (v, and_left (region_set g s v) _ t, ⊎_elim (mine v t) (theirs v t) (bool_cases (same (g.owner v) (mover s))))
    where
      Opens : ℕ → Type 0
      Opens v =
          ((g.owner v ≡ mover s) × (some_of (g.targets v) (region_set g s) ≡ false)) ⊎
          ((w : ℕ) × (remaining g s w ≡ true) × (region_set g s w ≡ false) × (s.region w < s.current))

      mine : (v : ℕ) → opens_at v ≡ true → same (g.owner v) (mover s) ≡ true → Opens v
      mine v t e =
          inl (
            same_true (g.owner v) (mover s) e,
            not-true (some_of (g.targets v) (region_set g s)) (rw e at (and_right (region_set g s v) _ t)),
          )

      theirs : (v : ℕ) → opens_at v ≡ true → same (g.owner v) (mover s) ≡ false → Opens v
      theirs v t e =
          let (w, d, q) = some_of_elim (g.targets v) lower_outside (rw e at (and_right (region_set g s v) _ t)) in
          inr (w, lower_outside_in w q, lower_outside_out w q, lower_outside_low w q)

  -- where R is closed, its own vertices have a target in R
  pub closed_own :
      region_is_open g s (region_set g s) ≡ false →
      (v : ℕ) →
      region_set g s v ≡ true →
      g.owner v ≡ mover s →
      some_of (g.targets v) (region_set g s) ≡ true
  unfolding region_is_open
  closed_own p v m o =
      not_false_is_true
      (some_of (g.targets v) (region_set g s))
      (λ none.
      clash
      (rw (m, true_same (g.owner v) (mover s) o, none) refl)
      (some_false g.size opens_at p v (unsolved_below g s.region v (region_in_lem v m))))

  -- and the opponent's vertices of R have no edge to a lower region
  pub closed_other :
      region_is_open g s (region_set g s) ≡ false →
      (v w : ℕ) →
      region_set g s v ≡ true →
      (g.owner v ≡ mover s → ⊥) →
      Edge g v w →
      remaining g s w ≡ true →
      region_set g s w ≡ false →
      s.current < s.region w
  unfolding region_is_open
  closed_other p v w m o e i out =
      ⊎_elim
      (λ l. l)
      (λ l.
      ⊎_elim
      (λ is. absurd (region_out w i out is))
      (λ less.
      let small = unsolved_below g s.region w i in
      let there : lower_outside w ≡ true =
      and_intro
      (unsolved_intro g drawn_to w small (rw (drawn_outside w small out) (unsolved_region g s.region w i)))
      (rw (drawn_outside w small out) (lt-ltb (s.region w) s.current less)) in
      let has = some_of_intro (g.targets v) lower_outside w e there in
      absurd
      (clash
      (rw (m, false_same (g.owner v) (mover s) o) has)
      (some_false g.size opens_at p v (unsolved_below g s.region v (region_in_lem v m)))))
      (eq-or-lt_of_le l))
      (lt_or_ge s.current (s.region w))

  -- v is an opponent's vertex of R with an edge to w
  abbrev leads_to : ℕ → Set
  leads_to w v = region_set g s v && not (same (g.owner v) (mover s)) && some_of (g.targets v) (eqb w)

  -- a way out is an unsolved vertex outside R to which an opponent's vertex of R has an edge
  pub way_intro :
      (v w : ℕ) →
      region_set g s v ≡ true →
      (g.owner v ≡ mover s → ⊥) →
      Edge g v w →
      remaining g s w ≡ true →
      region_set g s w ≡ false →
      way_out g s (region_set g s) w ≡ true
  unfolding way_out
  way_intro v w m o e i out =
      and_intro
      (and_intro i (rw out refl))
      (some_intro g.size (leads_to w) v
      (unsolved_below g s.region v (region_in_lem v m))
      (and_intro
      (and_intro m (rw (false_same (g.owner v) (mover s) o) refl))
      (some_of_intro (g.targets v) (eqb w) w e (eq-eqb w w refl))))

  pub way_elim :
      (w : ℕ) →
      way_out g s (region_set g s) w ≡ true →
      (v : ℕ) ×
      (region_set g s v ≡ true) ×
      (g.owner v ≡ mover s → ⊥) ×
      Edge g v w ×
      (remaining g s w ≡ true) ×
      (region_set g s w ≡ false)
  unfolding way_out
  way_elim w p =
      let there = and_left (remaining g s w && not (region_set g s w)) _ p in
      let (v, l, t) = some_elim g.size (leads_to w) (and_right (remaining g s w && not (region_set g s w)) _ p) in
      let both = and_left (region_set g s v && not (same (g.owner v) (mover s))) _ t in
      let (u, e, q) =
      some_of_elim (g.targets v) (eqb w) (and_right (region_set g s v && not (same (g.owner v) (mover s))) _ t) in (
        v,
        and_left (region_set g s v) _ both,
        same_false (g.owner v) (mover s) (not-true (same (g.owner v) (mover s)) (and_right (region_set g s v) _ both)),
        Memᴰ.cast (eqb-true w u q) e,
        and_left (remaining g s w) _ there,
        not-true (region_set g s w) (and_right (remaining g s w) _ there),
      )

  -- the ways out lead above p
  pub way_above : region_is_open g s (region_set g s) ≡ false → (w : ℕ) → way_out g s (region_set g s) w ≡ true → s.current < s.region w
  way_above closed w p = let (v, m, o, e, i, out) = way_elim w p in closed_other closed v w m o e i out

  -- q is a region above p among the ways out
  abbrev pub way_at : ℕ → Bool
  way_at q = ltb s.current q && some g.size (λ w. way_out g s (region_set g s) w && eqb (s.region w) q)

  pub way_at_lem : (w : ℕ) → way_out g s (region_set g s) w ≡ true → s.current < s.region w → way_at (s.region w) ≡ true
  way_at_lem w p l =
      let (v, m, o, e, i, out) = way_elim w p in
      and_intro
      (lt-ltb s.current (s.region w) l)
      (some_intro g.size _ w (unsolved_below g s.region w i) (and_intro p (eq-eqb (s.region w) (s.region w) refl)))

  -- the region that R is promoted to is the lowest of them
  pub promoted_lowest :
      region_is_open g s (region_set g s) ≡ false →
      some g.size (way_out g s (region_set g s)) ≡ true →
      IsLowest solved_region way_at (promoted_to g s)
  promoted_lowest closed has =
      let (w, l, p) = some_elim g.size (way_out g s (region_set g s)) has in
      let (v, m, o, e, i, out) = way_elim w p in
      lowest_found solved_region way_at
      (some_intro solved_region way_at
      (s.region w)
      (unsolved_region g s.region w i)
      (way_at_lem w p (way_above closed w p)))

  pub promoted_small :
      region_is_open g s (region_set g s) ≡ false →
      some g.size (way_out g s (region_set g s)) ≡ true →
      promoted_to g s < solved_region
  promoted_small closed has = (promoted_lowest closed has).below

  -- D has a certificate
  dominion_fits : Fits g (remaining g s) (region_set g s)
  dominion_fits = record { part = region_in_lem; below = unsolved_below g s.region }

  pub dominion_certificate : Ranked g (mover s) (remaining g s) (region_set g s) (dominion_set g s)
  dominion_certificate = attractor_certificate g (mover s) (remaining g s) (region_set g s) dominion_fits

  -- by distances, and so with the rules' entries
  pub dominion_near : (v : ℕ) → dominion_certificate.pull v ≡ nearest g (mover s) (remaining g s) (region_set g s) v
  unfolding dominion_certificate
  dominion_near v = attractor_pull g (mover s) (remaining g s) (region_set g s) dominion_fits v

  pub dominion_entry :
      g.size ≤ outside →
      (v : ℕ) →
      dominion_set g s v ≡ true →
      region_set g s v ≡ false →
      g.owner v ≡ mover s →
      attractor_entry g (mover s) (remaining g s) (region_set g s) v ≡ dominion_certificate.pull v
  dominion_entry few v d out o =
      entry_nearest g (mover s) (remaining g s) (region_set g s) dominion_fits few v d out o ∙ sym (dominion_near v)

  -- none outside D, and where the opponent owns the vertex
  pub dominion_bare :
      (v : ℕ) →
      (dominion_set g s v ≡ true → g.owner v ≡ mover s → ⊥) →
      attractor_entry g (mover s) (remaining g s) (region_set g s) v ≡ no_entry
  dominion_bare v not_so =
      entry_none g (mover s) (remaining g s) (region_set g s) dominion_fits v (λ d t o. not_so d o)
