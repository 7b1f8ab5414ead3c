-- One pass of a solver for a over a set V that shrinks: it keeps a's small dominions; where it finds nothing, no small dominion
-- of the opponent's is there; and where none of half the size is there, a pass at full precision leaves at most half of each.
use Rattle.std.specs.Prelude.{true, false, ◌&&◌, cond, ◌≡◌, refl, ℕ, zero, suc, ◌+◌, ◌≤◌, ◌<◌}
use Rattle.std.proofs.Common.{⊎_elim, sym, subst, ◌∙◌, le_refl, le_trans, arith}
use Rattle.rules.specs.Counting.{Set, without, count}
use Rattle.rules.specs.Game.{Player, opponent, Game, parity}
use Rattle.rules.specs.Attractor.{IsAttractor, attractor}
use Rattle.rules.specs.Zielonka.{with_priority}
use Rattle.basics.specs.Basics.{bool_cases, clash, bool_ext, not_true_is_false, and_left, and_right, and_intro, lt_or_ge, Subset}
use Rattle.basics.specs.Basics.{without_intro, without_left, without_right}
use Rattle.theory.specs.Players.{opponent_differs, opponent_twice, other_player}
use Rattle.basics.specs.Basics.{count_some}
use Rattle.theory.specs.Dominion.{Dominion, dominion_cong, dominion_without, held_narrower}
use Rattle.theory.specs.Attractor.{Fits, attractor_is}
use Rattle.theory.specs.AttractorComplement.{TotalIn, own_stays_out, rest_total, trap_missed}
use Rattle.separation.specs.Core.{Core, core_of}
use Rattle.separation.specs.Separates.{Small, Separates, fewer, small_none}

-- the members of both
abbrev pub both : Set → Set → Set
both S T v = S v && T v

-- two parts of a set that share no vertex have no more vertices than the set
count_parts :
    (n : ℕ) (S T X : Set) →
    Subset S X →
    Subset T X →
    ((v : ℕ) → S v ≡ true → T v ≡ false) →
    count n S + count n T ≤ count n X
unfolding count
count_parts zero S T X s t apart = le_refl 0
count_parts (suc n) S T X s t apart =
    let rest = count_parts n S T X s t apart in
    let here : cond (S n) 1 0 + cond (T n) 1 0 ≤ cond (X n) 1 0 = one in
    omega arith
  where
    one : cond (S n) 1 0 + cond (T n) 1 0 ≤ cond (X n) 1 0
    one =
        ⊎_elim
        (λ (p : S n ≡ true). rw (p, apart n p, s n p) (le_refl 1))
        (λ (p : S n ≡ false).
        ⊎_elim
        (λ (q : T n ≡ true). rw (p, q, t n q) (le_refl 1))
        (λ (q : T n ≡ false). rw (p, q) (omega arith))
        (bool_cases (T n)))
        (bool_cases (S n))

-- V was narrowed from V₀: a's small dominions are kept, and what is left of one of the opponent's is one of what is left
pub record Narrowed (g : Game) (a : Player) (own : ℕ) (V₀ V' : Set) : Type 0 where
  pub inside : Subset V' V₀
  pub keeps : (D : Set) → Small g a V₀ own D → Subset D V'
  pub rests : (D : Set) (σ : ℕ → ℕ) → Dominion g (opponent a) V₀ D σ → Dominion g (opponent a) V' (both D V') σ
  pub total : TotalIn g V'

-- at first
pub narrowed_not : {g : Game} {a : Player} {own : ℕ} {V' : Set} → TotalIn g V' → Narrowed g a own V' V'
narrowed_not {V' = V'} total =
    record {
      inside = λ v p. p;
      keeps = λ D small. small.dominion.within;
      rests =
          λ D σ dom.
          dominion_cong V' (both D V') σ (λ v. refl)
          (λ v. bool_ext (D v) (both D V' v) (λ p. and_intro p (dom.within v p)) (and_left (D v) (V' v)))
          (λ v p m. refl)
          dom;
      total = total;
    }

-- and on
pub narrowed_then :
    {g : Game} {a : Player} {own : ℕ} {V₀ V₁ V₂ : Set} →
    Narrowed g a own V₀ V₁ → Narrowed g a own V₁ V₂ → Narrowed g a own V₀ V₂
narrowed_then {g} {a} {own} {V₀} {V₁} {V₂} m n =
    record {
      inside = λ v p. m.inside v (n.inside v p);
      keeps =
          λ D small.
          n.keeps D
          (record {
            choice = small.choice;
            dominion = held_narrower V₁ m.inside (m.keeps D small) small.dominion;
            few = small.few;
          });
      rests =
          λ D σ dom.
          dominion_cong V₂ (both D V₂) σ (λ v. refl) (λ v. twice D v) (λ v p o. refl) (n.rests (both D V₁) σ (m.rests D σ dom));
      total = n.total;
    }
  where
    twice : (D : Set) (v : ℕ) → both (both D V₁) V₂ v ≡ both D V₂ v
    twice D v =
        bool_ext (both (both D V₁) V₂ v) (both D V₂ v)
        (λ p. and_intro (and_left (D v) (V₁ v) (and_left _ (V₂ v) p)) (and_right (both D V₁ v) (V₂ v) p))
        (λ p.
        and_intro
        (and_intro (and_left (D v) (V₂ v) p) (n.inside v (and_right (D v) (V₂ v) p)))
        (and_right (D v) (V₂ v) p))

-- no dominion of the opponent's in V has a vertex and at most k of them
abbrev pub Barren : Game → Player → Set → ℕ → Type 0
Barren g a V' k = (D : Set) → Small g (opponent a) V' k D → (v : ℕ) → D v ≡ false

-- of each dominion of the opponent's in V₀ that has at most `full` vertices at most `half` are left in V
abbrev pub Halved : Game → Player → ℕ → ℕ → Set → Set → Type 0
Halved g a full half V₀ V' = (D : Set) → Small g (opponent a) V₀ full D → count g.size (both D V') ≤ half

-- what a pass at precision k knows: h is a's and the highest priority in V at most, and S is what the opponent's solver gave on
-- what a does not draw to h
pub record Pass (g : Game) (a : Player) (own k : ℕ) (V' S : Set) : Type 0 where
  pub top : ℕ
  pub mine : parity top ≡ a
  pub most : (v : ℕ) → V' v ≡ true → g.priority v ≤ top
  pub below : (v : ℕ) → V' v ≡ true → v < g.size
  pub total : TotalIn g V'
  pub found : Separates g (opponent a) (without V' (attractor g a V' (with_priority g V' top))) k own S

module _ {g : Game} {a : Player} {own k : ℕ} {V' S : Set} (pass : Pass g a own k V' S) where
  abbrev A : Set
  A = attractor g a V' (with_priority g V' pass.top)

  abbrev B : Set
  B = attractor g (opponent a) V' S

  fits_a : Fits g V' (with_priority g V' pass.top)
  fits_a = record { part = λ v p. and_left (V' v) _ p; below = pass.below }

  -- what was found lies in V
  pub found_inside : Subset S V'
  found_inside v p = without_left V' A v (pass.found.inside v p)

  fits_b : Fits g V' S
  fits_b = record { part = found_inside; below = pass.below }

  is_b : IsAttractor g (opponent a) V' S B
  is_b = attractor_is g (opponent a) V' S fits_b

  -- a small dominion of a's is missed by what was found
  found_misses : (D : Set) → Small g a V' own D → (v : ℕ) → D v ≡ true → S v ≡ false
  found_misses D small v p =
      not_true_is_false (S v)
      (λ q.
      clash q
      (pass.found.drops (without D A)
      (subst (λ (c : Player). Small g c (without V' A) own (without D A)) (sym (opponent_twice a)) rest)
      v
      (without_intro D A v p (without_right V' A v (pass.found.inside v q)))))
    where
      rest : Small g a (without V' A) own (without D A)
      rest =
          record {
            choice = small.choice;
            dominion =
                dominion_without A
                (λ u r out m.
                own_stays_out (attractor_is g a V' (with_priority g V' pass.top) fits_a).closed u (small.choice u)
                (small.dominion.within u r) out m (small.dominion.edge u r m))
                small.dominion;
            few = le_trans (fewer g (without_left D A)) small.few;
          }

  -- so by what is drawn to it
  drawn_misses : (D : Set) → Small g a V' own D → (v : ℕ) → B v ≡ true → D v ≡ false
  drawn_misses D small =
      let dom = small.dominion in
      trap_missed D is_b fits_b dom.within
      (λ v s. not_true_is_false (D v) (λ p. clash s (found_misses D small v p)))
      (λ v w p o e q. dom.other v w p (λ m. theirs v o m) e q)
      (λ v p o. let m = mine_else v o in (small.choice v, dom.edge v p m, dom.own v p m))
    where
      theirs : (v : ℕ) → g.owner v ≡ opponent a → g.owner v ≡ a → ⊥
      theirs v o m = opponent_differs a (sym m ∙ o)

      mine_else : (v : ℕ) → (g.owner v ≡ opponent a → ⊥) → g.owner v ≡ a
      mine_else v o = other_player (opponent a) (g.owner v) o ∙ opponent_twice a

  -- **A pass narrows V.**
  pub pass_narrows : Narrowed g a own V' (without V' B)
  pass_narrows =
      record {
        inside = without_left V' B;
        keeps =
            λ D small v p.
            without_intro V' B v (small.dominion.within v p)
            (not_true_is_false (B v) (λ q. clash p (drawn_misses D small v q)));
        rests =
            λ D σ dom.
            dominion_cong (without V' B) (both D (without V' B)) σ (λ v. refl)
            (λ v.
            bool_ext (without D B v) (both D (without V' B) v)
            (λ p.
            let q = without_left D B v p in
            and_intro q (without_intro V' B v (dom.within v q) (without_right D B v p)))
            (λ p.
            without_intro D B v (and_left (D v) _ p) (without_right V' B v (and_right (D v) (without V' B v) p))))
            (λ v p o. refl)
            (dominion_without B
            (λ v p out m. own_stays_out is_b.closed v (σ v) (dom.within v p) out m (dom.edge v p m))
            dom);
        total = rest_total is_b.closed pass.total;
      }

  -- a core of at most k vertices is found
  core_found :
      (D : Set) (small : Small g (opponent a) V' k D) →
      (c : Core g a V' D small.choice pass.top) →
      Subset c.set S
  core_found D small c =
      pass.found.keeps c.set
      (record {
        choice = small.choice;
        dominion = c.rest;
        few = le_trans (fewer g c.part) small.few;
      })

  core_in :
      (D : Set) (small : Small g (opponent a) V' k D) (v : ℕ) → D v ≡ true → Core g a V' D small.choice pass.top
  core_in D small v p = core_of pass.below pass.total pass.most pass.mine small.dominion v p

  -- **A pass that finds nothing shows that nothing small is there.**
  pub pass_barren : ((v : ℕ) → S v ≡ false) → Barren g a V' k
  pass_barren nothing D small v =
      not_true_is_false (D v)
      (λ p. let c = core_in D small v p in clash (core_found D small c c.vertex c.member) (nothing c.vertex))

  -- **Where nothing of half the size is there, a pass at full precision leaves at most half.**
  pub pass_halves : (half : ℕ) → k ≤ half + half + 1 → Barren g a V' half → Halved g a k half V' (without V' B)
  pass_halves half most barren D small =
      ⊎_elim
      (λ more. absurd (too_many more))
      (λ less. less)
      (lt_or_ge half (count g.size (both D (without V' B))))
    where
      too_many : half < count g.size (both D (without V' B)) → ⊥
      too_many more =
          let (v, l, p) = count_some g.size (both D (without V' B)) (omega arith) in
          let c = core_in D small v (and_left (D v) _ p) in
          let large : half < count g.size c.set =
          ⊎_elim (λ h. h)
          (λ h.
          absurd
          (clash c.member
          (barren c.set (record { choice = small.choice; dominion = c.held; few = h }) c.vertex)))
          (lt_or_ge half (count g.size c.set)) in
          let parts =
          count_parts g.size (both D (without V' B)) c.set D
          (λ u q. and_left (D u) _ q)
          c.part
          (λ u q.
          not_true_is_false (c.set u)
          (λ r.
          clash
          (is_b.closed.target u (core_found D small c u r))
          (without_right V' B u (and_right (D u) (without V' B u) q)))) in
          let few = small.few in
          omega arith

-- where nothing of the opponent's small dominions is left, V parts them
separates_narrowed :
    {g : Game} {a : Player} {own other : ℕ} {V₀ V' : Set} →
    Narrowed g a own V₀ V' →
    ((D : Set) → Small g (opponent a) V₀ other D → (v : ℕ) → both D V' v ≡ false) →
    Separates g a V₀ own other V'
separates_narrowed {V' = V'} m gone =
    record {
      inside = m.inside;
      keeps = m.keeps;
      drops = λ D small v p. not_true_is_false (V' v) (λ q. clash (and_intro p q) (gone D small v));
    }

-- what is left of a dominion of the opponent's
pub left_small :
    {g : Game} {a : Player} {own other : ℕ} {V₀ V' : Set} →
    Narrowed g a own V₀ V' →
    (D : Set) →
    Small g (opponent a) V₀ other D →
    (k : ℕ) →
    count g.size (both D V') ≤ k →
    Small g (opponent a) V' k (both D V')
left_small m D small k few =
    record { choice = small.choice; dominion = m.rests D small.choice small.dominion; few = few }

-- the three ends of the passes: nothing of full size is left,
pub ends_full :
    {g : Game} {a : Player} {own full : ℕ} {V₀ V' : Set} →
    Narrowed g a own V₀ V' → Barren g a V' full → Separates g a V₀ own full V'
ends_full {g} {V' = V'} m barren =
    separates_narrowed m
    (λ D small v.
    barren (both D V')
    (left_small m D small _ (le_trans (fewer g (λ u p. and_left (D u) (V' u) p)) small.few))
    v)

-- at most half is left and nothing of half the size,
pub ends_half :
    {g : Game} {a : Player} {own full half : ℕ} {V₀ V' : Set} →
    Narrowed g a own V₀ V' → Halved g a full half V₀ V' → Barren g a V' half → Separates g a V₀ own full V'
ends_half {V' = V'} m halved barren =
    separates_narrowed m (λ D small v. barren (both D V') (left_small m D small _ (halved D small)) v)

-- nothing has no vertex
pub barren_none : {g : Game} (a : Player) {V' : Set} → ((v : ℕ) → V' v ≡ true → v < g.size) → Barren g a V' 0
barren_none a below D small = small_none below small
