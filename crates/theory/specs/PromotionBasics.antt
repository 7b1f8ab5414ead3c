-- Plain laws that the rounds of priority promotion need: what a function is below n, and the vertices of a region or of regions
-- up to one.
use Rattle.std.specs.Prelude.{true, false, ◌&&◌, ◌≡◌, ℕ, ◌≤◌, eqb, leb}
use Rattle.std.proofs.Math.Path.{fun_ext}
use Rattle.std.proofs.Common.{subst₂, eqb-true, eq-eqb, leb-true, le-leb}
use Rattle.rules.specs.Counting.{Set}
use Rattle.rules.specs.Game.{Player, Game}
use Rattle.rules.specs.Attractor.{Closed}
use Rattle.basics.specs.Basics.{clash, and_intro, and_left, and_right}
use Rattle.basics.specs.Basics.{not_true_is_false}

-- regions

-- the vertices of X in region q
abbrev pub at_region : Set → (ℕ → ℕ) → ℕ → Set
at_region X r q v = X v && eqb (r v) q

-- the vertices of X in regions up to q
abbrev pub up_to : Set → (ℕ → ℕ) → ℕ → Set
up_to X r q v = X v && leb (r v) q

module _ (X : Set) (r : ℕ → ℕ) (q v : ℕ) where
  pub at_intro : X v ≡ true → r v ≡ q → at_region X r q v ≡ true
  at_intro p e = and_intro p (eq-eqb (r v) q e)

  pub at_in : at_region X r q v ≡ true → X v ≡ true
  at_in p = and_left (X v) (eqb (r v) q) p

  pub at_is : at_region X r q v ≡ true → r v ≡ q
  at_is p = eqb-true (r v) q (and_right (X v) (eqb (r v) q) p)

  pub at_out : (X v ≡ true → r v ≡ q → ⊥) → at_region X r q v ≡ false
  at_out n = not_true_is_false (at_region X r q v) (λ p. n (at_in p) (at_is p))

  pub not_at : at_region X r q v ≡ false → X v ≡ true → r v ≡ q → ⊥
  not_at out p e = clash (at_intro p e) out

  pub up_intro : X v ≡ true → r v ≤ q → up_to X r q v ≡ true
  up_intro p l = and_intro p (le-leb (r v) q l)

  pub up_in : up_to X r q v ≡ true → X v ≡ true
  up_in p = and_left (X v) (leb (r v) q) p

  pub up_le : up_to X r q v ≡ true → r v ≤ q
  up_le p = leb-true (r v) q (and_right (X v) (leb (r v) q) p)

-- being closed depends on the sets by their members alone
pub closed_cong :
    {g : Game} {a : Player} (V₁ V₂ S₁ S₂ : Set) →
    ((v : ℕ) → V₁ v ≡ V₂ v) →
    ((v : ℕ) → S₁ v ≡ S₂ v) →
    Closed g a V₁ S₁ S₁ →
    Closed g a V₂ S₂ S₂
closed_cong {g} {a} V₁ V₂ S₁ S₂ sameV sameS closed =
    subst₂ (λ (V' S : Set). Closed g a V' S S) (fun_ext sameV) (fun_ext sameS) closed
