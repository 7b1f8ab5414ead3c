-- Sets that part the small dominions of the two players: what a solver for a gives, at a precision for its own dominions and
-- one for the opponent's. Giving up, a precision above the number of vertices, and a height that no vertex has.
use Rattle.std.specs.Prelude.{true, false, ◌≡◌, ℕ, ◌≤◌, ◌<◌}
use Rattle.std.proofs.Common.{sym, subst, subst₂, arith}
use Rattle.std.proofs.Math.Path.{fun_ext}
use Rattle.rules.specs.Counting.{Set, without, count}
use Rattle.rules.specs.Game.{Player, opponent, Game}
use Rattle.basics.specs.Basics.{clash, not_true_is_false, Subset, count_mono, count_pos}
use Rattle.theory.specs.Players.{opponent_twice}
use Rattle.basics.specs.Basics.{without_intro, without_left, without_right}
use Rattle.theory.specs.Dominion.{Dominion}

-- a has a dominion of V that has at most k vertices
pub record Small (g : Game) (a : Player) (V' : Set) (k : ℕ) (D : Set) : Type 0 where
  pub choice : ℕ → ℕ
  pub dominion : Dominion g a V' D choice
  pub few : count g.size D ≤ k

-- R is a part of V that has each of a's dominions of at most `own` vertices and misses each of the opponent's of at most `other`
pub record Separates (g : Game) (a : Player) (V' : Set) (own other : ℕ) (R : Set) : Type 0 where
  pub inside : Subset R V'
  pub keeps : (D : Set) → Small g a V' own D → Subset D R
  pub drops : (D : Set) → Small g (opponent a) V' other D → (v : ℕ) → D v ≡ true → R v ≡ false

-- it depends on the sets by their members alone
pub separates_over :
    {g : Game} {a : Player} {V₁ V₂ R₁ R₂ : Set} {own other : ℕ} →
    ((v : ℕ) → V₁ v ≡ V₂ v) →
    ((v : ℕ) → R₁ v ≡ R₂ v) →
    Separates g a V₁ own other R₁ →
    Separates g a V₂ own other R₂
separates_over {g} {a} {own = own} {other = other} e d s =
    subst₂ (λ (X Y : Set). Separates g a X own other Y) (fun_ext e) (fun_ext d) s

-- the smaller of two sets has no more vertices
pub fewer : (g : Game) {S T : Set} → Subset S T → count g.size S ≤ count g.size T
fewer g {S} {T} sub = count_mono g.size S T (λ v l p. sub v p)

-- a dominion of no vertex has none
pub small_none :
    {g : Game} {a : Player} {V' D : Set} →
    ((v : ℕ) → V' v ≡ true → v < g.size) →
    Small g a V' 0 D →
    (v : ℕ) →
    D v ≡ false
small_none {g} {D = D} below small v =
    not_true_is_false (D v)
    (λ p.
    let pos = count_pos g.size D v (below v (small.dominion.within v p)) p in
    let few = small.few in
    omega arith)

-- **Giving up at precision 0**: no dominion of a's has no vertex, so the empty set will do.
pub gives_up :
    {g : Game} {a : Player} {V' R : Set} {other : ℕ} →
    ((v : ℕ) → V' v ≡ true → v < g.size) →
    ((v : ℕ) → R v ≡ false) →
    Separates g a V' 0 other R
gives_up below none =
    record {
      inside = λ v p. absurd (clash p (none v));
      keeps = λ D small v p. absurd (clash p (small_none below small v));
      drops = λ D small v p. none v;
    }

-- and where V is empty
pub gives_up_empty :
    {g : Game} {a : Player} {V' R : Set} {own other : ℕ} →
    ((v : ℕ) → V' v ≡ false) →
    ((v : ℕ) → R v ≡ false) →
    Separates g a V' own other R
gives_up_empty empty none =
    record {
      inside = λ v p. absurd (clash p (none v));
      keeps = λ D small v p. absurd (clash (small.dominion.within v p) (empty v));
      drops = λ D small v p. none v;
    }

-- **A precision above the number of vertices of V may be cut to it.**
pub precision_cut :
    {g : Game} {a : Player} {V' R : Set} {own other own' other' : ℕ} →
    ((k : ℕ) → k ≤ count g.size V' → k ≤ own → k ≤ own') →
    ((k : ℕ) → k ≤ count g.size V' → k ≤ other → k ≤ other') →
    Separates g a V' own' other' R →
    Separates g a V' own other R
precision_cut {g} {a} {V'} enough enough' s =
    record {
      inside = s.inside;
      keeps = λ D small. s.keeps D (cut enough small);
      drops = λ D small. s.drops D (cut enough' small);
    }
  where
    cut :
        {c : Player} {D : Set} {k k' : ℕ} →
        ((i : ℕ) → i ≤ count g.size V' → i ≤ k → i ≤ k') →
        Small g c V' k D →
        Small g c V' k' D
    cut {D = D} more small =
        record {
          choice = small.choice;
          dominion = small.dominion;
          few = more (count g.size D) (fewer g small.dominion.within) small.few;
        }

-- **A height that no vertex of V has is passed over** by the other solver on V and a complement.
pub passed_over :
    {g : Game} {a : Player} {V' S : Set} {own other : ℕ} →
    Separates g (opponent a) V' other own S →
    Separates g a V' own other (without V' S)
passed_over {g} {a} {V'} {S} {own} {other} s =
    record {
      inside = without_left V' S;
      keeps =
          λ D small v p.
          without_intro V' S v (small.dominion.within v p)
          (s.drops D (subst (λ (c : Player). Small g c V' own D) (sym (opponent_twice a)) small) v p);
      drops =
          λ D small v p.
          not_true_is_false (without V' S v) (λ q. clash (s.keeps D small v p) (without_right V' S v q));
    }
