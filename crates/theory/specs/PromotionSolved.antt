-- The solved part of priority promotion: what each player has won is a dominion in the whole game, and the unsolved vertices have no
-- edge by which their owner could have been drawn there. A dominion among the unsolved adds to it.
use Rattle.std.specs.Prelude.{true, false, ◌≡◌, refl, ℕ, ◌<◌}
use Rattle.std.proofs.Common.{⊎_elim, sym, ◌∙◌, lt-ltb, ltb-true}
use Rattle.std.proofs.Math.Logic.{by_cases}
use Rattle.rules.specs.Counting.{Set, without, union}
use Rattle.rules.specs.Game.{Player, Game, Edge, everywhere}
use Rattle.basics.specs.Basics.{bool_cases, clash, not_true_is_false, without_left, without_right, without_intro}
use Rattle.theory.specs.Players.{player_decided, other_player}
use Rattle.basics.specs.Basics.{union_left, union_right}
use Rattle.theory.specs.Dominion.{HeldOver, Dominion, dominion_cong, dominion_empty, dominion_join}

-- what the solved vertices are
pub record SolvedAre (g : Game) (X : Set) (won : Player → Set) (σ : ℕ → ℕ) : Type 0 where
  -- each player holds what it has won in the whole game
  pub dominion : (a : Player) → Dominion g a (everywhere g) (won a) σ
  -- a vertex is solved exactly when a player has won it
  pub covered : (v : ℕ) → v < g.size → X v ≡ false → (a : Player) × (won a v ≡ true)
  pub apart : (a : Player) (v : ℕ) → X v ≡ true → won a v ≡ false
  -- no unsolved vertex has an edge into what its owner has won
  pub barred : (v w : ℕ) → X v ≡ true → Edge g v w → won (g.owner v) w ≡ false

-- nobody has won anything yet
pub solved_none :
    {g : Game} {X : Set} {won : Player → Set} {σ : ℕ → ℕ} →
    ((v : ℕ) → v < g.size → X v ≡ true) →
    ((a : Player) (v : ℕ) → won a v ≡ false) →
    SolvedAre g X won σ
solved_none {g} {X} {won} {σ} all none =
    record {
      dominion = λ a. dominion_empty g a (everywhere g) (won a) σ (none a);
      covered = λ v l out. absurd (clash (all v l) out);
      apart = λ a v i. none a v;
      barred = λ v w i e. none (g.owner v) w;
    }

-- entries may change where nobody has won
pub solved_entries_lem :
    {g : Game} {X : Set} {won : Player → Set} {σ : ℕ → ℕ} (σ' : ℕ → ℕ) →
    ((v : ℕ) → v < g.size → X v ≡ false → σ' v ≡ σ v) →
    SolvedAre g X won σ →
    SolvedAre g X won σ'
solved_entries_lem {g} {X} {won} {σ} σ' same solved =
    record {
      dominion =
          λ a.
          dominion_cong
          (everywhere g)
          (won a)
          σ'
          (λ v. refl)
          (λ v. refl)
          (λ v m o.
          same v
          (ltb-true v g.size ((solved.dominion a).within v m))
          (not_true_is_false (X v) (λ i. clash m (solved.apart a v i))))
          (solved.dominion a);
      covered = solved.covered;
      apart = solved.apart;
      barred = solved.barred;
    }

-- one more dominion D among the unsolved, which draws in nothing more of them
module _
    {g : Game}
    {X X' : Set}
    {won won' : Player → Set}
    {σ : ℕ → ℕ}
    (a : Player)
    (D : Set)
    (below : (v : ℕ) → X v ≡ true → v < g.size)
    (solved : SolvedAre g X won σ)
    (dom : Dominion g a X D σ)
    (closed : (v w : ℕ) → X v ≡ true → D v ≡ false → g.owner v ≡ a → Edge g v w → D w ≡ false)
    (rest : (v : ℕ) → X' v ≡ without X D v)
    (mine : (v : ℕ) → won' a v ≡ union (won a) D v)
    (others : (b : Player) → (b ≡ a → ⊥) → (v : ℕ) → won' b v ≡ won b v)
  where
    -- what was solved first is not left towards D, and D is left towards what its player had won alone
    held : HeldOver g a (everywhere g) (won a) D σ
    held =
        record {
          within = λ v d. lt-ltb v g.size (below v (dom.within v d));
          edge = dom.edge;
          own = λ v d o. union_right (won a) D (σ v) (dom.own v d o);
          other =
              λ v w d o e i.
              ⊎_elim
              (λ x. union_right (won a) D w (dom.other v w d o e x))
              (λ x. union_left (won a) D w (won_there v w d o e (solved.covered w (ltb-true w g.size i) x)))
              (bool_cases (X w));
          cycles = dom.cycles;
        }
      where
        won_there :
            (v w : ℕ) →
            D v ≡ true →
            (g.owner v ≡ a → ⊥) →
            Edge g v w →
            (b : Player) × (won b w ≡ true) →
            won a w ≡ true
        won_there v w d o e (b, m) =
            by_cases
            (player_decided b a)
            (λ same. rw same at m)
            (λ differs.
            let owns : b ≡ g.owner v = other_player a b differs ∙ sym (other_player a (g.owner v) o) in
            absurd (clash (rw owns at m) (solved.barred v w (dom.within v d) e)))

    dominion_more : Dominion g a (everywhere g) (won' a) σ
    dominion_more =
        dominion_cong
        (everywhere g)
        (won' a)
        σ
        (λ v. refl)
        (λ v. sym (mine v))
        (λ v m o. refl)
        (dominion_join (solved.dominion a) held)

    -- what was not won and is no gain is not won
    still_not_won : (b : Player) (w : ℕ) → won b w ≡ false → (b ≡ a → D w ≡ false) → won' b w ≡ false
    still_not_won b w out no-gain =
        by_cases
        (player_decided b a)
        (λ same.
        let old : won a w ≡ false = rw same at out in
        let gain = no-gain same in
        rw same (mine w ∙ rw (old, gain)))
        (λ differs. others b differs w ∙ out)

    still_won : (b : Player) (v : ℕ) → won b v ≡ true → won' b v ≡ true
    still_won b v m =
        by_cases
        (player_decided b a)
        (λ same. rw same (mine v ∙ union_left (won a) D v (rw same at m)))
        (λ differs. others b differs v ∙ m)

    old_in : (v : ℕ) → X' v ≡ true → X v ≡ true
    old_in v i = without_left X D v (sym (rest v) ∙ i)

    old_out : (v : ℕ) → X' v ≡ true → D v ≡ false
    old_out v i = without_right X D v (sym (rest v) ∙ i)

    -- **The solved part grows by a dominion among the unsolved.**
    pub solved_more : SolvedAre g X' won' σ
    solved_more =
        record {
          dominion =
              λ b.
              by_cases
              (player_decided b a)
              (λ same. rw same dominion_more)
              (λ differs.
              dominion_cong
              (everywhere g)
              (won' b)
              σ
              (λ v. refl)
              (λ v. sym (others b differs v))
              (λ v m o. refl)
              (solved.dominion b));
          covered =
              λ v l out.
              ⊎_elim
              (λ d. (a, mine v ∙ union_right (won a) D v d))
              (λ d.
              let (b, m) =
              solved.covered v l (not_true_is_false (X v) (λ i. clash (without_intro X D v i d) (sym (rest v) ∙ out))) in
              (b, still_won b v m))
              (bool_cases (D v));
          apart = λ b v i. still_not_won b v (solved.apart b v (old_in v i)) (λ same. old_out v i);
          barred =
              λ v w i e.
              still_not_won
              (g.owner v)
              w
              (solved.barred v w (old_in v i) e)
              (λ same. closed v w (old_in v i) (old_out v i) same e);
        }
