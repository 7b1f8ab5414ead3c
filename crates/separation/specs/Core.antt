-- The core of a dominion D of the opponent's: its vertices from which no vertex of the highest priority h can be reached along
-- the dominion's choice. It is a dominion too, misses what a draws to h, and has a vertex where D has one: else a cycle of D
-- would have the highest priority h, which is a's.
use Rattle.std.proofs.Math.Bool.{true}
use Rattle.std.specs.Prelude.{false, cond, [], ◌∷◌, ◌⊎◌, ◌≡◌, ℕ, ◌≤◌, ◌<◌}
use mathlib.Core.List.Memᴰ
use Rattle.std.proofs.Math.Logic.{⊎_elim}
use Rattle.std.proofs.Math.Path.{refl}
use Rattle.std.proofs.Common.{sym, ap, ◌∙◌, eqb-true}
use Rattle.rules.specs.Counting.{Set, without, some}
use Rattle.rules.specs.Game.{Player, opponent, Game, Edge, parity, same}
use Rattle.rules.specs.Winning.{Cycle, Step}
use Rattle.rules.specs.Attractor.{Closed, attractor}
use Rattle.rules.specs.Zielonka.{with_priority}
use Rattle.basics.specs.Basics.{bool_cases, clash, not_true_is_false, not_false_is_true, and_left, and_right, and_intro, Subset}
use Rattle.basics.specs.Basics.{without_intro, without_left, without_right, some_elim, some_false}
use Rattle.theory.specs.Players.{opponent_differs, other_player, true_same, false_same}
use Rattle.theory.specs.Walks.{walk_map, reach_stays, stays, hits, no_falling_cycle, highest_is}
use Rattle.theory.specs.Orbit.{comes_back}
use Rattle.theory.specs.Dominion.{Inside, Dominion, owner_cases, dominion_without, held_trap, held_narrower}
use Rattle.theory.specs.Attractor.{Fits, attractor_is}
use Rattle.theory.specs.AttractorRank.{Ranked, attractor_certificate}
use Rattle.theory.specs.AttractorComplement.{TotalIn, own_stays_out, trap_missed}

-- the game that is left when b has fixed σ, with a choosing at every vertex
fixed_to : Game → Player → Player → (ℕ → ℕ) → Game
fixed_to g a b σ =
    record {
      size = g.size;
      owner = λ v. a;
      priority = g.priority;
      targets = λ v. cond (same (g.owner v) b) (σ v ∷ []) (g.targets v);
    }

-- its edges are the steps
step_edge : (g : Game) (a b : Player) (σ : ℕ → ℕ) (v w : ℕ) → Step g b σ v w → Edge (fixed_to g a b σ) v w
unfolding fixed_to
step_edge g a b σ v w s =
    ⊎_elim
    (λ mine. rw (true_same (g.owner v) b mine) (Memᴰ.head (s.fixed mine)))
    (λ theirs. rw (false_same (g.owner v) b theirs) s.edge)
    (owner_cases g b v)

edge_step :
    (g : Game) (a b : Player) (σ : ℕ → ℕ) (v w : ℕ) →
    (g.owner v ≡ b → Edge g v (σ v)) →
    Edge (fixed_to g a b σ) v w →
    Step g b σ v w
unfolding fixed_to
edge_step g a b σ v w own e =
    ⊎_elim
    (λ mine.
    let is : w ≡ σ v = Memᴰ.eq_of_singleton (rw (true_same (g.owner v) b mine) at e) in
    record { edge = rw is (own mine); fixed = λ m. is })
    (λ theirs. record { edge = rw (false_same (g.owner v) b theirs) at e; fixed = λ m. absurd (theirs m) })
    (owner_cases g b v)

-- what is to be found in a dominion D of the opponent's that has a vertex: a part of it that has one too, is the opponent's
-- dominion in V, and is one in what a does not draw to h
pub record Core (g : Game) (a : Player) (V' D : Set) (σ : ℕ → ℕ) (h : ℕ) : Type 0 where
  pub set : Set
  pub part : Subset set D
  pub held : Dominion g (opponent a) V' set σ
  pub rest : Dominion g (opponent a) (without V' (attractor g a V' (with_priority g V' h))) set σ
  pub vertex : ℕ
  pub member : set vertex ≡ true

module _ {g : Game} {a : Player} {V' D : Set} {σ : ℕ → ℕ} {h : ℕ}
    (below : (v : ℕ) → V' v ≡ true → v < g.size)
    (total : TotalIn g V')
    (most : (v : ℕ) → V' v ≡ true → g.priority v ≤ h)
    (mine : parity h ≡ a)
    (dom : Dominion g (opponent a) V' D σ)
  where
    abbrev b : Player
    b = opponent a

    -- a chooses everywhere, σ is fixed
    abbrev fixed : Game
    fixed = fixed_to g a (opponent a) σ

    -- the vertices of D with priority h, and those of D from which one can be reached
    abbrev U : Set
    U = with_priority g D h

    abbrev reaching : Set
    reaching = attractor (fixed_to g a (opponent a) σ) a D (with_priority g D h)

    -- the others are the core
    abbrev core : Set
    core = without D (attractor (fixed_to g a (opponent a) σ) a D (with_priority g D h))

    fits : Fits fixed D U
    unfolding fixed_to
    fits = record { part = λ v p. and_left (D v) _ p; below = λ v p. below v (dom.within v p) }

    closed : Closed fixed a D U reaching
    closed = (attractor_is fixed a D U fits).closed

    -- no step leads from the core to where h can be reached
    stays_out : (v w : ℕ) → D v ≡ true → reaching v ≡ false → Step g b σ v w → reaching w ≡ false
    unfolding fixed_to
    stays_out v w p out s = own_stays_out closed v w p out refl (step_edge g a b σ v w s)

    -- the core is a dominion of the opponent's in V
    core_dominion : Dominion g (opponent a) V' core σ
    core_dominion =
        held_trap V' reaching
        (λ v w p theirs e q.
        stays_out v w (without_left D reaching v p) (without_right D reaching v p)
        (record { edge = e; fixed = λ m. absurd (theirs m) }))
        (dominion_without reaching
        (λ v p out m. stays_out v (σ v) p out (record { edge = dom.edge v p m; fixed = λ k. refl }))
        dom)

    -- it misses what a draws to h
    core_missed :
        (v : ℕ) → attractor g a V' (with_priority g V' h) v ≡ true → core v ≡ false
    core_missed =
        trap_missed core (attractor_is g a V' (with_priority g V' h) fits_v) fits_v core_dominion.within apart kept leads
      where
        fits_v : Fits g V' (with_priority g V' h)
        fits_v = record { part = λ v p. and_left (V' v) _ p; below = below }

        apart : (v : ℕ) → with_priority g V' h v ≡ true → core v ≡ false
        apart v p =
            not_true_is_false (core v)
            (λ c.
            clash
            (closed.target v (and_intro (without_left D reaching v c) (and_right (V' v) _ p)))
            (without_right D reaching v c))

        kept : (v w : ℕ) → core v ≡ true → g.owner v ≡ a → Edge g v w → V' w ≡ true → core w ≡ true
        kept v w p m e q = core_dominion.other v w p (λ o. opponent_differs a (sym m ∙ o)) e q

        leads : (v : ℕ) → core v ≡ true → (g.owner v ≡ a → ⊥) → (w : ℕ) × Edge g v w × (core w ≡ true)
        leads v p o =
            let m = other_player a (g.owner v) o in (σ v, core_dominion.edge v p m, core_dominion.own v p m)

    -- so it is one in what a does not draw to h
    core_rest :
        Dominion g (opponent a) (without V' (attractor g a V' (with_priority g V' h))) core σ
    core_rest =
        let A = attractor g a V' (with_priority g V' h) in
        held_narrower (without V' A) (without_left V' A)
        (λ v p.
        without_intro V' A v (core_dominion.within v p)
        (not_true_is_false (A v) (λ q. clash p (core_missed v q))))
        core_dominion

    -- where the core is empty, each vertex of D has a step on, and outside U one that sinks to U
    module _ (all : (v : ℕ) → D v ≡ true → reaching v ≡ true) where
      certificate : Ranked fixed a D U reaching
      certificate = attractor_certificate fixed a D U fits

      Onward : ℕ → ℕ → Type 0
      Onward v w = Inside g b D σ v w × (U v ≡ false → certificate.rank w < certificate.rank v)

      -- some step inside D
      inside_step : (v : ℕ) → D v ≡ true → (w : ℕ) × Inside g b D σ v w
      inside_step v p =
          ⊎_elim
          (λ m. (
            σ v,
            record {
              edge = record { edge = dom.edge v p m; fixed = λ k. refl };
              start = p;
              end = dom.own v p m;
            },
          ))
          (λ o.
          let (w, e, q) = total v (dom.within v p) in
          (w, record { edge = record { edge = e; fixed = λ m. absurd (o m) }; start = p; end = dom.other v w p o e q }))
          (owner_cases g b v)

      onward : (v : ℕ) → D v ≡ true → (w : ℕ) × Onward v w
      unfolding Onward fixed_to
      onward v p =
          ⊎_elim
          (λ u. let (w, s) = inside_step v p in (w, (s, λ o. absurd (clash u o))))
          (λ u.
          let (e, r, less) = certificate.pulled v (all v p) u refl in
          let w = certificate.pull v in (
            w,
            (record { edge = edge_step g a b σ v w (dom.edge v p) e; start = p; end = certificate.inside w r }, λ o. less),
          ))
          (bool_cases (U v))

      -- where a vertex moves to: on inside D, and nowhere outside it
      moves : (v : ℕ) → (w : ℕ) × (v < g.size → w < g.size) × (D v ≡ true → Onward v w)
      unfolding Onward
      moves v =
          ⊎_elim
          (λ p. let (w, o) = onward v p in (w, λ l. below w (dom.within w o.0.end), λ q. o))
          (λ p. (v, λ l. l, λ q. absurd (clash q p)))
          (bool_cases (D v))

      -- the cycle that comes of it meets U, so its highest priority is h
      never : (v : ℕ) → D v ≡ true → ⊥
      unfolding Onward
      never v p =
          let (u, m, reach, cycle) =
          comes_back g.priority (λ x y. D x ≡ true → Onward x y) g.size (λ x. (moves x).0) (λ x l. (moves x).2)
          (λ x l. (moves x).1 l)
          v
          (below v (dom.within v p)) in
          let kept : (x y : ℕ) → (D x ≡ true → Onward x y) → D x ≡ true → D y ≡ true = λ x y s q. (s q).0.end in
          let there : D u ≡ true = reach_stays (λ x. D x ≡ true) kept p reach in
          let c : Cycle g.priority Onward u m =
          walk_map (λ x y s. s.edge s.start) (stays (λ x. D x ≡ true) kept there cycle) in
          ⊎_elim
          (λ (x, l, q).
          let is : m ≡ h = highest_is h (λ y z s. most y (dom.within y s.0.start)) c x l
          (eqb-true _ h (and_right (D x) _ q)) in
          opponent_differs a (sym (ap parity is ∙ mine) ∙ dom.cycles u m (walk_map (λ y z s. s.0) c)))
          (λ e. no_falling_cycle certificate.rank (λ y z s. s.edge.1 s.start) e)
          (hits U c)

    -- where the core has no vertex, h can be reached from all of D
    everywhere_reaching : some g.size core ≡ false → (u : ℕ) → D u ≡ true → reaching u ≡ true
    everywhere_reaching none u q =
        not_false_is_true (reaching u)
        (λ o.
        clash (without_intro D reaching u q o) (some_false g.size core none u (below u (dom.within u q))))

    -- where D has a vertex, so has its core
    core_some : (v : ℕ) → D v ≡ true → (u : ℕ) × (core u ≡ true)
    core_some v p =
        ⊎_elim
        (λ yes'. let (u, l, q) = some_elim g.size core yes' in (u, q))
        (λ none. absurd (never (everywhere_reaching none) v p))
        (bool_cases (some g.size core))

    -- **A dominion of the opponent's that has a vertex has a core.**
    pub core_of : (v : ℕ) → D v ≡ true → Core g a V' D σ h
    core_of v p =
        let (u, q) = core_some v p in
        record {
          set = core;
          part = without_left D reaching;
          held = core_dominion;
          rest = core_rest;
          vertex = u;
          member = q;
        }
