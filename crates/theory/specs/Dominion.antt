-- Dominions: sets that a player holds by one fixed edge for each own vertex. Every solver ends in two of them that cover the game,
-- and that is enough for exact winning sets and for a winning choice of entries.
use Rattle.std.specs.Prelude.{Bool, true, false, ◌||◌, cond, List, ◌⊎◌, ◌≡◌, refl, ℕ, ◌≤◌, ◌<◌, get_or}
use Rattle.std.proofs.Common.{inl, inr, ⊎_elim, sym, ap, ap₂, ◌∙◌, arith, lt-ltb, ltb-true}
use Rattle.rules.specs.Counting.{Set, without, union}
use Rattle.rules.specs.Game.{Player, Even, Odd, opponent, Game, everywhere, Edge, Total, parity}
use Rattle.rules.specs.Winning.{Cycle, Step, WinsBy, Wins, WinningSets, WinningEntries}
use Rattle.rules.specs.Words.{entry, no_entry}
use Rattle.basics.specs.Basics.{bool_cases, clash, member_place, place_member, Subset}
use Rattle.theory.specs.Players.{player_cases, opponent_is_other}
use Rattle.basics.specs.Basics.{without_intro, without_left, without_right}
use Rattle.basics.specs.Basics.{union_left, union_right, union_cases, union_rest, union_without, union_absorbs}
use Rattle.theory.specs.Walks.{Relation, Among, walk_map, stays, cycle_splits, reach_stays, no_falling_cycle, first_edge, hits, Meets, highest_is}
use Rattle.theory.specs.OneWinner.{not_both_win}

-- an edge that is left when a has fixed σ, with both ends in D
abbrev pub Inside : Game → Player → Set → (ℕ → ℕ) → Relation
Inside g a D σ = Among (λ v. D v ≡ true) (Step g a σ)

-- every cycle of those edges has a highest priority of a's parity
abbrev pub GoodCycles : Game → Player → Set → (ℕ → ℕ) → Type 0
GoodCycles g a D σ = (v m : ℕ) → Cycle g.priority (Inside g a D σ) v m → parity m ≡ a

-- a holds D over T inside V by σ: D is a part of V, own fixed edges and the opponent's edges inside V lead from D to T or D, and
-- every cycle inside D is a's
pub record HeldOver (g : Game) (a : Player) (V' T D : Set) (σ : ℕ → ℕ) : Type 0 where
  pub within : Subset D V'
  pub edge : (v : ℕ) → D v ≡ true → g.owner v ≡ a → Edge g v (σ v)
  pub own : (v : ℕ) → D v ≡ true → g.owner v ≡ a → union T D (σ v) ≡ true
  pub other : (v w : ℕ) → D v ≡ true → (g.owner v ≡ a → ⊥) → Edge g v w → V' w ≡ true → union T D w ≡ true
  pub cycles : GoodCycles g a D σ

-- a holds D inside V by σ: a dominion, over nothing, so that those edges stay in D
abbrev pub Dominion : Game → Player → Set → Set → (ℕ → ℕ) → Type 0
Dominion g a V' D σ = HeldOver g a V' (λ v. false) D σ

-- a vertex is a's or not
pub owner_cases : (g : Game) (a : Player) (v : ℕ) → (g.owner v ≡ a) ⊎ (g.owner v ≡ a → ⊥)
owner_cases g a v = ⊎_elim (λ e. inl e) (λ e. inr (opponent_is_other e)) (player_cases a (g.owner v))

-- an edge that is left and ends inside V leads from what is held to it or to what it is held over
pub held_kept :
    {g : Game} {a : Player} {V' T D : Set} {σ : ℕ → ℕ} →
    HeldOver g a V' T D σ →
    (v w : ℕ) →
    Step g a σ v w →
    V' w ≡ true →
    D v ≡ true →
    union T D w ≡ true
held_kept {g} {a} {V'} {T} {D} held v w s inV in_d =
    ⊎_elim
    (λ mine. ap (union T D) (s.fixed mine) ∙ held.own v in_d mine)
    (λ theirs. held.other v w in_d theirs s.edge inV)
    (owner_cases g a v)

-- the same step where the choices agree at v
pub step_agrees :
    {g : Game} {a : Player} {σ σ' : ℕ → ℕ} {v w : ℕ} → (g.owner v ≡ a → σ' v ≡ σ v) → Step g a σ' v w → Step g a σ v w
step_agrees agree s = record { edge = s.edge; fixed = λ mine. s.fixed mine ∙ agree mine }

-- cycles of a smaller set, under choices that agree on it, are cycles of the larger
pub good_cycles_sub :
    {g : Game} {a : Player} (D D' : Set) (σ σ' : ℕ → ℕ) →
    Subset D' D →
    ((v : ℕ) → D' v ≡ true → g.owner v ≡ a → σ' v ≡ σ v) →
    GoodCycles g a D σ →
    GoodCycles g a D' σ'
good_cycles_sub D D' σ σ' sub agree good v m c =
    good v m
    (walk_map
    (λ x y s.
    record {
      edge = step_agrees (agree x s.start) s.edge;
      start = sub x s.start;
      end = sub y s.end;
    })
    c)

-- What is held depends on the sets by their members alone, and on σ at own vertices of it alone.
pub held_cong :
    {g : Game} {a : Player} {V₁ T₁ D₁ : Set} {σ₁ : ℕ → ℕ} (V₂ T₂ D₂ : Set) (σ₂ : ℕ → ℕ) →
    ((v : ℕ) → V₁ v ≡ V₂ v) →
    ((v : ℕ) → T₁ v ≡ T₂ v) →
    ((v : ℕ) → D₁ v ≡ D₂ v) →
    ((v : ℕ) → D₁ v ≡ true → g.owner v ≡ a → σ₂ v ≡ σ₁ v) →
    HeldOver g a V₁ T₁ D₁ σ₁ →
    HeldOver g a V₂ T₂ D₂ σ₂
held_cong {g} {a} {V₁} {T₁} {D₁} {σ₁} V₂ T₂ D₂ σ₂ sameV same_t sameD agree held =
    record {
      within = λ v p. sym (sameV v) ∙ held.within v (sameD v ∙ p);
      edge = λ v p mine. rw (agree v (sameD v ∙ p) mine) (held.edge v (sameD v ∙ p) mine);
      own =
          λ v p mine. ap (union T₂ D₂) (agree v (sameD v ∙ p) mine) ∙ sym (same_td (σ₁ v)) ∙ held.own v (sameD v ∙ p) mine;
      other = λ v w p theirs e q. sym (same_td w) ∙ held.other v w (sameD v ∙ p) theirs e (sameV w ∙ q);
      cycles =
          good_cycles_sub D₁ D₂ σ₁ σ₂ (λ v p. sameD v ∙ p) (λ v p mine. agree v (sameD v ∙ p) mine) held.cycles;
    }
  where
    same_td : (v : ℕ) → union T₁ D₁ v ≡ union T₂ D₂ v
    same_td v = ap₂ (λ (b c : Bool). b || c) (same_t v) (sameD v)

pub dominion_cong :
    {g : Game} {a : Player} {V₁ D₁ : Set} {σ₁ : ℕ → ℕ} (V₂ D₂ : Set) (σ₂ : ℕ → ℕ) →
    ((v : ℕ) → V₁ v ≡ V₂ v) →
    ((v : ℕ) → D₁ v ≡ D₂ v) →
    ((v : ℕ) → D₁ v ≡ true → g.owner v ≡ a → σ₂ v ≡ σ₁ v) →
    Dominion g a V₁ D₁ σ₁ →
    Dominion g a V₂ D₂ σ₂
dominion_cong V₂ D₂ σ₂ sameV sameD agree dom = held_cong V₂ (λ v. false) D₂ σ₂ sameV (λ v. refl) sameD agree dom

-- the empty set is everybody's dominion
pub dominion_empty :
    (g : Game) (a : Player) (V' D : Set) (σ : ℕ → ℕ) → ((v : ℕ) → D v ≡ false) → Dominion g a V' D σ
dominion_empty g a V' D σ none =
    record {
      within = λ v p. absurd (clash p (none v));
      edge = λ v p. absurd (clash p (none v));
      own = λ v p. absurd (clash p (none v));
      other = λ v w p. absurd (clash p (none v));
      cycles = λ v m c. absurd (clash (first_edge c).1.start (none v));
    }

-- where a rank sinks along every edge inside D, there is no cycle inside D
pub sinking_cycles :
    {g : Game} {a : Player} (D : Set) (σ rank : ℕ → ℕ) →
    ((v w : ℕ) → Inside g a D σ v w → rank w < rank v) →
    GoodCycles g a D σ
sinking_cycles D σ rank sinks v m c = absurd (no_falling_cycle rank sinks c)

-- whoever fixes edges that agree with the dominion's choice in the dominion wins from each vertex of it
pub dominion_wins_by :
    {g : Game} {a : Player} {D : Set} {σ : ℕ → ℕ} →
    Total g →
    Dominion g a (everywhere g) D σ →
    (σ' : ℕ → ℕ) →
    ((v : ℕ) → D v ≡ true → g.owner v ≡ a → σ' v ≡ σ v) →
    (v : ℕ) →
    D v ≡ true →
    WinsBy g a σ' v
dominion_wins_by {g} {a} {D} {σ} total dom σ' agree v in_d u m reach c =
    good_cycles_sub D D σ σ' (λ x p. p) agree dom.cycles
    u m
    (stays (λ x. D x ≡ true) kept (reach_stays (λ x. D x ≡ true) kept in_d reach) c)
  where
    kept : (x y : ℕ) → Step g a σ' x y → D x ≡ true → D y ≡ true
    kept x y s p =
        held_kept dom x y
        (step_agrees (agree x p) s)
        (lt-ltb y g.size (total.ends x y s.edge))
        p

-- the first edge of a vertex: any will do where the choice does not matter
unfoldable pub first_target : Game → ℕ → ℕ
first_target g v = get_or (g.targets v) 0 0

pub first_target_edge : (g : Game) → Total g → (v : ℕ) → v < g.size → Edge g v (first_target g v)
unfolding first_target
first_target_edge g total v small =
    let (i, l, e) = member_place (g.targets v) (total.leads v small).1 in place_member (g.targets v) 0 (omega arith)

-- A dominion in the everywhere game is its player's: a wins from each vertex of it.
pub dominion_wins :
    {g : Game} {a : Player} {D : Set} {σ : ℕ → ℕ} →
    Total g → Dominion g a (everywhere g) D σ → (v : ℕ) → D v ≡ true → Wins g a v
dominion_wins {g} {a} {D} {σ} total dom v in_d =
    record {
      choice = σ';
      fixes =
          λ u small mine.
          ⊎_elim
          (λ p. rw (agree u p mine) (dom.edge u p mine))
          (λ p. rw p (first_target_edge g total u small))
          (bool_cases (D u));
      wins = dominion_wins_by total dom σ' agree v in_d;
    }
  where
    σ' : ℕ → ℕ
    σ' u = cond (D u) (σ u) (first_target g u)

    agree : (u : ℕ) → D u ≡ true → g.owner u ≡ a → σ' u ≡ σ u
    agree u p mine = rw p

-- Partition, exact: two dominions in the everywhere game that cover its vertices are exactly the winning sets.
pub partition_exact :
    (g : Game) → Total g →
    (won : Player → Set) (σ : Player → ℕ → ℕ) →
    ((v : ℕ) → v < g.size → (won Even v ≡ true) ⊎ (won Odd v ≡ true)) →
    ((a : Player) → Dominion g a (everywhere g) (won a) (σ a)) →
    WinningSets g won
partition_exact g total won σ cover dom a v small = (dominion_wins total (dom a) v, λ w. back a w (cover v small))
  where
    theirs : (b : Player) → Wins g b v → won (opponent b) v ≡ true → won b v ≡ true
    theirs b w p = absurd (not_both_win g total b v small w (dominion_wins total (dom (opponent b)) v p))

    back : (b : Player) → Wins g b v → (won Even v ≡ true) ⊎ (won Odd v ≡ true) → won b v ≡ true
    back Even w (inl p) = p
    back Even w (inr p) = theirs Even w p
    back Odd w (inl p) = theirs Odd w p
    back Odd w (inr p) = p

-- Partition, entries: a table that has the dominions' choices at the winners' own vertices and no entry at the others is a
-- winning choice.
pub partition_entries :
    (g : Game) → Total g →
    (won : Player → Set) (σ : Player → ℕ → ℕ) (strategy : List ℕ) →
    ((a : Player) → Dominion g a (everywhere g) (won a) (σ a)) →
    ((a : Player) (v : ℕ) → v < g.size → won a v ≡ true → g.owner v ≡ a → entry strategy v ≡ σ a v) →
    ((a : Player) (v : ℕ) → v < g.size → won a v ≡ true → (g.owner v ≡ a → ⊥) → entry strategy v ≡ no_entry) →
    WinningEntries g won strategy
partition_entries g total won σ strategy dom chosen absent =
    record {
      given = λ a v small p mine. rw (chosen a v small p mine) ((dom a).edge v p mine);
      absent = absent;
      win =
          λ a τ fixes agree v small p.
          dominion_wins_by total (dom a) τ
          (λ u q mine.
          let below = ltb-true u g.size ((dom a).within u q) in
          agree u below q mine ∙ chosen a u below q mine)
          v
          p;
    }

-- More room: what a holds in a set, a holds in a larger one, where the opponent's edges from it lead to nothing new.
pub held_wider :
    {g : Game} {a : Player} {V₁ T D : Set} {σ : ℕ → ℕ} (V₂ : Set) →
    Subset V₁ V₂ →
    ((v w : ℕ) → D v ≡ true → (g.owner v ≡ a → ⊥) → Edge g v w → V₂ w ≡ true → V₁ w ≡ true) →
    HeldOver g a V₁ T D σ →
    HeldOver g a V₂ T D σ
held_wider V₂ sub nothing-new held =
    record {
      within = λ v p. sub v (held.within v p);
      edge = held.edge;
      own = held.own;
      other = λ v w p theirs e q. held.other v w p theirs e (nothing-new v w p theirs e q);
      cycles = held.cycles;
    }

-- Trap: what a holds in V without X, a dominion say, a holds in V, where no opponent's vertex of it has an edge inside V into X.
pub held_trap :
    {g : Game} {a : Player} {T D : Set} {σ : ℕ → ℕ} (V' X : Set) →
    ((v w : ℕ) → D v ≡ true → (g.owner v ≡ a → ⊥) → Edge g v w → V' w ≡ true → X w ≡ false) →
    HeldOver g a (without V' X) T D σ →
    HeldOver g a V' T D σ
held_trap V' X out held =
    held_wider V' (without_left V' X) (λ v w p theirs e q. without_intro V' X w q (out v w p theirs e q)) held

-- Less room: what a holds in a set, a holds in any part of the set that has it.
pub held_narrower :
    {g : Game} {a : Player} {V₁ T D : Set} {σ : ℕ → ℕ} (V₂ : Set) →
    Subset V₂ V₁ →
    Subset D V₂ →
    HeldOver g a V₁ T D σ →
    HeldOver g a V₂ T D σ
held_narrower V₂ sub inV₂ held =
    record {
      within = inV₂;
      edge = held.edge;
      own = held.own;
      other = λ v w p theirs e q. held.other v w p theirs e (sub w q);
      cycles = held.cycles;
    }

-- Restriction: where a's choice never leads from D into X, D without X is a's dominion in V without X.
pub dominion_without :
    {g : Game} {a : Player} {V' D : Set} {σ : ℕ → ℕ} (X : Set) →
    ((v : ℕ) → D v ≡ true → X v ≡ false → g.owner v ≡ a → X (σ v) ≡ false) →
    Dominion g a V' D σ →
    Dominion g a (without V' X) (without D X) σ
dominion_without {g} {a} {V'} {D} {σ} X out dom =
    record {
      within = λ v p. without_intro V' X v (dom.within v (left v p)) (right v p);
      edge = λ v p mine. dom.edge v (left v p) mine;
      own = λ v p mine. without_intro D X (σ v) (dom.own v (left v p) mine) (out v (left v p) (right v p) mine);
      other =
          λ v w p theirs e q.
          without_intro D X w (dom.other v w (left v p) theirs e (without_left V' X w q)) (without_right V' X w q);
      cycles = good_cycles_sub D (without D X) σ σ left (λ v p mine. refl) dom.cycles;
    }
  where
    left : Subset (without D X) D
    left = without_left D X

    right : (v : ℕ) → without D X v ≡ true → X v ≡ false
    right = without_right D X

-- What a holds in V without T, a holds over T in V.
pub dominion_over :
    {g : Game} {a : Player} {D : Set} {σ : ℕ → ℕ} (V' T : Set) →
    Dominion g a (without V' T) D σ → HeldOver g a V' T D σ
dominion_over {g} {a} {D} {σ} V' T dom =
    record {
      within = λ v p. without_left V' T v (dom.within v p);
      edge = dom.edge;
      own = λ v p mine. union_right T D (σ v) (dom.own v p mine);
      other =
          λ v w p theirs e q.
          ⊎_elim
          (λ t. union_left T D w t)
          (λ t. union_right T D w (dom.other v w p theirs e (without_intro V' T w q t)))
          (bool_cases (T w));
      cycles = dom.cycles;
    }

-- Join: a dominion and what is held over it are one dominion. A cycle that is in the first stays there.
pub dominion_join :
    {g : Game} {a : Player} {V' T D : Set} {σ : ℕ → ℕ} →
    Dominion g a V' T σ → HeldOver g a V' T D σ → Dominion g a V' (union T D) σ
dominion_join {g} {a} {V'} {T} {D} {σ} dom held =
    record {
      within = λ v p. ⊎_elim (dom.within v) (held.within v) (union_cases T D v p);
      edge = λ v p mine. ⊎_elim (λ t. dom.edge v t mine) (λ d. held.edge v d mine) (union_cases T D v p);
      own =
          λ v p mine.
          ⊎_elim (λ t. union_left T D (σ v) (dom.own v t mine)) (λ d. held.own v d mine) (union_cases T D v p);
      other =
          λ v w p theirs e q.
          ⊎_elim
          (λ t. union_left T D w (dom.other v w t theirs e q))
          (λ d. held.other v w d theirs e q)
          (union_cases T D v p);
      cycles =
          λ v m c.
          ⊎_elim
          (λ c₁. dom.cycles v m (walk_map (λ x y s. record { edge = s.edge.edge; start = s.start; end = s.end }) c₁))
          (λ c₂. held.cycles v m (walk_map outside c₂))
          (cycle_splits T kept c);
    }
  where
    outside : (x y : ℕ) → Among (λ u. T u ≡ false) (Inside g a (union T D) σ) x y → Inside g a D σ x y
    outside x y s =
        record {
          edge = s.edge.edge;
          start = union_rest T D x s.edge.start s.start;
          end = union_rest T D y s.edge.end s.end;
        }

    kept : (x y : ℕ) → Inside g a (union T D) σ x y → T x ≡ true → T y ≡ true
    kept x y s p = held_kept dom x y s.edge (⊎_elim (dom.within y) (held.within y) (union_cases T D y s.end)) p

-- Attraction: where a's choice and the opponent's edges inside V sink in rank on their way through A to T, a holds what of A lies
-- outside T over T.
pub ranked_held :
    {g : Game} {a : Player} {V' T A : Set} {σ : ℕ → ℕ} (rank : ℕ → ℕ) →
    Subset A V' →
    ((v : ℕ) → A v ≡ true → T v ≡ false → g.owner v ≡ a → Edge g v (σ v) × (A (σ v) ≡ true) × (rank (σ v) < rank v)) →
    ((v w : ℕ) → A v ≡ true → T v ≡ false → (g.owner v ≡ a → ⊥) → Edge g v w → V' w ≡ true → (A w ≡ true) × (rank w < rank v)) →
    HeldOver g a V' T (without A T) σ
ranked_held {g} {a} {V'} {T} {A} {σ} rank inside own other =
    record {
      within = λ v p. inside v (left v p);
      edge = λ v p mine. (own v (left v p) (right v p) mine).0;
      own = λ v p mine. either (σ v) (own v (left v p) (right v p) mine).1;
      other = λ v w p theirs e q. either w (other v w (left v p) (right v p) theirs e q).0;
      cycles = sinking_cycles (without A T) σ rank sinks;
    }
  where
    left : Subset (without A T) A
    left = without_left A T

    right : (v : ℕ) → without A T v ≡ true → T v ≡ false
    right = without_right A T

    either : Subset A (union T (without A T))
    either w p = union_without T A w ∙ union_right T A w p

    sinks : (v w : ℕ) → Inside g a (without A T) σ v w → rank w < rank v
    sinks v w s =
        ⊎_elim
        (λ mine. rw (s.edge.fixed mine) (own v (left v s.start) (right v s.start) mine).2)
        (λ theirs. (other v w (left v s.start) (right v s.start) theirs s.edge.edge (inside w (left w s.end))).1)
        (owner_cases g a v)

-- So what is drawn to a dominion is a dominion with it.
pub dominion_drawn :
    {g : Game} {a : Player} {V' T A : Set} {σ : ℕ → ℕ} →
    Subset T A → Dominion g a V' T σ → HeldOver g a V' T (without A T) σ → Dominion g a V' A σ
dominion_drawn {V'} {T} {A} {σ} sub dom held =
    dominion_cong
    V'
    A
    σ
    (λ v. refl)
    (λ v. union_without T A v ∙ union_absorbs T A sub v)
    (λ v p mine. refl)
    (dominion_join dom held)

-- Through U: where U is drawn to through A, every cycle that meets U is a's, and the rest of V without A is a's dominion there, the
-- everywhere of V is a's dominion. A cycle that misses U stays in A once it is there.
pub dominion_through :
    {g : Game} {a : Player} {V' U A : Set} {σ : ℕ → ℕ} →
    Subset U A →
    ((v : ℕ) → V' v ≡ true → g.owner v ≡ a → Edge g v (σ v) × (V' (σ v) ≡ true)) →
    ((v m : ℕ) (c : Cycle g.priority (Inside g a V' σ) v m) → Meets U c → parity m ≡ a) →
    HeldOver g a V' U (without A U) σ →
    Dominion g a (without V' A) (without V' A) σ →
    Dominion g a V' V' σ
dominion_through {g} {a} {V'} {U} {A} {σ} sub own met drawn rest =
    record {
      within = λ v p. p;
      edge = λ v p mine. (own v p mine).0;
      own = λ v p mine. (own v p mine).1;
      other = λ v w p theirs e q. q;
      cycles =
          λ v m c.
          ⊎_elim
          (met v m c)
          (λ missing.
          ⊎_elim
          (λ c₁. drawn.cycles v m (walk_map within_A c₁))
          (λ c₂. rest.cycles v m (walk_map outside_A c₂))
          (cycle_splits A kept missing))
          (hits U c);
    }
  where
    Missing : Relation
    Missing = Among (λ u. U u ≡ false) (Inside g a V' σ)

    kept : (x y : ℕ) → Missing x y → A x ≡ true → A y ≡ true
    kept x y s p =
        sym (union_absorbs U A sub y) ∙
        sym (union_without U A y) ∙
        held_kept drawn x y s.edge.edge s.edge.end (without_intro A U x p s.start)

    within_A : (x y : ℕ) → Among (λ u. A u ≡ true) Missing x y → Inside g a (without A U) σ x y
    within_A x y s =
        record {
          edge = s.edge.edge.edge;
          start = without_intro A U x s.start s.edge.start;
          end = without_intro A U y s.end s.edge.end;
        }

    outside_A : (x y : ℕ) → Among (λ u. A u ≡ false) Missing x y → Inside g a (without V' A) σ x y
    outside_A x y s =
        record {
          edge = s.edge.edge.edge;
          start = without_intro V' A x s.edge.edge.start s.start;
          end = without_intro V' A y s.edge.edge.end s.end;
        }

-- Highest: where k is a's and the highest priority in V, and U has it, all cycles that meet U are a's: so V is a's dominion, if U is
-- drawn to through A and the rest of V without A is a's dominion there.
pub dominion_highest :
    {g : Game} {a : Player} {V' U A : Set} {σ : ℕ → ℕ} (k : ℕ) →
    parity k ≡ a →
    ((v : ℕ) → V' v ≡ true → g.priority v ≤ k) →
    ((v : ℕ) → U v ≡ true → g.priority v ≡ k) →
    Subset U A →
    ((v : ℕ) → V' v ≡ true → g.owner v ≡ a → Edge g v (σ v) × (V' (σ v) ≡ true)) →
    HeldOver g a V' U (without A U) σ →
    Dominion g a (without V' A) (without V' A) σ →
    Dominion g a V' V' σ
dominion_highest k mine top reaches sub own drawn rest =
    dominion_through
    sub
    own
    (λ v m c (u, l, p). ap parity (highest_is k (λ x y s. top x s.start) c u l (reaches u p)) ∙ mine)
    drawn
    rest
