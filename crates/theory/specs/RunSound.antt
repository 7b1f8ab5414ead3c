-- A run is sound: the two sets split its set, and each is its player's dominion in it by the entries.
use Rattle.std.specs.Prelude.{true, false, ◌⊎◌, ◌≡◌, refl, ℕ, eqb}
use Rattle.std.proofs.Common.{inl, inr, ⊎_elim, sym, ◌∙◌, eqb-true}
use Rattle.rules.specs.Counting.{Set, union, without}
use Rattle.rules.specs.Game.{Player, opponent, Game, Edge}
use Rattle.rules.specs.Zielonka.{with_priority}
use Rattle.basics.specs.Basics.{bool_cases, clash, bool_ext, and_right}
use Rattle.theory.specs.Players.{other_player, opponent_twice}
use Rattle.basics.specs.Basics.{without_intro, without_left, without_right, union_left, union_right, union_cases}
use Rattle.theory.specs.Dominion.{HeldOver, Dominion, dominion_cong, dominion_empty, dominion_join, dominion_drawn, dominion_over}
use Rattle.theory.specs.Dominion.{dominion_highest, ranked_held, held_trap}
use Rattle.theory.specs.AttractorComplement.{own_stays_out}
use Rattle.theory.specs.AttractorRank.{Ranked}
use Rattle.theory.specs.Run.{Top, Cut, AllWon, AllEntries, SomeLost, SomeEntries, Run, empty, all_won, some_lost, both_players}

-- the two sets split V: each vertex of V is in exactly one of them, and nothing else is
pub record Splits (V' : Set) (won : Player → Set) : Type 0 where
  pub inside : (c : Player) (v : ℕ) → won c v ≡ true → V' v ≡ true
  pub covers : (c : Player) (v : ℕ) → V' v ≡ true → (won c v ≡ true) ⊎ (won (opponent c) v ≡ true)
  pub apart : (c : Player) (v : ℕ) → won c v ≡ true → won (opponent c) v ≡ true → ⊥

-- it is enough to say so from one player's side
splits_from :
    {V' : Set} {won : Player → Set} (a : Player) →
    ((v : ℕ) → won a v ≡ true → V' v ≡ true) →
    ((v : ℕ) → won (opponent a) v ≡ true → V' v ≡ true) →
    ((v : ℕ) → V' v ≡ true → (won a v ≡ true) ⊎ (won (opponent a) v ≡ true)) →
    ((v : ℕ) → won a v ≡ true → won (opponent a) v ≡ true → ⊥) →
    Splits V' won
splits_from {V'} {won} a mine theirs covers apart =
    record {
      inside = both_players a (λ c. (v : ℕ) → won c v ≡ true → V' v ≡ true) mine theirs;
      covers =
          both_players a (λ c. (v : ℕ) → V' v ≡ true → (won c v ≡ true) ⊎ (won (opponent c) v ≡ true)) covers
          (rw (opponent_twice a) (λ v p. ⊎_elim inr inl (covers v p)));
      apart =
          both_players a (λ c. (v : ℕ) → won c v ≡ true → won (opponent c) v ≡ true → ⊥) apart
          (rw (opponent_twice a) (λ v p q. apart v q p));
    }

-- what a call gives: the two sets split V, and each is its player's dominion in V by the entries
pub record SoundRun (g : Game) (V' : Set) (won : Player → Set) (σ : ℕ → ℕ) : Type 0 where
  pub splits : Splits V' won
  pub dominion : (c : Player) → Dominion g c V' (won c) σ

-- a player who is not a's opponent is a
not_opponent : (a b : Player) → (b ≡ opponent a → ⊥) → b ≡ a
not_opponent a b n = other_player (opponent a) b n ∙ opponent_twice a

-- what is drawn to T in V is held over T, by entries that are the attractor's there
drawn_held :
    {g : Game} {a : Player} {V' T S : Set} {σ : ℕ → ℕ} (c : Ranked g a V' T S) →
    ((v : ℕ) → S v ≡ true → T v ≡ false → g.owner v ≡ a → σ v ≡ c.pull v) →
    HeldOver g a V' T (without S T) σ
drawn_held c pulled =
    ranked_held
    c.rank
    c.inside
    (λ v p t mine. rw (pulled v p t mine) (c.pulled v p t mine))
    (λ v w p t theirs e q. c.pushed v p t theirs w e q)

-- a dominion of the opponent of c in V without S, an attractor for c, is the opponent's in V, by entries that are the same on it
trapped :
    {g : Game} {c d : Player} {V' T S rest D : Set} {found σ : ℕ → ℕ} →
    ((v : ℕ) → (g.owner v ≡ d → ⊥) → g.owner v ≡ c) →
    Cut g c V' T S rest →
    ((v : ℕ) → D v ≡ true → g.owner v ≡ d → σ v ≡ found v) →
    Dominion g d rest D found →
    Dominion g d V' D σ
trapped {g} {c} {d} {V'} {T} {S} {rest} {D} {found} {σ} other cut agree dom =
    held_trap V' S
    (λ v w p theirs e q.
    own_stays_out cut.drawn.closed v w (without_left V' S v (in_rest v p)) (without_right V' S v (in_rest v p)) (other v theirs) e)
    (dominion_cong (without V' S) D σ cut.left (λ v. refl) agree dom)
  where
    in_rest : (v : ℕ) → D v ≡ true → without V' S v ≡ true
    in_rest v p = sym (cut.left v) ∙ dom.within v p

-- where the opponent wins nothing of the rest, a holds V
module _
    {g : Game}
    {V' A rest : Set}
    {first won : Player → Set}
    {found σ : ℕ → ℕ}
    {a : Player}
    {p : ℕ}
    (top : Top g V' a p)
    (cut : Cut g a V' (with_priority g V' p) A rest)
    (sound : SoundRun g rest first found)
    (result : AllWon a V' first won)
    (entries : AllEntries g a V' (with_priority g V' p) A cut.drawn.pull found σ)
  where
    -- a won the whole rest
    first_all : (v : ℕ) → first a v ≡ without V' A v
    first_all v =
        bool_ext (first a v) (without V' A v)
        (λ q. sym (cut.left v) ∙ sound.splits.inside a v q)
        (λ q.
        ⊎_elim
        (λ r. r)
        (λ r. absurd (clash r (result.nothing v)))
        (sound.splits.covers a v (cut.left v ∙ q)))

    rest_dominion : Dominion g a (without V' A) (without V' A) σ
    rest_dominion =
        dominion_cong
        (without V' A)
        (without V' A)
        σ
        cut.left
        first_all
        (λ v q mine.
        let r = sym (first_all v) ∙ q in
        entries.kept v (without_left V' A v r) (without_right V' A v r) mine)
        (sound.dominion a)

    -- a's entries lead along edges that stay in V
    all_leads : (v : ℕ) → V' v ≡ true → g.owner v ≡ a → Edge g v (σ v) × (V' (σ v) ≡ true)
    all_leads v q mine = ⊎_elim in_A (λ out. outside (without_intro V' A v q out)) (bool_cases (A v))
      where
        outside : without V' A v ≡ true → Edge g v (σ v) × (V' (σ v) ≡ true)
        outside r = (rest_dominion.edge v r mine, without_left V' A (σ v) (rest_dominion.own v r mine))

        pulled : A v ≡ true → with_priority g V' p v ≡ false → Edge g v (σ v) × (V' (σ v) ≡ true)
        pulled r t =
            let (e, s, less) = cut.drawn.pulled v r t mine in
            rw (entries.pulled v r t mine) (e, cut.drawn.inside _ s)

        in_A : A v ≡ true → Edge g v (σ v) × (V' (σ v) ≡ true)
        in_A r = ⊎_elim (λ t. entries.stays v t mine) (pulled r) (bool_cases (with_priority g V' p v))

    all_dominion : Dominion g a V' V' σ
    all_dominion =
        dominion_highest p
        top.mine
        top.most
        (λ v u. eqb-true (g.priority v) p (and_right (V' v) (eqb (g.priority v) p) u))
        cut.drawn.closed.target
        all_leads
        (drawn_held cut.drawn entries.pulled)
        rest_dominion

    all_sound : SoundRun g V' won σ
    all_sound =
        record {
          splits =
              splits_from a
              (λ v q. sym (result.mine v) ∙ q)
              (λ v q. absurd (clash q (result.theirs v)))
              (λ v q. inl (result.mine v ∙ q))
              (λ v q r. clash r (result.theirs v));
          dominion =
              both_players a
              (λ c. Dominion g c V' (won c) σ)
              (dominion_cong V' (won a) σ (λ v. refl) (λ v. sym (result.mine v)) (λ v q mine. refl) all_dominion)
              (dominion_empty g (opponent a) V' (won (opponent a)) σ result.theirs);
        }

-- where the opponent wins some of the rest, it holds what is drawn to that, and each holds what it wins of what is left
module _
    {g : Game}
    {V' U A rest B rest₂ : Set}
    {first second won : Player → Set}
    {found found₂ σ : ℕ → ℕ}
    {a : Player}
    (cut : Cut g a V' U A rest)
    (sound : SoundRun g rest first found)
    (cut₂ : Cut g (opponent a) V' (first (opponent a)) B rest₂)
    (sound₂ : SoundRun g rest₂ second found₂)
    (result : SomeLost a B first second won)
    (entries : SomeEntries g (opponent a) (first (opponent a)) B second cut₂.drawn.pull found found₂ σ)
  where
    -- the opponent holds in V what it won first, and so what is drawn to it
    drawn_dominion : Dominion g (opponent a) V' B σ
    drawn_dominion =
        dominion_drawn
        cut₂.drawn.closed.target
        (trapped (λ v. not_opponent a (g.owner v)) cut entries.kept (sound.dominion (opponent a)))
        (drawn_held cut₂.drawn entries.pulled)

    -- and what it won then, over that
    their_dominion : Dominion g (opponent a) V' (union B (second (opponent a))) σ
    their_dominion =
        dominion_join drawn_dominion
        (dominion_over V' B
        (dominion_cong
        (without V' B)
        (second (opponent a))
        σ
        cut₂.left
        (λ v. refl)
        (entries.later (opponent a))
        (sound₂.dominion (opponent a))))

    -- a holds in V what it won of V without B
    my_dominion : Dominion g a V' (second a) σ
    my_dominion = trapped (λ v. other_player a (g.owner v)) cut₂ (entries.later a) (sound₂.dominion a)

    -- what is won of V without B lies outside B
    second_outside : (c : Player) (v : ℕ) → second c v ≡ true → without V' B v ≡ true
    second_outside c v q = sym (cut₂.left v) ∙ sound₂.splits.inside c v q

    some_sound : SoundRun g V' won σ
    some_sound =
        record {
          splits =
              splits_from a
              (λ v q. my_dominion.within v (sym (result.mine v) ∙ q))
              (λ v q. their_dominion.within v (sym (result.theirs v) ∙ q))
              covered
              (λ v q r. disjoint v (sym (result.mine v) ∙ q) (union_cases B (second (opponent a)) v (sym (result.theirs v) ∙ r)));
          dominion =
              both_players a
              (λ c. Dominion g c V' (won c) σ)
              (dominion_cong V' (won a) σ (λ v. refl) (λ v. sym (result.mine v)) (λ v q mine. refl) my_dominion)
              (dominion_cong V' (won (opponent a)) σ (λ v. refl) (λ v. sym (result.theirs v)) (λ v q mine. refl) their_dominion);
        }
      where
        covered : (v : ℕ) → V' v ≡ true → (won a v ≡ true) ⊎ (won (opponent a) v ≡ true)
        covered v q =
            ⊎_elim
            (λ r. inr (result.theirs v ∙ union_left B (second (opponent a)) v r))
            (λ r.
            ⊎_elim
            (λ s. inl (result.mine v ∙ s))
            (λ s. inr (result.theirs v ∙ union_right B (second (opponent a)) v s))
            (sound₂.splits.covers a v (cut₂.left v ∙ without_intro V' B v q r)))
            (bool_cases (B v))

        disjoint : (v : ℕ) → second a v ≡ true → (B v ≡ true) ⊎ (second (opponent a) v ≡ true) → ⊥
        disjoint v q (inl r) = clash r (without_right V' B v (second_outside a v q))
        disjoint v q (inr r) = sound₂.splits.apart a v q r

-- nobody wins anything of the empty set
none_sound :
    {g : Game} {V' : Set} {won : Player → Set} {σ : ℕ → ℕ} →
    ((v : ℕ) → V' v ≡ false) → ((c : Player) (v : ℕ) → won c v ≡ false) → SoundRun g V' won σ
none_sound {g} {V'} {won} {σ} none nothing =
    record {
      splits =
          record {
            inside = λ c v q. absurd (clash q (nothing c v));
            covers = λ c v q. absurd (clash q (none v));
            apart = λ c v q r. clash q (nothing c v);
          };
      dominion = λ c. dominion_empty g c V' (won c) σ (nothing c);
    }

-- **A run splits its set, and what each player wins is that player's dominion in it by the entries.**
pub run_sound : {g : Game} {V' : Set} {won : Player → Set} {σ : ℕ → ℕ} {n : ℕ} → Run g V' won σ n → SoundRun g V' won σ
run_sound (empty none nothing e) = none_sound none nothing
run_sound (all_won top cut run result entries e) = all_sound top cut (run_sound run) result entries
run_sound (some_lost top cut run cut₂ run₂ result entries e) = some_sound cut (run_sound run) cut₂ (run_sound run₂) result entries
