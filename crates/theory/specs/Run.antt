-- A run of Zielonka's recursion, as a relation: the set, what each player won, the entries and the calls. Sets are tied by their
-- members alone and entries at winners' own vertices alone, so that a solver that keeps one table of entries in place has a run.
use Rattle.std.specs.Prelude.{true, false, cond, ◌≡◌, refl, ℕ, ◌+◌, ◌≤◌, ◌<◌}
use Rattle.std.proofs.Common.{sym, ap, subst, ◌∙◌, arith, eq-eqb}
use Rattle.std.proofs.Math.Path.{subst⁻¹, fun_ext}
use Rattle.rules.specs.Counting.{Set, union, without, count}
use Rattle.rules.specs.Game.{Player, Even, Odd, opponent, Game, Edge, parity}
use Rattle.rules.specs.Attractor.{attractor}
use Rattle.rules.specs.Distance.{outside, lowest_in, attractor_entry}
use Rattle.rules.specs.Zielonka.{highest_in, with_priority}
use Rattle.basics.specs.Basics.{clash, not_true_is_false, and_intro, count_strict}
use Rattle.basics.specs.Basics.{Subset, without_left, without_right, union_left, union_right}
use Rattle.theory.specs.Attractor.{Fits}
use Rattle.theory.specs.Distance.{nearest, entry_nearest, lowest_in_found}
use Rattle.theory.specs.AttractorRank.{Ranked, attractor_certificate, attractor_pull}
use Rattle.theory.specs.AttractorComplement.{TotalIn, rest_total}
use Rattle.basics.specs.Greatest.{greatest_bounds, greatest_attained}

-- p is the highest priority in V and a's: some vertex of V has it, and none has more
pub record Top (g : Game) (V' : Set) (a : Player) (p : ℕ) : Type 0 where
  pub vertex : ℕ
  pub member : V' vertex ≡ true
  pub has : g.priority vertex ≡ p
  pub most : (v : ℕ) → V' v ≡ true → g.priority v ≤ p
  pub mine : parity p ≡ a

-- S is the attractor of T in V for c, with the entries that distances fix, and `rest` is V without S
pub record Cut (g : Game) (c : Player) (V' T S rest : Set) : Type 0 where
  pub drawn : Ranked g c V' T S
  pub near : (v : ℕ) → S v ≡ true → T v ≡ false → g.owner v ≡ c → drawn.pull v ≡ nearest g c V' T v
  pub left : (v : ℕ) → rest v ≡ without V' S v

-- the rules' attractor makes one
pub attractor_cut :
    (g : Game) (c : Player) (V' T rest : Set) →
    Fits g V' T →
    ((v : ℕ) → rest v ≡ without V' (attractor g c V' T) v) →
    Cut g c V' T (attractor g c V' T) rest
attractor_cut g c V' T rest fits left =
    record {
      drawn = attractor_certificate g c V' T fits;
      near = λ v p t o. attractor_pull g c V' T fits v;
      left = left;
    }

-- in which the rules' entries are the certificate's, where no vertex has the number for none
pub cut_entry :
    {g : Game} {c : Player} {V' T rest : Set} →
    Fits g V' T →
    g.size ≤ outside →
    (cut : Cut g c V' T (attractor g c V' T) rest) →
    (v : ℕ) →
    attractor g c V' T v ≡ true →
    T v ≡ false →
    g.owner v ≡ c →
    attractor_entry g c V' T v ≡ cut.drawn.pull v
cut_entry {g} {c} {V'} {T} fits few cut v p t o = entry_nearest g c V' T fits few v p t o ∙ sym (cut.near v p t o)

-- the opponent won nothing of the rest: a won all of V
pub record AllWon (a : Player) (V' : Set) (first won : Player → Set) : Type 0 where
  pub nothing : (v : ℕ) → first (opponent a) v ≡ false
  pub mine : (v : ℕ) → won a v ≡ V' v
  pub theirs : (v : ℕ) → won (opponent a) v ≡ false

-- a's entries then: outside A as they were found there, in A outside U the attractor's, in U the lowest-numbered successor in V
pub record AllEntries (g : Game) (a : Player) (V' U A : Set) (pull found σ : ℕ → ℕ) : Type 0 where
  pub kept : (v : ℕ) → V' v ≡ true → A v ≡ false → g.owner v ≡ a → σ v ≡ found v
  pub pulled : (v : ℕ) → A v ≡ true → U v ≡ false → g.owner v ≡ a → σ v ≡ pull v
  pub stays : (v : ℕ) → U v ≡ true → g.owner v ≡ a → Edge g v (σ v) × (V' (σ v) ≡ true)
  pub lowest : (v : ℕ) → U v ≡ true → g.owner v ≡ a → σ v ≡ lowest_in g V' v

-- the opponent won some vertex of the rest: it won B and what it won of V without B, and a won what it won there
pub record SomeLost (a : Player) (B : Set) (first second won : Player → Set) : Type 0 where
  pub vertex : ℕ
  pub lost : first (opponent a) vertex ≡ true
  pub mine : (v : ℕ) → won a v ≡ second a v
  pub theirs : (v : ℕ) → won (opponent a) v ≡ union B (second (opponent a)) v

-- the entries then, b the opponent: b's in W as they were first found, b's in B outside W the attractor's, and each winner's in V
-- without B as they were found there
pub record SomeEntries (g : Game) (b : Player) (W B : Set) (second : Player → Set) (pull found found₂ σ : ℕ → ℕ) : Type 0 where
  pub kept : (v : ℕ) → W v ≡ true → g.owner v ≡ b → σ v ≡ found v
  pub pulled : (v : ℕ) → B v ≡ true → W v ≡ false → g.owner v ≡ b → σ v ≡ pull v
  pub later : (c : Player) (v : ℕ) → second c v ≡ true → g.owner v ≡ c → σ v ≡ found₂ v

-- Run g V won σ n: a run of the recursion on V, in n calls, gave each player c the set won c, and σ as entries
pub data Run (g : Game) : Set → (Player → Set) → (ℕ → ℕ) → ℕ → Type 0 where
  -- V is empty
  empty :
      {V' : Set} {won : Player → Set} {σ : ℕ → ℕ} {n : ℕ} →
      ((v : ℕ) → V' v ≡ false) →
      ((c : Player) (v : ℕ) → won c v ≡ false) →
      n ≡ 1 →
      Run g V' won σ n
  -- the opponent wins nothing of V without A
  all_won :
      {V' A rest : Set} {first won : Player → Set} {found σ : ℕ → ℕ} {a : Player} {p k n : ℕ} →
      Top g V' a p →
      (cut : Cut g a V' (with_priority g V' p) A rest) →
      Run g rest first found k →
      AllWon a V' first won →
      AllEntries g a V' (with_priority g V' p) A cut.drawn.pull found σ →
      n ≡ 1 + k →
      Run g V' won σ n
  -- the opponent wins some of V without A
  some_lost :
      {V' A rest B rest₂ : Set} {first second won : Player → Set} {found found₂ σ : ℕ → ℕ} {a : Player} {p k k₂ n : ℕ} →
      Top g V' a p →
      Cut g a V' (with_priority g V' p) A rest →
      Run g rest first found k →
      (cut : Cut g (opponent a) V' (first (opponent a)) B rest₂) →
      Run g rest₂ second found₂ k₂ →
      SomeLost a B first second won →
      SomeEntries g (opponent a) (first (opponent a)) B second cut.drawn.pull found found₂ σ →
      n ≡ 1 + k + k₂ →
      Run g V' won σ n

-- what holds for a player and the opponent holds for both players
pub both_players : (a : Player) (P : Player → Type 0) → P a → P (opponent a) → (c : Player) → P c
both_players Even P mine theirs Even = mine
both_players Even P mine theirs Odd = theirs
both_players Odd P mine theirs Even = theirs
both_players Odd P mine theirs Odd = mine

-- a run on a set is a run on a set with the same members
pub run_over_lem :
    {g : Game} {V₁ V₂ : Set} {won : Player → Set} {σ : ℕ → ℕ} {n : ℕ} →
    ((v : ℕ) → V₁ v ≡ V₂ v) → Run g V₁ won σ n → Run g V₂ won σ n
run_over_lem {g} {won} {σ} {n} same_at run = subst (λ (X : Set). Run g X won σ n) (fun_ext same_at) run

-- a run whose entries are changed, but for winners' own vertices, is a run
pub run_agrees :
    {g : Game} {V' : Set} {won : Player → Set} {σ : ℕ → ℕ} {n : ℕ} (σ' : ℕ → ℕ) →
    ((c : Player) (v : ℕ) → won c v ≡ true → g.owner v ≡ c → σ' v ≡ σ v) →
    Run g V' won σ n →
    Run g V' won σ' n
run_agrees σ' agree (empty none nothing e) = empty none nothing e
run_agrees σ' agree (all_won {a} top cut run result entries e) =
    all_won top cut run result
    (record {
      kept = λ v p out mine. agree a v (result.mine v ∙ p) mine ∙ entries.kept v p out mine;
      pulled =
          λ v p out mine.
          agree a v (result.mine v ∙ cut.drawn.inside v p) mine ∙ entries.pulled v p out mine;
      stays =
          λ v p mine.
          rw
          (agree a v (result.mine v ∙ cut.drawn.inside v (cut.drawn.closed.target v p)) mine)
          (entries.stays v p mine);
      lowest =
          λ v p mine.
          agree a v (result.mine v ∙ cut.drawn.inside v (cut.drawn.closed.target v p)) mine ∙ entries.lowest v p mine;
    })
    e
run_agrees {won} σ' agree (some_lost {B} {second} {a} top cut run cut₂ run₂ result entries e) =
    some_lost top cut run cut₂ run₂ result
    (record {
      kept =
          λ v p mine.
          agree (opponent a) v (drawn v (cut₂.drawn.closed.target v p)) mine ∙ entries.kept v p mine;
      pulled = λ v p out mine. agree (opponent a) v (drawn v p) mine ∙ entries.pulled v p out mine;
      later = λ c v p mine. agree c v (later c v p) mine ∙ entries.later c v p mine;
    })
    e
  where
    drawn : (v : ℕ) → B v ≡ true → won (opponent a) v ≡ true
    drawn v p = result.theirs v ∙ union_left B (second (opponent a)) v p

    later : (c : Player) (v : ℕ) → second c v ≡ true → won c v ≡ true
    later =
        both_players a (λ c. (v : ℕ) → second c v ≡ true → won c v ≡ true)
        (λ v p. result.mine v ∙ p)
        (λ v p. result.theirs v ∙ union_right B (second (opponent a)) v p)

-- The rules' highest priority in a set that has a member is its highest priority.
pub highest_top :
    (g : Game) (V' : Set) →
    ((v : ℕ) → V' v ≡ true → v < g.size) →
    (v : ℕ) →
    V' v ≡ true →
    Top g V' (parity (highest_in g V')) (highest_in g V')
highest_top g V' below v p =
    let (u, l, q, has) = greatest_attained g.size V' g.priority v (below v p) p in
    record {
      vertex = u;
      member = q;
      has = has;
      most = λ w r. greatest_bounds g.size V' g.priority w (below w r) r;
      mine = refl;
    }

-- A set has one highest priority, of one player.
pub top_unique :
    {g : Game} {V' : Set} {a a' : Player} {p p' : ℕ} → Top g V' a p → Top g V' a' p' → (a ≡ a') × (p ≡ p')
top_unique {p} {p'} t t' = (sym t.mine ∙ ap parity same ∙ t'.mine, same)
  where
    same : p ≡ p'
    same =
        let low = t.most t'.vertex t'.member in
        let high = t'.most t.vertex t.member in
        let has = t.has in
        let has' = t'.has in
        omega arith

-- what a cut leaves lies in V
pub cut_inside : {g : Game} {c : Player} {V' T S rest : Set} → Cut g c V' T S rest → Subset rest V'
cut_inside {V'} {S} cut v p = without_left V' S v (sym (cut.left v) ∙ p)

-- it is total where V is
pub cut_total : {g : Game} {c : Player} {V' T S rest : Set} → Cut g c V' T S rest → TotalIn g V' → TotalIn g rest
cut_total {g} cut total =
    subst⁻¹ (λ (X : Set). TotalIn g X) (fun_ext cut.left) (rest_total cut.drawn.closed total)

-- it has fewer vertices, where there is a target
pub cut_fewer :
    {g : Game} {c : Player} {V' T S rest : Set} →
    ((v : ℕ) → V' v ≡ true → v < g.size) →
    Cut g c V' T S rest →
    (v : ℕ) →
    T v ≡ true →
    count g.size rest < count g.size V'
cut_fewer {g} {V'} {S} {rest} below cut v t =
    let drawn = cut.drawn.closed.target v t in
    let inV = cut.drawn.inside v drawn in
    count_strict g.size rest V' (λ u l. cut_inside cut u) v (below v inV) (cut.left v ∙ rw (inV, drawn)) inV

-- the first cut has one
pub first_fewer :
    {g : Game} {a : Player} {p : ℕ} {V' A rest : Set} →
    ((v : ℕ) → V' v ≡ true → v < g.size) →
    Top g V' a p →
    Cut g a V' (with_priority g V' p) A rest →
    count g.size rest < count g.size V'
first_fewer {p} below top cut = cut_fewer below cut top.vertex (and_intro top.member (eq-eqb _ p top.has))

-- entries with which a wins all of V, made of any that were found: the lowest-numbered successor in V in U, the attractor's in A
pub all_entries :
    {g : Game} {a : Player} {V' U A rest : Set} →
    ((v : ℕ) → V' v ≡ true → v < g.size) →
    TotalIn g V' →
    (cut : Cut g a V' U A rest) →
    (found : ℕ → ℕ) →
    (σ : ℕ → ℕ) × AllEntries g a V' U A cut.drawn.pull found σ
all_entries {g} {a} {V'} {U} {A} below total cut found = (σ, entries)
  where
    σ : ℕ → ℕ
    σ v = cond (U v) (lowest_in g V' v) (cond (A v) (cut.drawn.pull v) (found v))

    entries : AllEntries g a V' U A cut.drawn.pull found σ
    entries =
        record {
          kept =
              λ v p out mine.
              let off : U v ≡ false = not_true_is_false (U v) (λ t. clash (cut.drawn.closed.target v t) out) in rw (off, out);
          pulled = λ v p out mine. rw (out, p);
          stays =
              λ v p mine.
              let (w, e, q) = total v (cut.drawn.inside v (cut.drawn.closed.target v p)) in
              rw p (lowest_in_found g V' v w (below w q) e q);
          lowest = λ v p mine. rw p;
        }

-- entries for the other case, made of any that were found in the two nested calls: the first in W, the attractor's in B
pub some_entries :
    {g : Game} {b : Player} {V' W B rest : Set} →
    (cut : Cut g b V' W B rest) →
    (second : Player → Set) →
    (found found₂ : ℕ → ℕ) →
    ((c : Player) (v : ℕ) → second c v ≡ true → rest v ≡ true) →
    (σ : ℕ → ℕ) × SomeEntries g b W B second cut.drawn.pull found found₂ σ
some_entries {g} {b} {V'} {W} {B} cut second found found₂ inside = (σ, entries)
  where
    σ : ℕ → ℕ
    σ v = cond (W v) (found v) (cond (B v) (cut.drawn.pull v) (found₂ v))

    entries : SomeEntries g b W B second cut.drawn.pull found found₂ σ
    entries =
        record {
          kept = λ v p mine. rw p;
          pulled = λ v p out mine. rw (out, p);
          later =
              λ c v p mine.
              let out : B v ≡ false = without_right V' B v (sym (cut.left v) ∙ inside c v p) in
              let off : W v ≡ false = not_true_is_false (W v) (λ t. clash (cut.drawn.closed.target v t) out) in
              rw (off, out);
        }
