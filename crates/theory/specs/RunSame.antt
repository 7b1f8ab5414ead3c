-- What a run gives depends on the members of its set alone: any two runs give each player the same set, in as many calls. So a solver
-- that stops early can say that every run takes more calls than it was given.
use Rattle.std.specs.Prelude.{Bool, true, ◌&&◌, ◌||◌, not, ◌≡◌, ℕ, ◌+◌, ◌≤◌}
use Rattle.std.proofs.Common.{sym, ap, ap₂, ◌∙◌, arith}
use Rattle.std.proofs.Math.Path.{subst⁻¹, fun_ext}
use Rattle.rules.specs.Counting.{Set}
use Rattle.rules.specs.Game.{Player, opponent, Game}
use Rattle.rules.specs.Attractor.{IsAttractor}
use Rattle.rules.specs.Zielonka.{with_priority}
use Rattle.basics.specs.Basics.{clash}
use Rattle.theory.specs.AttractorRank.{certificate_is}
use Rattle.theory.specs.Attractor.{attractor_unique}
use Rattle.theory.specs.Run.{Top, top_unique, Cut, AllWon, SomeLost, Run, empty, all_won, some_lost, both_players, run_over_lem}

-- two runs give the same: each player the same set, in as many calls
pub record Same (won won' : Player → Set) (n n' : ℕ) : Type 0 where
  pub sets : (c : Player) (v : ℕ) → won c v ≡ won' c v
  pub calls : n ≡ n'

-- cuts of V for one player and one target are the same
pub cut_same :
    {g : Game} {c c' : Player} {V' T T' S S' rest rest' : Set} →
    c ≡ c' →
    ((v : ℕ) → T v ≡ T' v) →
    Cut g c V' T S rest →
    Cut g c' V' T' S' rest' →
    ((v : ℕ) → S v ≡ S' v) × ((v : ℕ) → rest' v ≡ rest v)
cut_same {g} {c} {c'} {V'} {T} {T'} {S} {S'} {rest} {rest'} player target cut cut' =
    (drawn, λ v. cut'.left v ∙ ap (λ (b : Bool). V' v && not b) (sym (drawn v)) ∙ sym (cut.left v))
  where
    moved : IsAttractor g c V' T S'
    moved =
        subst⁻¹ (λ (x : Player). IsAttractor g x V' T S') player
        (subst⁻¹ (λ (X : Set). IsAttractor g c' V' X S') (fun_ext target) (certificate_is cut'.drawn))

    drawn : (v : ℕ) → S v ≡ S' v
    drawn = attractor_unique (certificate_is cut.drawn) moved

-- the first cuts of V are the same
pub first_same :
    {g : Game} {a a' : Player} {p p' : ℕ} {V' A A' rest rest' : Set} →
    Top g V' a p →
    Top g V' a' p' →
    Cut g a V' (with_priority g V' p) A rest →
    Cut g a' V' (with_priority g V' p') A' rest' →
    (v : ℕ) →
    rest' v ≡ rest v
first_same {g} {V'} top top' cut cut' =
    let (player, priority) = top_unique top top' in
    (cut_same player (λ v. ap (λ (p : ℕ). with_priority g V' p v) priority) cut cut').1

-- the same, in each of the ways that a call can go
all_same :
    {V' : Set} {first first' won won' : Player → Set} {a a' : Player} {k k' n n' : ℕ} →
    a ≡ a' →
    AllWon a V' first won →
    AllWon a' V' first' won' →
    Same first first' k k' →
    n ≡ 1 + k →
    n' ≡ 1 + k' →
    Same won won' n n'
all_same {V'} {first'} {won} {won'} {a} player result result' same_first e e' =
    record {
      sets =
          both_players a (λ c. (v : ℕ) → won c v ≡ won' c v)
          (λ v. result.mine v ∙ sym (moved.mine v))
          (λ v. result.theirs v ∙ sym (moved.theirs v));
      calls = let calls = same_first.calls in omega arith;
    }
  where
    moved : AllWon a V' first' won'
    moved = subst⁻¹ (λ (x : Player). AllWon x V' first' won') player result'

some_same :
    {B B' : Set} {first first' second second' won won' : Player → Set} {a a' : Player} {k k' k₂ k₂' n n' : ℕ} →
    a ≡ a' →
    SomeLost a B first second won →
    SomeLost a' B' first' second' won' →
    ((v : ℕ) → B v ≡ B' v) →
    Same first first' k k' →
    Same second second' k₂ k₂' →
    n ≡ 1 + k + k₂ →
    n' ≡ 1 + k' + k₂' →
    Same won won' n n'
some_same {B} {B'} {first'} {second} {second'} {won} {won'} {a} player result result' drawn same_first same_second e e' =
    record {
      sets =
          both_players a (λ c. (v : ℕ) → won c v ≡ won' c v)
          (λ v. result.mine v ∙ same_second.sets a v ∙ sym (moved.mine v))
          (λ v.
          result.theirs v ∙
          ap₂ (λ (b d : Bool). b || d) (drawn v) (same_second.sets (opponent a) v) ∙
          sym (moved.theirs v));
      calls = let calls = same_first.calls in let calls₂ = same_second.calls in omega arith;
    }
  where
    moved : SomeLost a B' first' second' won'
    moved = subst⁻¹ (λ (x : Player). SomeLost x B' first' second' won') player result'

same_back : {won won' : Player → Set} {n n' : ℕ} → Same won won' n n' → Same won' won n' n
same_back same-both = record { sets = λ c v. sym (same-both.sets c v); calls = sym same-both.calls }

-- what W is: the opponent's part of the rest
pub lost_same :
    {first first' : Player → Set} {a a' : Player} {k k' : ℕ} →
    a ≡ a' → Same first first' k k' → (v : ℕ) → first (opponent a) v ≡ first' (opponent a') v
lost_same {first'} {a} player same_first v =
    same_first.sets (opponent a) v ∙ ap (λ (x : Player). first' (opponent x) v) player

-- a call does not go both ways
not_both_ways :
    {V' : Set} {first first' won : Player → Set} {a a' : Player} {k k' : ℕ} →
    a ≡ a' →
    AllWon a V' first won →
    (v : ℕ) →
    first' (opponent a') v ≡ true →
    Same first first' k k' →
    ⊥
not_both_ways player result v lost same_first = clash lost (sym (lost_same player same_first v) ∙ result.nothing v)

-- Two runs on one set give the same.
pub same_on :
    {g : Game} {V' : Set} {won won' : Player → Set} {σ σ' : ℕ → ℕ} {n n' : ℕ} →
    Run g V' won σ n → Run g V' won' σ' n' → Same won won' n n'
same_on (empty none nothing e) (empty none' nothing' e') =
    record { sets = λ c v. nothing c v ∙ sym (nothing' c v); calls = e ∙ sym e' }
same_on (empty none nothing e) (all_won top' cut' run' result' entries' e') =
    absurd (clash top'.member (none top'.vertex))
same_on (empty none nothing e) (some_lost top' cut' run' cut₂' run₂' result' entries' e') =
    absurd (clash top'.member (none top'.vertex))
same_on (all_won top cut run result entries e) (empty none' nothing' e') =
    absurd (clash top.member (none' top.vertex))
same_on (all_won top cut run result entries e) (all_won top' cut' run' result' entries' e') =
    let again = same_on run (run_over_lem (first_same top top' cut cut') run') in
    all_same (top_unique top top').0 result result' again e e'
same_on (all_won top cut run result entries e) (some_lost top' cut' run' cut₂' run₂' result' entries' e') =
    let again = same_on run (run_over_lem (first_same top top' cut cut') run') in
    absurd (not_both_ways (top_unique top top').0 result result'.vertex result'.lost again)
same_on (some_lost top cut run cut₂ run₂ result entries e) (empty none' nothing' e') =
    absurd (clash top.member (none' top.vertex))
same_on (some_lost top cut run cut₂ run₂ result entries e) (all_won top' cut' run' result' entries' e') =
    let again = same_on run (run_over_lem (first_same top top' cut cut') run') in
    absurd (not_both_ways (top_unique top' top).0 result' result.vertex result.lost (same_back again))
same_on (some_lost top cut run cut₂ run₂ result entries e) (some_lost top' cut' run' cut₂' run₂' result' entries' e') =
    let player = (top_unique top top').0 in
    let again = same_on run (run_over_lem (first_same top top' cut cut') run') in
    let (drawn, rest) = cut_same (ap (λ (x : Player). opponent x) player) (lost_same player again) cut₂ cut₂' in
    some_same player result result' drawn again (same_on run₂ (run_over_lem rest run₂')) e e'

-- **Two runs on sets with the same members give each player the same, in as many calls**: what a run gives depends on the set alone.
pub run_same :
    {g : Game} {V₁ V₂ : Set} {won₁ won₂ : Player → Set} {σ₁ σ₂ : ℕ → ℕ} {n₁ n₂ : ℕ} →
    ((v : ℕ) → V₁ v ≡ V₂ v) → Run g V₁ won₁ σ₁ n₁ → Run g V₂ won₂ σ₂ n₂ → Same won₁ won₂ n₁ n₂
run_same same_at run₁ run₂ = same_on run₁ (run_over_lem (λ v. sym (same_at v)) run₂)

-- every run on V takes n calls or more
abbrev pub Needs : Game → Set → ℕ → Type 0
Needs g V' n = (won : Player → Set) (σ : ℕ → ℕ) (k : ℕ) → Run g V' won σ k → n ≤ k

-- every run takes a call
pub needs_one : (g : Game) (V' : Set) → Needs g V' 1
needs_one g V' won σ k (empty none nothing e) = omega arith
needs_one g V' won σ k (all_won top cut run result entries e) = omega arith
needs_one g V' won σ k (some_lost top cut run cut₂ run₂ result entries e) = omega arith

-- **What the first nested call needs, the call needs, and one more.**
pub needs_first :
    {g : Game} {V' A rest : Set} {a : Player} {p n : ℕ} →
    Top g V' a p →
    Cut g a V' (with_priority g V' p) A rest →
    Needs g rest n →
    Needs g V' (1 + n)
needs_first top cut needs won σ k (empty none nothing e) = absurd (clash top.member (none top.vertex))
needs_first top cut needs won σ k (all_won top' cut' run' result' entries' e') =
    let nested = needs _ _ _ (run_over_lem (first_same top top' cut cut') run') in omega arith
needs_first top cut needs won σ k (some_lost top' cut' run' cut₂' run₂' result' entries' e') =
    let nested = needs _ _ _ (run_over_lem (first_same top top' cut cut') run') in omega arith

-- **Where the opponent wins some vertex in the first, what the second needs, the call needs, with the first's calls and one more.**
pub needs_both :
    {g : Game} {V' A rest B rest₂ : Set} {first : Player → Set} {found : ℕ → ℕ} {a : Player} {p k n : ℕ} →
    Top g V' a p →
    Cut g a V' (with_priority g V' p) A rest →
    Run g rest first found k →
    (v : ℕ) →
    first (opponent a) v ≡ true →
    Cut g (opponent a) V' (first (opponent a)) B rest₂ →
    Needs g rest₂ n →
    Needs g V' (1 + k + n)
needs_both top cut run v lost cut₂ needs won σ m (empty none nothing e) = absurd (clash top.member (none top.vertex))
needs_both top cut run v lost cut₂ needs won σ m (all_won top' cut' run' result' entries' e') =
    let again = same_on (run_over_lem (first_same top top' cut cut') run') run in
    absurd (not_both_ways (top_unique top' top).0 result' v lost again)
needs_both top cut run v lost cut₂ needs won σ m (some_lost top' cut' run' cut₂' run₂' result' entries' e') =
    let player = (top_unique top top').0 in
    let again = same_on run (run_over_lem (first_same top top' cut cut') run') in
    let same-calls = again.calls in
    let (drawn, rest) = cut_same (ap (λ (x : Player). opponent x) player) (lost_same player again) cut₂ cut₂' in
    let nested = needs _ _ _ (run_over_lem rest run₂') in
    omega arith
