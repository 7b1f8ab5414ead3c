-- The bound on Zielonka's calls: on n vertices with d different priorities at most 2 · (C(n,0) + C(n,1) + ... + C(n,d)) − 1. By Pascal's
-- rule for the sums, as the first nested call has a vertex and a priority fewer, and the second a vertex fewer.
use Rattle.std.specs.Prelude.{true, ◌≡◌, refl, ℕ, zero, suc, ◌+◌, ◌≤◌, ◌<◌}
use Rattle.std.proofs.Common.{sym, ◌∙◌, zero-le, suc-le-suc, le_refl, le_of_lt, le_of_suc-le-suc, not-suc-le-zero, add-le-add, arith, eq-eqb, eqb-true, lt-ltb}
use Rattle.std.proofs.Math.Decide.{le_ind}
use Rattle.std.proofs.Math.Nat.{le_trans, le_step, lt_of_le_of_lt}
use Rattle.rules.specs.Counting.{Set, some, count}
use Rattle.rules.specs.Game.{Player, Game, everywhere, Total}
use Rattle.rules.specs.Zielonka.{highest_in, with_priority, zielonka}
use Rattle.rules.specs.Budget.{choose, choose_up_to, call_bound, different_priorities}
use Rattle.basics.specs.Basics.{clash, not_true_is_false, and_intro, and_left, and_right, Subset, without_right}
use Rattle.basics.specs.Basics.{some_intro, some_elim, false_some, count_mono, count_strict}
use Rattle.basics.specs.Greatest.{greatest_bounds, greatest_le}
use Rattle.theory.specs.Run.{Top, Cut, Run, empty, all_won, some_lost, cut_inside, cut_fewer, first_fewer}
use Rattle.theory.specs.Zielonka.{rules_run, everywhere_below, everywhere_total}

-- there are at least as many choices from one more
choose_grows : (n k : ℕ) → choose n k ≤ choose (suc n) k
unfolding choose
choose_grows n zero = le_refl 1
choose_grows n (suc k) = omega arith

-- **Pascal's rule for the sums**
pub choose_up_to_pascal : (n d : ℕ) → choose_up_to (suc n) (suc d) ≡ choose_up_to n (suc d) + choose_up_to n d
unfolding choose_up_to choose
choose_up_to_pascal n zero = omega arith
choose_up_to_pascal n (suc d) = let e = choose_up_to_pascal n d in omega arith

-- the sums grow with n and with d, and are at least 1
pub choose_up_to_pos : (n d : ℕ) → 1 ≤ choose_up_to n d
unfolding choose_up_to choose
choose_up_to_pos n zero = le_refl 1
choose_up_to_pos n (suc d) = let h = choose_up_to_pos n d in omega arith

choose_up_to_more : (n d : ℕ) → choose_up_to n d ≤ choose_up_to (suc n) d
unfolding choose_up_to
choose_up_to_more n zero = choose_grows n 0
choose_up_to_more n (suc d) = add-le-add (choose_up_to_more n d) (choose_grows n (suc d))

choose_up_to_further : (n d : ℕ) → choose_up_to n d ≤ choose_up_to n (suc d)
unfolding choose_up_to
choose_up_to_further n d = omega arith

-- a sequence that never falls
rising : (f : ℕ → ℕ) → ((n : ℕ) → f n ≤ f (suc n)) → (m n : ℕ) → m ≤ n → f m ≤ f n
rising f up m n l = le_ind {n = m} (λ k. f m ≤ f k) (le_refl (f m)) (λ k h rest. le_trans rest (up k)) n l

pub choose_up_to_mono : (m n d e : ℕ) → m ≤ n → d ≤ e → choose_up_to m d ≤ choose_up_to n e
choose_up_to_mono m n d e l h =
    le_trans
    (rising (λ k. choose_up_to k d) (λ k. choose_up_to_more k d) m n l)
    (rising (choose_up_to n) (choose_up_to_further n) d e h)

-- one call and two nested ones keep to the bound, the first with fewer vertices and fewer priorities, the second with fewer vertices
two_nested :
    (n d n₁ d₁ n₂ d₂ k k₂ : ℕ) →
    n₁ < n →
    d₁ < d →
    n₂ < n →
    d₂ ≤ d →
    k ≤ call_bound n₁ d₁ →
    k₂ ≤ call_bound n₂ d₂ →
    1 + k + k₂ ≤ call_bound n d
two_nested zero d n₁ d₁ n₂ d₂ k k₂ l₁ h₁ l₂ h₂ b₁ b₂ = absurd (not-suc-le-zero l₁)
two_nested (suc n) zero n₁ d₁ n₂ d₂ k k₂ l₁ h₁ l₂ h₂ b₁ b₂ = absurd (not-suc-le-zero h₁)
two_nested (suc n) (suc d) n₁ d₁ n₂ d₂ k k₂ l₁ h₁ l₂ h₂ b₁ b₂ =
    let first = choose_up_to_mono n₁ n d₁ d (le_of_suc-le-suc l₁) (le_of_suc-le-suc h₁) in
    let second = choose_up_to_mono n₂ n d₂ (suc d) (le_of_suc-le-suc l₂) h₂ in
    let some₁ = choose_up_to_pos n₁ d₁ in
    let some₂ = choose_up_to_pos n₂ d₂ in
    let pascal = choose_up_to_pascal n d in
    omega arith

-- so do one call and the first alone
one_nested :
    (n d n₁ d₁ k : ℕ) →
    n₁ < n → d₁ < d → k ≤ call_bound n₁ d₁ → 1 + k ≤ call_bound n d
one_nested n d n₁ d₁ k l₁ h₁ b₁ =
    let both = two_nested n d n₁ d₁ n₁ d₁ k 0 l₁ h₁ l₁ (le_of_lt h₁) b₁ zero-le in omega arith

-- a single call does
no_nested : (n d : ℕ) → 1 ≤ call_bound n d
no_nested n d = let h = choose_up_to_pos n d in omega arith

-- more numbers below a higher bound pass a test
count_longer : (m n : ℕ) (S : Set) → m ≤ n → count m S ≤ count n S
unfolding count
count_longer m n S l = rising (λ k. count k S) (λ k. omega arith) m n l

-- p is the priority of a vertex of S
abbrev Occurs : Game → Set → Set
Occurs g S p = some g.size (with_priority g S p)

module _ (g : Game) (S S' : Set) (sub : Subset S S') where
  -- a priority that occurs in a part occurs in the whole
  occurs_more : Subset (Occurs g S) (Occurs g S')
  occurs_more p q =
      let (v, l, r) = some_elim g.size (with_priority g S p) q in
      some_intro g.size (with_priority g S' p) v l (and_intro (sub v (and_left (S v) _ r)) (and_right (S v) _ r))

  -- a part has no higher priority
  highest_more : highest_in g S ≤ highest_in g S'
  highest_more =
      greatest_le g.size S g.priority (highest_in g S') (λ v l p. greatest_bounds g.size S' g.priority v l (sub v p))

  -- a part has no more different priorities
  pub priorities_le : different_priorities g S ≤ different_priorities g S'
  unfolding different_priorities
  priorities_le =
      le_trans
      (count_longer (suc (highest_in g S)) (suc (highest_in g S')) (Occurs g S) (suc-le-suc highest_more))
      (count_mono (suc (highest_in g S')) (Occurs g S) (Occurs g S') (λ p l. occurs_more p))

  -- and fewer where it lacks one
  pub priorities_lt :
      (v : ℕ) →
      v < g.size →
      S' v ≡ true →
      ((u : ℕ) → S u ≡ true → g.priority u ≡ g.priority v → ⊥) →
      different_priorities g S < different_priorities g S'
  unfolding different_priorities
  priorities_lt v l p lacks =
      lt_of_le_of_lt
      (count_longer (suc (highest_in g S)) (suc (highest_in g S')) (Occurs g S) (suc-le-suc highest_more))
      (count_strict
      (suc (highest_in g S'))
      (Occurs g S)
      (Occurs g S')
      (λ q k. occurs_more q)
      (g.priority v)
      (suc-le-suc (greatest_bounds g.size S' g.priority v l p))
      (false_some g.size (with_priority g S (g.priority v))
      (λ u k.
      not_true_is_false _
      (λ r. lacks u (and_left (S u) _ r) (eqb-true (g.priority u) (g.priority v) (and_right (S u) _ r)))))
      (some_intro g.size (with_priority g S' (g.priority v)) v l (and_intro p (eq-eqb (g.priority v) (g.priority v) refl))))

-- what the first cut leaves has fewer priorities
module _
    {g : Game}
    {V' A rest : Set}
    {a : Player}
    {p : ℕ}
    (below : (v : ℕ) → V' v ≡ true → v < g.size)
    (top : Top g V' a p)
    (cut : Cut g a V' (with_priority g V' p) A rest)
  where
    rest_lacks : (u : ℕ) → rest u ≡ true → g.priority u ≡ g.priority top.vertex → ⊥
    rest_lacks u q e =
        clash
        (cut.drawn.closed.target u (and_intro (cut_inside cut u q) (eq-eqb _ p (e ∙ top.has))))
        (without_right V' A u (sym (cut.left u) ∙ q))

    rest_lower : different_priorities g rest < different_priorities g V'
    rest_lower =
        priorities_lt g rest V' (cut_inside cut) top.vertex (below top.vertex top.member) top.member rest_lacks

-- **The bound**: a run on n vertices with d different priorities takes at most 2 · (C(n,0) + C(n,1) + ... + C(n,d)) − 1 calls.
pub calls_bound :
    {g : Game} {V' : Set} {won : Player → Set} {σ : ℕ → ℕ} {n : ℕ} →
    ((v : ℕ) → V' v ≡ true → v < g.size) →
    Run g V' won σ n →
    n ≤ call_bound (count g.size V') (different_priorities g V')
calls_bound {g} {V'} below (empty none nothing e) =
    rw e (no_nested (count g.size V') (different_priorities g V'))
calls_bound {g} {V'} below (all_won {k} top cut run result entries e) =
    let nested = calls_bound (λ v q. below v (cut_inside cut v q)) run in
    rw e (one_nested _ _ _ _ k (first_fewer below top cut) (rest_lower below top cut) nested)
calls_bound {g} {V'} below (some_lost {rest₂} {k} {k₂} top cut run cut₂ run₂ result entries e) =
    let nested = calls_bound (λ v q. below v (cut_inside cut v q)) run in
    let nested₂ = calls_bound (λ v q. below v (cut_inside cut₂ v q)) run₂ in
    rw e
    (two_nested _ _ _ _ _ _ k k₂
    (first_fewer below top cut)
    (rest_lower below top cut)
    (cut_fewer below cut₂ result.vertex result.lost)
    (priorities_le g rest₂ V' (cut_inside cut₂))
    nested
    nested₂)

-- every number below n passes: there are n
count_all : (n : ℕ) (S : Set) → ((v : ℕ) → v < n → S v ≡ true) → count n S ≡ n
unfolding count
count_all zero S all = refl
count_all (suc n) S all =
    let rest = count_all n S (λ v l. all v (le_step l)) in rw (all n (le_refl (suc n))) (omega arith)

-- **A run on all vertices of a game keeps to demand 3's budget.**
pub run_bound :
    {g : Game} {won : Player → Set} {σ : ℕ → ℕ} {n : ℕ} →
    Run g (everywhere g) won σ n → n ≤ call_bound g.size (different_priorities g (everywhere g))
run_bound {g} run =
    rw (count_all g.size (everywhere g) (λ v l. lt-ltb v g.size l)) at (calls_bound (everywhere_below g) run)

-- **So does the rules' recursion, on a total game.**
pub zielonka_bound : (g : Game) → Total g → (zielonka g).calls ≤ call_bound g.size (different_priorities g (everywhere g))
unfolding zielonka
zielonka_bound g total = run_bound (rules_run g (everywhere g) (everywhere_below g) (everywhere_total g total)).1
