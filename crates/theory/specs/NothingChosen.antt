-- 25 in the place of 22: it is given exactly where 21 is not, 22 would be given and every entry is none, and at the place that 22
-- would have; then 22 is never given, and where some entry is not none all is as without 25.
use Rattle.std.specs.Prelude.{Bool, true, false, not, cond, List, ◌⊎◌, ◌≡◌, refl, ℕ, ◌<◌, eqb}
use Rattle.std.proofs.Common.{inl, inr, ap, ◌∙◌, eqb-true, eq-eqb}
use Rattle.std.proofs.Math.Logic.{⊎_elim}
use Rattle.std.proofs.lemmas.Bool.{eqb-false}
use Rattle.rules.specs.Counting.{Set, some, lowest}
use Rattle.rules.specs.Game.{Game}
use Rattle.rules.specs.Outcome.{Verdict, none, refused, given, given_at, ◌then◌}
use Rattle.rules.specs.Words.{no_entry, entry}
use Rattle.rules.specs.Checker.{own_winner, nothing_chosen, check21, check22, check23, check24, certificate_checks}
use Rattle.basics.specs.Basics.{bool_cases, clash, not_true_is_false, every_intro, every_elim, lowest_found}
use Rattle.theory.specs.Checker.{bad_entry}

-- the number and the place of a verdict
abbrev number_of : Verdict → ℕ
number_of none = 0
number_of (refused k p) = k

abbrev place_of : Verdict → ℕ
place_of none = 0
place_of (refused k p) = p

-- of two checks one after another the first gives the number, or the second
then_given :
    (x y : Verdict) {k p : ℕ} → (x then y) ≡ refused k p → (x ≡ refused k p) ⊎ ((x ≡ none) × (y ≡ refused k p))
then_given none y e = inr (refl, e)
then_given (refused j q) y e = inl e

-- a check that gives a number gives its own, where its test holds
given_own : (k p : ℕ) (test : Bool) {j q : ℕ} → given k p test ≡ refused j q → (test ≡ true) × (k ≡ j) × (p ≡ q)
given_own k p true e = (refl, ap number_of e, ap place_of e)
given_own k p false e = absurd (none_is_not e)
  where
    none_is_not : {j q : ℕ} → none ≡ refused j q → ⊥
    none_is_not e = let z : ◌≡◌ {A = ℕ} 0 1 = cc in absurd (eqb-false 0 1 refl z)

module _ (k n : ℕ) (test : Set) {j v : ℕ} (e : given_at k n test ≡ refused j v) where
  number_own : k ≡ j
  unfolding given_at
  number_own = (given_own k (lowest n test) (some n test) e).1

  -- another number would be given at the same place
  renumbered : (i : ℕ) → given_at i n test ≡ refused i v
  unfolding given_at
  renumbered i =
      let (found, same, place) = given_own k (lowest n test) (some n test) e in rw (found, place)

  -- the test holds there
  holds_there : (v < n) × (test v ≡ true)
  unfolding given_at
  holds_there =
      let (found, same, place) = given_own k (lowest n test) (some n test) e in
      let low = lowest_found n test found in
      (rw place at low.below, rw place at low.passes)

module _ (g : Game) (even odd strategy : List ℕ) where
  -- what 25 at v tells: 21 is not given, 22 would be given at v, and every entry is none
  pub record Unchosen (v : ℕ) : Type 0 where
    pub split : check21 g.size even odd ≡ none
    pub wrong : given_at 22 g.size (bad_entry g even strategy) ≡ refused 22 v
    pub entries : (u : ℕ) → u < g.size → entry strategy u ≡ no_entry

  -- every entry is none, as the rule tests it
  all_none : nothing_chosen g strategy ≡ true → (u : ℕ) → u < g.size → entry strategy u ≡ no_entry
  all_none e u l =
      eqb-true (entry strategy u) no_entry (every_elim g.size (λ v. eqb (entry strategy v) no_entry) e u l)

  none_all : ((u : ℕ) → u < g.size → entry strategy u ≡ no_entry) → nothing_chosen g strategy ≡ true
  none_all h =
      every_intro g.size (λ v. eqb (entry strategy v) no_entry) (λ v l. eq-eqb (entry strategy v) no_entry (h v l))

  -- the number of this kind says which of the two it was
  kind25 : (b : Bool) → ◌≡◌ {A = ℕ} (cond b 25 22) 25 → b ≡ true
  kind25 true e = refl
  kind25 false e = absurd (eqb-false 22 25 refl e)

  kind22 : (b : Bool) → ◌≡◌ {A = ℕ} (cond b 25 22) 22 → b ≡ false
  kind22 true e = absurd (eqb-false 25 22 refl e)
  kind22 false e = refl

  -- a number that is none of 21, 23 and 24 comes from the kind of 22, and 21 is not given
  from_entries :
      {k v : ℕ} →
      (21 ≡ k → ⊥) →
      (23 ≡ k → ⊥) →
      (24 ≡ k → ⊥) →
      certificate_checks g even odd strategy ≡ refused k v →
      (check21 g.size even odd ≡ none) × (check22 g even strategy ≡ refused k v)
  unfolding certificate_checks check21 check23 check24
  from_entries not21 not23 not24 e =
      ⊎_elim (λ a. absurd (not21 (number_own 21 _ _ a)))
      (λ r.
      ⊎_elim (λ b. (r.0, b))
      (λ s.
      absurd
      (⊎_elim (λ c. not23 (number_own 23 _ _ c)) (λ d. not24 (number_own 24 _ _ d.1))
      (then_given (check23 g even strategy) _ s.1)))
      (then_given (check22 g even strategy) _ r.1))
      (then_given (check21 g.size even odd) _ e)

  -- **Where 25 is given, 22 would be given at its place, and every entry is none,**
  pub no_strategy_tells : {v : ℕ} → certificate_checks g even odd strategy ≡ refused 25 v → Unchosen v
  unfolding check22
  no_strategy_tells e =
      let (split, bad) = from_entries (eqb-false 21 25 refl) (eqb-false 23 25 refl) (eqb-false 24 25 refl) e in
      record {
        split = split;
        wrong = renumbered (cond (nothing_chosen g strategy) 25 22) g.size (bad_entry g even strategy) bad 22;
        entries = all_none (kind25 (nothing_chosen g strategy) (number_own _ g.size (bad_entry g even strategy) bad));
      }

  -- **and there it is given:**
  pub no_strategy_given : {v : ℕ} → Unchosen v → certificate_checks g even odd strategy ≡ refused 25 v
  unfolding certificate_checks check22
  no_strategy_given u = rw (u.split, none_all u.entries, renumbered 22 g.size (bad_entry g even strategy) u.wrong 25)

  -- **22 is then never given.**
  pub bad_entry_chosen :
      {v : ℕ} →
      certificate_checks g even odd strategy ≡ refused 22 v →
      ((u : ℕ) → u < g.size → entry strategy u ≡ no_entry) →
      ⊥
  unfolding check22
  bad_entry_chosen e h =
      let (split, bad) = from_entries (eqb-false 21 22 refl) (eqb-false 23 22 refl) (eqb-false 24 22 refl) e in
      clash (none_all h) (kind22 (nothing_chosen g strategy) (number_own _ g.size (bad_entry g even strategy) bad))

  -- **Where some entry is not none, 22 is given as without 25.**
  pub chosen_as_before :
      (u : ℕ) →
      u < g.size →
      (entry strategy u ≡ no_entry → ⊥) →
      check22 g even strategy ≡ given_at 22 g.size (bad_entry g even strategy)
  unfolding check22
  chosen_as_before u l d = rw (not_true_is_false (nothing_chosen g strategy) (λ e. d (all_none e u l)))

  -- **25 names a vertex of its winner's own**: elsewhere none is the right entry.
  pub no_strategy_own : {v : ℕ} → Unchosen v → own_winner g even v ≡ true
  no_strategy_own {v} u =
      let (l, bad) = holds_there 22 g.size (bad_entry g even strategy) u.wrong in
      ⊎_elim (λ p. p)
      (λ p.
      absurd
      (clash bad (otherwise (own_winner g even v) _ _ p ∙ ap not (eq-eqb (entry strategy v) no_entry (u.entries v l)))))
      (bool_cases (own_winner g even v))
    where
      otherwise : (b x y : Bool) → b ≡ false → cond b x y ≡ y
      otherwise b x y e = rw e
