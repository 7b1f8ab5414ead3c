-- What the loops of the fresh count do in one turn, as facts about lists.
use Rattle.std.specs.Prelude.{true, false, not, cond, List, [], ◌∷◌, ◌++◌, ◌≡◌, refl, ℕ, ◌+◌, ◌-◌, ◌≤◌, ◌<◌, max, eqb, length, get_or, set, take, replicate}
use Rattle.std.proofs.Common.{⊎_elim, sym, ap, ap₂, ◌∙◌, lt_irrefl, add-one, arith, eq-eqb, ne_eqb, eqb-true, length-set, get_or-set_same, get_or-set_other, get_or-take, take-suc, take_all, take-suc-set, length-take-le, ext_get_or}
use Rattle.std.proofs.Math.Nat.{max-eq_right, max-zero}
use Rattle.std.proofs.lemmas.Bool.{eqb-false}
use Rattle.std.proofs.lemmas.List.{get_or-replicate, length-replicate}
use Rattle.std.proofs.Math.Seq.{append_snoc}
use Rattle.rules.specs.Counting.{Set, count, greatest, times}
use Rattle.rules.specs.Record.{counts_of, counted, different_in, highest_in, kept_for, fresh_count, same_list, kept_check}
use Rattle.basics.specs.Sums.{times_append}
use Rattle.rules.specs.Outcome.{none, refused}
use Rattle.basics.specs.Basics.{bool_cases, count_cong, below_suc, not_true_is_false}
use Rattle.theory.specs.Counts.{raised, lowered, get_or_raised, counts_at, length_counts, times_le, same_equal, equal_same}
use Rattle.basics.specs.Greatest.{greatest_le, greatest_cong}

-- 258 numbers, the first 256 of which are the counts
pub record Counts (priorities r : List ℕ) : Type 0 where
  pub long : length r ≡ 258
  pub counts : take 256 r ≡ counts_of priorities

-- a vertex of the old priority is counted, and one more of the new one can be
pub record Movable (kept : List ℕ) (old new : ℕ) : Type 0 where
  pub long : length kept ≡ 258
  pub old_small : old < 256
  pub new_small : new < 256
  pub old_some : 0 < get_or kept old 0
  pub new_few : get_or kept new 0 ≤ 4096

-- the first v priorities are counted
pub record Tallied (v : ℕ) (priorities counts : List ℕ) : Type 0 where
  pub long : length counts ≡ 258
  pub each : (p : ℕ) → p < 256 → get_or counts p 0 ≡ times p (take v priorities)

pub tallied_none : (priorities : List ℕ) → Tallied 0 priorities (replicate 258 0)
unfolding times
tallied_none priorities =
    record { long = length-replicate {A = ℕ} 258 0; each = λ p l. get_or-replicate 258 p 0 0 (omega arith) }

-- no count is above the number of priorities passed
pub tallied_few :
    (v : ℕ) (priorities counts : List ℕ) → Tallied v priorities counts → v ≤ length priorities → (p : ℕ) → p < 256 → get_or counts p 0 ≤ v
tallied_few v priorities counts h within p l =
    let most = times_le p (take v priorities) in
    let long = length-take-le v priorities within in
    let e = h.each p l in omega arith

-- one more is counted
pub tallied_more :
    (v : ℕ) (priorities counts : List ℕ) →
    Tallied v priorities counts →
    v < length priorities →
    get_or priorities v 0 < 256 →
    Tallied (v + 1) priorities (raised counts (get_or priorities v 0))
unfolding times
tallied_more v priorities counts h within small =
    record {
      long = length-set counts _ _ ∙ h.long;
      each =
          λ p l.
          let up = get_or_raised counts (get_or priorities v 0) p (omega (arith, h.long)) in
          let one : times p (take (v + 1) priorities) ≡ times p (take v priorities) + times p (get_or priorities v 0 ∷ []) =
          rw (add-one, take-suc priorities v 0 within) (times_append p (take v priorities) _) in
          let was = h.each p l in omega arith;
    }

-- one that has no place among the counts is passed over
pub tallied_other :
    (v : ℕ) (priorities counts : List ℕ) →
    Tallied v priorities counts →
    v < length priorities →
    256 ≤ get_or priorities v 0 →
    Tallied (v + 1) priorities counts
unfolding times
tallied_other v priorities counts h within large =
    record {
      long = h.long;
      each =
          λ p l.
          let apart = ne_eqb p (get_or priorities v 0) (λ e. absurd (omega arith)) in
          let one : times p (take (v + 1) priorities) ≡ times p (take v priorities) + times p (get_or priorities v 0 ∷ []) =
          rw (add-one, take-suc priorities v 0 within) (times_append p (take v priorities) _) in
          let zero : times p (get_or priorities v 0 ∷ []) ≡ 0 = rw apart in
          let was = h.each p l in omega arith;
    }

-- all are counted
pub tallied_all : (priorities counts : List ℕ) → Tallied (length priorities) priorities counts → Counts priorities counts
tallied_all priorities counts h =
    record {
      long = h.long;
      counts =
          let long : length (take 256 counts) ≡ 256 = length-take-le 256 counts (omega (arith, h.long)) in
          ext_get_or 0 (take 256 counts) (counts_of priorities) (long ∙ sym (length_counts priorities))
          (λ p l.
          let l' : p < 256 = rw long at l in
          get_or-take 256 counts p 0 l' ∙ h.each p l' ∙
          ap (λ (l : List ℕ). times p l) (take_all (length priorities) priorities (omega arith)) ∙
          sym (counts_at priorities p l'));
    }

-- the first p counts are looked at
pub record CountsSummed (p : ℕ) (kept : List ℕ) (different highest : ℕ) : Type 0 where
  pub many : different ≡ count p (counted kept)
  pub top : highest ≡ greatest p (counted kept) (λ q. q)

pub summed_none : (kept : List ℕ) → CountsSummed 0 kept 0 0
unfolding count greatest
summed_none kept = record { many = refl; top = refl }

-- one count more
count_next : (p : ℕ) (S : Set) → count (p + 1) S ≡ count p S + cond (S p) 1 0
unfolding count
count_next p S = rw add-one

greatest_next : (p : ℕ) (S : Set) → greatest (p + 1) S (λ q. q) ≡ max (greatest p S (λ q. q)) (cond (S p) p 0)
unfolding greatest
greatest_next p S = rw add-one

pub summed_some :
    (p : ℕ) (kept : List ℕ) (different highest : ℕ) →
    CountsSummed p kept different highest →
    (get_or kept p 0 ≡ 0 → ⊥) →
    CountsSummed (p + 1) kept (different + 1) p
summed_some p kept different highest h some_one =
    let here : counted kept p ≡ true = ap not (ne_eqb (get_or kept p 0) 0 some_one) in
    let most = greatest_le p (counted kept) (λ q. q) p (λ q l e. omega arith) in
    record {
      many = rw (count_next p (counted kept), here, h.many) refl;
      top = rw (greatest_next p (counted kept), here) (sym (max-eq_right most));
    }

pub summed_zero :
    (p : ℕ) (kept : List ℕ) (different highest : ℕ) →
    CountsSummed p kept different highest →
    get_or kept p 0 ≡ 0 →
    CountsSummed (p + 1) kept different highest
summed_zero p kept different highest h none_here =
    let here : counted kept p ≡ false = ap not (eq-eqb (get_or kept p 0) 0 none_here) in
    let many = h.many in
    record {
      many = rw (count_next p (counted kept), here) (omega arith);
      top = rw (greatest_next p (counted kept), here) (h.top ∙ sym (max-zero _));
    }

-- the two sums behind the counts
pub summed_all :
    (kept : List ℕ) (different highest : ℕ) →
    length kept ≡ 258 →
    CountsSummed 256 kept different highest →
    set (set kept 256 different) 257 highest ≡ kept_for (take 256 kept)
unfolding kept_for different_in highest_in
summed_all kept different highest long h =
    let counts = take 256 kept in
    let same : (p : ℕ) → p < 256 → counted kept p ≡ counted counts p =
    λ p l. ap (λ (k : ℕ). not (eqb k 0)) (sym (get_or-take 256 kept p 0 l)) in
    let many : different ≡ different_in counts = h.many ∙ count_cong 256 (counted kept) (counted counts) same in
    let top : highest ≡ highest_in counts = h.top ∙ greatest_cong 256 (counted kept) (counted counts) (λ q. q) (λ q. q) same (λ q l. refl) in
    let one = set kept 256 different in
    let long_one : length one ≡ 258 = length-set kept 256 different ∙ long in
    sym (take_all 258 (set one 257 highest) (omega (arith, length-set one 257 highest, long_one))) ∙
    take-suc-set one 257 highest (omega (arith, long_one)) ∙
    ap (λ (l : List ℕ). l ++ (highest ∷ [])) (take-suc-set kept 256 different (omega (arith, long))) ∙
    append_snoc counts different (highest ∷ []) ∙
    ap₂ (λ (d k : ℕ). counts ++ (d ∷ (k ∷ []))) many top

-- two lists of 258 agree up to i
abbrev pub Agree : ℕ → List ℕ → List ℕ → Type 0
Agree i xs ys = (k : ℕ) → k < i → get_or xs k 0 ≡ get_or ys k 0

pub agree_more : (i : ℕ) (xs ys : List ℕ) → Agree i xs ys → get_or xs i 0 ≡ get_or ys i 0 → Agree (i + 1) xs ys
agree_more i xs ys h e k l =
    ⊎_elim (λ (here : k ≡ i). rw here e) (λ less. h k less) (below_suc (rw add-one at l))

pub agree_all : (xs ys : List ℕ) → length xs ≡ length ys → Agree (length xs) xs ys → xs ≡ ys
agree_all xs ys long h = ext_get_or 0 xs ys long h

-- one entry more is copied
pub agree_set : (i : ℕ) (xs ys : List ℕ) → i < length xs → Agree i xs ys → Agree (i + 1) (set xs i (get_or ys i 0)) ys
agree_set i xs ys within h =
    agree_more i (set xs i (get_or ys i 0)) ys
    (λ k l. get_or-set_other xs i k (get_or ys i 0) 0 (λ e. lt_irrefl i (rw e at l)) ∙ h k l)
    (get_or-set_same xs i (get_or ys i 0) 0 within)

-- kept numbers that differ are given 47, and equal ones pass
pub kept_differs : (priorities kept : List ℕ) → (kept ≡ fresh_count priorities → ⊥) → kept_check priorities kept ≡ refused 47 0
unfolding kept_check
kept_differs priorities kept n =
    rw (not_true_is_false (same_list kept (fresh_count priorities)) (λ h. n (same_equal kept (fresh_count priorities) h)))

pub kept_same : (priorities kept : List ℕ) → kept ≡ fresh_count priorities → kept_check priorities kept ≡ none
unfolding kept_check
kept_same priorities kept e = rw (equal_same kept (fresh_count priorities) e)

-- a tally summed up is the fresh count
pub fresh_summed : (priorities r s : List ℕ) → Counts priorities r → s ≡ kept_for (take 256 r) → s ≡ fresh_count priorities
unfolding fresh_count
fresh_summed priorities r s h e = e ∙ ap (λ (l : List ℕ). kept_for l) h.counts

-- lowering one count raises none
pub lowered_few : (kept : List ℕ) (old new : ℕ) → Movable kept old new → get_or (lowered kept old) new 0 ≤ 4096
lowered_few kept old new h =
    ⊎_elim
    (λ e.
    let same = eqb-true new old e in
    let here = get_or-set_same kept old (get_or kept old 0 - 1) 0 (omega (arith, h.long, h.old_small)) in
    let few : get_or kept old 0 ≤ 4096 = rw same at h.new_few in
    rw same (omega arith))
    (λ e.
    let other = get_or-set_other kept old new (get_or kept old 0 - 1) 0 (eqb-false new old e) in
    omega (arith, h.new_few))
    (bool_cases (eqb new old))

-- lists of the same length with a different entry differ
pub entry_differs : (i : ℕ) (xs ys : List ℕ) → (get_or xs i 0 ≡ get_or ys i 0 → ⊥) → xs ≡ ys → ⊥
entry_differs i xs ys n e = n (ap (λ (l : List ℕ). get_or l i 0) e)
