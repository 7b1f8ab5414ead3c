-- What the loops of compaction do in one turn, as facts about lists.
use Rattle.std.specs.declared.option.Option.{Option}
use Rattle.std.specs.declared.option.Option.TheVariants.{None, Some}
use Rattle.std.specs.Prelude.{Bool, true, false, ◌||◌, List, map, ◌≡◌, refl, ℕ, zero, suc, ◌+◌, ◌≤◌, ◌<◌, eqb, length, get_or, set, replicate, IfSome}
use Rattle.std.proofs.Common.{⊎_elim, sym, ap, ◌∙◌, suc-le-suc, not-suc-le-zero, le_refl, lt_irrefl, lt_trans, add-one, arith, eqb-true, length-set, get_or-set_same, get_or-set_other, ext_get_or}
use Rattle.std.proofs.Math.Nat.{le_step}
use Rattle.std.proofs.lemmas.Bool.{eqb-false}
use Rattle.std.proofs.lemmas.List.{get_or-replicate, length-replicate, length-map}
use Rattle.rules.specs.Compaction.{Last, last, used, next_number, last_below, compacted}
use Rattle.rules.specs.Counting.{Set, some}
use Rattle.basics.specs.Basics.{bool_cases, clash, or_right, below_suc}
use Rattle.theory.specs.Compaction.{get_or_map_below, entry_used, number_small, last_used, last_unused}
use Rattle.compaction_numbers.specs.Marks.{Small, marked, Marks, last_given, Numbers}

-- the marks tell which priorities the first v entries have
abbrev pub MarksOf : ℕ → List ℕ → List ℕ → Type 0
MarksOf v priorities marks = (p : ℕ) → p < 256 → marked marks p ≡ some v (λ u. eqb (get_or priorities u 0) p)

-- no entry is marked yet
pub marks_none : (priorities : List ℕ) → MarksOf 0 priorities (replicate 256 0)
unfolding some
marks_none priorities p small = ap (λ (x : ℕ). eqb x 1) (get_or-replicate 256 p 0 0 small)

or_false_right : (b : Bool) → b || false ≡ b
or_false_right true = refl
or_false_right false = refl

-- one entry more is marked
pub marks_more :
    (v : ℕ) (priorities marks : List ℕ) →
    length marks ≡ 256 →
    MarksOf v priorities marks →
    MarksOf (v + 1) priorities (set marks (get_or priorities v 0) 1)
unfolding some
marks_more v priorities marks long told p small =
    rw add-one
    (⊎_elim
    (λ e.
    let q = eqb-true (get_or priorities v 0) p e in
    let here : get_or (set marks p 1) p 0 ≡ 1 = get_or-set_same marks p 1 0 (omega arith) in
    rw (e, q, here) (sym (or_right (some v (λ u. eqb (get_or priorities u 0) p)) true refl)))
    (λ e.
    let differs = eqb-false (get_or priorities v 0) p e in
    rw (e, or_false_right (some v (λ u. eqb (get_or priorities u 0) p)), get_or-set_other marks (get_or priorities v 0) p 1 0 (λ q. differs (sym q)))
    (told p small))
    (bool_cases (eqb (get_or priorities v 0) p)))

-- the marked priorities below k have their new numbers, of which the last is as told
pub record NumbersGiven (k : ℕ) (marks numbers : List ℕ) (latest_given : Option ℕ) : Type 0 where
  pub long : length numbers ≡ 256
  pub latest : last_given latest_given ≡ last_below (marked marks) k
  pub small : IfSome latest_given (λ q. q ≤ 255)
  pub each : Numbers k marks numbers

-- none has one yet
pub given_none : (marks : List ℕ) → NumbersGiven 0 marks (replicate 256 0) None
unfolding last_below
given_none marks =
    record {
      long = length-replicate {A = ℕ} 256 0;
      latest = refl;
      small = tt;
      each = λ p l. absurd (not-suc-le-zero l);
    }

-- one marked priority more has its number
pub given_used :
    (k : ℕ) (marks numbers : List ℕ) (before : Option ℕ) (r : ℕ) →
    NumbersGiven k marks numbers before →
    k < 256 →
    marked marks k ≡ true →
    r ≡ next_number (last_given before) k →
    NumbersGiven (k + 1) marks (set numbers k r) (Some r)
given_used k marks numbers before r given below here is-next =
    let is_new : r ≡ next_number (last_below (marked marks) k) k = is-next ∙ ap (λ (l : Last). next_number l k) given.latest in
    let low = number_small (marked marks) k in
    record {
      long = length-set numbers k r ∙ given.long;
      latest = rw add-one (ap last is_new ∙ sym (last_used (marked marks) k here));
      small = omega arith;
      each =
          λ p l m.
          ⊎_elim
          (λ (e : p ≡ k). rw e (get_or-set_same numbers k r 0 (omega (arith, given.long)) ∙ is_new))
          (λ (less : p < k).
          get_or-set_other numbers k p r 0 (λ e. lt_irrefl k (rw e at less)) ∙ given.each p less m)
          (below_suc (rw add-one at l));
    }

-- one priority more that is not marked
pub given_unused :
    (k : ℕ) (marks numbers : List ℕ) (before : Option ℕ) →
    NumbersGiven k marks numbers before →
    marked marks k ≡ false →
    NumbersGiven (k + 1) marks numbers before
given_unused k marks numbers before given here =
    record {
      long = given.long;
      latest = rw add-one (given.latest ∙ sym (last_unused (marked marks) k here));
      small = given.small;
      each =
          λ p l m.
          ⊎_elim
          (λ (e : p ≡ k). absurd (clash m (rw e here)))
          (λ (less : p < k). given.each p less m)
          (below_suc (rw add-one at l));
    }

-- the first v entries of the new list are f of the old ones
abbrev pub Written : ℕ → (ℕ → ℕ) → List ℕ → List ℕ → Type 0
Written v f old new = (u : ℕ) → u < v → get_or new u 0 ≡ f (get_or old u 0)

-- one entry more is written
pub written_more :
    (v : ℕ) (f : ℕ → ℕ) (old new : List ℕ) →
    v < length new →
    Written v f old new →
    Written (v + 1) f old (set new v (f (get_or old v 0)))
written_more v f old new within written u l =
    ⊎_elim
    (λ (e : u ≡ v). rw e (get_or-set_same new v (f (get_or old v 0)) 0 within))
    (λ (less : u < v).
    get_or-set_other new v u (f (get_or old v 0)) 0 (λ e. lt_irrefl v (rw e at less)) ∙ written u less)
    (below_suc (rw add-one at l))

-- all entries are written
pub written_all :
    (f : ℕ → ℕ) (old new : List ℕ) → length new ≡ length old → Written (length old) f old new → new ≡ map f old
written_all f old new long written =
    ext_get_or 0 new (map f old) (long ∙ sym (length-map old f))
    (λ i l. let within : i < length old = rw long at l in written i within ∙ sym (get_or_map_below f old i within))

-- what is last below n depends on the priorities below n alone
last_cong :
    (S T : Set) (n : ℕ) → ((k : ℕ) → k < n → S k ≡ T k) → last_below S n ≡ last_below T n
unfolding last_below
last_cong S T zero same = refl
last_cong S T (suc n) same =
    rw (same n (le_refl (suc n)), last_cong S T n (λ k l. same k (le_step l)))

-- The numbers of the marked priorities, entry by entry, are the rule's new table.
pub numbers_compact :
    (priorities marks numbers : List ℕ) →
    Small priorities →
    Marks priorities marks →
    Numbers 256 marks numbers →
    map (λ p. get_or numbers p 0) priorities ≡ map (compacted priorities) priorities
unfolding compacted
numbers_compact priorities marks numbers small told given =
    written_all (compacted priorities) priorities (map (λ p. get_or numbers p 0) priorities)
    (length-map priorities (λ p. get_or numbers p 0))
    (λ v l.
    let p = get_or priorities v 0 in
    let low : p < 256 = suc-le-suc (small v l) in
    get_or_map_below (λ q. get_or numbers q 0) priorities v l ∙
    given p low (told p low ∙ entry_used priorities v l) ∙
    ap (λ (before : Last). next_number before p)
    (last_cong (marked marks) (used priorities) p (λ k less. told k (lt_trans less low))))
