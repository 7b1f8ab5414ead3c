-- The kept numbers beside tables that were read, by the number of the answer.
use Rattle.std.specs.Prelude.{cond, List, ◌≡◌, ℕ, ◌-◌, ◌≤◌, eqb, length, take, drop, replicate}
use Rattle.std.proofs.Common.{⊎_elim, sym, ap, ◌∙◌, eq-eqb, ne_eqb, take_all}
use Rattle.std.proofs.Math.Nat.{sub-zero}
use Rattle.std.proofs.lemmas.List.{length-replicate}
use Rattle.rules.specs.Record.{fresh_count}
use Rattle.basics.specs.Basics.{bool_cases}
use Rattle.theory.specs.Counts.{length_fresh}

-- `kept_beside` of the rules
abbrev pub beside_by : ℕ → ℕ → List ℕ → List ℕ
beside_by number n priorities = cond (eqb number 0) (fresh_count (take n priorities)) (replicate 258 0)

-- zero everywhere after a refusal
pub beside_refused : (number n : ℕ) (ps : List ℕ) → (number ≡ 0 → ⊥) → replicate 258 0 ≡ beside_by number n ps
beside_refused number n ps h = rw (ne_eqb number 0 h)

-- a fresh count after an answer
pub beside_answered : (number n : ℕ) (ps : List ℕ) → number ≡ 0 → fresh_count (take n ps) ≡ beside_by number n ps
beside_answered number n ps e = rw (eq-eqb number 0 e)

-- where n is beyond the room, all of it is counted
pub beside_all : (number n : ℕ) (ps : List ℕ) → number ≡ 0 → length ps ≤ n → fresh_count ps ≡ beside_by number n ps
beside_all number n ps e long =
    ap (λ (l : List ℕ). fresh_count l) (sym (take_all n ps long)) ∙ beside_answered number n ps e

pub length_beside : (number n : ℕ) (ps : List ℕ) → length (beside_by number n ps) ≡ 258
length_beside number n ps =
    ⊎_elim
    (λ e. rw e (length_fresh (take n ps)))
    (λ e. rw e (length-replicate {A = ℕ} 258 0))
    (bool_cases (eqb number 0))

-- a part from 0 on is the front
pub part_front : (n : ℕ) (xs : List ℕ) → take (n - 0) (drop 0 xs) ≡ take n xs
part_front n xs = simp sub-zero
