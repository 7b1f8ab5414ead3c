-- `class_of` meets its contract: each range of the match lies in one class of the machine.
use mathlib.Core.Bool.{Bool, cond}
use mathlib.Core.Logic.{◌⊎◌, inl, inr, ⊎_elim}
use mathlib.Core.Path.{◌≡◌, sym, ap, ◌∙◌}
use Prim.Native.Nat.{ℕ, ◌≤◌, ◌<◌}
use native.Mathlib.Omega.{arith}
use Rattle.grammar.specs.Machine.{class_of, letter_byte, other_byte, is_letter}
use Rattle.basics.specs.Basics.{below_suc}
use Rattle.pgsolver_acts.specs.Classes.{no_separator, class_digit, class_rest, is_letter_lem, no_letter}
use Rattle.pgsolver_acts.proofs.class.class_of.Goals as goal

-- what is left when no arm of single bytes fits
rest :
    (b : ℕ) →
    ((b ≡ 13) ⊎ (b ≡ 32) → ⊥) →
    (b ≡ 44 → ⊥) →
    (b ≡ 59 → ⊥) →
    (b ≡ 34 → ⊥) →
    (b ≡ 9 → ⊥) →
    (b ≡ 10 → ⊥) →
    (b < 48) ⊎ (57 < b) →
    class_of b ≡ cond (is_letter b) letter_byte other_byte
rest b ends comma semicolon quote tab feed digit =
    class_rest b
    (no_separator b (λ e. ends (inr e)) tab (λ e. ends (inl e)) feed)
    digit
    comma
    semicolon
    quote

other :
    (b : ℕ) →
    ((b ≡ 13) ⊎ (b ≡ 32) → ⊥) →
    (b ≡ 44 → ⊥) →
    (b ≡ 59 → ⊥) →
    (b ≡ 34 → ⊥) →
    (b ≡ 9 → ⊥) →
    (b ≡ 10 → ⊥) →
    (b < 48) ⊎ (57 < b) →
    (b < 65) ⊎ (90 < b) →
    (b < 97) ⊎ (122 < b) →
    other_byte ≡ class_of b
other b ends comma semicolon quote tab feed digit capital small =
    sym
    (rest b ends comma semicolon quote tab feed digit ∙
    ap (λ (x : Bool). cond x letter_byte other_byte) (no_letter b capital small))

letter :
    (b : ℕ) →
    ((65 ≤ b) × (b ≤ 90)) ⊎ ((97 ≤ b) × (b ≤ 122)) →
    letter_byte ≡ class_of b
letter b lies =
    sym
    (rest b (λ e. omega arith) (λ e. omega arith) (λ e. omega arith) (λ e. omega arith) (λ e. omega arith) (λ e. omega arith) (inr (omega arith)) ∙
    ap (λ (x : Bool). cond x letter_byte other_byte) (is_letter_lem b lies))

two_bytes : (b : ℕ) → 9 ≤ b → b < 11 → (b ≡ 9) ⊎ (b ≡ 10)
two_bytes b low high = ⊎_elim (λ (e : b ≡ 10). inr e) (λ (l : b < 10). inl (omega arith)) (below_suc high)

pub returns-in-44 : goal.returns-in-44
unfolding class_of
returns-in-44 c = rw c.in-44.is

pub returns-in-59 : goal.returns-in-59
unfolding class_of
returns-in-59 c = rw c.in-59.is

pub returns-in-34 : goal.returns-in-34
unfolding class_of
returns-in-34 c = rw c.in-34.is

pub returns-in-48-to-57 : goal.returns-in-48-to-57
returns-in-48-to-57 c = sym (class_digit c.args.b (omega arith) (omega arith))

pub returns-in-65-to-90 : goal.returns-in-65-to-90
returns-in-65-to-90 c = letter c.args.b (inl (omega arith, omega arith))

pub returns-in-65-to-90-2 : goal.returns-in-65-to-90-2
returns-in-65-to-90-2 c = letter c.args.b (inr (omega arith, omega arith))

pub returns-in_default : goal.returns-in_default
returns-in_default c =
    other c.args.b (λ e. omega arith) (λ e. omega arith) (λ e. omega arith) (λ e. omega arith) (λ e. omega arith)
    (λ e. omega arith) (inl (omega arith)) (inl (omega arith)) (inl (omega arith))

pub returns-in_default-2 : goal.returns-in_default-2
returns-in_default-2 c =
    other c.args.b (λ e. omega arith) (λ e. omega arith) (λ e. omega arith) (λ e. omega arith) (λ e. omega arith)
    (λ e. omega arith) (inl (omega arith)) (inl (omega arith)) (inl (omega arith))

pub returns-in_default-3 : goal.returns-in_default-3
returns-in_default-3 c =
    other c.args.b (λ e. omega arith) (λ e. omega arith) (λ e. omega arith) (λ e. omega arith) (λ e. omega arith)
    (λ e. omega arith) (inr (omega arith)) (inl (omega arith)) (inl (omega arith))

pub returns-in_default-4 : goal.returns-in_default-4
returns-in_default-4 c =
    other c.args.b (λ e. omega arith) (λ e. omega arith) (λ e. omega arith) (λ e. omega arith) (λ e. omega arith)
    (λ e. omega arith) (inr (omega arith)) (inr (omega arith)) (inl (omega arith))

pub returns-in_default-5 : goal.returns-in_default-5
returns-in_default-5 c =
    other c.args.b (λ e. omega arith) (λ e. omega arith) (λ e. omega arith) (λ e. omega arith) (λ e. omega arith)
    (λ e. omega arith) (inr (omega arith)) (inr (omega arith)) (inr (omega arith))

pub returns-in-32 : goal.returns-in-32
unfolding class_of
returns-in-32 c = ⊎_elim (λ e. rw e) (λ e. rw e) c.in-32.is

pub returns-in-32-2 : goal.returns-in-32-2
unfolding class_of
returns-in-32-2 c =
    let b = c.args.b in
    ⊎_elim (λ (e : b ≡ 9). rw e) (λ (e : b ≡ 10). rw e) (two_bytes b (omega arith) (omega arith))
