-- The marks of words that are passed one after another.
use Rattle.std.specs.Prelude.{Bool, cond, List, ◌≡◌, ℕ, ◌+◌, ◌*◌, ◌%◌, ◌^◌, ◌<◌, eqb, get_or}
use Rattle.std.proofs.Common.{sym, ap, ◌∙◌, arith, eq-eqb, ne_eqb}
use Rattle.std.proofs.Math.Decide.{ℕ_discrete}
use Rattle.std.specs.Int.Bits.{bit_or}
use Rattle.rules.specs.Words.{digit}
use Rattle.sets.specs.Digits.{digit_zero}
use Rattle.sets.specs.Single.{digit_insert}
use Rattle.layer.specs.Layer.{LentLayer, Layer, room, marks}

-- the digits below i say which of the first i words are not 0, and there are no others
pub record Marking (word : ℕ → ℕ) (so_far i : ℕ) : Type 0 where
  pub marked : (j : ℕ) → j < 64 → digit so_far j ≡ 1 → (j < i) × (word j ≡ 0 → ⊥)
  pub blank : (j : ℕ) → j < i → digit so_far j ≡ 0 → word j ≡ 0

pub marking_none : {word : ℕ → ℕ} → Marking word 0 0
marking_none =
    record { marked = λ j l e. absurd (let z = digit_zero j in omega arith); blank = λ j l e. absurd (omega arith) }

module _ {word : ℕ → ℕ} {so_far i : ℕ} (small : i < 64) (c : Marking word so_far i) where
  pub marking_word : (word i ≡ 0 → ⊥) → Marking word (bit_or so_far ((1 * 2 ^ i) % 2 ^ 64)) (i + 1)
  marking_word some =
      record {
        marked = λ j l e. marked_at j l (sym (digit_insert so_far i j small) ∙ e) (ℕ_discrete j i);
        blank = λ j l e. blank_at j l (sym (digit_insert so_far i j small) ∙ e) (ℕ_discrete j i);
      }
    where
      marked_at : (j : ℕ) → j < 64 → cond (eqb j i) 1 (digit so_far j) ≡ 1 → Dec (j ≡ i) → (j < i + 1) × (word j ≡ 0 → ⊥)
      marked_at j l e (yes is) = (omega arith, λ z. some (ap word (sym is) ∙ z))
      marked_at j l e (no d) =
          let (below, old) = c.marked j l (ap (λ (b : Bool). cond b 1 (digit so_far j)) (sym (ne_eqb j i d)) ∙ e) in
          (omega arith, old)

      blank_at : (j : ℕ) → j < i + 1 → cond (eqb j i) 1 (digit so_far j) ≡ 0 → Dec (j ≡ i) → word j ≡ 0
      blank_at j l e (yes is) =
          absurd (let one = ap (λ (b : Bool). cond b 1 (digit so_far j)) (sym (eq-eqb j i is)) ∙ e in omega arith)
      blank_at j l e (no d) =
          c.blank j (omega (arith, d)) (ap (λ (b : Bool). cond b 1 (digit so_far j)) (sym (ne_eqb j i d)) ∙ e)

  pub marking_zero : word i ≡ 0 → Marking word so_far (i + 1)
  marking_zero none =
      record {
        marked = λ j l e. let (below, some) = c.marked j l e in (omega arith, some);
        blank = λ j l e. blank_at j l e (ℕ_discrete j i);
      }
    where
      blank_at : (j : ℕ) → j < i + 1 → digit so_far j ≡ 0 → Dec (j ≡ i) → word j ≡ 0
      blank_at j l e (yes is) = ap word is ∙ none
      blank_at j l e (no d) = c.blank j (omega (arith, d)) e

-- all words of a layer are passed, and the marks stand in it
pub marking_layer :
    {word : ℕ → ℕ} (xs : List ℕ) →
    LentLayer xs →
    ((j : ℕ) → j < room xs → get_or xs j 0 ≡ word j) →
    Marking word (marks xs) (room xs) →
    Layer xs
marking_layer xs lent same c =
    record {
      lent = lent;
      marked = λ j l e. let (below, some) = c.marked j l e in (below, λ z. some (sym (same j below) ∙ z));
      blank = λ j l e. same j l ∙ c.blank j l e;
    }
