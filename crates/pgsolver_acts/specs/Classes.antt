-- The class of a byte, from where it stands among the bytes.
use Rattle.std.specs.Prelude.{Bool, true, false, ◌&&◌, ◌||◌, cond, ◌≡◌, refl, ◌⊎◌, ℕ, ◌≤◌, ◌<◌, leb}
use Rattle.std.proofs.Common.{inl, inr, arith, le-leb, ne_eqb}
use Rattle.std.proofs.lemmas.Bool.{lt-leb}
use Rattle.rules.specs.Pgsolver.{separates, is_digit}
use Rattle.grammar.specs.Machine.{class_of, digit_byte, letter_byte, other_byte, is_letter}
use Rattle.basics.specs.Basics.{and_intro, or_left, or_right}

-- not one of the bytes that separate
pub no_separator : (b : ℕ) → (b ≡ 32 → ⊥) → (b ≡ 9 → ⊥) → (b ≡ 13 → ⊥) → (b ≡ 10 → ⊥) → separates b ≡ false
no_separator b space tab return feed = simp (ne_eqb b 32 space, ne_eqb b 9 tab, ne_eqb b 13 return, ne_eqb b 10 feed)

not_left : (x y : Bool) → x ≡ false → (x && y) ≡ false
not_left x y h = rw h

not_right : (x y : Bool) → y ≡ false → (x && y) ≡ false
not_right true y h = h
not_right false y h = refl

neither : (x y : Bool) → x ≡ false → y ≡ false → (x || y) ≡ false
neither x y h k = rw (h, k)

module _ (low high b : ℕ) where
  abbrev between : Bool
  between = leb low b && leb b high

  within : low ≤ b → b ≤ high → between ≡ true
  within l h = and_intro (le-leb low b l) (le-leb b high h)

  outside : (b < low) ⊎ (high < b) → between ≡ false
  outside (inl l) = not_left (leb low b) (leb b high) (lt-leb low b l)
  outside (inr h) = not_right (leb low b) (leb b high) (lt-leb b high h)

pub class_digit : (b : ℕ) → 48 ≤ b → b < 58 → class_of b ≡ digit_byte
unfolding class_of
class_digit b low high =
    let none : separates b ≡ false = no_separator b (λ e. omega arith) (λ e. omega arith) (λ e. omega arith) (λ e. omega arith) in
    let digit : is_digit b ≡ true = within 48 57 b low (omega arith) in
    rw (none, digit)

-- neither a separator nor a digit nor a mark: a letter, or one of the rest
pub class_rest :
    (b : ℕ) →
    separates b ≡ false →
    (b < 48) ⊎ (57 < b) →
    (b ≡ 44 → ⊥) →
    (b ≡ 59 → ⊥) →
    (b ≡ 34 → ⊥) →
    class_of b ≡ cond (is_letter b) letter_byte other_byte
unfolding class_of
class_rest b none digit comma semicolon quote =
    rw (none, outside 48 57 b digit, ne_eqb b 44 comma, ne_eqb b 59 semicolon, ne_eqb b 34 quote)

pub is_letter_lem : (b : ℕ) → ((65 ≤ b) × (b ≤ 90)) ⊎ ((97 ≤ b) × (b ≤ 122)) → is_letter b ≡ true
is_letter_lem b (inl h) = or_left (leb 65 b && leb b 90) (leb 97 b && leb b 122) (within 65 90 b h.0 h.1)
is_letter_lem b (inr h) = or_right (leb 65 b && leb b 90) (leb 97 b && leb b 122) (within 97 122 b h.0 h.1)

pub no_letter : (b : ℕ) → (b < 65) ⊎ (90 < b) → (b < 97) ⊎ (122 < b) → is_letter b ≡ false
no_letter b capital small =
    neither (leb 65 b && leb b 90) (leb 97 b && leb b 122) (outside 65 90 b capital) (outside 97 122 b small)
