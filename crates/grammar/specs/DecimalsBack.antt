-- The other way round: digits without a leading zero are the decimal digits of what they stand for. So `decimal` and the value of a
-- number undo each other.
use Rattle.std.specs.Prelude.{true, List, [], ◌∷◌, ◌++◌, ◌≡◌, ℕ, ◌+◌, ◌-◌, ◌*◌, ◌/◌, ◌%◌, ◌≤◌, ◌<◌, leb, length, get_or}
use Rattle.std.proofs.Common.{sym, ap, ap₂, ◌∙◌, arith, leb-true, length-append}
use Rattle.std.proofs.Math.ListN.{get_or-append}
use Rattle.rules.specs.Decimal.{decimal}
use Rattle.rules.specs.Pgsolver.{Number, first, next, is_digit}
use Rattle.basics.specs.Basics.{and_left, and_right}
use Rattle.grammar.specs.Decimals.{decimal_small, decimal_large}

digit_low : (b : ℕ) → is_digit b ≡ true → 48 ≤ b
digit_low b d = leb-true 48 b (and_left (leb 48 b) (leb b 57) d)

digit_high : (b : ℕ) → is_digit b ≡ true → b ≤ 57
digit_high b d = leb-true b 57 (and_right (leb 48 b) (leb b 57) d)

number_some : {s : List ℕ} {v : ℕ} → Number s v → 0 < length s
number_some (first b d) = omega arith
number_some (next {s} n b d) = omega (arith, length-append s (b ∷ []), number_some n)

first_stays : {s : List ℕ} {v : ℕ} (b : ℕ) → Number s v → get_or (s ++ (b ∷ [])) 0 0 ≡ get_or s 0 0
first_stays {s} b n = get_or-append s (b ∷ []) 0 0 (number_some n)

-- a first digit that is not 0 makes a number above 0
number_above : {s : List ℕ} {v : ℕ} → Number s v → (get_or s 0 0 ≡ 48 → ⊥) → 0 < v
number_above (first b d) other = omega (arith, digit_low b d, other)
number_above (next n b d) other = omega (arith, number_above n (λ e. other (first_stays b n ∙ e)))

-- digits that stand for v, of which the first is no leading zero, are the digits of v
pub number_decimal : {s : List ℕ} {v : ℕ} → Number s v → (1 < length s → get_or s 0 0 ≡ 48 → ⊥) → s ≡ decimal v
number_decimal (first b d) other =
    let low = digit_low b d in
    let high = digit_high b d in
    let is : b ≡ 48 + (b - 48) = omega arith in
    ap (λ (x : ℕ). x ∷ []) is ∙ sym (decimal_small (b - 48) (omega arith))
number_decimal (next {s} {v} n b d) other =
    let low = digit_low b d in
    let high = digit_high b d in
    let long = length-append s (b ∷ []) in
    let some = number_some n in
    let leads : get_or s 0 0 ≡ 48 → ⊥ = λ e. other (omega (arith, long, some)) (first_stays b n ∙ e) in
    let above = number_above n leads in
    let tenth : v ≡ (10 * v + (b - 48)) / 10 = omega (arith, above) in
    let last : b ≡ 48 + (10 * v + (b - 48)) % 10 = omega (arith, above) in
    ap₂ (λ (xs : List ℕ) (x : ℕ). xs ++ (x ∷ [])) (number_decimal n (λ more. leads) ∙ ap decimal tenth) last ∙
    sym (decimal_large (10 * v + (b - 48)) (omega (arith, above)))
