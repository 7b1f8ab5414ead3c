-- The binary digits of a word: of its bit operations, of a single set bit, and how digits tell words apart.
-- Every law is by halving: digit 0 is the remainder by 2, and digit k + 1 is digit k of the half.
use Rattle.std.specs.Prelude.{Bool, cond, ◌≡◌, ℕ, zero, suc, ◌+◌, ◌-◌, ◌*◌, ◌/◌, ◌%◌, ◌^◌, ◌<◌, min, max, eqb}
use Rattle.std.proofs.Common.{sym, ap, ap₂, ◌∙◌, zero-le, suc-le-suc, mod-lt, zero-lt-suc, div-one, le_of_suc-le-suc, not-suc-le-zero, one-add, arith, shr-shr}
use Rattle.std.specs.Int.Bits.{bit_and, bit_or, and_step, or_step}
use Rattle.std.proofs.Math.Dec.{eqb-zero-suc, eqb-suc-zero, eqb-suc-suc}
use Rattle.rules.specs.Words.{digit}

pub digit_lt : (n k : ℕ) → digit n k < 2
unfolding digit
digit_lt n k = mod-lt (n / 2 ^ k) (zero-lt-suc 1)

-- digit 0
pub digit_low : (n : ℕ) → digit n 0 ≡ n % 2
unfolding digit
digit_low n = ap (λ (x : ℕ). x % 2) (div-one n)

-- digit k + 1 is digit k of the half
pub digit_up : (n k : ℕ) → digit n (suc k) ≡ digit (n / 2) k
unfolding digit
digit_up n k = ap (λ (x : ℕ). n / 2 ^ x % 2) (sym (one-add k)) ∙ ap (λ (x : ℕ). x % 2) (sym (shr-shr n 1 k))

pub digit_zero : (k : ℕ) → digit 0 k ≡ 0
digit_zero zero = digit_low 0
digit_zero (suc k) = digit_up 0 k ∙ digit_zero k

-- an operation that works on each digit apart, by f
module _ (op f : ℕ → ℕ → ℕ)
    (small : (x y : ℕ) → x < 2 → y < 2 → f x y < 2)
    (step : (a b : ℕ) → op a b ≡ op (a / 2) (b / 2) * 2 + f (a % 2) (b % 2)) where
  op_low : (a b : ℕ) → op a b % 2 ≡ f (a % 2) (b % 2)
  op_low a b = omega (arith, step a b, small (a % 2) (b % 2) (mod-lt a (zero-lt-suc 1)) (mod-lt b (zero-lt-suc 1)))

  op_half : (a b : ℕ) → op a b / 2 ≡ op (a / 2) (b / 2)
  op_half a b = omega (arith, step a b, small (a % 2) (b % 2) (mod-lt a (zero-lt-suc 1)) (mod-lt b (zero-lt-suc 1)))

  digit_op : (a b k : ℕ) → digit (op a b) k ≡ f (digit a k) (digit b k)
  digit_op a b zero = digit_low (op a b) ∙ op_low a b ∙ ap₂ f (sym (digit_low a)) (sym (digit_low b))
  digit_op a b (suc k) =
      digit_up (op a b) k ∙ ap (λ (x : ℕ). digit x k) (op_half a b) ∙ digit_op (a / 2) (b / 2) k
      ∙ ap₂ f (sym (digit_up a k)) (sym (digit_up b k))

-- the digits of a | b
pub digit_or : (a b k : ℕ) → digit (bit_or a b) k ≡ max (digit a k) (digit b k)
digit_or = digit_op bit_or max (λ x y p q. omega arith) or_step

-- the digits of a & b
pub digit_and : (a b k : ℕ) → digit (bit_and a b) k ≡ min (digit a k) (digit b k)
digit_and = digit_op bit_and min (λ x y p q. omega arith) and_step

-- the digits of !a, at a width j
pub digit_not : (j a k : ℕ) → a < 2 ^ j → k < j → digit ((2 ^ j - 1) - a) k ≡ 1 - digit a k
digit_not zero a k h l = absurd (not-suc-le-zero l)
digit_not (suc j) a zero h l = omega (arith, digit_low ((2 ^ suc j - 1) - a), digit_low a)
digit_not (suc j) a (suc k) h l =
    let half : ((2 ^ suc j - 1) - a) / 2 ≡ (2 ^ j - 1) - a / 2 = omega arith in
    let small : a / 2 < 2 ^ j = omega arith in
    digit_up ((2 ^ suc j - 1) - a) k ∙ ap (λ (x : ℕ). digit x k) half ∙ digit_not j (a / 2) k small (le_of_suc-le-suc l)
    ∙ ap (λ (x : ℕ). 1 - x) (sym (digit_up a k))

-- the digits of a & !b, at a width j
pub digit_and_not : (j a b k : ℕ) → b < 2 ^ j → k < j → digit (bit_and a ((2 ^ j - 1) - b)) k ≡ digit a k - digit b k
digit_and_not j a b k h l =
    digit_and a ((2 ^ j - 1) - b) k ∙ omega (arith, digit_not j b k h l, digit_lt a k, digit_lt b k)

-- a word with one set bit
pub digit_one_bit : (i k : ℕ) → digit (2 ^ i) k ≡ cond (eqb k i) 1 0
digit_one_bit zero zero = digit_low 1
digit_one_bit zero (suc k) = digit_up 1 k ∙ digit_zero k ∙ ap (λ (t : Bool). cond t 1 0) (sym (eqb-suc-zero k))
digit_one_bit (suc i) zero = digit_low (2 ^ suc i) ∙ low ∙ ap (λ (t : Bool). cond t 1 0) (sym (eqb-zero-suc i))
  where
    low : 2 ^ suc i % 2 ≡ 0
    low = omega arith
digit_one_bit (suc i) (suc k) =
    digit_up (2 ^ suc i) k ∙ ap (λ (x : ℕ). digit x k) half ∙ digit_one_bit i k ∙ ap (λ (t : Bool). cond t 1 0) (sym (eqb-suc-suc k i))
  where
    half : 2 ^ suc i / 2 ≡ 2 ^ i
    half = omega arith

-- two words of j digits with equal digits are equal
pub digits_tell : (j a b : ℕ) → a < 2 ^ j → b < 2 ^ j → ((k : ℕ) → k < j → digit a k ≡ digit b k) → a ≡ b
digits_tell zero a b ha hb same = omega arith
digits_tell (suc j) a b ha hb same =
    let halves : a / 2 ≡ b / 2 = digits_tell j (a / 2) (b / 2) (omega arith) (omega arith)
    (λ k l. sym (digit_up a k) ∙ same (suc k) (suc-le-suc l) ∙ digit_up b k) in
    let lows : a % 2 ≡ b % 2 = sym (digit_low a) ∙ same 0 (suc-le-suc zero-le) ∙ digit_low b in
    omega arith
