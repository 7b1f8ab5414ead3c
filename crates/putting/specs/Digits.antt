-- A number put digit by digit: the digits of a tenth first, then the last one.
use Rattle.std.specs.Prelude.{List, [], ◌∷◌, ◌≡◌, ℕ, suc, ◌+◌, ◌/◌, ◌%◌, ◌≤◌, ◌<◌, length, set}
use Rattle.std.proofs.Common.{sym, ap, subst, ◌∙◌, add-one, arith, length-append}
use Rattle.rules.specs.Decimal.{decimal}
use Rattle.grammar.specs.Decimals.{decimal_small, decimal_large}
use Rattle.putting.specs.Puts.{Fits, Puts, puts_none, puts_byte}

length_small : (n : ℕ) → n < 10 → length (decimal n) ≡ 1
length_small n low = ap length (decimal_small n low)

length_large : (n : ℕ) → 10 ≤ n → length (decimal n) ≡ length (decimal (n / 10)) + 1
length_large n high = ap length (decimal_large n high) ∙ length-append (decimal (n / 10)) ((48 + n % 10) ∷ [])

-- one digit has room
pub digit_room : (at n : ℕ) (out : List ℕ) → n < 10 → Fits at (decimal n) out → at < length out
digit_room at n out low fits = omega (arith, length_small n low)

-- and is the number
pub digit_put :
    (at n : ℕ) (out : List ℕ) → n < 10 → Fits at (decimal n) out → Puts at (decimal n) out (set out at (48 + n)) (at + 1)
digit_put at n out low fits =
    subst (λ (r : ℕ). Puts at (decimal n) out (set out at (48 + n)) r) (sym (add-one at))
    (subst (λ (s : List ℕ). Puts at s out (set out at (48 + n)) (suc at)) (sym (decimal_small n low))
    (puts_byte (48 + n) (puts_none at out) (digit_room at n out low fits)))

-- the digits of a tenth have room
pub tenth_fits : (at n : ℕ) (out : List ℕ) → 10 ≤ n → Fits at (decimal n) out → Fits at (decimal (n / 10)) out
tenth_fits at n out high fits = omega (arith, length_large n high)

module _ (at n r : ℕ) (before after : List ℕ)
    (high : 10 ≤ n) (fits : Fits at (decimal n) before) (tenth : Puts at (decimal (n / 10)) before after r) where
  -- after them the last one has room
  pub last_room : r < length after
  last_room = omega (arith, length_large n high, tenth.place, tenth.long)

  -- and they are the number
  pub last_put : Puts at (decimal n) before (set after r (48 + n % 10)) (r + 1)
  last_put =
      subst (λ (k : ℕ). Puts at (decimal n) before (set after r (48 + n % 10)) k) (sym (add-one r))
      (subst (λ (s : List ℕ). Puts at s before (set after r (48 + n % 10)) (suc r)) (sym (decimal_large n high))
      (puts_byte (48 + n % 10) tenth last_room))
