-- The winners' digits, one for each vertex.
use Rattle.std.specs.Prelude.{Bool, true, false, cond, ◌≡◌, ℕ, ◌<◌, length, get_or}
use Rattle.std.proofs.Common.{sym, ap, ◌∙◌}
use Rattle.rules.specs.Counting.{Set}
use Rattle.rules.specs.Printing.{winner_digits}
use Rattle.basics.specs.Basics.{length_listed, get_or_listed}

pub winners_long : (n : ℕ) (odd : Set) → length (winner_digits n odd) ≡ n
unfolding winner_digits
winners_long n odd = length_listed n (λ v. cond (odd v) 49 48)

winner_entry : (n : ℕ) (odd : Set) (v : ℕ) → v < n → cond (odd v) 49 48 ≡ get_or (winner_digits n odd) v 0
unfolding winner_digits
winner_entry n odd v less = sym (get_or_listed n (λ u. cond (odd u) 49 48) v 0 less)

-- the digit where the set was asked
pub winner_odd : (n : ℕ) (odd : Set) (v : ℕ) → v < n → odd v ≡ true → 49 ≡ get_or (winner_digits n odd) v 0
winner_odd n odd v less is = ap (λ (b : Bool). cond b 49 48) (sym is) ∙ winner_entry n odd v less

pub winner_even : (n : ℕ) (odd : Set) (v : ℕ) → v < n → odd v ≡ false → 48 ≡ get_or (winner_digits n odd) v 0
winner_even n odd v less is = ap (λ (b : Bool). cond b 49 48) (sym is) ∙ winner_entry n odd v less
