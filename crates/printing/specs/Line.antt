-- The line as the code gives it: what was needed or that it was too much, and the winners where an engine told them.
use Rattle.std.specs.Prelude.{Bool, true, false, List, ◌++◌, ℕ, ◌+◌, ◌≤◌, length}
use Rattle.std.proofs.Common.{arith, Fits}
use Rattle.std.specs.Int.{w64}
use Rattle.rules.specs.Counting.{Set}
use Rattle.rules.specs.Decimal.{decimal}
use Rattle.rules.specs.Printing.{space, newline, dash, file_word, winner_digits}
use Rattle.grammar.specs.Decimals.{decimal_short}
use Rattle.std.specs.declared.option.Option.{Option}
use Rattle.std.specs.declared.option.Option.TheVariants.{None, Some}
use Rattle.putting.specs.Winners.{winners_long}

abbrev pub counted_bytes : Option ℕ → List ℕ
counted_bytes (Some k) = decimal k
counted_bytes None = dash

-- an engine kept its budget
abbrev pub decided_by : Option ℕ → Option ℕ → Bool
decided_by (Some k) rounds = true
decided_by None (Some k) = true
decided_by None None = false

abbrev pub winners_bytes : Bool → ℕ → Set → List ℕ
winners_bytes true n odd = winner_digits n odd
winners_bytes false n odd = dash

abbrev pub line_bytes : ℕ → Set → Option ℕ → Option ℕ → List ℕ
line_bytes n odd calls rounds =
    file_word ++
    (space ++
    (winners_bytes (decided_by calls rounds) n odd ++
    (space ++ (counted_bytes calls ++ (space ++ (counted_bytes rounds ++ newline))))))

-- a word of 64 bits has at most twenty digits
pub word_short : (n : ℕ) → Fits w64 n → length (decimal n) ≤ 20
word_short n fits = decimal_short 19 n (omega (arith, fits.fits))

pub winners_short : (told : Bool) (n : ℕ) (odd : Set) → length (winners_bytes told n odd) ≤ n + 1
winners_short true n odd = omega (arith, winners_long n odd)
winners_short false n odd = omega arith
