-- What A1's program prints for its arguments and its input: one line. Each engine has a budget; one that gives 13 prints `-` for its
-- count, and the winners come from the other, or `-`. A refused text prints the number and the place.
use Rattle.std.specs.Prelude.{◌&&◌, cond, List, [], ◌∷◌, ◌++◌, ◌≡◌, ℕ, ◌+◌, ◌-◌, ◌*◌, ltb, leb, length}
use Rattle.rules.specs.Counting.{Set, listed, every_of}
use Rattle.rules.specs.Decimal.{decimal}
use Rattle.rules.specs.Game.{Odd, Game}
use Rattle.rules.specs.Outcome.{Verdict, none, refused}
use Rattle.rules.specs.Pgsolver.{Entry, Header, is_digit}
use Rattle.rules.specs.Promotion.{after_rounds, rounds_needed}
use Rattle.rules.specs.Reading.{Reads, limits_of_a1, game, read_checks, tables_read}
use Rattle.rules.specs.Tables.{game_of}
use Rattle.rules.specs.Zielonka.{zielonka}

-- the budget of each engine unless an argument gives another
abbrev pub default_budget : ℕ
default_budget = 65536

-- ---- arguments

-- a budget, or 36: two arguments or more, or one that isn't one to nine digits
pub data Asked : Type 0 where
  within : ℕ → Asked
  wrong : Asked

-- the value of digits, after v
unfoldable pub value_after : ℕ → List ℕ → ℕ
value_after v [] = v
value_after v (b ∷ bs) = value_after (10 * v + (b - 48)) bs

-- what arguments ask for, by the budget that stands where there is none
unfoldable pub arguments_ask_by : ℕ → List (List ℕ) → Asked
arguments_ask_by without [] = within without
arguments_ask_by without (a ∷ []) =
    cond (ltb 0 (length a) && leb (length a) 9 && every_of a is_digit) (within (value_after 0 a)) wrong
arguments_ask_by without (a ∷ (b ∷ more)) = wrong

abbrev pub arguments_ask : List (List ℕ) → Asked
arguments_ask arguments = arguments_ask_by default_budget arguments

-- ---- the line

abbrev pub space : List ℕ
space = 32 ∷ []

abbrev pub newline : List ℕ
newline = 10 ∷ []

abbrev pub dash : List ℕ
dash = 45 ∷ []

-- `file`
abbrev pub file_word : List ℕ
file_word = 102 ∷ 105 ∷ 108 ∷ 101 ∷ []

-- `refused`
abbrev pub refused_word : List ℕ
refused_word = 114 ∷ 101 ∷ 102 ∷ 117 ∷ 115 ∷ 101 ∷ 100 ∷ []

abbrev pub refused_line : ℕ → ℕ → List ℕ
refused_line number place =
    file_word ++ (space ++ (refused_word ++ (space ++ (decimal number ++ (space ++ (decimal place ++ newline))))))

-- the winner of each vertex in order, 0 Even, 1 Odd
unfoldable pub winner_digits : ℕ → Set → List ℕ
winner_digits n odd = listed n (λ v. cond (odd v) 49 48)

-- the calls or rounds that were needed, or `-` where they are more than the budget
abbrev pub counted_word : ℕ → ℕ → List ℕ
counted_word budget needed = cond (ltb budget needed) dash (decimal needed)

-- the winners by Zielonka, else by promotion, else `-`
unfoldable pub winners_word : ℕ → Game → List ℕ
winners_word budget g =
    cond (ltb budget (zielonka g).calls)
    (cond (ltb budget (rounds_needed g)) dash
    (winner_digits g.size ((after_rounds g (rounds_needed g)).won Odd)))
    (winner_digits g.size ((zielonka g).won Odd))

unfoldable pub solved_line : ℕ → Game → List ℕ
solved_line budget g =
    file_word ++
    (space ++
    (winners_word budget g ++
    (space ++
    (counted_word budget (zielonka g).calls ++ (space ++ (counted_word budget (rounds_needed g) ++ newline))))))

-- what a verdict on the text prints
abbrev pub line_of : Verdict → ℕ → List Entry → List ℕ
line_of (refused k p) budget es = refused_line k p
line_of none budget es = solved_line budget (game_of (tables_read es))

-- the line for a text under a budget
pub record PrintsText (budget : ℕ) (text line : List ℕ) : Type 0 where
  pub verdict : Verdict
  pub header : Header
  pub entries : List Entry
  pub reads : Reads limits_of_a1 text verdict header entries
  pub prints : line ≡ line_of (read_checks game verdict header entries) budget entries

-- 36 comes before the text is read
abbrev pub PrintsBy : Asked → List ℕ → List ℕ → Type 0
PrintsBy wrong text line = line ≡ refused_line 36 0
PrintsBy (within b) text line = PrintsText b text line

-- what the program prints for its arguments and its input, by the budget that stands where there is none
abbrev pub PrintsWithout : ℕ → List (List ℕ) → List ℕ → List ℕ → Type 0
PrintsWithout without arguments text line = PrintsBy (arguments_ask_by without arguments) text line

abbrev pub Prints : List (List ℕ) → List ℕ → List ℕ → Type 0
Prints arguments text line = PrintsWithout default_budget arguments text line
