-- The default budget was 1,000,000 and is smaller now. With an argument the line is the one that was printed before, and without one it is
-- the line that was printed with the smaller number as the argument.
use Rattle.std.specs.Prelude.{List, [], ◌∷◌, ◌↔◌, ◌≡◌, refl, ℕ}
use Rattle.std.proofs.Common.{sym, subst}
use Rattle.rules.specs.Counting.{every_of}
use Rattle.rules.specs.Decimal.{decimal, digits_in}
use Rattle.rules.specs.Printing.{Asked, arguments_ask_by, value_after, default_budget, PrintsBy, PrintsWithout}

-- the budget without an argument, before
abbrev pub former_budget : ℕ
former_budget = 1000000

printed_alike :
    (before after : Asked) (text line : List ℕ) → before ≡ after → PrintsBy before text line ↔ PrintsBy after text line
printed_alike before after text line e = (
  λ h. subst (λ (x : Asked). PrintsBy x text line) e h,
  λ h. subst (λ (x : Asked). PrintsBy x text line) (sym e) h,
)

-- an argument is read the same, whatever stands where there is none
pub argument_decides :
    (d d' : ℕ) (a : List ℕ) (more : List (List ℕ)) → arguments_ask_by d (a ∷ more) ≡ arguments_ask_by d' (a ∷ more)
unfolding arguments_ask_by
argument_decides d d' a [] = refl
argument_decides d d' a (b ∷ more) = refl

-- for every text and every argument the line is the one that was printed before
pub lines_stay :
    (a : List ℕ) (more : List (List ℕ)) (text line : List ℕ) →
    PrintsWithout former_budget (a ∷ more) text line ↔ PrintsWithout default_budget (a ∷ more) text line
lines_stay a more text line =
    printed_alike (arguments_ask_by former_budget (a ∷ more)) (arguments_ask_by default_budget (a ∷ more)) text line
    (argument_decides former_budget default_budget a more)

-- the digits of the smaller number are an argument that asks for it
smaller_asked : arguments_ask_by former_budget (decimal default_budget ∷ []) ≡ arguments_ask_by default_budget []
unfolding arguments_ask_by decimal digits_in value_after every_of
smaller_asked = refl

-- without an argument the line is the one that was printed with that argument
pub lines_without_argument :
    (text line : List ℕ) →
    PrintsWithout former_budget (decimal default_budget ∷ []) text line ↔ PrintsWithout default_budget [] text line
lines_without_argument text line =
    printed_alike (arguments_ask_by former_budget (decimal default_budget ∷ [])) (arguments_ask_by default_budget []) text line smaller_asked
