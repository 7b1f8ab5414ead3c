-- "A second opinion": a solver that gives the winning sets alone. What it gives back and leaves is said by demand 2 itself; how
-- it finds the sets is not said here. It takes no budget, hands out no strategy, and asks for a larger work area.
use Rattle.std.specs.Prelude.{List, [], ◌∷◌, ◌++◌, ◌≡◌, ℕ, ◌+◌, ◌*◌, ltb, length, drop, replicate}
use Rattle.rules.specs.Counting.{Set}
use Rattle.rules.specs.Game.{Player, Even, Odd}
use Rattle.rules.specs.Outcome.{Outcome, Verdict, none, refused, given, outcome, answered, ◌then◌}
use Rattle.rules.specs.Tables.{Tables, game_of, vertices, edges_in, words, work_words, table_checks, check9}
use Rattle.rules.specs.Winning.{WinningSets}
use Rattle.rules.specs.Words.{Holds}

-- its W: 2,064 s more than the other solvers'
unfoldable pub opinion_words : ℕ → ℕ → ℕ
opinion_words n m = work_words n m + 2064 * words n

-- 10: a work area shorter than this W
unfoldable pub opinion_check10 : ℕ → ℕ → ℕ → Verdict
opinion_check10 n m workLength = given 10 0 (ltb workLength (opinion_words n m))

-- what the solver is lent to write in
pub record LentSets : Type 0 where
  pub even : List ℕ
  pub odd : List ℕ
  pub work : List ℕ

-- 1 to 10
abbrev pub opinion_checks : Tables → LentSets → Verdict
opinion_checks t lent =
    table_checks t then
    check9 (vertices t) (length lent.even ∷ length lent.odd ∷ []) [] then
    opinion_check10 (vertices t) (edges_in t) (length lent.work)

-- after an answer: the winning sets, the first W words zero and the words beyond as they were
pub record OpinionAnswered (t : Tables) (before after : LentSets) : Type 0 where
  pub won : Player → Set
  pub wins : WinningSets (game_of t) won
  pub even : Holds (vertices t) (won Even) after.even
  pub odd : Holds (vertices t) (won Odd) after.odd
  pub work :
      after.work ≡
      replicate (opinion_words (vertices t) (edges_in t)) 0 ++ drop (opinion_words (vertices t) (edges_in t)) before.work

-- by cases: a refusal writes nothing; else an answer
abbrev pub OpinionLeaves : Verdict → Tables → LentSets → LentSets → Type 0
OpinionLeaves (refused k p) t before after = after ≡ before
OpinionLeaves none t before after = OpinionAnswered t before after

-- the count is 0
pub record GivesOpinion (t : Tables) (before after : LentSets) (o : Outcome) : Type 0 where
  pub gives : o ≡ outcome (opinion_checks t before) (answered 0)
  pub leaves : OpinionLeaves (opinion_checks t before) t before after
