-- What the public attractor gives back and leaves in what it was lent, for every input.
use Rattle.std.specs.Prelude.{List, [], ◌∷◌, ◌≡◌, ℕ, length}
use Rattle.rules.specs.Counting.{Set, listed}
use Rattle.rules.specs.Game.{Player}
use Rattle.rules.specs.Outcome.{Outcome, Verdict, none, refused, outcome, answered, ◌then◌}
use Rattle.rules.specs.Tables.{Tables, game_of, vertices, edges_in, table_checks, check9, check10}
use Rattle.rules.specs.Solver.{cleared}
use Rattle.rules.specs.Words.{set_of, Holds}
use Rattle.rules.specs.Attractor.{attractor, looks_of, check12}
use Rattle.rules.specs.Distance.{distance, attractor_entry}

-- what is lent
pub record LentResult : Type 0 where
  pub result : List ℕ
  pub strategy : List ℕ
  pub distances : List ℕ
  pub work : List ℕ

-- 1 to 10 and 12
abbrev pub attractor_checks : Tables → List ℕ → List ℕ → LentResult → Verdict
attractor_checks t V' T lent =
    table_checks t then
    check9 (vertices t) (length V' ∷ length T ∷ length lent.result ∷ []) (length lent.strategy ∷ length lent.distances ∷ []) then
    check10 (vertices t) (edges_in t) (length lent.work) then
    check12 (vertices t) V' T

-- the attractor that the words V' and T stand for
abbrev pub wanted : Tables → Player → List ℕ → List ℕ → Set
wanted t a V' T = attractor (game_of t) a (set_of V') (set_of T)

pub record AttractorAnswered (t : Tables) (a : Player) (V' T : List ℕ) (before after : LentResult) : Type 0 where
  pub set : Holds (vertices t) (wanted t a V' T) after.result
  pub strategy : after.strategy ≡ listed (vertices t) (attractor_entry (game_of t) a (set_of V') (set_of T))
  pub distances : after.distances ≡ listed (vertices t) (distance (game_of t) a (set_of V') (set_of T))
  pub work : after.work ≡ cleared t before.work

-- by cases on the verdict: a refusal writes nothing
abbrev pub AttractorLeaves : Verdict → Tables → Player → List ℕ → List ℕ → LentResult → LentResult → Type 0
AttractorLeaves none t a V' T before after = AttractorAnswered t a V' T before after
AttractorLeaves (refused k p) t a V' T before after = after ≡ before

pub record Attracts (t : Tables) (a : Player) (V' T : List ℕ) (before after : LentResult) (o : Outcome) : Type 0 where
  pub gives : o ≡ outcome (attractor_checks t V' T before) (answered (looks_of (game_of t) (wanted t a V' T)))
  pub leaves : AttractorLeaves (attractor_checks t V' T before) t a V' T before after
