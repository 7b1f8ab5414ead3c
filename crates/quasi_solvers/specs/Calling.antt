-- What a solver of the quasi-polynomial recursion asks for and leaves at its level of the work area.
use Rattle.std.specs.Prelude.{true, List, ◌≡◌, ℕ, ◌+◌, ◌*◌, ◌≤◌, ◌<◌, length}
use Rattle.rules.specs.Game.{Player, opponent, parity}
use Rattle.rules.specs.Tables.{Tables, game_of, vertices, edges_in, words, Accepted}
use Rattle.area.specs.Area.{free}
use Rattle.attractor.specs.Attracted.{Listed}
use Rattle.theory.specs.AttractorComplement.{TotalIn}
use Rattle.separation.specs.Separates.{Separates}
use Rattle.separation.specs.Stages.{raised}
use Rattle.quasi_level.specs.Level.{on_level, OpinionStays}
use Rattle.quasi_level.specs.declared.passes.Sharp.{Sharp}

-- accepted tables with their predecessor table, V total and below n, every priority in V below the height, which has the
-- opponent's parity, and room for a level of eight sets for each height down to 0
pub record OpinionCalled (t : Tables) (a : Player) (base height : ℕ) (work : List ℕ) : Type 0 where
  pub accepted : Accepted t
  pub table : Listed (vertices t) t.offsets t.targets work
  pub low : free (vertices t) (edges_in t) ≤ base
  pub room : base + 8 * (words (vertices t) * (height + 1)) ≤ length work
  pub below : (v : ℕ) → on_level t base work v ≡ true → v < vertices t
  pub total : TotalIn (game_of t) (on_level t base work)
  pub under : (v : ℕ) → on_level t base work v ≡ true → (game_of t).priority v < height
  pub turn : parity height ≡ opponent a

-- what is left of V parts the small dominions of the two players, and where the answer is sharp all of them
pub record SmallDominions (t : Tables) (a : Player) (base own other : ℕ) (before after : List ℕ) (r : Sharp) : Type 0 where
  pub stays : OpinionStays t base before after
  pub parts :
      Separates (game_of t) a (on_level t base before)
      (raised (vertices t) r.keeps own)
      (raised (vertices t) r.drops other)
      (on_level t base after)
