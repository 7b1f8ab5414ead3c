-- Distances and entries of three small games, by their definitions: a path, a tie, and a vertex of the opponent's that is drawn in
-- late. Each is Even's attractor.
use Rattle.std.specs.Prelude.{List, [], ◌∷◌, ◌≡◌, refl, ℕ}
use Rattle.rules.specs.Counting.{some, some_of, every_of, lowest, listed, within, noted}
use Rattle.rules.specs.Game.{Even}
use Rattle.rules.specs.Tables.{Tables, game_of, degree, targets_of}
use Rattle.rules.specs.Words.{digit, bit, set_of}
use Rattle.rules.specs.Attractor.{drawn, grown, attractor}
use Rattle.rules.specs.Distance.{least_of, greatest_of, distance, lowest_in, attractor_entry}

-- Even's attractor of the target in V, both as the words of a set: the distances and the entries of all vertices
pub record WorkedDraws (t : Tables) (V' T : ℕ) (far chosen : List ℕ) : Type 0 where
  pub distances : listed (game_of t).size (distance (game_of t) Even (set_of (V' ∷ [])) (set_of (T ∷ []))) ≡ far
  pub entries : listed (game_of t).size (attractor_entry (game_of t) Even (set_of (V' ∷ [])) (set_of (T ∷ []))) ≡ chosen

-- C8: 0→1, 1→2, 2→1, 3→3. In {0, 1, 2} with target {1}
pub path : Tables
path =
    record {
      owners = 0 ∷ 0 ∷ 0 ∷ 0 ∷ [];
      priorities = 1 ∷ 2 ∷ 1 ∷ 3 ∷ [];
      offsets = 0 ∷ 1 ∷ 2 ∷ 3 ∷ 4 ∷ [];
      targets = 1 ∷ 2 ∷ 1 ∷ 3 ∷ [];
    }

-- 0→0,2,1 with 1 and 2 as near, the higher one first; 1→3, 2→3, 3→3
pub tie : Tables
tie =
    record {
      owners = 0 ∷ 0 ∷ 0 ∷ 0 ∷ [];
      priorities = 0 ∷ 0 ∷ 0 ∷ 0 ∷ [];
      offsets = 0 ∷ 3 ∷ 4 ∷ 5 ∷ 6 ∷ [];
      targets = 0 ∷ 2 ∷ 1 ∷ 3 ∷ 3 ∷ 3 ∷ [];
    }

-- O0→2,1 comes in after the farther of the two; 1→2, 2→2
pub late : Tables
late =
    record {
      owners = 1 ∷ 0 ∷ 0 ∷ [];
      priorities = 0 ∷ 0 ∷ 0 ∷ [];
      offsets = 0 ∷ 2 ∷ 3 ∷ 4 ∷ [];
      targets = 2 ∷ 1 ∷ 2 ∷ 2 ∷ [];
    }

-- **The worked distances.**
pub worked_distances :
    WorkedDraws path 7 2 (1 ∷ 0 ∷ 1 ∷ 65535 ∷ []) (1 ∷ 65535 ∷ 1 ∷ 65535 ∷ []) ×
    WorkedDraws tie 15 8 (2 ∷ 1 ∷ 1 ∷ 0 ∷ []) (1 ∷ 3 ∷ 3 ∷ 65535 ∷ []) ×
    WorkedDraws late 7 4 (2 ∷ 1 ∷ 0 ∷ []) (65535 ∷ 2 ∷ 65535 ∷ [])
unfolding
    path tie late some some_of every_of lowest listed within noted game_of degree targets_of digit bit set_of drawn grown attractor least_of
    greatest_of distance lowest_in attractor_entry
worked_distances = (
  record { distances = refl; entries = refl },
  record { distances = refl; entries = refl },
  record { distances = refl; entries = refl },
)
