-- Show me the loop: for a solitaire game and a vertex a path from it to a cycle, and the cycle itself, whose highest priority
-- is of the player's parity. What such a run is, by edges alone, and what the function gives back and leaves.
use Rattle.std.specs.Prelude.{not, ◌||◌, List, [], ◌∷◌, ◌≡◌, ℕ, ◌+◌, ◌*◌, max, ◌≤◌, ltb, length}
use Rattle.rules.specs.Game.{Player, Game, Edge, parity}
use Rattle.rules.specs.Mending.{overwritten}
use Rattle.rules.specs.Outcome.{Outcome, Verdict, none, refused, given, answered, ◌then◌}
use Rattle.rules.specs.Solitaire.{solitaire, sole_owner, check11}
use Rattle.rules.specs.Solver.{cleared}
use Rattle.rules.specs.Tables.{Tables, game_of, vertices, edges_in, table_checks, check10}

-- the vertices of a path along R, from one vertex to another: each leads to the next; it may be one vertex alone
pub data Path (R : ℕ → ℕ → Type 0) : ℕ → ℕ → List ℕ → Type 0 where
  alone : {v : ℕ} → Path R v v (v ∷ [])
  next : {v w u : ℕ} {vs : List ℕ} → R v w → Path R w u vs → Path R v u (v ∷ vs)

-- the highest priority of the vertices of a list
unfoldable pub highest_of : Game → List ℕ → ℕ
highest_of g [] = 0
highest_of g (v ∷ vs) = max (g.priority v) (highest_of g vs)

-- the path begins at v and ends at the cycle's first vertex, to which the cycle's last has an edge; the first is not repeated at
-- the end, so only a vertex with a self loop is a cycle alone
pub record Run (g : Game) (a : Player) (v : ℕ) (path cycle : List ℕ) : Type 0 where
  pub first : ℕ
  pub last : ℕ
  pub leads : Path (Edge g) v first path
  pub round : Path (Edge g) first last cycle
  pub back : Edge g last first
  pub once : 2 ≤ length cycle → last ≡ first → ⊥
  pub parity_is : parity (highest_of g cycle) ≡ a
  pub few : length path + length cycle ≤ 2 * g.size

-- what is lent to write in
pub record LentRun : Type 0 where
  pub path : List ℕ
  pub cycle : List ℕ
  pub work : List ℕ
  pub path_length : ℕ

-- 44: no such vertex, its number as place
unfoldable pub check44 : ℕ → ℕ → Verdict
check44 n v = given 44 v (not (ltb v n))

-- 45: a list shorter than 2 n entries
unfoldable pub check45 : ℕ → ℕ → ℕ → Verdict
check45 n pathRoom cycleRoom = given 45 0 (ltb pathRoom (2 * n) || ltb cycleRoom (2 * n))

-- 46: no such cycle can be reached, which is when the vertex is not in the solitaire set; the vertex as place
unfoldable pub check46 : Tables → ℕ → Verdict
check46 t v = given 46 v (not (solitaire (game_of t) (sole_owner t) v))

-- 1 to 8, 10, 11, 44, 45
abbrev pub loop_checks : Tables → ℕ → LentRun → Verdict
loop_checks t v lent =
    table_checks t then
    check10 (vertices t) (edges_in t) (length lent.work) then
    check11 (vertices t) t.owners then
    check44 (vertices t) v then
    check45 (vertices t) (length lent.path) (length lent.cycle)

-- an answer: any such run, at the front of the two lists, and the work area cleared; the count is both lengths together
pub record LoopShown (t : Tables) (v : ℕ) (before after : LentRun) (o : Outcome) : Type 0 where
  pub path : List ℕ
  pub cycle : List ℕ
  pub run : Run (game_of t) (sole_owner t) v path cycle
  pub gives : o ≡ answered (length path + length cycle)
  pub path_written : after.path ≡ overwritten path before.path
  pub cycle_written : after.cycle ≡ overwritten cycle before.cycle
  pub work : after.work ≡ cleared t before.work
  pub path_length_lem : after.path_length ≡ length path

-- by cases on 1 to 45, then on 46: a refusal leaves the lists, and the path's length 0; 46 leaves the work area cleared
abbrev pub LoopLeaves : Verdict → Verdict → Tables → ℕ → LentRun → LentRun → Outcome → Type 0
LoopLeaves (refused k p) last t v before after o =
    (o ≡ record { number = k; place = p; count = 0 }) ×
    (after ≡ record { path = before.path; cycle = before.cycle; work = before.work; path_length = 0 })
LoopLeaves none (refused k p) t v before after o =
    (o ≡ record { number = k; place = p; count = 0 }) ×
    (after ≡ record { path = before.path; cycle = before.cycle; work = cleared t before.work; path_length = 0 })
LoopLeaves none none t v before after o = LoopShown t v before after o

-- the public function
abbrev pub ShowsLoop : Tables → ℕ → LentRun → LentRun → Outcome → Type 0
ShowsLoop t v before after o = LoopLeaves (loop_checks t v before) (check46 t v) t v before after o
