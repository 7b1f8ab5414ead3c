-- Solitaire: all owners equal. Strongly connected parts, and the set of vertices that can reach a good one.
use Rattle.std.specs.Prelude.{Bool, ◌&&◌, ◌||◌, not, List, [], ◌∷◌, ◌≡◌, ℕ, zero, suc, eqb, ltb, leb, length, get_or}
use Rattle.rules.specs.Counting.{Set, some, some_of, within}
use Rattle.rules.specs.Game.{Player, Game, everywhere, parity, same, player_of}
use Rattle.rules.specs.Outcome.{Outcome, Verdict, none, refused, given, outcome, answered, ◌then◌}
use Rattle.rules.specs.Solver.{cleared}
use Rattle.rules.specs.Tables.{Tables, game_of, vertices, edges_in, table_checks, check9, check10}
use Rattle.rules.specs.Words.{Holds}
use Rattle.rules.specs.Zielonka.{highest_in}

-- 11: two owners differ
unfoldable pub check11 : ℕ → List ℕ → Verdict
check11 n owners = given 11 0 (some n (λ v. not (eqb (get_or owners v 0) (get_or owners 0 0))))

-- whether a vertex leads to another, as a test
abbrev pub Links : Type 0
Links = ℕ → ℕ → Bool

-- the edges inside X
abbrev pub inside : Game → Set → Links
inside g X v w = X v && X w && some_of (g.targets v) (eqb w)

-- what can be reached from v in at most k steps along the links
unfoldable pub spread : ℕ → Links → ℕ → ℕ → Set
spread n links v zero = within n (eqb v)
spread n links v (suc k) =
    let before = spread n links v k in
    within n (λ w. before w || some n (λ u. before u && links u w))

-- what can be reached from v, in no step or more
abbrev pub reached : ℕ → Links → ℕ → Set
reached n links v = spread n links v n

-- u and v are in the same strongly connected part
abbrev pub same_part : ℕ → Links → ℕ → Set
same_part n links v u = reached n links v u && reached n links u v

-- the part of v has a vertex of exactly p, and is no single vertex without a self loop
unfoldable pub good_part : Game → Links → ℕ → Set
good_part g links p v =
    some g.size (λ u. same_part g.size links v u && eqb (g.priority u) p) &&
    (links v v || some g.size (λ u. not (eqb u v) && same_part g.size links v u))

-- the vertices of priority at most p
abbrev pub at_most : Game → ℕ → Set
at_most g p v = ltb v g.size && leb (g.priority v) p

-- v lies in a good part for p among vertices of priority at most p
abbrev pub on_part : Game → ℕ → Set
on_part g p v = at_most g p v && good_part g (inside g (at_most g p)) p v

-- the answer for player a: all vertices that can reach a good part for some priority of a's parity
unfoldable pub solitaire : Game → Player → Set
solitaire g a =
    let parts = within g.size (λ v. some (suc (highest_in g (everywhere g))) (λ p. same (parity p) a && on_part g p v)) in
    within g.size (λ v. some g.size (λ w. reached g.size (inside g (everywhere g)) v w && parts w))

-- what the solver is lent to write in
pub record LentSet : Type 0 where
  pub set : List ℕ
  pub work : List ℕ

-- 1 to 11
abbrev pub solitaire_checks : Tables → LentSet → Verdict
solitaire_checks t lent =
    table_checks t then
    check9 (vertices t) (length lent.set ∷ []) [] then
    check10 (vertices t) (edges_in t) (length lent.work) then
    check11 (vertices t) t.owners

-- the owner of all vertices; without a vertex there is none, and either will do
abbrev pub sole_owner : Tables → Player
sole_owner t = player_of (get_or t.owners 0 0)

-- by cases: a refusal writes nothing; an answer leaves the set, and the work area cleared
pub record SolitaireAnswered (t : Tables) (before after : LentSet) : Type 0 where
  pub set : Holds (vertices t) (solitaire (game_of t) (sole_owner t)) after.set
  pub work : after.work ≡ cleared t before.work

abbrev pub SolitaireLeaves : Verdict → Tables → LentSet → LentSet → Type 0
SolitaireLeaves (refused k p) t before after = after ≡ before
SolitaireLeaves none t before after = SolitaireAnswered t before after

pub record SolvesSolitaire (t : Tables) (before after : LentSet) (o : Outcome) : Type 0 where
  pub gives : o ≡ outcome (solitaire_checks t before) (answered 0)
  pub leaves : SolitaireLeaves (solitaire_checks t before) t before after
