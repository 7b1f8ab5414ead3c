-- The checker's kinds 21 to 24, on two sets and a strategy, kind by kind in this order, with 25 in the place of 22 where every
-- entry is none; and what the function gives back and leaves, for every input.
use Rattle.std.specs.Prelude.{Bool, ◌&&◌, ◌||◌, not, cond, List, ◌≡◌, ℕ, suc, ◌*◌, eqb, ltb, leb}
use Rattle.rules.specs.Counting.{Set, some, every, some_of, every_of}
use Rattle.rules.specs.Game.{Player, Even, Odd, Game, everywhere, parity, same}
use Rattle.rules.specs.Outcome.{Outcome, Verdict, none, refused, outcome, answered, given_at, ◌then◌}
use Rattle.rules.specs.Tables.{Tables, game_of, words}
use Rattle.rules.specs.Words.{set_of, no_entry, entry}
use Rattle.rules.specs.Zielonka.{highest_in}
use Rattle.rules.specs.Solver.{cleared, solver_checks}
use Rattle.rules.specs.Solitaire.{Links, same_part, reached}

-- 21: a vertex in both sets or neither, or a bit at n or above, at the lowest bit
unfoldable pub check21 : ℕ → List ℕ → List ℕ → Verdict
check21 n even odd =
    given_at 21 (64 * words n)
    (λ b. cond (ltb b n) (cond (set_of even b) (set_of odd b) (not (set_of odd b))) (set_of even b || set_of odd b))

-- the player whose set holds v
abbrev pub winner_of : List ℕ → ℕ → Player
winner_of even v = cond (set_of even v) Even Odd

-- v belongs to the player whose set holds it
abbrev pub own_winner : Game → List ℕ → ℕ → Bool
own_winner g even v = same (g.owner v) (winner_of even v)

-- w lies in the set that holds v
abbrev pub same_side : List ℕ → ℕ → ℕ → Bool
same_side even v w = same (winner_of even v) (winner_of even w)

-- every entry is none
abbrev pub nothing_chosen : Game → List ℕ → Bool
nothing_chosen g strategy = every g.size (λ v. eqb (entry strategy v) no_entry)

-- 22: an entry that is not none where the vertex's owner isn't its winner, or that is no target of the vertex's edges where it
-- is, at the lowest vertex; where 22 would be given and every entry is none, 25 in its place, with 22's place
unfoldable pub check22 : Game → List ℕ → List ℕ → Verdict
check22 g even strategy =
    given_at (cond (nothing_chosen g strategy) 25 22) g.size
    (λ v.
    cond (own_winner g even v)
    (not (some_of (g.targets v) (eqb (entry strategy v))))
    (not (eqb (entry strategy v) no_entry)))

-- 23: the strategy edge of a winner's own vertex, or any edge of a loser's vertex, ends outside the winner's set, at the lowest
-- vertex
unfoldable pub check23 : Game → List ℕ → List ℕ → Verdict
check23 g even strategy =
    given_at 23 g.size
    (λ v.
    cond (own_winner g even v)
    (not (same_side even v (entry strategy v)))
    (not (every_of (g.targets v) (same_side even v))))

-- those edges: the strategy edge of a winner's own vertex, any edge of a loser's; between vertices of one set of priority at
-- most p
abbrev pub kept_edges : Game → List ℕ → List ℕ → ℕ → Links
kept_edges g even strategy p v w =
    leb (g.priority v) p &&
    leb (g.priority w) p &&
    same_side even v w &&
    cond (own_winner g even v) (eqb w (entry strategy v)) (some_of (g.targets v) (eqb w))

-- v lies on a cycle of the links that passes a vertex of priority p
unfoldable pub on_cycle : Game → Links → ℕ → Set
on_cycle g links p v =
    some g.size (λ w. links v w && reached g.size links w v) &&
    some g.size (λ u. same_part g.size links v u && eqb (g.priority u) p)

-- 24: a cycle of those edges inside a set whose highest priority has the other parity, at the lowest vertex on such a cycle
unfoldable pub check24 : Game → List ℕ → List ℕ → Verdict
check24 g even strategy =
    given_at 24 g.size
    (λ v.
    some (suc (highest_in g (everywhere g)))
    (λ p. not (same (parity p) (winner_of even v)) && leb (g.priority v) p && on_cycle g (kept_edges g even strategy p) p v))

-- yes, or the first kind that applies
unfoldable pub certificate_checks : Game → List ℕ → List ℕ → List ℕ → Verdict
certificate_checks g even odd strategy =
    check21 g.size even odd then
    check22 g even strategy then
    check23 g even strategy then
    check24 g even strategy

-- 1 to 10 come first, by what is lent
abbrev pub lent_checks : Tables → List ℕ → List ℕ → List ℕ → List ℕ → Verdict
lent_checks t even odd strategy work = solver_checks t (record { even = even; odd = odd; strategy = strategy; work = work })

-- the work area: as it was after one of these, else cleared
abbrev pub left_by : Verdict → Tables → List ℕ → List ℕ
left_by none t before = cleared t before
left_by (refused k p) t before = before

-- the public function
pub record Checks (t : Tables) (even odd strategy before after : List ℕ) (o : Outcome) : Type 0 where
  pub gives : o ≡ outcome (lent_checks t even odd strategy before then certificate_checks (game_of t) even odd strategy) (answered 0)
  pub work : after ≡ left_by (lent_checks t even odd strategy before) t before
