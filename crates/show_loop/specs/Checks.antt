-- The refusals 1 to 45, by the lengths that they go by, and what is known of what passes them.
use Rattle.std.specs.Prelude.{not, ◌||◌, List, ◌≡◌, ℕ, ◌*◌, ◌≤◌, ◌<◌, ltb, length}
use Rattle.std.proofs.Common.{arith, ltb-true, ltb-false}
use Rattle.std.proofs.lemmas.Bool.{not-false}
use Rattle.rules.specs.Loop.{LentRun, loop_checks, check44, check45}
use Rattle.rules.specs.Outcome.{Outcome, Verdict, none, outcome, ◌then◌}
use Rattle.rules.specs.Solitaire.{check11}
use Rattle.rules.specs.Tables.{Tables, vertices, edges_in, work_words, table_checks, Accepted, check10}
use Rattle.basics.specs.Basics.{or_false_both}
use Rattle.parity_game.specs.Laws.{then_none, given_none, check10_none}
use Rattle.parity_game.specs.Laws.{Numbered, numbered_then, numbered_given, numbered_tables, numbered_check10}
use Rattle.solitaire_game.specs.Checks.{numbered_check11}

-- 44 and 45
abbrev pub asked_checks : ℕ → ℕ → ℕ → ℕ → Verdict
asked_checks n v path cycle = check44 n v then check45 n path cycle

-- what is left past 10, past the tables, and all
abbrev pub after10 : List ℕ → ℕ → ℕ → ℕ → Verdict
after10 owners v path cycle = check11 (length owners) owners then asked_checks (length owners) v path cycle

abbrev pub lent_by : List ℕ → ℕ → ℕ → ℕ → ℕ → ℕ → Verdict
lent_by owners m v path cycle work = check10 (length owners) m work then after10 owners v path cycle

abbrev pub checks_by : Tables → ℕ → ℕ → ℕ → ℕ → Verdict
checks_by t v path cycle work = table_checks t then lent_by t.owners (edges_in t) v path cycle work

-- of accepted tables what is left past them is all
pub past_tables :
    (t : Tables) (v path cycle work : ℕ) (o : Outcome) →
    Accepted t →
    outcome (lent_by t.owners (edges_in t) v path cycle work) o ≡ outcome (checks_by t v path cycle work) o
unfolding Accepted
past_tables t v path cycle work o accepted = rw accepted

numbered_check44 : (n v : ℕ) → Numbered (check44 n v)
unfolding check44
numbered_check44 n v = numbered_given 44 v (not (ltb v n)) (omega arith)

numbered_check45 : (n path cycle : ℕ) → Numbered (check45 n path cycle)
unfolding check45
numbered_check45 n path cycle = numbered_given 45 0 (ltb path (2 * n) || ltb cycle (2 * n)) (omega arith)

pub numbered_checks : (t : Tables) (v : ℕ) (l : LentRun) → Numbered (loop_checks t v l)
numbered_checks t v l =
    numbered_then (table_checks t) _ (numbered_tables t)
    (numbered_then (check10 (vertices t) (edges_in t) _) _ (numbered_check10 _ _ _)
    (numbered_then (check11 (vertices t) t.owners) _ (numbered_check11 _ _)
    (numbered_then (check44 (vertices t) v) (check45 (vertices t) _ _) (numbered_check44 _ _) (numbered_check45 _ _ _))))

-- past the checks
pub record LoopPassed (t : Tables) (v path cycle work : ℕ) : Type 0 where
  pub accepted : Accepted t
  pub work_size : work_words (vertices t) (edges_in t) ≤ work
  pub one_owner : check11 (vertices t) t.owners ≡ none
  pub vertex : v < vertices t
  pub path_room : 2 * vertices t ≤ path
  pub cycle_room : 2 * vertices t ≤ cycle

check44_none : (n v : ℕ) → check44 n v ≡ none → v < n
unfolding check44
check44_none n v e = ltb-true v n (not-false (ltb v n) (given_none 44 v (not (ltb v n)) e))

check45_none : (n path cycle : ℕ) → check45 n path cycle ≡ none → (2 * n ≤ path) × (2 * n ≤ cycle)
unfolding check45
check45_none n path cycle e =
    let (a, b) = or_false_both (ltb path (2 * n)) (ltb cycle (2 * n))
    (given_none 45 0 (ltb path (2 * n) || ltb cycle (2 * n)) e) in
    (ltb-false path (2 * n) a, ltb-false cycle (2 * n) b)

pub checks_passed : (t : Tables) (v path cycle work : ℕ) → checks_by t v path cycle work ≡ none → LoopPassed t v path cycle work
unfolding Accepted
checks_passed t v path cycle work e =
    let n = vertices t in
    let one = then_none (table_checks t) (lent_by t.owners (edges_in t) v path cycle work) e in
    let two = then_none (check10 n (edges_in t) work) (after10 t.owners v path cycle) one.1 in
    let three = then_none (check11 n t.owners) (asked_checks n v path cycle) two.1 in
    let four = then_none (check44 n v) (check45 n path cycle) three.1 in
    let rooms = check45_none n path cycle four.1 in
    record {
      accepted = one.0;
      work_size = check10_none n (edges_in t) work two.0;
      one_owner = three.0;
      vertex = check44_none n v four.0;
      path_room = rooms.0;
      cycle_room = rooms.1;
    }
