-- The checks 1 to 10 of a solver by the lengths that they go by: of accepted tables 9 and 10, one by one.
use Rattle.std.specs.Prelude.{[], ◌∷◌, ◌≡◌, ℕ, ◌≤◌, length}
use Rattle.std.proofs.Common.{sym, ap, ◌∙◌}
use Rattle.rules.specs.Outcome.{Outcome, Verdict, none, outcome, ◌then◌}
use Rattle.rules.specs.Solver.{Lent, solver_checks}
use Rattle.rules.specs.Tables.{Tables, vertices, edges_in, words, work_words, table_checks, Accepted, check9, check10}
use Rattle.parity_game.specs.Laws.{accepted_sound}
use Rattle.parity_game.specs.Laws.{check9_set, then_assoc, then_none, check9_set_none, check9_table_none, check10_none, numbered_then, numbered_tables, numbered_check9, numbered_check10, Numbered}

-- 9 and 10, by the sizes and the lengths that they go by
abbrev pub lent_by : ℕ → ℕ → ℕ → ℕ → ℕ → ℕ → Verdict
lent_by n m even odd strategy work = check9 n (even ∷ odd ∷ []) (strategy ∷ []) then check10 n m work

-- and 1 to 10
abbrev pub checks_by : Tables → ℕ → ℕ → ℕ → ℕ → Verdict
checks_by t even odd strategy work = table_checks t then lent_by (vertices t) (edges_in t) even odd strategy work

-- one set, and one table
abbrev pub one_set : ℕ → ℕ → Verdict
one_set n k = check9 n (k ∷ []) []

abbrev pub one_table : ℕ → ℕ → Verdict
one_table n k = check9 n [] (k ∷ [])

-- what is left after each check
module _ (n m even odd strategy work : ℕ) where
  abbrev pub after_odd : Verdict
  after_odd = one_table n strategy then check10 n m work

  abbrev pub after_even : Verdict
  after_even = one_set n odd then after_odd

  -- the checks one by one are the checks
  pub checks_in_order : one_set n even then after_even ≡ lent_by n m even odd strategy work
  checks_in_order =
      sym
      (ap (λ (v : Verdict). v then check10 n m work) (check9_set n even (odd ∷ []) (strategy ∷ [])) ∙
      then_assoc (one_set n even) (check9 n (odd ∷ []) (strategy ∷ [])) (check10 n m work) ∙
      ap (λ (v : Verdict). one_set n even then (v then check10 n m work)) (check9_set n odd [] (strategy ∷ [])) ∙
      ap (λ (v : Verdict). one_set n even then v) (then_assoc (one_set n odd) (one_table n strategy) (check10 n m work)))

module _ (t : Tables) (accepted : Accepted t) where
  -- of accepted tables 9 and 10 are all that is left of 1 to 10
  pub past_tables :
      (even odd strategy work : ℕ) (o : Outcome) →
      outcome (lent_by (vertices t) (edges_in t) even odd strategy work) o ≡ outcome (checks_by t even odd strategy work) o
  unfolding Accepted
  past_tables even odd strategy work o = rw accepted

  -- so what is checked of what is lent is all that 1 to 10 refuse
  pub all_checks :
      (even odd strategy work : ℕ) →
      lent_by (vertices t) (edges_in t) even odd strategy work ≡ checks_by t even odd strategy work
  unfolding Accepted
  all_checks even odd strategy work = rw accepted

  -- whose sizes are what the work area's size is worked out for
  pub sizes_few : (vertices t ≤ 4096) × (edges_in t ≤ 16384)
  sizes_few = let s = accepted_sound t accepted in (s.few_vertices, s.few_edges)

-- each refusal has a number
pub numbered_by : (t : Tables) (even odd strategy work : ℕ) → Numbered (checks_by t even odd strategy work)
numbered_by t even odd strategy work =
    numbered_then (table_checks t) _ (numbered_tables t)
    (numbered_then (check9 (vertices t) _ _) (check10 (vertices t) (edges_in t) work) (numbered_check9 _ _ _) (numbered_check10 _ _ _))

pub numbered_checks : (t : Tables) (l : Lent) → Numbered (solver_checks t l)
numbered_checks t l = numbered_by t (length l.even) (length l.odd) (length l.strategy) (length l.work)

-- past the checks
pub record Passed (t : Tables) (even odd strategy work : ℕ) : Type 0 where
  pub accepted : Accepted t
  pub even_size : even ≡ words (vertices t)
  pub odd_size : odd ≡ words (vertices t)
  pub strategy_size : strategy ≡ vertices t
  pub work_size : work_words (vertices t) (edges_in t) ≤ work

pub checks_passed : (t : Tables) (even odd strategy work : ℕ) → checks_by t even odd strategy work ≡ none → Passed t even odd strategy work
unfolding Accepted
checks_passed t even odd strategy work e =
    let n = vertices t in
    let m = edges_in t in
    let one = then_none (table_checks t) (lent_by n m even odd strategy work) e in
    let two = then_none (one_set n even) (after_even n m even odd strategy work) (checks_in_order n m even odd strategy work ∙ one.1) in
    let three = then_none (one_set n odd) (after_odd n m even odd strategy work) two.1 in
    let four = then_none (one_table n strategy) (check10 n m work) three.1 in
    record {
      accepted = one.0;
      even_size = check9_set_none (vertices t) even two.0;
      odd_size = check9_set_none (vertices t) odd three.0;
      strategy_size = check9_table_none (vertices t) strategy four.0;
      work_size = check10_none (vertices t) (edges_in t) work four.1;
    }
