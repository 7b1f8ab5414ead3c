-- The checks of the second opinion, one by one and by the lengths that they go by: 1 to 10, and 9 and 10 of accepted tables.
use Rattle.std.specs.Prelude.{[], ◌∷◌, ◌≡◌, ℕ, ◌≤◌, ltb}
use Rattle.std.proofs.Common.{sym, ap, ◌∙◌, arith, ltb-false}
use Rattle.rules.specs.Outcome.{Verdict, none, ◌then◌}
use Rattle.rules.specs.SecondOpinion.{LentSets, opinion_words, opinion_check10, opinion_checks}
use Rattle.rules.specs.Tables.{Tables, vertices, edges_in, words, table_checks, Accepted, check9}
use Rattle.accepted.specs.Tables.{given_none}
use Rattle.parity_game.specs.Laws.{check9_set, then_assoc, then_none, check9_set_none, numbered_then, numbered_tables}
use Rattle.parity_game.specs.Laws.{numbered_check9, numbered_given, Numbered}

-- 9 and 10 for sizes n and m, by the lengths that they go by
abbrev pub lent_checks : ℕ → ℕ → ℕ → ℕ → ℕ → Verdict
lent_checks n m even odd work = check9 n (even ∷ odd ∷ []) [] then opinion_check10 n m work

-- 1 to 10
abbrev pub checks_by : Tables → ℕ → ℕ → ℕ → Verdict
checks_by t even odd work = table_checks t then lent_checks (vertices t) (edges_in t) even odd work

-- of accepted tables they are 9 and 10
pub accepted_checks :
    (t : Tables) (even odd work : ℕ) →
    Accepted t →
    lent_checks (vertices t) (edges_in t) even odd work ≡ checks_by t even odd work
unfolding Accepted
accepted_checks t even odd work ok = rw ok

-- one set
abbrev pub one_set : ℕ → ℕ → Verdict
one_set n k = check9 n (k ∷ []) []

-- what is left after each check
module _ (n m even odd work : ℕ) where
  abbrev pub after_even : Verdict
  after_even = one_set n odd then opinion_check10 n m work

  -- the checks one by one are the checks
  pub checks_in_order : one_set n even then after_even ≡ lent_checks n m even odd work
  checks_in_order =
      sym
      (ap (λ (v : Verdict). v then opinion_check10 n m work) (check9_set n even (odd ∷ []) []) ∙
      then_assoc (one_set n even) (one_set n odd) (opinion_check10 n m work))

-- each refusal has a number
numbered_check10 : (n m work : ℕ) → Numbered (opinion_check10 n m work)
unfolding opinion_check10
numbered_check10 n m work = numbered_given 10 0 (ltb work (opinion_words n m)) (omega arith)

pub numbered_checks : (t : Tables) (l : LentSets) → Numbered (opinion_checks t l)
numbered_checks t l =
    numbered_then (table_checks t) _ (numbered_tables t)
    (numbered_then (check9 (vertices t) _ _) (opinion_check10 (vertices t) (edges_in t) _) (numbered_check9 _ _ _)
    (numbered_check10 _ _ _))

-- past the checks
pub record OpinionPassed (t : Tables) (even odd work : ℕ) : Type 0 where
  pub accepted : Accepted t
  pub even_size : even ≡ words (vertices t)
  pub odd_size : odd ≡ words (vertices t)
  pub work_size : opinion_words (vertices t) (edges_in t) ≤ work

pub checks_passed : (t : Tables) (even odd work : ℕ) → checks_by t even odd work ≡ none → OpinionPassed t even odd work
unfolding Accepted opinion_check10
checks_passed t even odd work e =
    let n = vertices t in
    let m = edges_in t in
    let one = then_none (table_checks t) (lent_checks n m even odd work) e in
    let two = then_none (one_set n even) (after_even n m even odd work) (checks_in_order n m even odd work ∙ one.1) in
    let three = then_none (one_set n odd) (opinion_check10 n m work) two.1 in
    record {
      accepted = one.0;
      even_size = check9_set_none (vertices t) even two.0;
      odd_size = check9_set_none (vertices t) odd three.0;
      work_size =
          ltb-false work (opinion_words (vertices t) (edges_in t))
          (given_none 10 0 (ltb work (opinion_words (vertices t) (edges_in t))) three.1);
    }
