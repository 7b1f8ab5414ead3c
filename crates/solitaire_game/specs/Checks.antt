-- The refusals 1 to 11, by the lengths that they go by, and what is known of what passes them.
use Rattle.std.proofs.Math.Bool.{not}
use Rattle.std.specs.Prelude.{List, [], ◌∷◌, ◌≡◌, ℕ, ◌≤◌, ◌<◌, eqb, length, get_or}
use Rattle.std.proofs.Math.Path.{refl, ap}
use Rattle.std.proofs.Common.{arith, ne_eqb, eq-eqb}
use Rattle.rules.specs.Counting.{Set, some}
use Rattle.rules.specs.Outcome.{Outcome, Verdict, none, outcome, answered, ◌then◌}
use Rattle.rules.specs.Solitaire.{LentSet, solitaire_checks, check11}
use Rattle.rules.specs.Tables.{Tables, vertices, edges_in, words, work_words, table_checks, Accepted, check9, check10}
use Rattle.basics.specs.Basics.{some_intro, false_some}
use Rattle.parity_game.specs.Laws.{then_none, check9_set_none, check10_none}
use Rattle.parity_game.specs.Laws.{Numbered, numbered_then, numbered_given, numbered_tables, numbered_check9, numbered_check10}
use Rattle.parity_game.specs.Said.{refusal}

-- what is left past 9
abbrev pub after9 : List ℕ → ℕ → ℕ → Verdict
after9 owners m work = check10 (length owners) m work then check11 (length owners) owners

-- 9 to 11
abbrev pub lent_by : List ℕ → ℕ → ℕ → ℕ → Verdict
lent_by owners m set work = check9 (length owners) (set ∷ []) [] then after9 owners m work

-- 1 to 11
abbrev pub checks_by : Tables → ℕ → ℕ → Verdict
checks_by t set work = table_checks t then lent_by t.owners (edges_in t) set work

-- of accepted tables 9 to 11 are all that is left of them
pub past_tables :
    (t : Tables) (set work : ℕ) (o : Outcome) →
    Accepted t →
    outcome (lent_by t.owners (edges_in t) set work) o ≡ outcome (checks_by t set work) o
unfolding Accepted
past_tables t set work o accepted = rw accepted

pub numbered_check11 : (n : ℕ) (owners : List ℕ) → Numbered (check11 n owners)
unfolding check11
numbered_check11 n owners = numbered_given 11 0 (some n _) (omega arith)

pub numbered_checks : (t : Tables) (l : LentSet) → Numbered (solitaire_checks t l)
numbered_checks t l =
    numbered_then (table_checks t) _ (numbered_tables t)
    (numbered_then (check9 (vertices t) _ _) _ (numbered_check9 _ _ _)
    (numbered_then (check10 (vertices t) (edges_in t) _) (check11 (vertices t) t.owners) (numbered_check10 _ _ _) (numbered_check11 _ _)))

-- past the checks
pub record SolitairePassed (t : Tables) (set work : ℕ) : Type 0 where
  pub accepted : Accepted t
  pub set_size : set ≡ words (vertices t)
  pub work_size : work_words (vertices t) (edges_in t) ≤ work
  pub one_owner : check11 (vertices t) t.owners ≡ none

pub checks_passed : (t : Tables) (set work : ℕ) → checks_by t set work ≡ none → SolitairePassed t set work
unfolding Accepted
checks_passed t set work e =
    let one = then_none (table_checks t) (lent_by t.owners (edges_in t) set work) e in
    let two = then_none (check9 (vertices t) (set ∷ []) []) (after9 t.owners (edges_in t) work) one.1 in
    let three = then_none (check10 (vertices t) (edges_in t) work) (check11 (vertices t) t.owners) two.1 in
    record {
      accepted = one.0;
      set_size = check9_set_none (vertices t) set two.0;
      work_size = check10_none (vertices t) (edges_in t) work three.0;
      one_owner = three.1;
    }

-- ---- 11 by a search

module _ (owners : List ℕ) where
  -- one that differs from the first refuses, wherever it stands
  pub owners_differ :
      (v : ℕ) → v < length owners → (get_or owners v 0 ≡ get_or owners 0 0 → ⊥) → refusal 11 0 ≡ outcome (check11 (length owners) owners) (answered 0)
  unfolding check11
  owners_differ v l d =
      let differs : Set = λ u. not (eqb (get_or owners u 0) (get_or owners 0 0)) in
      rw (some_intro (length owners) differs v l (ap not (ne_eqb (get_or owners v 0) (get_or owners 0 0) d))) refl

  -- and where none does nothing is refused
  pub owners_equal :
      ((v : ℕ) → v < length owners → get_or owners v 0 ≡ get_or owners 0 0) → answered 0 ≡ outcome (check11 (length owners) owners) (answered 0)
  unfolding check11
  owners_equal same =
      let differs : Set = λ u. not (eqb (get_or owners u 0) (get_or owners 0 0)) in
      rw (false_some (length owners) differs (λ v l. ap not (eq-eqb (get_or owners v 0) (get_or owners 0 0) (same v l)))) refl
