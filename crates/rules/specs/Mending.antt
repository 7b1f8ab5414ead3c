-- Mending an incomplete export: each edge whose target is not below n is dropped, then every vertex without an edge gets a self loop
-- and, as its owner is stuck and loses there, priority 1 if the owner is Even and 0 if Odd. And what the function gives back and leaves.
use Rattle.std.specs.Prelude.{Bool, ◌||◌, cond, List, [], ◌∷◌, ◌++◌, ◌≡◌, ℕ, zero, suc, ◌+◌, eqb, ltb, length, get_or, drop}
use Rattle.rules.specs.Counting.{Set, listed}
use Rattle.rules.specs.Game.{Player, Even, Odd, player_of}
use Rattle.rules.specs.Outcome.{Outcome, Verdict, none, refused, given, outcome, answered, ◌then◌}
use Rattle.rules.specs.Tables.{Tables, vertices, edges_in, targets_of, check1, check2, check3, check4, check5, check6}

-- the entries of a list that pass a test, in order
unfoldable pub keep : (ℕ → Bool) → List ℕ → List ℕ
keep test [] = []
keep test (x ∷ xs) = cond (test x) (x ∷ keep test xs) (keep test xs)

-- the targets of v that are vertices, their order kept
unfoldable pub kept_targets : Tables → ℕ → List ℕ
kept_targets t v = keep (λ w. ltb w (vertices t)) (targets_of t.offsets t.targets v)

-- v has no edge left: it is altered
unfoldable pub altered : Tables → Set
altered t v = eqb (length (kept_targets t v)) 0

-- the edges of v afterwards: those that are left, or a self loop
unfoldable pub new_targets_of : Tables → ℕ → List ℕ
new_targets_of t v = cond (altered t v) (v ∷ []) (kept_targets t v)

-- a priority of the opponent's parity
abbrev pub losing_priority : Player → ℕ
losing_priority Even = 1
losing_priority Odd = 0

unfoldable pub new_priority : Tables → ℕ → ℕ
new_priority t v =
    cond (altered t v) (losing_priority (player_of (get_or t.owners v 0))) (get_or t.priorities v 0)

-- the edges of the first k vertices, one vertex after another
unfoldable pub new_targets_up_to : Tables → ℕ → List ℕ
new_targets_up_to t zero = []
new_targets_up_to t (suc v) = new_targets_up_to t v ++ new_targets_of t v

-- the mended tables; owners stay
unfoldable pub mended : Tables → Tables
mended t =
    record {
      owners = t.owners;
      priorities = listed (vertices t) (new_priority t);
      offsets = listed (suc (vertices t)) (λ v. length (new_targets_up_to t v));
      targets = new_targets_up_to t (vertices t);
    }

-- each dropped edge by its old index, ascending, of the first k
unfoldable pub dropped_up_to : Tables → ℕ → List ℕ
dropped_up_to t zero = []
dropped_up_to t (suc e) =
    dropped_up_to t e ++ cond (ltb (get_or t.targets e 0) (vertices t)) [] (e ∷ [])

-- each altered vertex, ascending, with its old priority, of the first k
unfoldable pub altered_up_to : Tables → ℕ → List ℕ
altered_up_to t zero = []
altered_up_to t (suc v) = altered_up_to t v ++ cond (altered t v) (v ∷ (get_or t.priorities v 0 ∷ [])) []

-- what was done
unfoldable pub mending_list : Tables → List ℕ
mending_list t = dropped_up_to t (edges_in t) ++ altered_up_to t (vertices t)

-- what is lent to write in
pub record MendingLent : Type 0 where
  pub priorities : List ℕ
  pub offsets : List ℕ
  pub targets : List ℕ
  pub list : List ℕ

-- 35: an output or the list is shorter than needed
unfoldable pub check35 : Tables → MendingLent → Verdict
check35 t lent =
    given 35 0
    (ltb (length lent.priorities) (vertices t) ||
    ltb (length lent.offsets) (vertices t + 1) ||
    ltb (length lent.targets) (length (mended t).targets) ||
    ltb (length lent.list) (length (mending_list t)))

-- 1 to 6; 3 again where the result has more than 16,384 edges; 35
unfoldable pub mending_checks : Tables → MendingLent → Verdict
mending_checks t lent =
    check1 (vertices t) then
    check2 (vertices t) (length t.priorities) (length t.offsets) then
    check3 (edges_in t) then
    check4 (vertices t) t.owners then
    check5 (vertices t) t.priorities then
    check6 (vertices t) (edges_in t) t.offsets then
    check3 (length (mended t).targets) then
    check35 t lent

-- an output with the new entries at its front; the rest stays
abbrev pub overwritten : List ℕ → List ℕ → List ℕ
overwritten xs before = xs ++ drop (length xs) before

abbrev pub mending_leaves : Verdict → Tables → MendingLent → MendingLent
mending_leaves (refused k p) t before = before
mending_leaves none t before =
    record {
      priorities = overwritten (mended t).priorities before.priorities;
      offsets = overwritten (mended t).offsets before.offsets;
      targets = overwritten (mended t).targets before.targets;
      list = overwritten (mending_list t) before.list;
    }

-- the public function; the count is the list's length
pub record Mends (t : Tables) (before after : MendingLent) (o : Outcome) : Type 0 where
  pub gives : o ≡ outcome (mending_checks t before) (answered (length (mending_list t)))
  pub leaves : after ≡ mending_leaves (mending_checks t before) t before
