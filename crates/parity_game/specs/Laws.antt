-- What callers of the checks go by: how verdicts follow one another, that a number 0 says that nothing was refused, and all that
-- is known of tables that were accepted.
use Rattle.std.specs.Prelude.{Result, Err, Bool, true, false, not, ◌&&◌, ◌||◌, List, [], ◌∷◌, ◌≡◌, refl, ℕ, ◌+◌, ◌<◌, ◌≤◌, eqb, ltb, length, get_or}
use Rattle.std.proofs.Common.{sym, ◌∙◌, ap, subst, arith, ltb-false, eqb-true}
use Rattle.rules.specs.Counting.{some, every_of}
use Rattle.rules.specs.Outcome.{Outcome, Verdict, none, refused, given, given_at, outcome, answered, ◌then◌}
use Rattle.rules.specs.Tables.{Tables, vertices, edges_in, words, work_words, table_checks}
pub use Rattle.accepted.specs.Tables.{then_none, given_none, given_at_none, check1_none, check2_none, check3_none, check4_none}
pub use Rattle.accepted.specs.Tables.{check5_none, check6_none, check7_none, check8_none, never_falls, Sound, accepted_sound}
use Rattle.rules.specs.Tables.{check1, check2, check3, check4, check5, check6, check7, check8, check9, check10}
use Rattle.parity_game.specs.declared.refusal.Refusal.{Refusal}
use Rattle.parity_game.specs.declared.refusal.Refusal.TheVariants.{TooManyVertices, TableLengths, TooManyEdges, BadOwner, BadPriority, BadOffset, BadTarget, DeadEnd, BadSize, ShortWork, OwnersDiffer, StrayBit, NotOneWinner, BadEntry, LeavesSet, LosingCycle, NoStrategy, BadText, BadIdentifier, BeyondLimit, NoVertex, ShortText, ShortOutput, NoSuchEntry, HighPriority, NoSuchTarget, NoSuchVertex, ShortList, NoLoop, KeptDiffer, NoSuchOwner, Again}
use Rattle.parity_game.specs.Said.{verdict, refusal_of}

-- ---- one check after another

pub then_assoc : (u v w : Verdict) → (u then v) then w ≡ u then (v then w)
then_assoc none v w = refl
then_assoc (refused k p) v w = refl

abbrev IsNoVerdict : Verdict → Type 0
IsNoVerdict none = Unit {0}
IsNoVerdict (refused k p) = ⊥

-- a number is not none
pub refused_is_some : {k p : ℕ} → refused k p ≡ none → ⊥
refused_is_some e = subst IsNoVerdict (sym e) tt

-- past a check that gives nothing, what is left is the whole
pub passed : (u v w : Verdict) → u ≡ none → (u then v) ≡ w → v ≡ w
passed none v w e q = q
passed (refused k p) v w e q = absurd (refused_is_some e)

-- a check that gives nothing leaves the outcome to those after it
pub outcome_pass : (u w : Verdict) (o : Outcome) → u ≡ none → outcome (u then w) o ≡ outcome w o
outcome_pass u w o e = rw e

-- a check that refuses decides, whatever comes after it
pub outcome_stop :
    (u w : Verdict) (o : Outcome) (k : ℕ) → ((outcome u (answered k)).number ≡ 0 → ⊥) → outcome u (answered k) ≡ outcome (u then w) o
outcome_stop none w o k h = absurd (h refl)
outcome_stop (refused j p) w o k h = refl

-- ---- number 0 is kept for answers

-- the number of a refusal is not 0
abbrev pub Numbered : Verdict → Type 0
Numbered none = Unit {0}
Numbered (refused k p) = 0 < k

pub numbered_then : (u v : Verdict) → Numbered u → Numbered v → Numbered (u then v)
numbered_then none v hu hv = hv
numbered_then (refused k p) v hu hv = hu

pub numbered_given : (k p : ℕ) (test : Bool) → 0 < k → Numbered (given k p test)
numbered_given k p true h = h
numbered_given k p false h = tt

pub numbered_given_at : (k n : ℕ) (test : ℕ → Bool) → 0 < k → Numbered (given_at k n test)
unfolding given_at
numbered_given_at k n test h = numbered_given k _ (some n test) h

pub numbered_check1 : (n : ℕ) → Numbered (check1 n)
unfolding check1
numbered_check1 n = numbered_given 1 0 (ltb 4096 n) (omega arith)

pub numbered_check2 : (n p o : ℕ) → Numbered (check2 n p o)
unfolding check2
numbered_check2 n p o = numbered_given 2 0 (not (eqb p n) || not (eqb o (n + 1))) (omega arith)

pub numbered_check3 : (m : ℕ) → Numbered (check3 m)
unfolding check3
numbered_check3 m = numbered_given 3 0 (ltb 16384 m) (omega arith)

pub numbered_check4 : (n : ℕ) (owners : List ℕ) → Numbered (check4 n owners)
unfolding check4
numbered_check4 n owners = numbered_given_at 4 n _ (omega arith)

pub numbered_check5 : (n : ℕ) (priorities : List ℕ) → Numbered (check5 n priorities)
unfolding check5
numbered_check5 n priorities = numbered_given_at 5 n _ (omega arith)

pub numbered_check6 : (n m : ℕ) (offsets : List ℕ) → Numbered (check6 n m offsets)
unfolding check6
numbered_check6 n m offsets =
    let first = given 6 0 (not (eqb (get_or offsets 0 0) 0)) in
    let next = given_at 6 n (λ i. ltb (get_or offsets (i + 1) 0) (get_or offsets i 0)) in
    let last = given 6 n (not (eqb (get_or offsets n 0) m)) in
    numbered_then first (next then last) (numbered_given 6 0 (not (eqb (get_or offsets 0 0) 0)) (omega arith))
    (numbered_then next last (numbered_given_at 6 n _ (omega arith)) (numbered_given 6 n (not (eqb (get_or offsets n 0) m)) (omega arith)))

pub numbered_check7 : (n m : ℕ) (targets : List ℕ) → Numbered (check7 n m targets)
unfolding check7
numbered_check7 n m targets = numbered_given_at 7 m _ (omega arith)

pub numbered_check8 : (n : ℕ) (offsets : List ℕ) → Numbered (check8 n offsets)
unfolding check8
numbered_check8 n offsets = numbered_given_at 8 n _ (omega arith)

pub numbered_check9 : (n : ℕ) (sets tables : List ℕ) → Numbered (check9 n sets tables)
unfolding check9
numbered_check9 n sets tables =
    numbered_given 9 0 (not (every_of sets (λ k. eqb k (words n))) || not (every_of tables (λ k. eqb k n))) (omega arith)

pub numbered_check10 : (n m work : ℕ) → Numbered (check10 n m work)
unfolding check10
numbered_check10 n m work = numbered_given 10 0 (ltb work (work_words n m)) (omega arith)

-- the sizes of the tables, as the code checks them first
abbrev pub length_checks : Tables → Verdict
length_checks t = check1 (vertices t) then check2 (vertices t) (length t.priorities) (length t.offsets) then check3 (edges_in t)

-- what is left after each check
abbrev pub from7 : Tables → Verdict
from7 t = check7 (vertices t) (edges_in t) t.targets then check8 (vertices t) t.offsets

abbrev pub from6 : Tables → Verdict
from6 t = check6 (vertices t) (edges_in t) t.offsets then from7 t

abbrev pub from5 : Tables → Verdict
from5 t = check5 (vertices t) t.priorities then from6 t

abbrev pub from4 : Tables → Verdict
from4 t = check4 (vertices t) t.owners then from5 t

pub tables_grouped : (t : Tables) → table_checks t ≡ length_checks t then from4 t
unfolding table_checks
tables_grouped t =
    sym
    (then_assoc (check1 (vertices t)) _ (from4 t) ∙
    ap (λ (v : Verdict). check1 (vertices t) then v) (then_assoc (check2 _ _ _) (check3 (edges_in t)) (from4 t)))

-- the lengths of tables that 1 to 3 pass
pub lengths_fit :
    (t : Tables) → length_checks t ≡ none →
    (length t.priorities ≡ vertices t) × (length t.offsets ≡ vertices t + 1)
lengths_fit t e =
    let second = check2 (vertices t) (length t.priorities) (length t.offsets) in
    let after = (then_none (check1 (vertices t)) (second then check3 (edges_in t)) e).1 in
    check2_none (vertices t) _ _ (then_none second (check3 (edges_in t)) after).0

pub numbered_lengths : (t : Tables) → Numbered (length_checks t)
numbered_lengths t =
    numbered_then (check1 (vertices t)) _ (numbered_check1 _)
    (numbered_then (check2 (vertices t) _ _) (check3 (edges_in t)) (numbered_check2 _ _ _) (numbered_check3 _))

pub numbered_tables : (t : Tables) → Numbered (table_checks t)
numbered_tables t =
    rw (tables_grouped t)
    (numbered_then (length_checks t) (from4 t) (numbered_lengths t)
    (numbered_then (check4 (vertices t) t.owners) (from5 t) (numbered_check4 _ _)
    (numbered_then (check5 (vertices t) t.priorities) (from6 t) (numbered_check5 _ _)
    (numbered_then (check6 (vertices t) (edges_in t) t.offsets) (from7 t) (numbered_check6 _ _ _)
    (numbered_then (check7 (vertices t) (edges_in t) t.targets) (check8 (vertices t) t.offsets) (numbered_check7 _ _ _)
    (numbered_check8 _ _))))))

-- an outcome with number 0 was not refused
pub zero_none : (v : Verdict) (o : Outcome) → Numbered v → (outcome v o).number ≡ 0 → v ≡ none
zero_none none o h e = refl
zero_none (refused k p) o h e = absurd (omega arith)

-- ---- the sizes of sets, tables and the work area

-- one set is checked, then the other sets and the tables
pub check9_set :
    (n a : ℕ) (sets tables : List ℕ) → check9 n (a ∷ sets) tables ≡ check9 n (a ∷ []) [] then check9 n sets tables
unfolding check9 every_of
check9_set n a sets tables = go (eqb a (words n))
  where
    go :
        (b : Bool) →
        given 9 0 (not (b && every_of sets (λ k. eqb k (words n))) || not (every_of tables (λ k. eqb k n))) ≡
        given 9 0 (not (b && true) || not true) then
        given 9 0 (not (every_of sets (λ k. eqb k (words n))) || not (every_of tables (λ k. eqb k n)))
    go true = refl
    go false = refl

-- one table is checked, then the others
pub check9_table :
    (n b : ℕ) (tables : List ℕ) → check9 n [] (b ∷ tables) ≡ check9 n [] (b ∷ []) then check9 n [] tables
unfolding check9 every_of
check9_table n b tables = go (eqb b n)
  where
    go :
        (x : Bool) →
        given 9 0 (not true || not (x && every_of tables (λ k. eqb k n))) ≡
        given 9 0 (not true || not (x && true)) then given 9 0 (not true || not (every_of tables (λ k. eqb k n)))
    go true = refl
    go false = refl

pub check9_set_none : (n a : ℕ) → check9 n (a ∷ []) [] ≡ none → a ≡ words n
unfolding check9 every_of
check9_set_none n a e = go (eqb a (words n)) refl e
  where
    go : (b : Bool) → eqb a (words n) ≡ b → given 9 0 (not (b && true) || not true) ≡ none → a ≡ words n
    go true q e = eqb-true a (words n) q
    go false q e = absurd (refused_is_some e)

pub check9_table_none : (n b : ℕ) → check9 n [] (b ∷ []) ≡ none → b ≡ n
unfolding check9 every_of
check9_table_none n b e = go (eqb b n) refl e
  where
    go : (x : Bool) → eqb b n ≡ x → given 9 0 (not true || not (x && true)) ≡ none → b ≡ n
    go true q e = eqb-true b n q
    go false q e = absurd (refused_is_some e)

pub check10_none : (n m work : ℕ) → check10 n m work ≡ none → work_words n m ≤ work
unfolding check10
check10_none n m work e = ltb-false work (work_words n m) (given_none 10 0 (ltb work (work_words n m)) e)

-- ---- what a check refused

-- a refusal has count 0
pub no_count : (e : Refusal) → (refusal_of e).count ≡ 0
no_count TooManyVertices = refl
no_count TableLengths = refl
no_count TooManyEdges = refl
no_count (BadOwner v) = refl
no_count (BadPriority v) = refl
no_count (BadOffset at) = refl
no_count (BadTarget at) = refl
no_count (DeadEnd v) = refl
no_count BadSize = refl
no_count ShortWork = refl
no_count OwnersDiffer = refl
no_count (StrayBit at) = refl
no_count (NotOneWinner at) = refl
no_count (BadEntry v) = refl
no_count (LeavesSet v) = refl
no_count (LosingCycle v) = refl
no_count (NoStrategy v) = refl
no_count (BadText at) = refl
no_count (BadIdentifier at) = refl
no_count (BeyondLimit at) = refl
no_count NoVertex = refl
no_count (ShortText at) = refl
no_count ShortOutput = refl
no_count (NoSuchEntry at) = refl
no_count (HighPriority at) = refl
no_count (NoSuchTarget at) = refl
no_count (NoSuchVertex at) = refl
no_count ShortList = refl
no_count (NoLoop v) = refl
no_count KeptDiffer = refl
no_count (NoSuchOwner at) = refl
no_count (Again k place) = refl

-- what a check refused is the outcome, whatever would have come of it
pub refused_outcome : (e : Refusal) (v : Verdict) (o : Outcome) → verdict (Err e) ≡ v → refusal_of e ≡ outcome v o
refused_outcome e v o h = subst (λ (x : Verdict). refusal_of e ≡ outcome x o) h (ap (λ (k : ℕ). record { number = (refusal_of e).number; place = (refusal_of e).place; count = k }) (no_count e))
