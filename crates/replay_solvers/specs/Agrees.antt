-- What no difference means of the oracle's words: the record passes, each set is the rules' bit by bit, and the count is what the rules need;
-- or two owners differ, and nothing else is wrong. And that the doors' contracts give it.
use Rattle.std.specs.Prelude.{Bool, true, false, not, ◌||◌, List, [], ◌∷◌, ◌≡◌, refl, ℕ, ◌+◌, eqb, ltb, length, get_or, take}
use Rattle.std.proofs.Common.{sym, ap, subst, ◌∙◌, arith}
use Rattle.std.proofs.lemmas.Bool.{eqb-false}
use Rattle.rules.specs.Counting.{Set, some, every_of}
use Rattle.rules.specs.Game.{Player, Even, Odd, Game}
use Rattle.rules.specs.Outcome.{Outcome, Verdict, none, refused, given, given_at, outcome, answered, ◌then◌, Unless}
use Rattle.rules.specs.Promotion.{rounds_needed, after_rounds}
use Rattle.rules.specs.Record.{Record, tables_in, record_tables, check47, record_checks, ByRecord}
use Rattle.rules.specs.Record.{kept_check, same_list, fresh_count, room2, room3, size_checks}
use Rattle.rules.specs.Solitaire.{LentSet, check11, solitaire, sole_owner, solitaire_checks, SolvesSolitaire, SolitaireAnswered}
use Rattle.rules.specs.Solver.{Lent, Solves}
use Rattle.rules.specs.Tables.{Tables, game_of, vertices, edges_in, words, work_words, table_checks}
use Rattle.rules.specs.Tables.{check1, check2, check3, check4, check5, check6, check7, check8, check9, check10}
use Rattle.rules.specs.Words.{Holds}
use Rattle.rules.specs.Zielonka.{zielonka}
use Rattle.parity_game.specs.Laws.{Numbered}
use Rattle.record.specs.Laws.{numbered_record}
use Rattle.solver.specs.Promises.{answered_holds, answered_count}
use Rattle.solitaire_game.specs.Promises.{not_refused}
use Rattle.replay_solvers.specs.declared.differs.Solver.{Solver}
use Rattle.replay_solvers.specs.declared.differs.Solver.TheVariants.{Zielonka, Promotion}

-- the budget of both solvers here
abbrev pub budget : ℕ
budget = 1000000

-- the game of the tables that count
abbrev pub played : Record → Game
played r = game_of (tables_in r)

-- the rounds or calls that the rules need, and the sets that they give
abbrev pub needs : Solver → Game → ℕ
needs Promotion g = rounds_needed g
needs Zielonka g = (zielonka g).calls

abbrev pub won : Solver → Game → Player → Set
won Promotion g = (after_rounds g (rounds_needed g)).won
won Zielonka g = (zielonka g).won

-- what a solver counts, of calls and rounds
abbrev pub made_by : Solver → ℕ → ℕ → ℕ
made_by Zielonka calls rounds = calls
made_by Promotion calls rounds = rounds

pub record Says (solver : Solver) (r : Record) (even odd : List ℕ) (count : ℕ) : Type 0 where
  pub passes : record_checks r ≡ none
  pub even_set : Holds (vertices (tables_in r)) (won solver (played r) Even) even
  pub odd_set : Holds (vertices (tables_in r)) (won solver (played r) Odd) odd
  pub counted : count ≡ needs solver (played r)

-- the record passes but two owners differ, or the set is the rules' for the one owner
abbrev pub SaysSolitaire : Bool → Record → List ℕ → Type 0
SaysSolitaire true r set =
    (record_checks r ≡ none) × (check11 (vertices (tables_in r)) (tables_in r).owners ≡ refused 11 0)
SaysSolitaire false r set =
    (record_checks r ≡ none) × Holds (vertices (tables_in r)) (solitaire (played r) (sole_owner (tables_in r))) set

-- ---- an answer

-- number 0 is given by no refusal
answered_by :
    {A : Type 0} (v : Verdict) (o : Outcome) (before after : A) (Else : Type 0) →
    Numbered v →
    Unless v o before after Else →
    o.number ≡ 0 →
    (v ≡ none) × Else
answered_by none o before after Else n u e = (refl, u)
answered_by (refused k p) o before after Else n u e =
    let number : o.number ≡ k = ap (λ (x : Outcome). x.number) u.0 in absurd (omega (arith, n, number, e))

-- **what a solver's door promises of an answer**
pub door_says :
    (solver : Solver) (r : Record) (before after : Lent) (o : Outcome) (entries : Tables → ℕ → ℕ) →
    ByRecord r o before after
    (λ t. Solves budget t (needs solver (game_of t)) (won solver (game_of t)) (entries t) before after o) →
    o.number ≡ 0 →
    Says solver r after.even after.odd o.count
door_says solver r before after o entries u e =
    let (ok, s) =
    answered_by (record_checks r) o before after
    (Solves budget (tables_in r) (needs solver (played r)) (won solver (played r)) (entries (tables_in r)) before after o)
    (numbered_record r) u e in
    record {
      passes = ok;
      even_set = answered_holds s e Even;
      odd_set = answered_holds s e Odd;
      counted = answered_count s e;
    }

-- one word is the set
single : (xs : List ℕ) (x : ℕ) → length xs ≡ 1 → get_or xs 0 0 ≡ x → xs ≡ x ∷ []
single [] x long e = absurd (omega (arith, long))
single (y ∷ []) x long e = ap (λ (z : ℕ). z ∷ []) e
single (y ∷ (z ∷ xs)) x long e = absurd (omega (arith, long))

-- of a solver that is known
pub says_of :
    {b solver : Solver} {r : Record} {even odd : List ℕ} {count : ℕ} →
    b ≡ solver →
    Says solver r even odd count →
    Says b r even odd count
says_of {r = r} {even} {odd} {count} e s = subst (λ (x : Solver). Says x r even odd count) (sym e) s

-- the same of the oracle's words, where they are equal
pub says_words :
    {solver : Solver} {r : Record} {even odd : List ℕ} {count x y wanted : ℕ} →
    Says solver r even odd count →
    length even ≡ 1 →
    length odd ≡ 1 →
    get_or even 0 0 ≡ x →
    get_or odd 0 0 ≡ y →
    count ≡ wanted →
    Says solver r (x ∷ []) (y ∷ []) wanted
says_words {solver} {r} {even} {odd} {count} {x} {y} s long-even long-odd is-even is_odd same =
    record {
      passes = s.passes;
      even_set =
          subst (Holds (vertices (tables_in r)) (won solver (played r) Even)) (single even x long-even is-even) s.even_set;
      odd_set = subst (Holds (vertices (tables_in r)) (won solver (played r) Odd)) (single odd y long-odd is_odd) s.odd_set;
      counted = sym same ∙ s.counted;
    }

-- ---- 11

-- 11 is given for two owners alone
abbrev Not11 : Verdict → Type 0
Not11 none = Unit {0}
Not11 (refused k p) = k ≡ 11 → ⊥

not_then : (u v : Verdict) → Not11 u → Not11 v → Not11 (u then v)
not_then none v hu hv = hv
not_then (refused k p) v hu hv = hu

not_given : (k p : ℕ) (test : Bool) → (k ≡ 11 → ⊥) → Not11 (given k p test)
not_given k p true h = h
not_given k p false h = tt

not_given_at : (k n : ℕ) (test : ℕ → Bool) → (k ≡ 11 → ⊥) → Not11 (given_at k n test)
unfolding given_at
not_given_at k n test h = not_given k _ (some n test) h

not_1 : (n : ℕ) → Not11 (check1 n)
unfolding check1
not_1 n = not_given 1 0 (ltb 4096 n) (eqb-false 1 11 refl)

not_2 : (n p o : ℕ) → Not11 (check2 n p o)
unfolding check2
not_2 n p o = not_given 2 0 (not (eqb p n) || not (eqb o (n + 1))) (eqb-false 2 11 refl)

not_3 : (m : ℕ) → Not11 (check3 m)
unfolding check3
not_3 m = not_given 3 0 (ltb 16384 m) (eqb-false 3 11 refl)

not_4 : (n : ℕ) (owners : List ℕ) → Not11 (check4 n owners)
unfolding check4
not_4 n owners = not_given_at 4 n _ (eqb-false 4 11 refl)

not_5 : (n : ℕ) (priorities : List ℕ) → Not11 (check5 n priorities)
unfolding check5
not_5 n priorities = not_given_at 5 n _ (eqb-false 5 11 refl)

not_6 : (n m : ℕ) (offsets : List ℕ) → Not11 (check6 n m offsets)
unfolding check6
not_6 n m offsets =
    let first = given 6 0 (not (eqb (get_or offsets 0 0) 0)) in
    let next = given_at 6 n (λ i. ltb (get_or offsets (i + 1) 0) (get_or offsets i 0)) in
    let last = given 6 n (not (eqb (get_or offsets n 0) m)) in
    not_then first (next then last) (not_given 6 0 (not (eqb (get_or offsets 0 0) 0)) (eqb-false 6 11 refl))
    (not_then next last (not_given_at 6 n _ (eqb-false 6 11 refl))
    (not_given 6 n (not (eqb (get_or offsets n 0) m)) (eqb-false 6 11 refl)))

not_7 : (n m : ℕ) (targets : List ℕ) → Not11 (check7 n m targets)
unfolding check7
not_7 n m targets = not_given_at 7 m _ (eqb-false 7 11 refl)

not_8 : (n : ℕ) (offsets : List ℕ) → Not11 (check8 n offsets)
unfolding check8
not_8 n offsets = not_given_at 8 n _ (eqb-false 8 11 refl)

not_tables : (t : Tables) → Not11 (table_checks t)
unfolding table_checks
not_tables t =
    let n = vertices t in
    let c2 = check2 n (length t.priorities) (length t.offsets) in
    let c3 = check3 (edges_in t) in
    let c4 = check4 n t.owners in
    let c5 = check5 n t.priorities in
    let c6 = check6 n (edges_in t) t.offsets in
    let c7 = check7 n (edges_in t) t.targets in
    let c8 = check8 n t.offsets in
    not_then (check1 n) (c2 then c3 then c4 then c5 then c6 then c7 then c8) (not_1 n)
    (not_then c2 (c3 then c4 then c5 then c6 then c7 then c8) (not_2 n _ _)
    (not_then c3 (c4 then c5 then c6 then c7 then c8) (not_3 _)
    (not_then c4 (c5 then c6 then c7 then c8) (not_4 n _)
    (not_then c5 (c6 then c7 then c8) (not_5 n _)
    (not_then c6 (c7 then c8) (not_6 n _ _) (not_then c7 c8 (not_7 n _ _) (not_8 n _)))))))

not_9 : (n : ℕ) (sets tables : List ℕ) → Not11 (check9 n sets tables)
unfolding check9
not_9 n sets tables =
    not_given 9 0 (not (every_of sets (λ k. eqb k (words n))) || not (every_of tables (λ k. eqb k n))) (eqb-false 9 11 refl)

not_10 : (n m work : ℕ) → Not11 (check10 n m work)
unfolding check10
not_10 n m work = not_given 10 0 (ltb work (work_words n m)) (eqb-false 10 11 refl)

not_room2 : (n o p f : ℕ) → Not11 (room2 n o p f)
unfolding room2
not_room2 n o p f = not_given 2 0 (ltb o n || ltb p n || ltb f (n + 1)) (eqb-false 2 11 refl)

not_room3 : (m t : ℕ) → Not11 (room3 m t)
unfolding room3
not_room3 m t = not_given 3 0 (ltb 16384 m || ltb t m) (eqb-false 3 11 refl)

not_sizes : (r : Record) → Not11 (size_checks r)
not_sizes r =
    not_then (check1 r.n) _ (not_1 r.n)
    (not_then (room2 r.n _ _ _) (room3 r.m _) (not_room2 r.n _ _ _) (not_room3 r.m _))

not_kept : (ps kept : List ℕ) → Not11 (kept_check ps kept)
unfolding kept_check
not_kept ps kept = not_given 47 0 (not (same_list kept (fresh_count ps))) (eqb-false 47 11 refl)

not_record : (r : Record) → Not11 (record_checks r)
unfolding record_checks record_tables
not_record r =
    not_then (record_tables r) (check47 r)
    (not_then (size_checks r) (table_checks (tables_in r)) (not_sizes r) (not_tables (tables_in r)))
    (not_kept (take r.n r.priorities) r.kept)

eleven_by :
    {A : Type 0} (v : Verdict) (o : Outcome) (before after : A) (Else : Type 0) →
    Not11 v →
    Unless v o before after Else →
    o.number ≡ 11 →
    (v ≡ none) × Else
eleven_by none o before after Else n u e = (refl, u)
eleven_by (refused k p) o before after Else n u e =
    absurd (n (sym (ap (λ (x : Outcome). x.number) u.0) ∙ e))

-- a check that does not give 11 leaves it to those after it
eleven_past : (v w : Verdict) → Not11 v → (outcome (v then w) (answered 0)).number ≡ 11 → (outcome w (answered 0)).number ≡ 11
eleven_past none w n e = e
eleven_past (refused k p) w n e = absurd (n e)

eleven_given : (test : Bool) → (outcome (given 11 0 test) (answered 0)).number ≡ 11 → given 11 0 test ≡ refused 11 0
eleven_given true e = refl
eleven_given false e = absurd (eqb-false 0 11 refl e)

eleven_owners : (n : ℕ) (owners : List ℕ) → (outcome (check11 n owners) (answered 0)).number ≡ 11 → check11 n owners ≡ refused 11 0
unfolding check11
eleven_owners n owners e = eleven_given (some n (λ v. not (eqb (get_or owners v 0) (get_or owners 0 0)))) e

eleven_solitaire :
    (t : Tables) (lent : LentSet) →
    (outcome (solitaire_checks t lent) (answered 0)).number ≡ 11 →
    check11 (vertices t) t.owners ≡ refused 11 0
eleven_solitaire t lent e =
    let c9 = check9 (vertices t) (length lent.set ∷ []) [] in
    let c10 = check10 (vertices t) (edges_in t) (length lent.work) in
    let c11 = check11 (vertices t) t.owners in
    eleven_owners (vertices t) t.owners
    (eleven_past c10 c11 (not_10 _ _ _)
    (eleven_past c9 (c10 then c11) (not_9 _ _ _) (eleven_past (table_checks t) (c9 then c10 then c11) (not_tables t) e)))

-- the set after an answer
solitaire_set_lem :
    {t : Tables} {before after : LentSet} {o : Outcome} →
    SolvesSolitaire t before after o →
    o.number ≡ 0 →
    Holds (vertices t) (solitaire (game_of t) (sole_owner t)) after.set
solitaire_set_lem {t} {before} {after} s e =
    let a : SolitaireAnswered t before after = rw (not_refused s e) at s.leaves in a.set

-- **what the solitaire door promises, of the oracle's word**
pub solitaire_says :
    (two : Bool) (r : Record) (before after : LentSet) (o : Outcome) (word : ℕ) →
    ByRecord r o before after (λ t. SolvesSolitaire t before after o) →
    length after.set ≡ 1 →
    (two ≡ true → o.number ≡ 11) →
    (two ≡ false → (o.number ≡ 0) × (get_or after.set 0 0 ≡ word)) →
    SaysSolitaire two r (word ∷ [])
solitaire_says true r before after o word u long eleven zero =
    let (ok, s) =
    eleven_by (record_checks r) o before after (SolvesSolitaire (tables_in r) before after o) (not_record r) u (eleven refl) in (
      ok,
      eleven_solitaire (tables_in r) before (sym (ap (λ (x : Outcome). x.number) s.gives) ∙ eleven refl),
    )
solitaire_says false r before after o word u long eleven zero =
    let (e, same) = zero refl in
    let (ok, s) =
    answered_by (record_checks r) o before after (SolvesSolitaire (tables_in r) before after o) (numbered_record r) u e in (
      ok,
      subst (Holds (vertices (tables_in r)) (solitaire (played r) (sole_owner (tables_in r)))) (single after.set word long same)
          (solitaire_set_lem s e),
    )
