-- What callers of the record's checks go by: number 0 is kept for answers, 1 to 8 look at no kept numbers, and what a fresh count
-- gives.
use Rattle.std.specs.Prelude.{Err, not, ◌||◌, List, [], ◌≡◌, refl, ℕ, ◌+◌, ◌-◌, eqb, ltb, length, take, drop}
use Rattle.std.proofs.Common.{ap, ◌∙◌, arith, eq-eqb, ne_eqb}
use Rattle.std.proofs.Math.Nat.{sub-zero}
use Rattle.rules.specs.Outcome.{Outcome, Verdict, none, refused, outcome, answered}
use Rattle.rules.specs.Record.{Record, record_of, room2, room3, size_checks, record_tables, kept_check, check47, record_checks, tables_in, same_list}
use Rattle.rules.specs.Record.{fresh_count, kept_room, fresh_checks, kept_by, CountsFresh}
use Rattle.rules.specs.Tables.{tables_of, check1, table_checks}
use Rattle.parity_game.specs.Laws.{Numbered, numbered_then, numbered_given, numbered_check1, numbered_tables}
use Rattle.parity_game.specs.declared.refusal.Refusal.{Refusal}
use Rattle.parity_game.specs.Said.{refusal, refusal_of, verdict}
use Rattle.parity_game.specs.Laws.{refused_outcome}

-- a record without its kept numbers
abbrev pub unkept : Record → Record
unkept r = record_of r.n r.m r.owners r.priorities r.offsets r.targets []

-- 1 to 8 look at no kept numbers
pub tables_unkept : (r : Record) → record_tables (unkept r) ≡ record_tables r
unfolding record_tables
tables_unkept r = refl

numbered_room2 : (n o p f : ℕ) → Numbered (room2 n o p f)
unfolding room2
numbered_room2 n o p f = numbered_given 2 0 (ltb o n || ltb p n || ltb f (n + 1)) (omega arith)

numbered_room3 : (m t : ℕ) → Numbered (room3 m t)
unfolding room3
numbered_room3 m t = numbered_given 3 0 (ltb 16384 m || ltb t m) (omega arith)

pub numbered_sizes : (r : Record) → Numbered (size_checks r)
numbered_sizes r =
    numbered_then (check1 r.n) _ (numbered_check1 r.n)
    (numbered_then (room2 r.n _ _ _) (room3 r.m _) (numbered_room2 r.n _ _ _) (numbered_room3 r.m _))

pub numbered_record_tables : (r : Record) → Numbered (record_tables r)
unfolding record_tables
numbered_record_tables r =
    numbered_then (size_checks r) (table_checks (tables_in r)) (numbered_sizes r) (numbered_tables (tables_in r))

numbered_kept : (ps kept : List ℕ) → Numbered (kept_check ps kept)
unfolding kept_check
numbered_kept ps kept = numbered_given 47 0 (not (same_list kept (fresh_count ps))) (omega arith)

pub numbered_record : (r : Record) → Numbered (record_checks r)
unfolding record_checks
numbered_record r =
    numbered_then (record_tables r) (check47 r) (numbered_record_tables r) (numbered_kept (take r.n r.priorities) r.kept)

-- a fresh count that is refused, by 1 to 8 or by 9, and one that is written
pub fresh_refused :
    (r : Record) (o : Outcome) →
    o ≡ outcome (fresh_checks r) (answered 0) →
    (o.number ≡ 0 → ⊥) →
    CountsFresh r r.kept o
fresh_refused r o e n = record { gives = e; leaves = left (fresh_checks r) (λ z. n (ap (λ (x : Outcome). x.number) e ∙ z)) }
  where
    left : (v : Verdict) → ((outcome v (answered 0)).number ≡ 0 → ⊥) → r.kept ≡ kept_by v r
    left none h = absurd (h refl)
    left (refused k p) h = refl

pub fresh_stopped : (r : Record) (e : Refusal) → verdict (Err e) ≡ record_tables r → CountsFresh r r.kept (refusal_of e)
unfolding fresh_checks
fresh_stopped r e was =
    let all : verdict (Err e) ≡ fresh_checks r = rw (← was) refl in
    record { gives = refused_outcome e (fresh_checks r) (answered 0) all; leaves = rw (← all) refl }

pub fresh_written :
    (r : Record) (kept : List ℕ) →
    fresh_checks r ≡ none →
    kept ≡ fresh_count (take r.n r.priorities) →
    CountsFresh r kept (answered 0)
fresh_written r kept ok e = record { gives = rw ok; leaves = rw ok e }

-- a part from 0 on is the front
pub part_front : (n : ℕ) (xs : List ℕ) → take (n - 0) (drop 0 xs) ≡ take n xs
part_front n xs = simp sub-zero

pub part_fronts :
    (r : Record) →
    tables_of (take (r.n - 0) (drop 0 r.owners)) (take (r.n - 0) (drop 0 r.priorities))
    (take (r.n + 1 - 0) (drop 0 r.offsets))
    (take (r.m - 0) (drop 0 r.targets)) ≡
    tables_in r
part_fronts r = simp sub-zero

-- 9 for kept numbers of another length, and none for 258 of them
pub room_nine : (kept : List ℕ) → (length kept ≡ 258 → ⊥) → kept_room kept ≡ refused 9 0
unfolding kept_room
room_nine kept n = rw (ne_eqb (length kept) 258 n)

pub numbered_room : (kept : List ℕ) → Numbered (kept_room kept)
unfolding kept_room
numbered_room kept = numbered_given 9 0 (not (eqb (length kept) 258)) (omega arith)

pub room_passes : (kept : List ℕ) → length kept ≡ 258 → kept_room kept ≡ none
unfolding kept_room
room_passes kept e = rw (eq-eqb (length kept) 258 e)

pub fresh_nine :
    (r : Record) →
    record_tables r ≡ none →
    (length r.kept ≡ 258 → ⊥) →
    CountsFresh r r.kept (refusal 9 0)
unfolding fresh_checks
fresh_nine r ok n = fresh_refused r (refusal 9 0) (rw (ok, room_nine r.kept n)) (λ z. absurd (omega arith))

pub fresh_passes : (r : Record) → record_tables r ≡ none → length r.kept ≡ 258 → fresh_checks r ≡ none
unfolding fresh_checks
fresh_passes r ok e = rw ok (room_passes r.kept e)
