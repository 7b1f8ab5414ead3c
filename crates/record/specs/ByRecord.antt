-- What a door that takes a record goes by. It calls `check_record` first and tells its refusal; past that it lends its own
-- function the first n, n, n + 1 and m entries, which are accepted tables, with kept numbers that are a fresh count of them.
use Rattle.std.specs.Prelude.{◌≡◌, refl, ℕ, Err, ◌+◌, ◌-◌, take, drop}
use Rattle.std.proofs.Common.{sym, ap, subst, ◌∙◌, arith}
use Rattle.rules.specs.Outcome.{Outcome, Verdict, none, refused, outcome, answered, Unless}
use Rattle.rules.specs.Record.{Record, record_checks, tables_in, fresh_count, ByRecord}
use Rattle.rules.specs.Tables.{Tables, tables_of, Accepted}
use Rattle.parity_game.specs.declared.refusal.Refusal.{Refusal}
use Rattle.parity_game.specs.Said.{refusal_of, verdict}
use Rattle.parity_game.specs.Laws.{Numbered, zero_none, refused_outcome}
use Rattle.theory.specs.Edits.{Roomy, passing}
use Rattle.record.specs.Laws.{numbered_record, part_front, part_fronts}

-- the tables as a door lends them: the parts from 0 on
abbrev pub lent_tables : Record → Tables
lent_tables r =
    tables_of (take (r.n - 0) (drop 0 r.owners)) (take (r.n - 0) (drop 0 r.priorities))
    (take (r.n + 1 - 0) (drop 0 r.offsets))
    (take (r.m - 0) (drop 0 r.targets))

-- ---- refused

unless_refused :
    {A : Type 0} (v : Verdict) (x : A) (Else : Type 0) →
    ((outcome v (answered 0)).number ≡ 0 → ⊥) →
    Unless v (outcome v (answered 0)) x x Else
unless_refused none x Else h = absurd (h refl)
unless_refused (refused k p) x Else h = (refl, refl)

-- what `check_record` refuses is told, and nothing was written
pub refused_first :
    {A : Type 0} {k : ℕ} {o : Outcome} (r : Record) (x : A) (Does : Outcome → Tables → Type 0) (a : Outcome) →
    (k ≡ 0 → ⊥) →
    k ≡ a.number →
    a ≡ outcome (record_checks r) (answered 0) →
    a ≡ o →
    ByRecord r o x x (Does o)
refused_first {o = o} r x Does a h number e tells =
    subst (λ (y : Outcome). ByRecord r y x x (Does o)) (sym e ∙ tells)
    (unless_refused (record_checks r) x (Does o (tables_in r)) (λ z. h (number ∙ ap (λ (y : Outcome). y.number) e ∙ z)))

-- the same of the refusal that it hands over
pub refusal_first :
    {A : Type 0} {o : Outcome} (r : Record) (x : A) (Does : Outcome → Tables → Type 0) (e : Refusal) →
    verdict (Err e) ≡ record_checks r →
    refusal_of e ≡ o →
    ByRecord r o x x (Does o)
refusal_first r x Does e h tells =
    refused_first r x Does (refusal_of e) some refl (refused_outcome e (record_checks r) (answered 0) h) tells
  where
    some : (refusal_of e).number ≡ 0 → ⊥
    some z =
        let above : Numbered (verdict (Err e)) = subst Numbered (sym h) (numbered_record r) in absurd (omega (arith))

-- ---- passed

-- past that test the record passes
pub passed :
    {k : ℕ} (r : Record) (a : Outcome) →
    k ≡ 0 →
    k ≡ a.number →
    a ≡ outcome (record_checks r) (answered 0) →
    record_checks r ≡ none
passed r a z number e =
    zero_none (record_checks r) (answered 0) (numbered_record r) (sym (ap (λ (o : Outcome). o.number) e) ∙ sym number ∙ z)

-- so its sizes are within its room, the tables lent are accepted, and the kept numbers are a fresh count of them
pub passed_room : (r : Record) → record_checks r ≡ none → Roomy r
passed_room r ok = (passing r ok).room

pub passed_accepted : (r : Record) → record_checks r ≡ none → Accepted (lent_tables r)
passed_accepted r ok = rw (part_fronts r) (passing r ok).accepted

pub passed_kept : (r : Record) → record_checks r ≡ none → r.kept ≡ fresh_count (lent_tables r).priorities
passed_kept r ok = rw (part_front r.n r.priorities) (passing r ok).fresh

-- and what the door's function does with the tables lent, the door does with the record's
pub done_past :
    {A : Type 0} {o : Outcome} (r : Record) (before after : A) (Does : Outcome → Tables → Type 0) (a : Outcome) →
    record_checks r ≡ none →
    Does a (lent_tables r) →
    a ≡ o →
    ByRecord r o before after (Does o)
done_past {o = o} r before after Does a ok does tells =
    rw ok (subst (λ (x : Outcome). Does x (tables_in r)) tells (subst (Does a) (part_fronts r) does))

-- the same of the first entries as they stand
pub done_first :
    {A : Type 0} {o : Outcome} (r : Record) (before after : A) (Does : Outcome → Tables → Type 0) (a : Outcome) →
    record_checks r ≡ none →
    Does a (tables_in r) →
    a ≡ o →
    ByRecord r o before after (Does o)
done_first r before after Does a ok does tells =
    done_past r before after Does a ok (subst (Does a) (sym (part_fronts r)) does) tells
