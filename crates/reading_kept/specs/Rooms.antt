-- 9 and 10 of a call that builds a record, by lengths.
use Rattle.std.specs.Prelude.{not, List, ◌≡◌, ℕ, ◌<◌, ◌≤◌, eqb, ltb, length}
use Rattle.std.proofs.Common.{sym, ap, ◌∙◌, eqb-true, eq-eqb, ne_eqb, lt-ltb, le-ltb}
use Rattle.std.proofs.lemmas.Bool.{not-false}
use Rattle.rules.specs.Outcome.{Verdict, none, refused, given, ◌then◌}
use Rattle.rules.specs.Portions.{LentBetween, rooms_with, end_checks}
use Rattle.rules.specs.Reading.{Rooms, room_checks}
use Rattle.rules.specs.Record.{kept_room}
use Rattle.parity_game.specs.Laws.{then_assoc, then_none, given_none}
use Rattle.reading_rooms.specs.Said.{size_checks, size_checks_lem}

-- a number with place 0, where 0 is none
abbrev pub number_said : ℕ → Verdict
number_said k = given k 0 (not (eqb k 0))

abbrev pub kept_size : ℕ → Verdict
kept_size kept = given 9 0 (not (eqb kept 258))

abbrev pub state_size : ℕ → Verdict
state_size state = given 10 0 (ltb state 32)

-- the checks by lengths, of rooms
abbrev pub sizes_of : Rooms → Verdict
sizes_of r =
    size_checks (length r.owners) (length r.priorities) (length r.offsets) (length r.targets) (length r.work)

pub number_some : (k : ℕ) → (k ≡ 0 → ⊥) → number_said k ≡ refused k 0
number_some k h = rw (ne_eqb k 0 h)

pub number_none : (k : ℕ) → k ≡ 0 → number_said k ≡ none
number_none k e = rw (eq-eqb k 0 e)

-- they are the rules' own
pub record_sizes_lem : (kept : List ℕ) (r : Rooms) → (kept_room kept then room_checks r) ≡ (kept_size (length kept) then sizes_of r)
unfolding kept_room
record_sizes_lem kept r = ap (λ (v : Verdict). kept_size (length kept) then v) (size_checks_lem r)

pub end_sizes_lem :
    (kept : List ℕ) (l : LentBetween) (work : List ℕ) →
    (kept_room kept then end_checks l work) ≡
    ((kept_size (length kept) then sizes_of (rooms_with l work)) then state_size (length l.state))
unfolding kept_room end_checks
end_sizes_lem kept l work =
    sym (then_assoc (kept_size (length kept)) (room_checks (rooms_with l work)) (state_size (length l.state))) ∙
    ap (λ (v : Verdict). (kept_size (length kept) then v) then state_size (length l.state)) (size_checks_lem (rooms_with l work))

-- where nothing is given, kept is as long as it is to be
pub kept_fits : (kept k : ℕ) (v : Verdict) → number_said k ≡ (kept_size kept then v) → k ≡ 0 → kept ≡ 258
kept_fits kept k v says e =
    let none_first = (then_none (kept_size kept) v (sym says ∙ number_none k e)).0 in
    eqb-true kept 258 (not-false (eqb kept 258) (given_none 9 0 (not (eqb kept 258)) none_first))

pub kept_fits_end : (kept k : ℕ) (u v : Verdict) → number_said k ≡ ((kept_size kept then u) then v) → k ≡ 0 → kept ≡ 258
kept_fits_end kept k u v says e = kept_fits kept k (u then v) (says ∙ then_assoc (kept_size kept) u v) e

-- the state's length counts where nothing was given before it
pub state_unfit : (u v : Verdict) (k : ℕ) → number_said k ≡ u → (k ≡ 0 → ⊥) → number_said k ≡ (u then v)
state_unfit u v k says h = says ∙ sym (ap (λ (x : Verdict). x then v) (sym says ∙ number_some k h) ∙ sym (number_some k h) ∙ says)

state_after : (u v : Verdict) (k : ℕ) → number_said k ≡ u → k ≡ 0 → (u then v) ≡ v
state_after u v k says e = ap (λ (x : Verdict). x then v) (sym says ∙ number_none k e)

pub state_short : (u : Verdict) (k state : ℕ) → number_said k ≡ u → k ≡ 0 → state < 32 → refused 10 0 ≡ (u then state_size state)
state_short u k state says e short = sym (state_after u (state_size state) k says e ∙ rw (lt-ltb state 32 short))

pub state_long : (u : Verdict) (k state : ℕ) → number_said k ≡ u → k ≡ 0 → 32 ≤ state → none ≡ (u then state_size state)
state_long u k state says e long = sym (state_after u (state_size state) k says e ∙ rw (le-ltb state 32 long))
