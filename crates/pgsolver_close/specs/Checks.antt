-- 9 and 10 at the end: a work area or a state that is too short.
use Rattle.std.specs.Prelude.{Bool, List, ◌≡◌, ℕ, ◌≤◌, ◌<◌, ltb, length}
use Rattle.std.proofs.Common.{ap, ◌∙◌, lt-ltb, le-ltb}
use Rattle.rules.specs.Outcome.{Verdict, none, refused, given, ◌then◌}
use Rattle.rules.specs.Reading.{room_checks}
use Rattle.rules.specs.Portions.{LentBetween, rooms_with, end_checks}

pub end_unfit :
    (r : LentBetween) (w : List ℕ) (k p : ℕ) → room_checks (rooms_with r w) ≡ refused k p → end_checks r w ≡ refused k p
unfolding end_checks
end_unfit r w k p e = ap (λ (v : Verdict). v then given 10 0 (ltb (length r.state) 32)) e

pub end_short :
    (r : LentBetween) (w : List ℕ) → room_checks (rooms_with r w) ≡ none → length r.state < 32 → end_checks r w ≡ refused 10 0
unfolding end_checks
end_short r w e short =
    ap (λ (v : Verdict). v then given 10 0 (ltb (length r.state) 32)) e ∙
    ap (λ (b : Bool). given 10 0 b) (lt-ltb (length r.state) 32 short)

pub end_fit :
    (r : LentBetween) (w : List ℕ) → room_checks (rooms_with r w) ≡ none → 32 ≤ length r.state → end_checks r w ≡ none
unfolding end_checks
end_fit r w e long =
    ap (λ (v : Verdict). v then given 10 0 (ltb (length r.state) 32)) e ∙
    ap (λ (b : Bool). given 10 0 b) (le-ltb (length r.state) 32 long)
