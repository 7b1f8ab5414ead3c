-- 9 and 10 before all else: what the check of the rooms says is what the rules ask of a call.
use Rattle.std.specs.Prelude.{Err, Bool, not, ◌||◌, ◌≡◌, refl, ℕ, ◌+◌, eqb, ltb, length}
use Rattle.std.proofs.Common.{sym, ap, subst, ◌∙◌, arith, eqb-true, ltb-true, ltb-false, lt-ltb, le-ltb, ⊎_elim}
use Rattle.std.proofs.lemmas.Bool.{not-false}
use Rattle.rules.specs.Outcome.{Outcome, Verdict, none, refused, answered, given, ◌then◌, Unless}
use Rattle.rules.specs.Portions.{LentBetween, lent_checks}
use Rattle.basics.specs.Basics.{bool_cases, or_false_both}
use Rattle.accepted.specs.Tables.{then_none, given_none}
use Rattle.reading_rooms.specs.Said.{size_checks}
use Rattle.parity_game.specs.declared.refusal.Refusal.{Refusal}
use Rattle.parity_game.specs.Said.{refusal, refusal_of, verdict}
use Rattle.parity_game.specs.Laws.{refused_outcome}
use Rattle.pgsolver_serial.specs.Stands.{FitLent}

-- the same number more on both sides
ltb_both : (a b c : ℕ) → ltb (a + b) (a + c) ≡ ltb b c
ltb_both a b c =
    ⊎_elim
    (λ h. lt-ltb (a + b) (a + c) (omega (arith, ltb-true b c h)) ∙ sym h)
    (λ h. le-ltb (a + b) (a + c) (omega (arith, ltb-false b c h)) ∙ sym h)
    (bool_cases (ltb b c))

-- the words of the state in the place of room for targets
pub lent_checks_lem :
    (r : LentBetween) (v : Verdict) →
    v ≡
    size_checks (length r.owners) (length r.priorities) (length r.offsets) 32 (length r.owners + length r.state) →
    lent_checks r ≡ v
unfolding lent_checks
lent_checks_lem r v e =
    sym
    (e ∙
    ap
    (λ (b : Bool).
    given 9 0
    (not (eqb (length r.priorities) (length r.owners)) || not (eqb (length r.offsets) (length r.owners + 1))) then
    given 10 0 b)
    (ltb_both (length r.owners) (length r.state) 32))

pub fit_lent : (r : LentBetween) → lent_checks r ≡ none → FitLent r
unfolding lent_checks
fit_lent r passes =
    let sizes = not (eqb (length r.priorities) (length r.owners)) in
    let one = not (eqb (length r.offsets) (length r.owners + 1)) in
    let both = then_none (given 9 0 (sizes || one)) (given 10 0 (ltb (length r.state) 32)) passes in
    let fit = or_false_both sizes one (given_none 9 0 (sizes || one) both.0) in
    record {
      fitting =
          record {
            as_many = eqb-true (length r.priorities) (length r.owners) (not-false _ fit.0);
            one_more = eqb-true (length r.offsets) (length r.owners + 1) (not-false _ fit.1);
          };
      long = ltb-false (length r.state) 32 (given_none 10 0 (ltb (length r.state) 32) both.1);
    }

-- nothing is written, or the call is made
pub unless_unfit :
    {A : Type 0} (v : Verdict) (k : ℕ) (before : A) (Else : Type 0) → v ≡ refused k 0 → Unless v (refusal k 0) before before
    Else
unless_unfit v k before Else e = subst (λ (x : Verdict). Unless x (refusal k 0) before before Else) (sym e) (refl, refl)

pub unless_refused :
    {A : Type 0} (v : Verdict) (e : Refusal) (before : A) (Else : Type 0) → verdict (Err e) ≡ v →
    Unless v (refusal_of e) before before Else
unless_refused v e before Else is =
    subst (λ (x : Verdict). Unless x (refusal_of e) before before Else) is
    (refused_outcome e (verdict (Err e)) (answered 0) refl, refl)

pub unless_fit :
    {A : Type 0} (v : Verdict) (o : Outcome) (before after : A) (Else : Type 0) → v ≡ none → Else → Unless v o before after Else
unless_fit v o before after Else e it = subst (λ (x : Verdict). Unless x o before after Else) (sym e) it
