-- What the two checks of an edit tell, the record's and its own: each, where it refuses, leaves the record, and past both the
-- edit is made.
use Rattle.std.proofs.Common.{◌≡◌, sym, refl, subst, ℕ, Result, Err}
use Rattle.rules.specs.Outcome.{Verdict, none, answered, ◌then◌}
use Rattle.rules.specs.Record.{Record, Edit, Edits, record_checks, own_checks, edit_checks, edited, left_by, changed}
use Rattle.parity_game.specs.declared.refusal.Refusal.{Refusal}
use Rattle.parity_game.specs.Said.{said, verdict}
use Rattle.parity_game.specs.Laws.{refused_outcome}

refused_edit : {e : Edit} {r : Record} (a : Result ℕ Refusal) (f : Refusal) → a ≡ Err f → verdict (Err f) ≡ edit_checks e r → Edits e r r (said a)
unfolding edited
refused_edit {e} {r} a f gave was =
    rw gave (record {
      gives = refused_outcome f (edit_checks e r) (answered 0) was;
      leaves = subst (λ (v : Verdict). r ≡ left_by v e r) was refl;
    })

pub record_refuses :
    {e : Edit} {r : Record} (a : Result ℕ Refusal) (f : Refusal) → a ≡ Err f → verdict (Err f) ≡ record_checks r → Edits e r r (said a)
unfolding edit_checks
record_refuses {e} {r} a f gave was =
    refused_edit a f gave (subst (λ (v : Verdict). verdict (Err f) ≡ v then own_checks e r) was refl)

pub own_refuses :
    {e : Edit} {r : Record} (a : Result ℕ Refusal) (f : Refusal) →
    a ≡ Err f →
    none ≡ record_checks r →
    verdict (Err f) ≡ own_checks e r →
    Edits e r r (said a)
unfolding edit_checks
own_refuses {e} {r} a f gave ok was =
    refused_edit a f gave (subst (λ (v : Verdict). verdict (Err f) ≡ v then own_checks e r) ok was)

pub edit_makes :
    {e : Edit} {r after : Record} → none ≡ record_checks r → none ≡ own_checks e r → after ≡ changed e r → Edits e r after (answered 0)
unfolding edited edit_checks
edit_makes ok own is = record { gives = rw (sym ok, sym own) refl; leaves = rw (sym ok, sym own) is }
