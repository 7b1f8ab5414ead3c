-- The whole reading: a start, the text as one portion and the end give what the rules say of the text.
use Rattle.std.specs.Prelude.{Result, Ok, Err, List, [], ◌≡◌, refl, ℕ, ◌+◌, length}
use Rattle.std.proofs.Common.{sym, subst, arith}
use Rattle.rules.specs.Outcome.{Outcome, Verdict, none, answered}
use Rattle.rules.specs.Reading as Rules
use Rattle.rules.specs.Reading.{Rooms, Written, room_checks, ReadsBy, ReadsText}
use Rattle.arrange.specs.Laws.{rooms_of, AlikeRooms}
use Rattle.parity_game.specs.declared.refusal.Refusal.{Refusal}
use Rattle.parity_game.specs.Said.{refusal, refusal_of, verdict}
use Rattle.parity_game.specs.Laws.{refused_outcome}
use Rattle.pgsolver_acts.specs.declared.state.State.{State}
use Rattle.pgsolver_portion.specs.Reached.{PortionBegins, begins_reached, TakenAs, Takes}
use Rattle.pgsolver_finish.specs.Finishing.{Wiped}
use Rattle.pgsolver_end.specs.Told.{Fitted, EndsText, told_alike, stopped_told}

-- tables keep their lengths
pub record SameLengths (o p f t o' p' f' t' : List ℕ) : Type 0 where
  pub owners : length o' ≡ length o
  pub priorities : length p' ≡ length p
  pub offsets : length f' ≡ length f
  pub targets : length t' ≡ length t

-- the first portion begins at the start of the text
pub taken_whole :
    (mostBytes : ℕ) (text : List ℕ) (s : State) (o p f t : List ℕ) (x : Result State Refusal) (o' p' f' t' : List ℕ) →
    PortionBegins s o p f t →
    Takes mostBytes 0 s text o p f t x o' p' f' t' →
    TakenAs mostBytes text (length text) x o' p' f' t'
taken_whole mostBytes text s o p f t x o' p' f' t' begins takes =
    let none_before : 0 + length text ≡ length text = omega arith in
    subst (λ (k : ℕ). TakenAs mostBytes text k x o' p' f' t') none_before
    (takes.more [] (begins_reached mostBytes s o p f t begins))

module _ (asks : Rules.Asks) (mostBytes : ℕ) (text o p f t w : List ℕ) (x : Result State Refusal) (o₂ p₂ f₂ t₂ : List ℕ)
    (fits : Fitted (rooms_of o p f t w)) (same : SameLengths o p f t o₂ p₂ f₂ t₂)
    (said : TakenAs mostBytes text (length text) x o₂ p₂ f₂ t₂) where
  abbrev before : Rooms
  before = rooms_of o p f t w

  abbrev taken : Rooms
  taken = rooms_of o₂ p₂ f₂ t₂ w

  alike : AlikeRooms taken before
  alike =
      record {
        owners = same.owners;
        priorities = same.priorities;
        offsets = same.offsets;
        targets = same.targets;
        work = refl;
      }

  pub taken_fitted : Fitted taken
  taken_fitted =
      record {
        fitting =
            record {
              as_many = omega (arith, fits.fitting.as_many, same.owners, same.priorities);
              one_more = omega (arith, fits.fitting.one_more, same.owners, same.offsets);
            };
        area = omega (arith, fits.area, same.owners, same.targets);
      }

  says : (y : Result State Refusal) → x ≡ y → TakenAs mostBytes text (length text) y o₂ p₂ f₂ t₂
  says y is = subst (λ (z : Result State Refusal). TakenAs mostBytes text (length text) z o₂ p₂ f₂ t₂) is said

  -- a byte is refused
  pub read_refused :
      (e : Refusal) (after : Written) →
      x ≡ Err e →
      Wiped taken after →
      Rules.Told asks mostBytes text before after (refusal_of e)
  read_refused e after is wiped =
      let plain : Outcome = refusal (refusal_of e).number (refusal_of e).place in
      subst (λ (u : Outcome). Rules.Told asks mostBytes text before after u)
      (sym (refused_outcome e (verdict (Err e)) (answered 0) refl))
      (told_alike asks mostBytes text taken before after plain alike
      (stopped_told asks mostBytes text taken after _ _ (says (Err e) is) wiped))

  -- the end decides
  pub read_ended :
      (n : State) (after : Written) (u : Outcome) →
      x ≡ Ok n →
      EndsText asks n (length text) taken after u →
      Rules.Told asks mostBytes text before after u
  read_ended n after u is ends =
      told_alike asks mostBytes text taken before after u alike (ends.told mostBytes text (says (Ok n) is))

-- ---- the rooms' checks first

module _ (asks : Rules.Asks) (mostBytes : ℕ) (text : List ℕ) (before : Written) where
  -- 9 or 10: nothing is written
  pub reads_unfit :
      (e : Refusal) → verdict (Err e) ≡ room_checks before.rooms → ReadsText asks mostBytes text before before (refusal_of e)
  reads_unfit e is =
      subst (λ (v : Verdict). ReadsBy v asks mostBytes text before before (refusal_of e)) is
      (refused_outcome e (verdict (Err e)) (answered 0) refl, refl)

  -- else the text decides
  pub reads_fit :
      (after : Written) (o : Outcome) →
      room_checks before.rooms ≡ none →
      Rules.Told asks mostBytes text before.rooms after o →
      ReadsText asks mostBytes text before after o
  reads_fit after o is told =
      subst (λ (v : Verdict). ReadsBy v asks mostBytes text before after o) (sym is) told
