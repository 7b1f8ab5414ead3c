-- What the words of a state and the tables stand for: the bytes so far, or an outcome that is there; and what one call makes of it.
use Rattle.std.specs.Prelude.{Result, Ok, Err, List, [], ◌++◌, ◌≡◌, refl, ℕ, ◌+◌, min, ◌≤◌, length, get_or, drop}
use Rattle.std.proofs.Common.{sym, ap, subst, ◌∙◌, arith, drop-drop}
use Rattle.rules.specs.Outcome.{Outcome, none, refused, answered}
use Rattle.rules.specs.Reading.{Limits}
use Rattle.rules.specs.Portions.{SoFar, reading, over, LentBetween, Meaning, limits_with, KeptBetween, Further, Portioned}
use Rattle.grammar.specs.Machine.{live, ended}
use Rattle.grammar.specs.SoFar.{run_so_far}
use Rattle.reading_rooms.specs.Cleared.{TablesZero}
use Rattle.parity_game.specs.Said.{refusal, refusal_of}
use Rattle.parity_game.specs.Laws.{refused_outcome}
use Rattle.pgsolver_acts.specs.declared.state.State.{State}
use Rattle.pgsolver_step.specs.Steps.{Fitting}
use Rattle.parity_game.specs.declared.refusal.Refusal.{Refusal}
use Rattle.pgsolver_portion.specs.Reached.{BytesReached, PortionStopped, PortionBegins, begins_reached, Takes}
use Rattle.pgsolver_words.specs.Words.{state_in, most_in, place_in, KeepsReading, Gives}

abbrev pub lent_of : List ℕ → List ℕ → List ℕ → List ℕ → List ℕ → LentBetween
lent_of s o p f t = record { state = s; owners = o; priorities = p; offsets = f; targets = t }

-- 9 and 10 are not given
pub record FitLent (r : LentBetween) : Type 0 where
  pub fitting : Fitting r.owners r.priorities r.offsets
  pub long : 32 ≤ length r.state

-- ---- what state and tables stand for

pub record ReadingIn (mostBytes : ℕ) (bytes : List ℕ) (r : LentBetween) : Type 0 where
  pub kind : get_or r.state 0 0 ≡ 0
  pub most : most_in r.state ≡ mostBytes
  pub reached :
      BytesReached mostBytes bytes (place_in r.state) (state_in r.state) r.owners r.priorities r.offsets r.targets

-- the outcome in the words
abbrev pub outcome_in : List ℕ → Outcome
outcome_in s = record { number = get_or s 1 0; place = get_or s 2 0; count = 0 }

pub record OverIn (g : Outcome) (n m : ℕ) (r : LentBetween) : Type 0 where
  pub kind : get_or r.state 0 0 ≡ 1
  pub gives : outcome_in r.state ≡ g
  pub vertices : get_or r.state 3 0 ≡ n
  pub edges : get_or r.state 4 0 ≡ m

abbrev pub Stands : Meaning
Stands (reading mostBytes bytes) r = ReadingIn mostBytes bytes r
Stands (over g n m) r = OverIn g n m r

-- ---- what each part of a call makes of it

pub record Starts (mostBytes : ℕ) (before after : LentBetween) : Type 0 where
  pub stands : Stands (reading mostBytes []) after
  pub kept : KeptBetween before after

pub record GoesOn (portion : List ℕ) (before after : LentBetween) (o : Outcome) : Type 0 where
  pub further :
      (mostBytes : ℕ) (bytes : List ℕ) →
      ReadingIn mostBytes bytes before →
      Further Stands mostBytes (bytes ++ portion) before after o
  pub kept : KeptBetween before after

-- tables keep their lengths
pub record SerialLengths (o p f t o' p' f' t' : List ℕ) : Type 0 where
  pub owners : length o' ≡ length o
  pub priorities : length p' ≡ length p
  pub offsets : length f' ≡ length f
  pub targets : length t' ≡ length t

-- 13 words were written, so those beyond 32 stay
beyond_13 : (s s' : List ℕ) → drop 13 s' ≡ drop 13 s → drop 32 s' ≡ drop 32 s
beyond_13 s s' e = sym (drop-drop 19 13 s') ∙ ap (drop 19) e ∙ drop-drop 19 13 s

pub kept_all :
    (s o p f t s' o' p' f' t' : List ℕ) →
    SerialLengths o p f t o' p' f' t' →
    length s' ≡ length s →
    drop 13 s' ≡ drop 13 s →
    KeptBetween (lent_of s o p f t) (lent_of s' o' p' f' t')
kept_all s o p f t s' o' p' f' t' same long behind =
    record {
      owners = same.owners;
      priorities = same.priorities;
      offsets = same.offsets;
      targets = same.targets;
      state = long;
      behind = beyond_13 s s' behind;
    }

-- a reading that was kept is found
kept_reading :
    (mostBytes : ℕ) (bytes : List ℕ) (place : ℕ) (x : State) (s s' o p f t : List ℕ) →
    BytesReached mostBytes bytes place x o p f t →
    KeepsReading mostBytes place x s s' →
    ReadingIn mostBytes bytes (lent_of s' o p f t)
kept_reading mostBytes bytes place x s s' o p f t h k =
    let at : place ≡ place_in s' = omega (arith, k.at, k.bytes, h.within) in
    record {
      kind = k.kind;
      most = k.bytes;
      reached =
          subst (λ (y : State). BytesReached mostBytes bytes (place_in s') y o p f t) (sym k.state)
          (subst (λ (q : ℕ). BytesReached mostBytes bytes q x o p f t) at h);
    }

-- ---- start

pub starts :
    (mostBytes : ℕ) (x : State) (s o p f t s' o' p' f' t' : List ℕ) →
    SerialLengths o p f t o' p' f' t' →
    length s' ≡ length s →
    PortionBegins x o' p' f' t' →
    KeepsReading mostBytes 0 x s s' →
    Starts mostBytes (lent_of s o p f t) (lent_of s' o' p' f' t')
starts mostBytes x s o p f t s' o' p' f' t' same long begins keeps =
    record {
      stands =
          kept_reading mostBytes [] 0 x s s' o' p' f' t' (begins_reached mostBytes x o' p' f' t' begins) keeps;
      kept = kept_all s o p f t s' o' p' f' t' same long keeps.behind;
    }

-- ---- a portion

module _ (portion s o p f t : List ℕ) (x : Result State Refusal) (o' p' f' t' s' : List ℕ) (same : SerialLengths o p f t o' p' f' t')
    (long : length s' ≡ length s)
    (takes : Takes (most_in s) (place_in s) (state_in s) portion o p f t x o' p' f' t') where
  abbrev before : LentBetween
  before = lent_of s o p f t

  abbrev after : LentBetween
  after = lent_of s' o' p' f' t'

  limits_same : limits_with (most_in s) after ≡ limits_with (most_in s) before
  limits_same =
      λ i.
      record { bytes = most_in s; vertices = min 4096 (same.owners i); edges = min 16384 (same.targets i) }

  told : (y : Result State Refusal) → x ≡ y → Takes (most_in s) (place_in s) (state_in s) portion o p f t y o' p' f' t'
  told y is = subst (λ (z : Result State Refusal). Takes (most_in s) (place_in s) (state_in s) portion o p f t z o' p' f' t') is takes

  -- the most bytes are those in the words
  at_most :
      (u : Outcome) →
      ((bytes : List ℕ) → ReadingIn (most_in s) bytes before → Further Stands (most_in s) (bytes ++ portion) before after u) →
      (mostBytes : ℕ) (bytes : List ℕ) →
      ReadingIn mostBytes bytes before →
      Further Stands mostBytes (bytes ++ portion) before after u
  at_most u go mostBytes bytes h =
      subst (λ (k : ℕ). Further Stands k (bytes ++ portion) before after u) h.most
      (go bytes (subst (λ (k : ℕ). ReadingIn k bytes before) (sym h.most) h))

  -- the portion is read
  pub goes_on :
      (n : State) →
      x ≡ Ok n →
      KeepsReading (most_in s) (place_in s + length portion) n s s' →
      GoesOn portion before after (answered 0)
  goes_on n is keeps =
      record {
        further =
            at_most (answered 0)
            (λ bytes h.
            let now : BytesReached (most_in s) (bytes ++ portion) (place_in s + length portion) n o' p' f' t' =
            (told (Ok n) is).more bytes h.reached in
            let r = now.remains in
            record {
              verdict = none;
              so_far =
                  subst (λ (l : Limits). SoFar l (bytes ++ portion) none) limits_same
                  (run_so_far (limits_with (most_in s) after) (bytes ++ portion) now.small (live r.machine) r.runs);
              goes =
                  (refl, kept_reading (most_in s) (bytes ++ portion) (place_in s + length portion) n s s' o' p' f' t' now keeps);
            });
        kept = kept_all s o p f t s' o' p' f' t' same long keeps.behind;
      }

  -- one of its bytes is refused
  pub goes_over :
      (e : Refusal) →
      x ≡ Err e →
      Gives (refusal_of e).number (refusal_of e).place 0 0 s s' →
      GoesOn portion before after (refusal_of e)
  goes_over e is gives =
      let k = (refusal_of e).number in
      let q = (refusal_of e).place in
      let plain : refusal_of e ≡ refusal k q = refused_outcome e (refused k q) (answered 0) refl in
      let zero : TablesZero o p f t o' p' f' t' = (told (Err e) is).clear in
      record {
        further =
            at_most (refusal_of e)
            (λ bytes h.
            let now : PortionStopped (most_in s) (bytes ++ portion) o' t' k q = (told (Err e) is).more bytes h.reached in
            record {
              verdict = refused k q;
              so_far =
                  subst (λ (l : Limits). SoFar l (bytes ++ portion) (refused k q)) limits_same
                  (run_so_far (limits_with (most_in s) after) (bytes ++ portion) now.small (ended (refused k q)) now.runs);
              goes = (
                plain,
                record {
                  owners = zero.owners;
                  priorities = zero.priorities;
                  offsets = zero.offsets;
                  targets = zero.targets;
                },
                record {
                  kind = gives.kind;
                  gives = (λ i. record { number = gives.says i; place = gives.at i; count = 0 }) ∙ sym plain;
                  vertices = gives.vertices;
                  edges = gives.edges;
                },
              );
            });
        kept = kept_all s o p f t s' o' p' f' t' same long gives.behind;
      }

module _ (portion s o p f t : List ℕ) where
  abbrev lent : LentBetween
  lent = lent_of s o p f t

  -- the outcome is there: nothing changes
  pub portioned_again : get_or s 0 0 ≡ 1 → Portioned Stands portion lent lent (outcome_in s)
  portioned_again there =
      record {
        further = λ mostBytes bytes h. absurd (omega (arith, there, h.kind));
        again = λ g n m h. (h.gives, refl);
        kept = record { owners = refl; priorities = refl; offsets = refl; targets = refl; state = refl; behind = refl };
      }

  pub portioned_on :
      (after : LentBetween) (o : Outcome) →
      (get_or s 0 0 ≡ 1 → ⊥) →
      GoesOn portion lent after o →
      Portioned Stands portion lent after o
  portioned_on after o not goes =
      record { further = goes.further; again = λ g n m h. absurd (not h.kind); kept = goes.kept }
