-- Cutting a text at any bytes changes nothing: a start, portions and the end, each handed what the call before it left, give what
-- reading the whole text gives. It goes for every meaning of state and tables that keeps the rules' promises.
use Rattle.std.specs.Prelude.{List, [], ◌++◌, ◌⊎◌, not, ◌||◌, ◌≡◌, refl, ℕ, ◌+◌, min, ◌≤◌, eqb, ltb, length, drop, replicate}
use Rattle.std.proofs.Common.{inl, inr, sym, ap, subst, ◌∙◌}
use Rattle.rules.specs.Outcome.{Outcome, Verdict, none, refused, given, outcome, answered, ◌then◌, Unless}
use Rattle.rules.specs.Pgsolver.{unsaid}
use Rattle.rules.specs.Reading.{Limits, Reads, Told, room_checks, ReadsBy, ReadsText, game, Written, Rooms, read_checks, written}
use Rattle.rules.specs.Reading.{tables_read}
use Rattle.rules.specs.Portions.{SoFar, reading, over, LentBetween, Meaning, rooms_with, limits_with, lent_checks, KeptBetween}
use Rattle.rules.specs.Portions.{Emptied, Started, Portioned, Closing, written_in, used_in, ClosedBy, EndsReading}
use Rattle.rules.specs.Portions.{Session, Goes}
use Rattle.grammar.specs.OneReading.{reads_one}
use Rattle.grammar.specs.SoFar.{so_far_longer}
use Rattle.reading_rooms.specs.Cleared.{all_zero_holding}
use Rattle.arrange.specs.Laws.{AlikeRooms}
use Rattle.parity_game.specs.Said.{refusal}
use Rattle.pgsolver_end.specs.Told.{told_alike}
use Rattle.pgsolver_serial.specs.Calls.{fit_lent}
use Rattle.pgsolver_close.specs.Checks.{end_unfit, end_fit}

-- ---- lengths decide

kept_on : {a b c : LentBetween} → KeptBetween a b → KeptBetween b c → KeptBetween a c
kept_on x y =
    record {
      owners = y.owners ∙ x.owners;
      priorities = y.priorities ∙ x.priorities;
      offsets = y.offsets ∙ x.offsets;
      targets = y.targets ∙ x.targets;
      state = y.state ∙ x.state;
      behind = y.behind ∙ x.behind;
    }

checks_kept : (a b : LentBetween) → KeptBetween a b → lent_checks b ≡ lent_checks a
unfolding lent_checks
checks_kept a b k =
    λ i.
    given 9 0 (not (eqb (k.priorities i) (k.owners i)) || not (eqb (k.offsets i) (k.owners i + 1))) then
    given 10 0 (ltb (k.state i) 32)

limits_kept : (mostBytes : ℕ) (a b : LentBetween) → KeptBetween a b → limits_with mostBytes b ≡ limits_with mostBytes a
limits_kept mostBytes a b k =
    λ i. record { bytes = mostBytes; vertices = min 4096 (k.owners i); edges = min 16384 (k.targets i) }

emptied_kept : (a b c : LentBetween) → KeptBetween a b → Emptied b c → Emptied a c
emptied_kept a b c k e =
    record {
      owners = e.owners ∙ ap (λ (n : ℕ). replicate n 0) k.owners;
      priorities = e.priorities ∙ ap (λ (n : ℕ). replicate n 0) k.priorities;
      offsets = e.offsets ∙ ap (λ (n : ℕ). replicate n 0) k.offsets;
      targets = e.targets ∙ ap (λ (n : ℕ). replicate n 0) k.targets;
    }

-- ---- along a session

-- one of the bytes was refused, and that outcome is there
pub record Refused (S : Meaning) (mostBytes : ℕ) (first : LentBetween) (bytes : List ℕ) (now : LentBetween) : Type 0 where
  pub number : ℕ
  pub place : ℕ
  pub so_far : SoFar (limits_with mostBytes first) bytes (refused number place)
  pub stands : S (over (refusal number place) 0 0) now
  pub empty : Emptied first now

pub record AlongCut (S : Meaning) (mostBytes : ℕ) (first : LentBetween) (bytes : List ℕ) (now : LentBetween) : Type 0 where
  pub passes : lent_checks first ≡ none
  pub kept : KeptBetween first now
  pub standing : S (reading mostBytes bytes) now ⊎ Refused S mostBytes first bytes now

goes_standing :
    (S : Meaning) (mostBytes : ℕ) (first before after : LentBetween) (bytes : List ℕ) (o : Outcome) (v : Verdict) →
    KeptBetween first before →
    SoFar (limits_with mostBytes before) bytes v →
    Goes S mostBytes bytes before after o v →
    S (reading mostBytes bytes) after ⊎ Refused S mostBytes first bytes after
goes_standing S mostBytes first before after bytes o none k so_far goes = inl goes.1
goes_standing S mostBytes first before after bytes o (refused j q) k so_far goes =
    inr
    (record {
      number = j;
      place = q;
      so_far =
          subst (λ (l : Limits). SoFar l bytes (refused j q)) (limits_kept mostBytes first before k) so_far;
      stands = subst (λ (u : Outcome). S (over u 0 0) after) goes.0 goes.2;
      empty = emptied_kept first before after k goes.1;
    })

-- one portion more
standing_on :
    (S : Meaning) (mostBytes : ℕ) (first before after : LentBetween) (bytes p : List ℕ) (o : Outcome) →
    KeptBetween first before →
    Portioned S p before after o →
    S (reading mostBytes bytes) before ⊎ Refused S mostBytes first bytes before →
    S (reading mostBytes (bytes ++ p)) after ⊎ Refused S mostBytes first (bytes ++ p) after
standing_on S mostBytes first before after bytes p o k call (inl h) =
    let f = call.further mostBytes bytes h in
    goes_standing S mostBytes first before after (bytes ++ p) o f.verdict k f.so_far f.goes
standing_on S mostBytes first before after bytes p o k call (inr r) =
    let same = call.again (refusal r.number r.place) 0 0 r.stands in
    inr
    (record {
      number = r.number;
      place = r.place;
      so_far = so_far_longer bytes p r.so_far;
      stands = subst (λ (x : LentBetween). S (over (refusal r.number r.place) 0 0) x) (sym same.1) r.stands;
      empty = subst (λ (x : LentBetween). Emptied first x) (sym same.1) r.empty;
    })

pub along :
    {S : Meaning} {mostBytes : ℕ} {first now : LentBetween} {bytes : List ℕ} →
    Session S mostBytes first bytes now →
    AlongCut S mostBytes first bytes now
along {S} {mostBytes} {first} (Session.started after o passes starts) =
    let it : Started S mostBytes first after o =
    subst (λ (v : Verdict). Unless v o first after (Started S mostBytes first after o)) passes starts in
    record { passes = passes; kept = it.kept; standing = inl it.stands }
along {S} {mostBytes} {first} (Session.portion bytes p before after o session reads) =
    let so_far = along session in
    let call : Portioned S p before after o =
    subst (λ (v : Verdict). Unless v o before after (Portioned S p before after o))
    (checks_kept first before so_far.kept ∙ so_far.passes) reads in
    record {
      passes = so_far.passes;
      kept = kept_on so_far.kept call.kept;
      standing = standing_on S mostBytes first before after bytes p o so_far.kept call so_far.standing;
    }

-- the state stays as long as the start asked
pub session_long :
    {S : Meaning} {mostBytes : ℕ} {first : LentBetween} {bytes : List ℕ} (lent : LentBetween) →
    Session S mostBytes first bytes lent →
    32 ≤ length lent.state
session_long {first = first} lent session =
    let a = along session in (fit_lent lent (checks_kept first lent a.kept ∙ a.passes)).long

-- ---- the end

stopped_reads : {l : Limits} {bytes : List ℕ} {k p : ℕ} → SoFar l bytes (refused k p) → Reads l bytes (refused k p) unsaid []
stopped_reads (SoFar.stopped h r) = r

told_at_end :
    (S : Meaning) (mostBytes : ℕ) (first : LentBetween) (bytes : List ℕ) (before after : Closing) (o : Outcome) →
    AlongCut S mostBytes first bytes before.lent →
    ClosedBy S before after o →
    S (reading mostBytes bytes) before.lent ⊎ Refused S mostBytes first bytes before.lent →
    Told game mostBytes bytes (written_in before).rooms (written_in after) o
told_at_end S mostBytes first bytes before after o a closed (inl h) = (closed.ends mostBytes bytes h).told
told_at_end S mostBytes first bytes before after o a closed (inr r) =
    let same = closed.again (refusal r.number r.place) 0 0 r.stands in
    let k = a.kept in
    record {
      verdict = refused r.number r.place;
      header = unsaid;
      entries = [];
      reads =
          subst (λ (l : Limits). Reads l bytes (refused r.number r.place) unsaid [])
          (sym (limits_kept mostBytes first before.lent k))
          (stopped_reads r.so_far);
      gives = same.0;
      leaves =
          ap written_in same.1 ∙
          (λ i.
          record {
            rooms =
                all_zero_holding (written_in before).rooms
                (rooms_with before.lent (replicate (used_in before) 0 ++ drop (used_in before) before.work))
                (record {
                  owners = r.empty.owners ∙ ap (λ (n : ℕ). replicate n 0) (sym k.owners);
                  priorities = r.empty.priorities ∙ ap (λ (n : ℕ). replicate n 0) (sym k.priorities);
                  offsets = r.empty.offsets ∙ ap (λ (n : ℕ). replicate n 0) (sym k.offsets);
                  targets = r.empty.targets ∙ ap (λ (n : ℕ). replicate n 0) (sym k.targets);
                  work = refl;
                })
                i;
            n = 0;
            m = 0;
          });
    }

-- The end gives and leaves what the rules say of reading all the bytes that came at once, 9 and 10 among it.
pub cut_anyhow :
    {S : Meaning} {mostBytes : ℕ} {first : LentBetween} {bytes : List ℕ} (before after : Closing) (o : Outcome) →
    Session S mostBytes first bytes before.lent →
    EndsReading S before after o →
    ReadsText game mostBytes bytes (written_in before) (written_in after) o
cut_anyhow {S} {mostBytes} {first} {bytes} before after o session ends = go (room_checks (written_in before).rooms) refl
  where
    a : AlongCut S mostBytes first bytes before.lent
    a = along session

    At : Verdict → Type 0
    At v = Unless v o before after (ClosedBy S before after o)

    go :
        (v : Verdict) →
        room_checks (written_in before).rooms ≡ v →
        ReadsBy v game mostBytes bytes (written_in before) (written_in after) o
    go none e =
        let fits = end_fit before.lent before.work e (session_long before.lent session) in
        told_at_end S mostBytes first bytes before after o a (subst At fits ends)
        a.standing
    go (refused k p) e =
        let nothing = subst At (end_unfit before.lent before.work k p e) ends in
        (nothing.0, ap written_in nothing.1)

-- ---- the same as reading the whole text

told_one :
    (mostBytes : ℕ) (bytes : List ℕ) (r : Rooms) (w w' : Written) (o o' : Outcome) →
    Told game mostBytes bytes r w o →
    Told game mostBytes bytes r w' o' →
    (o ≡ o') × (w ≡ w')
told_one mostBytes bytes r w w' o o' x y =
    let e = reads_one x.reads y.reads in (
      x.gives ∙
          (λ i. outcome (read_checks game (e.0 i) (e.1 i) (e.2 i)) (answered 0)) ∙
          sym y.gives,
      x.leaves ∙
          (λ i. written (read_checks game (e.0 i) (e.1 i) (e.2 i)) (tables_read (e.2 i)) r) ∙
          sym y.leaves,
    )

-- Where 9 and 10 are not given, reading all the bytes at once into the rooms as they were before the start gives the same number and
-- place and leaves the same tables, sizes and work area.
pub cut_as_whole :
    {S : Meaning} {mostBytes : ℕ} {first : LentBetween} {bytes : List ℕ} (before after : Closing) (o : Outcome) (whole : Written)
    (u : Outcome) →
    Session S mostBytes first bytes before.lent →
    EndsReading S before after o →
    room_checks (rooms_with first before.work) ≡ none →
    Told game mostBytes bytes (rooms_with first before.work) whole u →
    (o ≡ u) × (written_in after ≡ whole)
unfolding room_checks
cut_as_whole {S} {mostBytes} {first} {bytes} before after o whole u session ends passes told =
    let k = (along session).kept in
    let here : room_checks (written_in before).rooms ≡ none =
    (λ i.
    given 9 0 (not (eqb (k.priorities i) (k.owners i)) || not (eqb (k.offsets i) (k.owners i + 1))) then
    given 10 0 (ltb (length before.work) (k.owners i + k.targets i))) ∙
    passes in
    let mine : Told game mostBytes bytes (written_in before).rooms (written_in after) o =
    subst (λ (v : Verdict). ReadsBy v game mostBytes bytes (written_in before) (written_in after) o) here
    (cut_anyhow before after o session ends) in
    let there : AlikeRooms (rooms_with first before.work) (written_in before).rooms =
    record {
      owners = sym k.owners;
      priorities = sym k.priorities;
      offsets = sym k.offsets;
      targets = sym k.targets;
      work = refl;
    } in
    told_one mostBytes bytes (written_in before).rooms (written_in after) whole o u mine
    (told_alike game mostBytes bytes (rooms_with first before.work) (written_in before).rooms whole u there told)
