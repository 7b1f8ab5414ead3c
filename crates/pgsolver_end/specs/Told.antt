-- The end of a text in the words of the rules: what it gives and leaves is what they say of the bytes that came.
use Rattle.std.specs.Prelude.{Result, Ok, Err, not, ◌||◌, List, [], ◌++◌, ◌≡◌, refl, ℕ, suc, ◌+◌, ◌-◌, min, eqb, ltb, length, drop, replicate}
use Rattle.std.proofs.Common.{sym, ap, subst, ◌∙◌, add-one, arith, eqb-true, ltb-false, take_at, drop_at}
use Rattle.std.proofs.lemmas.Bool.{not-false}
use Rattle.std.proofs.lemmas.List.{length-replicate}
use Rattle.rules.specs.Outcome.{Outcome, Verdict, none, refused, given, outcome, answered, ◌then◌}
use Rattle.rules.specs.Pgsolver.{Entry, unsaid}
use Rattle.rules.specs.Reading as Rules
use Rattle.rules.specs.Reading.{Limits, Rooms, Written, limits_of, reading_words, room_checks, check31, tables_read, holding}
use Rattle.rules.specs.Reading.{no_tables, written, list_asked, read_checks, entry_of, targets_up_to, Reads}
use Rattle.rules.specs.Tables.{Tables}
use Rattle.basics.specs.Basics.{length_listed, or_false_both}
use Rattle.accepted.specs.Tables.{then_none, given_none}
use Rattle.grammar.specs.Correct.{machine_reads}
use Rattle.grammar.specs.Machine.{Run, Read, reading_of, end_of, nothing_read}
use Rattle.arrange.specs.Laws.{rooms_of, AlikeRooms, alike_holding}
use Rattle.parity_game.specs.Said.{refusal, refusal_of, verdict}
use Rattle.parity_game.specs.Laws.{refused_outcome}
use Rattle.pgsolver_acts.specs.declared.state.State.{State}
use Rattle.pgsolver_step.specs.Steps.{Fitting}
use Rattle.pgsolver_portion.specs.Reached.{BytesReached, PortionStopped}
use Rattle.pgsolver_finish.specs.Finishing.{Area, Finishable, fronts, left, Finishes, Wiped}
use Rattle.parity_game.specs.declared.refusal.Refusal.{Refusal}
use Rattle.pgsolver_end.specs.Telling.{InOrder, WithinAs, Tells}

-- 9 and 10 are not given
pub record Fitted (r : Rooms) : Type 0 where
  pub fitting : Fitting r.owners r.priorities r.offsets
  pub area : Area r

pub fitted : (r : Rooms) → room_checks r ≡ none → Fitted r
unfolding room_checks
fitted r passes =
    let sizes = not (eqb (length r.priorities) (length r.owners)) in
    let one = not (eqb (length r.offsets) (length r.owners + 1)) in
    let both =
    then_none (given 9 0 (sizes || one)) (given 10 0 (ltb (length r.work) (reading_words r))) passes in
    let fit = or_false_both sizes one (given_none 9 0 (sizes || one) both.0) in
    record {
      fitting =
          record {
            as_many = eqb-true (length r.priorities) (length r.owners) (not-false _ fit.0);
            one_more = eqb-true (length r.offsets) (length r.owners + 1) (not-false _ fit.1);
          };
      area = ltb-false (length r.work) (reading_words r) (given_none 10 0 (ltb (length r.work) (reading_words r)) both.1);
    }

-- whatever bytes the state and the tables stand for, what the rules say of these; and always words that are not used stay
pub record EndsText (asks : Rules.Asks) (s : State) (place : ℕ) (before : Rooms) (after : Written) (o : Outcome) : Type 0 where
  pub told :
      (mostBytes : ℕ) (bytes : List ℕ) →
      BytesReached mostBytes bytes place s before.owners before.priorities before.offsets before.targets →
      Rules.Told asks mostBytes bytes before after o
  pub behind : drop (reading_words before) after.rooms.work ≡ drop (reading_words before) before.work

-- ---- one check after another

then_refused :
    (u v w : Verdict) (k p : ℕ) → (u then v) ≡ refused k p → (u then v then w) ≡ refused k p
then_refused none none w k p h = let z : ◌≡◌ {A = ℕ} 0 1 = cc in absurd (omega arith)
then_refused none (refused j q) w k p h = h
then_refused (refused j q) v w k p h = h

then_passed : (u v w : Verdict) → (u then v) ≡ none → (u then v then w) ≡ w
then_passed none none w h = refl
then_passed none (refused j q) w h = let z : ◌≡◌ {A = ℕ} 0 1 = cc in absurd (omega arith)
then_passed (refused j q) v w h = let z : ◌≡◌ {A = ℕ} 0 1 = cc in absurd (omega arith)

-- ---- tables in their rooms

abbrev sized : Rooms → ℕ → ℕ → Written
sized r n m = record { rooms = r; n = n; m = m }

-- what stands behind a table in its room
abbrev behind_it : List ℕ → List ℕ → List ℕ
behind_it room xs = replicate (length room - length xs) 0

tables_long :
    (es : List Entry) →
    (length (tables_read es).priorities ≡ length es) × (length (tables_read es).offsets ≡ suc (length es))
unfolding tables_read
tables_long es =
    (length_listed (length es) (λ i. (entry_of es i).priority), length_listed (suc (length es)) (λ i. length (targets_up_to es i)))

-- what a verdict on the list leaves is what the rules say
left_written :
    (v : Verdict) (t : Tables) (n m : ℕ) (r r₀ : Rooms) →
    n ≡ length t.owners →
    m ≡ length t.targets →
    r ≡ holding t r₀ →
    holding no_tables r ≡ holding no_tables r₀ →
    left v n m r ≡ written v t r₀
left_written none t n m r r₀ en em holds empty = λ i. record { rooms = holds i; n = en i; m = em i }
left_written (refused k p) t n m r r₀ en em holds empty = λ i. record { rooms = empty i; n = 0; m = 0 }

-- words that are not used stay where the used ones are zero
zero_behind : (used : ℕ) (w : List ℕ) → drop used (replicate used 0 ++ drop used w) ≡ drop used w
zero_behind used w = drop_at (replicate used 0) (drop used w) used (length-replicate {A = ℕ} used 0)

left_behind :
    (v : Verdict) (n m : ℕ) (r : Rooms) → drop (reading_words r) (left v n m r).rooms.work ≡ drop (reading_words r) r.work
left_behind none n m r = refl
left_behind (refused k p) n m r = zero_behind (reading_words r) r.work

-- ---- from what is told to what is given and left

module _ (asks : Rules.Asks) (s : State) (place : ℕ) (o p f t w : List ℕ) (x : Result (ℕ × ℕ) Refusal) (f' t' w' : List ℕ)
    (fits : Fitted (rooms_of o p f t w)) (lf : length f' ≡ length f) (lt : length t' ≡ length t)
    (lw : length w' ≡ length w) (tells : Tells s place (length o) f t w x f' t' w') where
  abbrev before : Rooms
  before = rooms_of o p f t w

  abbrev told : Rooms
  told = rooms_of o p f' t' w'

  used_same : reading_words told ≡ reading_words before
  used_same = ap (λ (k : ℕ). length o + k) lt

  alike : AlikeRooms told before
  alike =
      record {
        owners = refl;
        priorities = refl;
        offsets = lf;
        targets = lt;
        work = subst (λ (k : ℕ). drop k w' ≡ drop k w) (sym used_same) tells.behind;
      }

  pub told_area : Area told
  told_area = omega (arith, fits.area, used_same, lw)

  -- what a step on the told rooms leaves behind the used words
  onward : (after : Rooms) → drop (reading_words told) after.work ≡ drop (reading_words told) w' →
      drop (reading_words before) after.work ≡ drop (reading_words before) w
  onward after e = ap (λ (k : ℕ). drop k after.work) (sym used_same) ∙ e ∙ ap (λ (k : ℕ). drop k w') used_same ∙ tells.behind

  said : (y : Result (ℕ × ℕ) Refusal) → x ≡ y → Tells s place (length o) f t w y f' t' w'
  said y is = subst (λ (z : Result (ℕ × ℕ) Refusal). Tells s place (length o) f t w z f' t' w') is tells

  -- 30 or 31: zero everywhere
  pub ends_refused :
      (e : Refusal) (after : Written) →
      x ≡ Err e →
      Wiped told after →
      EndsText asks s place before after (refusal_of e)
  ends_refused e after is wiped =
      record {
        told = λ mostBytes bytes read. gives mostBytes bytes read;
        behind =
            ap (λ (r : Written). drop (reading_words before) r.rooms.work) wiped ∙
            onward (holding no_tables told) (zero_behind (reading_words told) w');
      }
    where
      gives :
          (mostBytes : ℕ) (bytes : List ℕ) →
          BytesReached mostBytes bytes place s o p f t →
          Rules.Told asks mostBytes bytes before after (refusal_of e)
      gives mostBytes bytes reached =
          let read = reading_of (limits_of mostBytes before) bytes in
          let tables = tables_read read.entries in
          let stops : read_checks asks read.verdict read.header read.entries ≡ verdict (Err e) =
          then_refused read.verdict (check31 read.header read.entries) (list_asked asks tables) (refusal_of e).number
          (refusal_of e).place
          ((said (Err e) is).says mostBytes bytes o p refl reached) in
          record {
            verdict = read.verdict;
            header = read.header;
            entries = read.entries;
            reads = machine_reads (limits_of mostBytes before) bytes reached.small;
            gives = refused_outcome e _ (answered 0) (sym stops);
            leaves =
                wiped ∙ ap (λ (r : Rooms). sized r 0 0) (alike_holding no_tables told before alike) ∙
                sym (ap (λ (v : Verdict). written v tables before) stops);
          }

  module _ (n m : ℕ) (is : x ≡ Ok (n, m)) where
    within : WithinAs (length o) (length t) (Ok (n, m))
    within = (said (Ok (n, m)) is).within

    pub ends_finishable : Finishable n m told
    ends_finishable =
        record {
          fronts =
              record {
                owners = within.0;
                priorities = omega (arith, within.0, fits.fitting.as_many);
                offsets = omega (arith, within.0, lf, fits.fitting.one_more);
                targets = omega (arith, within.1, lt);
              };
          area = told_area;
        }

    -- the list decides
    pub ends_finished :
        (after : Written) (u : Outcome) → Finishes asks n m told after u → EndsText asks s place before after u
    ends_finished after u finishes =
        record {
          told = λ mostBytes bytes reached. gives mostBytes bytes reached;
          behind =
              ap (λ (r : Written). drop (reading_words before) r.rooms.work) finishes.leaves ∙
              onward (left (list_asked asks (fronts n m told)) n m told).rooms
              (left_behind (list_asked asks (fronts n m told)) n m told);
        }
      where
        gives :
            (mostBytes : ℕ) (bytes : List ℕ) →
            BytesReached mostBytes bytes place s o p f t →
            Rules.Told asks mostBytes bytes before after u
        gives mostBytes bytes reached =
            let read = reading_of (limits_of mostBytes before) bytes in
            let tables = tables_read read.entries in
            let here : InOrder read before told n m = (said (Ok (n, m)) is).says mostBytes bytes o p refl reached in
            let sizes = tables_long read.entries in
            let passes : read_checks asks read.verdict read.header read.entries ≡ list_asked asks tables =
            then_passed read.verdict (check31 read.header read.entries) (list_asked asks tables) here.passes in
            let front : fronts n m told ≡ tables =
            ap (λ (r : Rooms). fronts n m r) here.holds ∙
            (λ i.
            record {
              owners = take_at tables.owners (behind_it o tables.owners) n (here.many ∙ sym here.records) i;
              priorities = take_at tables.priorities (behind_it p tables.priorities) n (sizes.0 ∙ sym here.records) i;
              offsets =
                  take_at tables.offsets (behind_it f tables.offsets) (n + 1)
                  (sizes.1 ∙ sym (add-one n ∙ ap suc here.records)) i;
              targets = take_at tables.targets (behind_it t tables.targets) m (here.all ∙ sym here.edges) i;
            }) in
            record {
              verdict = read.verdict;
              header = read.header;
              entries = read.entries;
              reads = machine_reads (limits_of mostBytes before) bytes reached.small;
              gives =
                  finishes.gives ∙ ap (λ (y : Tables). outcome (list_asked asks y) (answered 0)) front ∙
                  sym (ap (λ (v : Verdict). outcome v (answered 0)) passes);
              leaves =
                  finishes.leaves ∙ ap (λ (y : Tables). left (list_asked asks y) n m told) front ∙
                  left_written (list_asked asks tables) tables n m told before (here.records ∙ sym here.many)
                  (here.edges ∙ sym here.all) here.holds (alike_holding no_tables told before alike) ∙
                  sym (ap (λ (v : Verdict). written v tables before) passes);
            }

-- ---- other rooms of the same lengths

written_alike : (v : Verdict) (t : Tables) (r r' : Rooms) → AlikeRooms r r' → written v t r ≡ written v t r'
written_alike none t r r' a = λ i. record { rooms = alike_holding t r r' a i; n = length t.owners; m = length t.targets }
written_alike (refused k p) t r r' a = λ i. record { rooms = alike_holding no_tables r r' a i; n = 0; m = 0 }

pub limits_alike : (mostBytes : ℕ) (r r' : Rooms) → AlikeRooms r r' → limits_of mostBytes r ≡ limits_of mostBytes r'
limits_alike mostBytes r r' a =
    λ i. record { bytes = mostBytes; vertices = min 4096 (a.owners i); edges = min 16384 (a.targets i) }

-- what is told of rooms goes for all that have their lengths and the same words that are not used
pub told_alike :
    (asks : Rules.Asks) (mostBytes : ℕ) (bytes : List ℕ) (r r' : Rooms) (after : Written) (o : Outcome) →
    AlikeRooms r r' →
    Rules.Told asks mostBytes bytes r after o →
    Rules.Told asks mostBytes bytes r' after o
told_alike asks mostBytes bytes r r' after o a told =
    record {
      verdict = told.verdict;
      header = told.header;
      entries = told.entries;
      reads =
          subst (λ (l : Limits). Reads l bytes told.verdict told.header told.entries) (limits_alike mostBytes r r' a)
          told.reads;
      gives = told.gives;
      leaves =
          told.leaves ∙
          written_alike (read_checks asks told.verdict told.header told.entries) (tables_read told.entries) r r' a;
    }

-- a byte that was refused decides
pub stopped_told :
    (asks : Rules.Asks) (mostBytes : ℕ) (bytes : List ℕ) (r : Rooms) (after : Written) (k q : ℕ) →
    PortionStopped mostBytes bytes r.owners r.targets k q →
    Wiped r after →
    Rules.Told asks mostBytes bytes r after (refusal k q)
unfolding end_of
stopped_told asks mostBytes bytes r after k q stopped wiped =
    let l = limits_of mostBytes r in
    let read : reading_of l bytes ≡ nothing_read (refused k q) =
    ap (λ (x : Run). end_of (length bytes) x) stopped.runs in
    record {
      verdict = refused k q;
      header = unsaid;
      entries = [];
      reads = subst (λ (x : Read). Reads l bytes x.verdict x.header x.entries) read (machine_reads l bytes stopped.small);
      gives = refl;
      leaves = wiped;
    }
