-- What a text says, and what stands in the rooms then.
use Rattle.std.specs.Prelude.{Result, Ok, Err, Bool, true, false, List, ◌++◌, ◌≡◌, refl, ℕ, ◌+◌, min, ◌≤◌, length, drop, replicate}
use Rattle.std.proofs.Common.{sym, ap, subst, ◌∙◌, arith, drop_at}
use Rattle.std.proofs.lemmas.List.{length-replicate}
use Rattle.rules.specs.Outcome.{Verdict, none, ◌then◌}
use Rattle.rules.specs.Pgsolver.{Header, unsaid, highest}
use Rattle.rules.specs.Reading.{Limits, Rooms, check31, targets_in, tables_read, holding}
use Rattle.grammar.specs.Machine.{Read, reading_of}
use Rattle.arrange.specs.Laws.{rooms_of, seen_checks_lem, check31_once, waits_ready, ordered_holding, sizes_read}
use Rattle.arrange_steps.specs.Promises.{RecordsReady, Orders}
use Rattle.reading_rooms.specs.Said.{header_from, seen_checks}
use Rattle.pgsolver_acts.specs.declared.state.State.{State}
use Rattle.pgsolver_acts.specs.Shown.{is_said, said_of}
use Rattle.pgsolver_step.specs.Portions.{limits_in}
use Rattle.pgsolver_portion.specs.Reached.{BytesReached}
use Rattle.parity_game.specs.declared.refusal.Refusal.{Refusal}
use Rattle.parity_game.specs.declared.refusal.Refusal.TheVariants.{BadText}
use Rattle.parity_game.specs.Said.{verdict}
use Rattle.pgsolver_end.specs.Ending.{may_end_on, RecordsFound, ends_early, ends_whole}

-- the offsets are one more than the vertices that there is room for, and the work area is long enough
pub record Tellable (room : ℕ) (f t w : List ℕ) : Type 0 where
  pub one_more : length f ≡ room + 1
  pub area : room + length t ≤ length w

-- 30 or 32, then 31
abbrev pub text_checks : Read → Verdict
text_checks r = r.verdict then check31 r.header r.entries

-- the records stand in order
pub record InOrder (read : Read) (before after : Rooms) (n m : ℕ) : Type 0 where
  pub passes : text_checks read ≡ none
  pub records : n ≡ length read.entries
  pub edges : m ≡ targets_in read.entries
  pub holds : after ≡ holding (tables_read read.entries) before
  pub many : length (tables_read read.entries).owners ≡ length read.entries
  pub all : length (tables_read read.entries).targets ≡ targets_in read.entries
  pub few : length read.entries ≤ length before.owners
  pub room : targets_in read.entries ≤ length before.targets

abbrev pub TellsAs : Read → Rooms → Rooms → Result (ℕ × ℕ) Refusal → Type 0
TellsAs read before after (Ok (n, m)) = InOrder read before after n m
TellsAs read before after (Err e) = text_checks read ≡ verdict (Err e)

-- how many records and targets there are is within their rooms
abbrev pub WithinAs : ℕ → ℕ → Result (ℕ × ℕ) Refusal → Type 0
WithinAs room edges (Ok (n, m)) = (n ≤ room) × (m ≤ edges)
WithinAs room edges (Err e) = Unit {0}

-- whatever bytes the state and the tables stand for, what these say; and always words that are not used stay
pub record Tells (s : State) (place room : ℕ) (f t w : List ℕ) (r : Result (ℕ × ℕ) Refusal) (f' t' w' : List ℕ) : Type 0 where
  pub says :
      (mostBytes : ℕ) (bytes o p : List ℕ) →
      length o ≡ room →
      BytesReached mostBytes bytes place s o p f t →
      TellsAs (reading_of (limits_in mostBytes o t) bytes) (rooms_of o p f t w) (rooms_of o p f' t' w') r
  pub within : WithinAs room (length t) r
  pub behind : drop (room + length t) w' ≡ drop (room + length t) w

-- N as the state has it is N as the text says it
header_shown : (h : Header) → header_from (is_said h) (said_of h) ≡ h
header_shown unsaid = refl
header_shown (highest k) = refl

-- ---- from the records that were found

module _ (l : Limits) (text : List ℕ) (s : State) (o p f t : List ℕ) (found : RecordsFound l text s o p f t) where
  abbrev seen31 : Verdict
  seen31 = seen_checks s.records (header_from s.said s.highest) f

  header_kept : header_from s.said s.highest ≡ found.header
  header_kept =
      ap (λ (b : Bool). header_from b s.highest) found.said ∙
      ap (λ (k : ℕ). header_from (is_said found.header) k) found.highest ∙
      header_shown found.header

  seen_31 : seen31 ≡ check31 found.header found.entries
  seen_31 =
      ap (λ (h : Header). seen_checks s.records h f) header_kept ∙
      seen_checks_lem found.header s.records found.waits found.records

  module _ (w : List ℕ) (n m room : ℕ) (long : length o ≡ room) (counts : n ≡ min s.records room)
      (ends : m ≡ min s.edges (length t)) where
    -- the counts are within their rooms already
    all_records : n ≡ s.records
    all_records = omega (arith, found.records, found.waits.few_records)

    all_edges : m ≡ s.edges
    all_edges = omega (arith, found.edges, found.waits.room)

    -- what the check of the identifiers gives is what the text gets
    pub found_checks :
        (v : Verdict) → v ≡ seen_checks n (header_from s.said s.highest) f → text_checks (reading_of l text) ≡ v
    found_checks v e =
        ap text_checks found.reads ∙ sym seen_31 ∙
        ap (λ (k : ℕ). seen_checks k (header_from s.said s.highest) f) (sym all_records) ∙
        sym e

    -- put in order, they are what the rules say
    pub found_in_order :
        (f' t' w' : List ℕ) →
        none ≡ seen_checks n (header_from s.said s.highest) f →
        room + length t ≤ length w →
        Orders n m room f t w f' t' w' →
        InOrder (reading_of l text) (rooms_of o p f t w) (rooms_of o p f' t' w') n m
    found_in_order f' t' w' passes area orders =
        let es = found.entries in
        let right : check31 found.header es ≡ none =
        sym seen_31 ∙ ap (λ (k : ℕ). seen_checks k (header_from s.said s.highest) f) (sym all_records) ∙ sym passes in
        let once = check31_once found.header es right in
        let ready : RecordsReady es n m room f t w =
        subst (λ (k : ℕ). RecordsReady es n m k f t w) long
        (waits_ready found.waits once n m w (all_records ∙ found.records) (all_edges ∙ found.edges) (omega arith)) in
        let clear : w' ≡ replicate (length o + length t) 0 ++ drop (length o + length t) w =
        subst (λ (k : ℕ). w' ≡ replicate (k + length t) 0 ++ drop (k + length t) w) (sym long) orders.clear in
        let sizes = sizes_read found.waits once in
        subst (λ (r : Read). InOrder r (rooms_of o p f t w) (rooms_of o p f' t' w') n m) (sym found.reads)
        (record {
          passes = right;
          records = all_records ∙ found.records;
          edges = all_edges ∙ found.edges;
          holds = ordered_holding found.waits once w (orders.orders es ready) clear;
          many = sizes.0;
          all = sizes.1;
          few = found.waits.few_records;
          room = omega (arith, found.waits.room);
        })

-- ---- what is told

module _ (s : State) (place room : ℕ) (f t w : List ℕ) where
  -- the text may not end here
  pub tells_early : may_end_on s.phase s.records ≡ false → Tells s place room f t w (Err (BadText place)) f t w
  tells_early h =
      record {
        says = λ mostBytes bytes o p long read. ap text_checks (ends_early mostBytes bytes place s o p f t read h);
        within = tt;
        behind = refl;
      }

  module _ (may : may_end_on s.phase s.records ≡ true) (n m : ℕ) (counts : n ≡ min s.records room)
      (ends : m ≡ min s.edges (length t)) where
    -- the identifiers are not right
    pub tells_wrong :
        (e : Refusal) → verdict (Err e) ≡ seen_checks n (header_from s.said s.highest) f → Tells s place room f t w (Err e)
        f t w
    tells_wrong e is =
        record {
          says =
              λ mostBytes bytes o p long read.
              found_checks (limits_in mostBytes o t) bytes s o p f t (ends_whole mostBytes bytes place s o p f t read may) w n m
              room
              long
              counts
              ends
              (verdict (Err e))
              is;
          within = tt;
          behind = refl;
        }

    -- the records stand in order
    pub tells_whole :
        (f' t' w' : List ℕ) →
        none ≡ seen_checks n (header_from s.said s.highest) f →
        room + length t ≤ length w →
        Orders n m room f t w f' t' w' →
        Tells s place room f t w (Ok (n, m)) f' t' w'
    tells_whole f' t' w' e area orders =
        record {
          says =
              λ mostBytes bytes o p long read.
              found_in_order (limits_in mostBytes o t) bytes s o p f t (ends_whole mostBytes bytes place s o p f t read may) w
              n m
              room
              long
              counts
              ends
              f'
              t'
              w'
              e
              area
              orders;
          within = (omega arith, omega arith);
          behind =
              ap (drop (room + length t)) orders.clear ∙
              drop_at (replicate (room + length t) 0) (drop (room + length t) w) (room + length t)
              (length-replicate {A = ℕ} (room + length t) 0);
        }
