-- A reading in A1's rooms: a refusal is the line's number and place, and else the rooms hold an accepted game within the limits,
-- whose line is the text's.
use Rattle.std.specs.Prelude.{not, List, map, ◌≡◌, refl, ℕ, suc, ◌+◌, ◌-◌, min, ◌≤◌, eqb, length, take, drop, replicate}
use Rattle.std.proofs.Common.{sym, ap, subst, ◌∙◌, arith, length-append, take_at}
use Rattle.std.proofs.lemmas.List.{length-replicate}
use Rattle.rules.specs.Counting.{times}
use Rattle.rules.specs.Outcome.{Outcome, Verdict, none, refused, given, given_at, outcome, answered, ◌then◌}
use Rattle.rules.specs.Pgsolver.{Header, Entry}
use Rattle.rules.specs.Printing.{refused_line, solved_line, line_of, PrintsText}
use Rattle.rules.specs.Reading.{Reads, beyond, stuck, whole, read_checks, game, check31, wrong_highest, tables_read}
use Rattle.rules.specs.Reading.{Limits, Rooms, Written, written, Told, ReadsBy, ReadsText, room_checks, padded}
use Rattle.rules.specs.Reading.{entry_of, targets_up_to}
use Rattle.rules.specs.Tables.{Tables, tables_of, game_of, table_checks, Accepted}
use Rattle.basics.specs.Basics.{length_listed}
use Rattle.parity_game.specs.Laws.{Numbered, numbered_then, numbered_given, numbered_given_at, numbered_tables}
use Rattle.parity_game.specs.Laws.{zero_none, then_none}
use Rattle.both_engines.specs.Solved.{EnginesGiven}

-- A1's rooms, with nothing in them
abbrev pub rooms : Rooms
rooms =
    record {
      owners = replicate 128 0;
      priorities = replicate 128 0;
      offsets = replicate 129 0;
      targets = replicate 512 0;
      work = replicate 640 0;
    }

abbrev pub before : Written
before = record { rooms = rooms; n = 0; m = 0 }

rooms_fit : room_checks rooms ≡ none
unfolding room_checks
rooms_fit = refl

-- ---- refused

refused_line_lem :
    (v : Verdict) (o : Outcome) (budget : ℕ) (es : List Entry) →
    o ≡ outcome v (answered 0) →
    (o.number ≡ 0 → ⊥) →
    refused_line o.number o.place ≡ line_of v budget es
refused_line_lem none o budget es e some = absurd (some (ap (λ (x : Outcome). x.number) e))
refused_line_lem (refused k p) o budget es e some = ap (λ (x : Outcome). refused_line x.number x.place) e

-- ---- accepted

numbered_reads : {l : Limits} {text : List ℕ} {v : Verdict} {h : Header} {es : List Entry} → Reads l text v h es → Numbered v
numbered_reads (beyond over first clear) = omega arith
numbered_reads (stuck at clear) = omega arith
numbered_reads (whole text clear) = tt

numbered_check31 : (h : Header) (es : List Entry) → Numbered (check31 h es)
unfolding check31
numbered_check31 h es =
    numbered_then (given_at 31 (length es) (λ i. not (eqb (times i (map (λ e. e.identifier) es)) 1)))
    (given 31 (length es) (wrong_highest h (length es)))
    (numbered_given_at 31 (length es) (λ i. not (eqb (times i (map (λ e. e.identifier) es)) 1)) (omega arith))
    (numbered_given 31 (length es) (wrong_highest h (length es)) (omega arith))

numbered_reading :
    {l : Limits} {text : List ℕ} {v : Verdict} {h : Header} {es : List Entry} →
    Reads l text v h es →
    Numbered (read_checks game v h es)
numbered_reading {l} {text} {v} {h} {es} r =
    numbered_then v (check31 h es then table_checks (tables_read es)) (numbered_reads r)
    (numbered_then (check31 h es) (table_checks (tables_read es)) (numbered_check31 h es) (numbered_tables (tables_read es)))

-- a padded table is at the front of its room, and no longer than it
padded_front : (room : ℕ) (xs : List ℕ) (k : ℕ) → length xs ≡ k → take (k - 0) (drop 0 (padded room xs)) ≡ xs
padded_front room xs k e =
    take_at xs (replicate (room - length xs) 0) (k - 0) (e ∙ omega arith)

padded_short : (room : ℕ) (xs : List ℕ) → length (padded room xs) ≡ room → length xs ≤ room
padded_short room xs long =
    omega (arith, long, length-append xs (replicate (room - length xs) 0), length-replicate {A = ℕ} (room - length xs) 0)

-- the front parts of the rooms, as the code cuts them
abbrev pub cut : Written → Tables
cut w =
    tables_of (take (w.n - 0) (drop 0 w.rooms.owners)) (take (w.n - 0) (drop 0 w.rooms.priorities))
    (take (w.n + 1 - 0) (drop 0 w.rooms.offsets))
    (take (w.m - 0) (drop 0 w.rooms.targets))

owners_long : (es : List Entry) → length (tables_read es).owners ≡ length es
unfolding tables_read
owners_long es = length_listed (length es) (λ i. min 255 (entry_of es i).owner)

priorities_long : (es : List Entry) → length (tables_read es).priorities ≡ length (tables_read es).owners
unfolding tables_read
priorities_long es = length_listed (length es) (λ i. (entry_of es i).priority) ∙ sym (owners_long es)

offsets_long : (es : List Entry) → length (tables_read es).offsets ≡ length (tables_read es).owners + 1
unfolding tables_read
offsets_long es =
    length_listed (suc (length es)) (λ i. length (targets_up_to es i)) ∙ omega (arith, owners_long es)

cut_tables : (es : List Entry) → cut (written none (tables_read es) rooms) ≡ tables_read es
cut_tables es =
    let t = tables_read es in
    let n = length t.owners in
    ap (λ (x : List ℕ). tables_of x (take (n - 0) (padded 128 t.priorities)) (take (n + 1 - 0) (padded 129 t.offsets))
    (take (length t.targets - 0) (padded 512 t.targets)))
    (padded_front 128 t.owners n refl) ∙
    ap (λ (x : List ℕ). tables_of t.owners x (take (n + 1 - 0) (padded 129 t.offsets))
    (take (length t.targets - 0) (padded 512 t.targets)))
    (padded_front 128 t.priorities n (priorities_long es)) ∙
    ap (λ (x : List ℕ). tables_of t.owners t.priorities x (take (length t.targets - 0) (padded 512 t.targets)))
    (padded_front 129 t.offsets (n + 1) (offsets_long es)) ∙
    ap (λ (x : List ℕ). tables_of t.owners t.priorities t.offsets x)
    (padded_front 512 t.targets (length t.targets) refl)

-- a text that was read in A1's rooms
module _ (text : List ℕ) (after : Written) (o : Outcome) (read : ReadsText game 16384 text before after o) where
  told : Told game 16384 text rooms after o
  told = subst (λ (v : Verdict). ReadsBy v game 16384 text before after o) rooms_fit read

  -- what is told of it
  abbrev checks : Verdict
  checks = read_checks game told.verdict told.header told.entries

  -- a refusal's line
  pub prints_refused :
      (budget : ℕ) → (o.number ≡ 0 → ⊥) → PrintsText budget text (refused_line o.number o.place)
  prints_refused budget some =
      record {
        verdict = told.verdict;
        header = told.header;
        entries = told.entries;
        reads = told.reads;
        prints = refused_line_lem checks o budget told.entries told.gives some;
      }

  module _ (zero : o.number ≡ 0) where
    passes : checks ≡ none
    passes =
        zero_none checks (answered 0) (numbered_reading told.reads)
        (sym (ap (λ (x : Outcome). x.number) told.gives) ∙ zero)

    left : after ≡ written none (tables_read told.entries) rooms
    left = told.leaves ∙ ap (λ (v : Verdict). written v (tables_read told.entries) rooms) passes

    is_read : cut after ≡ tables_read told.entries
    is_read = ap cut left ∙ cut_tables told.entries

    accepted : Accepted (tables_read told.entries)
    unfolding Accepted
    accepted =
        let listed = table_checks (tables_read told.entries) in
        let numbered = check31 told.header told.entries in
        (then_none numbered listed (then_none told.verdict (numbered then listed) passes).1).1

    -- the sizes keep the rooms
    pub few : length after.rooms.owners ≡ 128 → after.n ≤ 128
    few long =
        let n : after.n ≡ length (tables_read told.entries).owners = ap (λ (w : Written). w.n) left in
        let room = padded_short 128 (tables_read told.entries).owners
        (sym (ap (λ (w : Written). length w.rooms.owners) left) ∙ long) in
        omega arith

    pub short : length after.rooms.targets ≡ 512 → after.m ≤ 512
    short long =
        let m : after.m ≡ length (tables_read told.entries).targets = ap (λ (w : Written). w.m) left in
        let room = padded_short 512 (tables_read told.entries).targets
        (sym (ap (λ (w : Written). length w.rooms.targets) left) ∙ long) in
        omega arith

    -- the game for the engines
    pub game_given :
        (out : List ℕ) →
        256 ≤ length out →
        length after.rooms.owners ≡ 128 →
        length after.rooms.targets ≡ 512 →
        EnginesGiven (cut after) out
    game_given out room owners targets =
        subst (λ (t : Tables). EnginesGiven t out) (sym is_read)
        (record {
          accepted = accepted;
          few = omega (arith, few owners, ap (λ (w : Written). w.n) left);
          short = omega (arith, short targets, ap (λ (w : Written). w.m) left);
          room = room;
        })

    -- and its line
    pub prints_solved :
        (budget : ℕ) (line : List ℕ) → line ≡ solved_line budget (game_of (cut after)) → PrintsText budget text line
    prints_solved budget line is =
        record {
          verdict = told.verdict;
          header = told.header;
          entries = told.entries;
          reads = told.reads;
          prints =
              is ∙ ap (λ (t : Tables). solved_line budget (game_of t)) is_read ∙
              sym (ap (λ (v : Verdict). line_of v budget told.entries) passes);
        }
