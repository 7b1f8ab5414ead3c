-- The code's moves follow the machine's steps: what holds of a machine in each phase, and that each move shows what the
-- step gives.
use Rattle.std.specs.Prelude.{Result, Ok, Err, Bool, cond, List, [], ◌∷◌, ◌++◌, ◌≡◌, ℕ, suc, ◌+◌, ◌-◌, ◌*◌, ◌≤◌, ◌<◌, eqb, ltb, leb, get_or}
use Rattle.std.proofs.Math.Bool.{true, false}
use Rattle.std.proofs.Math.Path.{refl}
use Rattle.std.proofs.Common.{sym, ap, subst, ◌∙◌, add-one, arith}
use borrow.Author.Tests.{ltb-true, leb-true, ne_eqb}
use Rattle.std.proofs.Math.ListN.{length, length-append, get_or-eq_default}
use Rattle.rules.specs.Pgsolver.{separates, is_digit, comma, semicolon, quote, parity_word, Entry, with_target, Header}
use Rattle.rules.specs.Reading.{Limits, highest_number, targets_in}
use Rattle.grammar.specs.Machine as Machine
use Rattle.grammar.specs.Machine.{Machine, Went, on, off, over, class_of, step_from, targets_read, longer, is_letter}
use Rattle.grammar.specs.Machine.{to, reading, headed, identified, ranked, owned, aimed, more, begins}
use Rattle.basics.specs.Basics.{clash, and_left, and_right}
use Rattle.pgsolver_acts.specs.declared.state.State.{State}
use Rattle.pgsolver_acts.specs.declared.state.Phase.TheVariants.{InWord, PastWord, BetweenRecords}
use Rattle.pgsolver_acts.specs.declared.acts.Act.TheVariants as Acts
use Rattle.pgsolver_acts.specs.declared.acts.Act.TheVariants.{To}
use Rattle.pgsolver_moves.specs.declared.moves.Move.{Move}
use Rattle.pgsolver_moves.specs.declared.moves.Move.TheVariants.{On, Aim, Close, AimClose}
use Rattle.pgsolver_moves.specs.declared.moves.Stop.{Stop}
use Rattle.pgsolver_moves.specs.declared.moves.Stop.TheVariants.{Off, Over}
use Rattle.pgsolver_acts.specs.Shown.{phase_of, state_of, counted, to_phase, reading_on, headed_on, identified_on, ranked_on}
use Rattle.pgsolver_acts.specs.Shown.{owned_on}
use Rattle.pgsolver_acts.specs.Shown.{aimed_on, is_said, said_of}
use Rattle.pgsolver_acts.specs.Acts.{on_separator, on_digit, on_comma, on_semicolon, on_quote, on_letter, on_other, act_on}
use Rattle.pgsolver_moves.specs.Moves.{digit_of, more_on, move_of}

-- ---- what holds in each phase

abbrev pub Aimless : Machine → Type 0
Aimless s = s.current.targets ≡ []

-- the record at hand is within the limit
abbrev pub Roomy : Limits → Machine → Type 0
Roomy l s = length s.entries < l.vertices

abbrev pub Aimed : Machine → Type 0
Aimed s = 0 < length s.current.targets

abbrev pub Standing : Machine.Phase → Limits → Machine → Type 0
Standing Machine.at_start l s = Aimless s
Standing (Machine.in_word k) l s = Aimless s
Standing Machine.past_word l s = Aimless s
Standing Machine.in_highest l s = Aimless s
Standing Machine.past_highest l s = Aimless s
Standing Machine.between_records l s = Aimless s
Standing Machine.in_identifier l s = Aimless s × Roomy l s
Standing Machine.past_identifier l s = Aimless s × Roomy l s
Standing Machine.in_priority l s = Aimless s × Roomy l s
Standing Machine.past_priority l s = Aimless s × Roomy l s
Standing Machine.in_owner l s = Aimless s × Roomy l s
Standing Machine.past_owner l s = Roomy l s
Standing Machine.in_target l s = Roomy l s × (targets_read s < l.edges)
Standing Machine.past_target l s = Roomy l s × Aimed s
Standing Machine.past_comma l s = Roomy l s
Standing Machine.in_name l s = Roomy l s × Aimed s
Standing Machine.past_name l s = Roomy l s × Aimed s

-- ---- what a move shows

-- the step goes on to a machine that the state shows, with these whole records and these targets of the record at hand
pub record Reaches (l : Limits) (w : Went) (c : State) (es : List Entry) (ts : List ℕ) : Type 0 where
  pub next : Machine
  pub goes : w ≡ on next
  pub shown : c ≡ state_of next
  pub standing : Standing next.phase l next
  pub entries : next.entries ≡ es
  pub targets : next.current.targets ≡ ts

abbrev pub Follows : Limits → Machine → Went → Result Move Stop → Type 0
Follows l s w (Ok (On c)) = Reaches l w c s.entries s.current.targets
Follows l s w (Err Off) = w ≡ off
Follows l s w (Err Over) = w ≡ over
Follows l s w (Ok (Aim c)) =
    (targets_read s < l.edges) × Reaches l w c s.entries (s.current.targets ++ (s.value ∷ []))
Follows l s w (Ok (Close c)) = (Roomy l s × Aimed s) × Reaches l w c (s.entries ++ (s.current ∷ [])) []
Follows l s w (Ok (AimClose c)) =
    (Roomy l s × (targets_read s < l.edges)) × Reaches l w c (s.entries ++ (with_target s.current s.value ∷ [])) []

-- ---- digits and letters

-- which class was found, by the tests in order
digit_found :
    (s d c e q l : Bool) →
    cond s Machine.separator_byte
    (cond d Machine.digit_byte
    (cond c Machine.comma_byte
    (cond e Machine.semicolon_byte (cond q Machine.quote_byte (cond l Machine.letter_byte Machine.other_byte))))) ≡
    Machine.digit_byte →
    d ≡ true
digit_found true d c e q l h = let z : ◌≡◌ {A = ℕ} 0 1 = cc in absurd (omega arith)
digit_found false true c e q l h = refl
digit_found false false true e q l h = let z : ◌≡◌ {A = ℕ} 0 1 = cc in absurd (omega arith)
digit_found false false false true q l h = let z : ◌≡◌ {A = ℕ} 0 1 = cc in absurd (omega arith)
digit_found false false false false true l h = let z : ◌≡◌ {A = ℕ} 0 1 = cc in absurd (omega arith)
digit_found false false false false false true h = let z : ◌≡◌ {A = ℕ} 0 1 = cc in absurd (omega arith)
digit_found false false false false false false h = let z : ◌≡◌ {A = ℕ} 0 1 = cc in absurd (omega arith)

is_digit_lem : (b : ℕ) → class_of b ≡ Machine.digit_byte → is_digit b ≡ true
unfolding class_of
is_digit_lem b h =
    digit_found (separates b) (is_digit b) (eqb b comma) (eqb b semicolon) (eqb b quote) (is_letter b) h

-- the value of a digit is the lower half of its byte
pub digit_value : (b : ℕ) → class_of b ≡ Machine.digit_byte → digit_of b ≡ b - 48
digit_value b h =
    let low = leb-true 48 b (and_left (leb 48 b) (leb b 57) (is_digit_lem b h)) in
    let high = leb-true b 57 (and_right (leb 48 b) (leb b 57) (is_digit_lem b h)) in
    omega arith

letter_nonzero : (b : ℕ) → class_of b ≡ Machine.letter_byte → b ≡ 0 → ⊥
unfolding class_of
letter_nonzero b h e =
    let zero : Machine.other_byte ≡ Machine.letter_byte = rw e at h in
    let z : ◌≡◌ {A = ℕ} 0 1 = cc in
    omega arith

-- the targets of one record more
pub targets_more : (es : List Entry) (e : Entry) → targets_in (es ++ (e ∷ [])) ≡ targets_in es + length e.targets
unfolding targets_in
targets_more [] e = omega arith
targets_more (f ∷ es) e = omega (arith, targets_more es e)

-- ---- each step is followed

module _ (l : Limits) (few : l.vertices ≤ 4096) (short : l.edges ≤ 16384) (b : ℕ) (h : Header) (es : List Entry)
    (e : Entry) (v : ℕ) where
  abbrev at : Machine.Phase → Machine
  at p = record { phase = p; header = h; entries = es; current = e; value = v }

  -- with other targets
  abbrev aiming : Machine.Phase → List ℕ → Machine
  aiming p ts =
      record {
        phase = p;
        header = h;
        entries = es;
        current = record { identifier = e.identifier; priority = e.priority; owner = e.owner; targets = ts };
        value = v;
      }

  stay : (p : Machine.Phase) → Standing p l (at p) → Reaches l (on (at p)) (state_of (at p)) es e.targets
  stay p st = record { next = at p; goes = refl; shown = refl; standing = st; entries = refl; targets = refl }

  moved :
      (p q : Machine.Phase) → Standing q l (at q) → Follows l (at p) (on (at q)) (Ok (On (to_phase (phase_of q) (state_of (at p)))))
  moved p q st = record { next = at q; goes = refl; shown = refl; standing = st; entries = refl; targets = refl }

  said :
      (p q : Machine.Phase) →
      Standing q l (headed q (at p)) →
      Follows l (at p) (on (headed q (at p))) (Ok (On (headed_on (phase_of q) (state_of (at p)))))
  said p q st =
      record { next = headed q (at p); goes = refl; shown = refl; standing = st; entries = refl; targets = refl }

  named :
      (p : Machine.Phase) →
      e.targets ≡ [] →
      Roomy l (at p) →
      Follows l (at p) (on (identified (at p))) (Ok (On (identified_on (state_of (at p)))))
  named p none room =
      record {
        next = identified (at p);
        goes = refl;
        shown = ap (λ (ts : List ℕ). identified_on (state_of (aiming p ts))) none;
        standing = (refl, room);
        entries = refl;
        targets = sym none;
      }

  placed :
      (p : Machine.Phase) →
      e.targets ≡ [] →
      Roomy l (at p) →
      Follows l (at p) (on (ranked (at p))) (Ok (On (ranked_on (state_of (at p)))))
  placed p none room =
      record {
        next = ranked (at p);
        goes = refl;
        shown = ap (λ (ts : List ℕ). ranked_on (state_of (aiming p ts))) none;
        standing = (refl, room);
        entries = refl;
        targets = sym none;
      }

  given :
      (p : Machine.Phase) →
      e.targets ≡ [] →
      Roomy l (at p) →
      Follows l (at p) (on (owned (at p))) (Ok (On (owned_on (state_of (at p)))))
  given p none room =
      record {
        next = owned (at p);
        goes = refl;
        shown = ap (λ (ts : List ℕ). owned_on (state_of (aiming p ts))) none;
        standing = room;
        entries = refl;
        targets = sym none;
      }

  -- one target more
  one_target :
      targets_in es + length e.targets < l.edges →
      counted (targets_in es + length e.targets) ≡ targets_in es + length (e.targets ++ (v ∷ []))
  one_target room = omega (arith, length-append e.targets (v ∷ []))

  abbrev with_edges : State → ℕ → State
  with_edges s n =
      record {
        phase = s.phase;
        said = s.said;
        highest = s.highest;
        records = s.records;
        edges = n;
        identifier = s.identifier;
        priority = s.priority;
        owner = s.owner;
        begins = s.begins;
        value = s.value;
      }

  struck :
      (p q : Machine.Phase) →
      targets_read (at p) < l.edges →
      Standing q l (aimed q (at p)) →
      Follows l (at p) (on (aimed q (at p))) (Ok (Aim (aimed_on (phase_of q) (state_of (at p)))))
  struck p q room st = (
    room,
    record {
      next = aimed q (at p);
      goes = refl;
      shown = ap (λ (n : ℕ). with_edges (aimed_on (phase_of q) (state_of (at p))) n) (one_target room);
      standing = st;
      entries = refl;
      targets = refl;
    },
  )

  -- the state between records, from its three counts
  abbrev between : ℕ → ℕ → ℕ → State
  between n m k =
      record {
        phase = BetweenRecords;
        said = is_said h;
        highest = said_of h;
        records = n;
        edges = m;
        identifier = 0;
        priority = 0;
        owner = 0;
        begins = k;
        value = 0;
      }

  ended :
      (f : Entry) (m : ℕ) →
      length es < l.vertices →
      m ≡ targets_in es + length f.targets →
      Reaches l
      (on
      (record { phase = Machine.between_records; header = h; entries = es ++ (f ∷ []); current = Machine.no_entry_yet; value = 0 }))
      (between (counted (length es)) m m)
      (es ++ (f ∷ []))
      []
  ended f m room whole =
      let n : counted (length es) ≡ length (es ++ (f ∷ [])) = omega (arith, length-append es (f ∷ [])) in
      let k : m ≡ targets_in (es ++ (f ∷ [])) = whole ∙ sym (targets_more es f) in
      let k0 : m ≡ targets_in (es ++ (f ∷ [])) + 0 = omega arith in
      record {
        next =
            record
            { phase = Machine.between_records; header = h; entries = es ++ (f ∷ []); current = Machine.no_entry_yet; value = 0 };
        goes = refl;
        shown =
            ap (λ (x : ℕ). between x m m) n ∙
            ap (λ (x : ℕ). between (length (es ++ (f ∷ []))) x m) k0 ∙
            ap (λ (x : ℕ). between (length (es ++ (f ∷ []))) (targets_in (es ++ (f ∷ [])) + 0) x) k;
        standing = refl;
        entries = refl;
        targets = refl;
      }

  begun :
      (room : Bool) (p q : Machine.Phase) (d : ℕ) →
      d ≡ b - 48 →
      (room ≡ true → Standing q l (reading q (b - 48) (at p))) →
      Follows l (at p) (begins room q (at p) b) (cond room (Ok (On (reading_on (phase_of q) d (state_of (at p))))) (Err Over))
  begun true p q d same st =
      record {
        next = reading q (b - 48) (at p);
        goes = refl;
        shown = ap (λ (x : ℕ). reading_on (phase_of q) x (state_of (at p))) same;
        standing = st refl;
        entries = refl;
        targets = refl;
      }
  begun false p q d same st = refl

  grew :
      (big : Bool) (p : Machine.Phase) (x : ℕ) →
      Standing p l (reading p x (at p)) →
      Follows l (at p) (cond big over (on (reading p x (at p)))) (cond big (Err Over) (Ok (On (reading_on (phase_of p) x (state_of (at p))))))
  grew true p x st = refl
  grew false p x st =
      record { next = reading p x (at p); goes = refl; shown = refl; standing = st; entries = refl; targets = refl }

  grown :
      (p : Machine.Phase) →
      digit_of b ≡ b - 48 →
      Standing p l (reading p (longer v b) (at p)) →
      Follows l (at p) (more p (at p) b) (more_on (state_of (at p)) b)
  grown p same st =
      subst
      (λ (d : ℕ).
      Follows l (at p) (more p (at p) b)
      (cond (ltb highest_number (10 * v + d)) (Err Over) (Ok (On (reading_on (phase_of p) (10 * v + d) (state_of (at p)))))))
      (sym same)
      (grew (ltb highest_number (longer v b)) p (longer v b) st)

  spelt :
      (past same : Bool) (p : Machine.Phase) (k : ℕ) →
      (past ≡ true → same ≡ false) →
      e.targets ≡ [] →
      Follows l (at p) (cond same (on (to (Machine.in_word (suc k)) (at p))) off)
      (cond past (Err Off) (cond same (Ok (On (to_phase (InWord (k + 1)) (state_of (at p))))) (Err Off)))
  spelt true true p k differs none = let z : true ≡ false = differs refl in absurd (clash refl z)
  spelt true false p k differs none = refl
  spelt false true p k differs none =
      record {
        next = to (Machine.in_word (suc k)) (at p);
        goes = refl;
        shown = ap (λ (n : ℕ). to_phase (InWord n) (state_of (at p))) (add-one k);
        standing = none;
        entries = refl;
        targets = refl;
      }
  spelt false false p k differs none = refl

  -- past the word's end no byte of a letter is the word's
  past_word_lem : (k : ℕ) → class_of b ≡ Machine.letter_byte → leb 6 k ≡ true → eqb b (get_or parity_word k 0) ≡ false
  past_word_lem k letter past =
      let long : length parity_word ≤ k = leb-true 6 k past in
      let none : get_or parity_word k 0 ≡ 0 = get_or-eq_default parity_word 0 long in
      ne_eqb b (get_or parity_word k 0) (λ same. letter_nonzero b letter (same ∙ none))

  word_ended :
      (x : Bool) (k : ℕ) →
      e.targets ≡ [] →
      Follows l (at (Machine.in_word k)) (cond x (on (at Machine.past_word)) off)
      (move_of (cond x (To PastWord) Acts.Off) (state_of (at (Machine.in_word k))) b l.vertices l.edges)
  word_ended true k none = moved (Machine.in_word k) Machine.past_word none
  word_ended false k none = refl

  by_separator :
      (p : Machine.Phase) →
      Standing p l (at p) →
      Follows l (at p) (step_from p l (at p) b Machine.separator_byte)
      (move_of (on_separator (phase_of p)) (state_of (at p)) b l.vertices l.edges)
  unfolding step_from
  by_separator Machine.at_start st = stay Machine.at_start st
  by_separator (Machine.in_word k) st = word_ended (eqb k 6) k st
  by_separator Machine.past_word st = stay Machine.past_word st
  by_separator Machine.in_highest st = said Machine.in_highest Machine.past_highest st
  by_separator Machine.past_highest st = stay Machine.past_highest st
  by_separator Machine.between_records st = stay Machine.between_records st
  by_separator Machine.in_identifier st = named Machine.in_identifier st.0 st.1
  by_separator Machine.past_identifier st = stay Machine.past_identifier st
  by_separator Machine.in_priority st = placed Machine.in_priority st.0 st.1
  by_separator Machine.past_priority st = stay Machine.past_priority st
  by_separator Machine.in_owner st = given Machine.in_owner st.0 st.1
  by_separator Machine.past_owner st = stay Machine.past_owner st
  by_separator Machine.in_target st =
      struck Machine.in_target Machine.past_target st.1 (st.0, omega (arith, length-append e.targets (v ∷ [])))
  by_separator Machine.past_target st = stay Machine.past_target st
  by_separator Machine.past_comma st = stay Machine.past_comma st
  by_separator Machine.in_name st = stay Machine.in_name st
  by_separator Machine.past_name st = stay Machine.past_name st

  by_digit :
      digit_of b ≡ b - 48 →
      (p : Machine.Phase) →
      Standing p l (at p) →
      Follows l (at p) (step_from p l (at p) b Machine.digit_byte)
      (move_of (on_digit (phase_of p)) (state_of (at p)) b l.vertices l.edges)
  unfolding step_from
  by_digit same Machine.at_start st =
      begun (ltb (length es) l.vertices) Machine.at_start Machine.in_identifier (digit_of b) same
      (λ r. (st, ltb-true (length es) l.vertices r))
  by_digit same (Machine.in_word k) st = refl
  by_digit same Machine.past_word st = begun true Machine.past_word Machine.in_highest (digit_of b) same (λ r. st)
  by_digit same Machine.in_highest st = grown Machine.in_highest same st
  by_digit same Machine.past_highest st = refl
  by_digit same Machine.between_records st =
      begun (ltb (length es) l.vertices) Machine.between_records Machine.in_identifier (digit_of b) same
      (λ r. (st, ltb-true (length es) l.vertices r))
  by_digit same Machine.in_identifier st = grown Machine.in_identifier same st
  by_digit same Machine.past_identifier st = begun true Machine.past_identifier Machine.in_priority (digit_of b) same (λ r. st)
  by_digit same Machine.in_priority st = grown Machine.in_priority same st
  by_digit same Machine.past_priority st = begun true Machine.past_priority Machine.in_owner (digit_of b) same (λ r. st)
  by_digit same Machine.in_owner st = grown Machine.in_owner same st
  by_digit same Machine.past_owner st =
      begun (ltb (targets_in es + length e.targets) l.edges) Machine.past_owner Machine.in_target (digit_of b) same
      (λ r. (st, ltb-true (targets_in es + length e.targets) l.edges r))
  by_digit same Machine.in_target st = grown Machine.in_target same st
  by_digit same Machine.past_target st = refl
  by_digit same Machine.past_comma st =
      begun (ltb (targets_in es + length e.targets) l.edges) Machine.past_comma Machine.in_target (digit_of b) same
      (λ r. (st, ltb-true (targets_in es + length e.targets) l.edges r))
  by_digit same Machine.in_name st = stay Machine.in_name st
  by_digit same Machine.past_name st = refl

  by_comma :
      (p : Machine.Phase) →
      Standing p l (at p) →
      Follows l (at p) (step_from p l (at p) b Machine.comma_byte)
      (move_of (on_comma (phase_of p)) (state_of (at p)) b l.vertices l.edges)
  unfolding step_from
  by_comma Machine.at_start st = refl
  by_comma (Machine.in_word k) st = refl
  by_comma Machine.past_word st = refl
  by_comma Machine.in_highest st = refl
  by_comma Machine.past_highest st = refl
  by_comma Machine.between_records st = refl
  by_comma Machine.in_identifier st = refl
  by_comma Machine.past_identifier st = refl
  by_comma Machine.in_priority st = refl
  by_comma Machine.past_priority st = refl
  by_comma Machine.in_owner st = refl
  by_comma Machine.past_owner st = refl
  by_comma Machine.in_target st = struck Machine.in_target Machine.past_comma st.1 st.0
  by_comma Machine.past_target st = moved Machine.past_target Machine.past_comma st.0
  by_comma Machine.past_comma st = refl
  by_comma Machine.in_name st = stay Machine.in_name st
  by_comma Machine.past_name st = refl

  by_semicolon :
      (p : Machine.Phase) →
      Standing p l (at p) →
      Follows l (at p) (step_from p l (at p) b Machine.semicolon_byte)
      (move_of (on_semicolon (phase_of p)) (state_of (at p)) b l.vertices l.edges)
  unfolding step_from
  by_semicolon Machine.at_start st = refl
  by_semicolon (Machine.in_word k) st = refl
  by_semicolon Machine.past_word st = refl
  by_semicolon Machine.in_highest st = said Machine.in_highest Machine.between_records st
  by_semicolon Machine.past_highest st = moved Machine.past_highest Machine.between_records st
  by_semicolon Machine.between_records st = refl
  by_semicolon Machine.in_identifier st = refl
  by_semicolon Machine.past_identifier st = refl
  by_semicolon Machine.in_priority st = refl
  by_semicolon Machine.past_priority st = refl
  by_semicolon Machine.in_owner st = refl
  by_semicolon Machine.past_owner st = refl
  by_semicolon Machine.in_target st =
      (st, ended (with_target e v) (counted (targets_in es + length e.targets)) st.0 (one_target st.1))
  by_semicolon Machine.past_target st = (st, ended e (targets_in es + length e.targets) st.0 refl)
  by_semicolon Machine.past_comma st = refl
  by_semicolon Machine.in_name st = stay Machine.in_name st
  by_semicolon Machine.past_name st = (st, ended e (targets_in es + length e.targets) st.0 refl)

  by_quote :
      (p : Machine.Phase) →
      Standing p l (at p) →
      Follows l (at p) (step_from p l (at p) b Machine.quote_byte)
      (move_of (on_quote (phase_of p)) (state_of (at p)) b l.vertices l.edges)
  unfolding step_from
  by_quote Machine.at_start st = refl
  by_quote (Machine.in_word k) st = refl
  by_quote Machine.past_word st = refl
  by_quote Machine.in_highest st = refl
  by_quote Machine.past_highest st = refl
  by_quote Machine.between_records st = refl
  by_quote Machine.in_identifier st = refl
  by_quote Machine.past_identifier st = refl
  by_quote Machine.in_priority st = refl
  by_quote Machine.past_priority st = refl
  by_quote Machine.in_owner st = refl
  by_quote Machine.past_owner st = refl
  by_quote Machine.in_target st =
      struck Machine.in_target Machine.in_name st.1 (st.0, omega (arith, length-append e.targets (v ∷ [])))
  by_quote Machine.past_target st = moved Machine.past_target Machine.in_name st
  by_quote Machine.past_comma st = refl
  by_quote Machine.in_name st = moved Machine.in_name Machine.past_name st
  by_quote Machine.past_name st = refl

  by_letter :
      class_of b ≡ Machine.letter_byte →
      (p : Machine.Phase) →
      Standing p l (at p) →
      Follows l (at p) (step_from p l (at p) b Machine.letter_byte)
      (move_of (on_letter (phase_of p)) (state_of (at p)) b l.vertices l.edges)
  unfolding step_from
  by_letter letter Machine.at_start st =
      spelt false (eqb b (get_or parity_word 0 0)) Machine.at_start 0 (λ z. absurd (clash z refl)) st
  by_letter letter (Machine.in_word k) st =
      spelt (leb 6 k) (eqb b (get_or parity_word k 0)) (Machine.in_word k) k (past_word_lem k letter) st
  by_letter letter Machine.past_word st = refl
  by_letter letter Machine.in_highest st = refl
  by_letter letter Machine.past_highest st = refl
  by_letter letter Machine.between_records st = refl
  by_letter letter Machine.in_identifier st = refl
  by_letter letter Machine.past_identifier st = refl
  by_letter letter Machine.in_priority st = refl
  by_letter letter Machine.past_priority st = refl
  by_letter letter Machine.in_owner st = refl
  by_letter letter Machine.past_owner st = refl
  by_letter letter Machine.in_target st = refl
  by_letter letter Machine.past_target st = refl
  by_letter letter Machine.past_comma st = refl
  by_letter letter Machine.in_name st = stay Machine.in_name st
  by_letter letter Machine.past_name st = refl

  by_other :
      (p : Machine.Phase) →
      Standing p l (at p) →
      Follows l (at p) (step_from p l (at p) b Machine.other_byte)
      (move_of (on_other (phase_of p)) (state_of (at p)) b l.vertices l.edges)
  unfolding step_from
  by_other Machine.at_start st = refl
  by_other (Machine.in_word k) st = refl
  by_other Machine.past_word st = refl
  by_other Machine.in_highest st = refl
  by_other Machine.past_highest st = refl
  by_other Machine.between_records st = refl
  by_other Machine.in_identifier st = refl
  by_other Machine.past_identifier st = refl
  by_other Machine.in_priority st = refl
  by_other Machine.past_priority st = refl
  by_other Machine.in_owner st = refl
  by_other Machine.past_owner st = refl
  by_other Machine.in_target st = refl
  by_other Machine.past_target st = refl
  by_other Machine.past_comma st = refl
  by_other Machine.in_name st = stay Machine.in_name st
  by_other Machine.past_name st = refl

  by_class_lem :
      (c : Machine.Class) (p : Machine.Phase) →
      class_of b ≡ c →
      Standing p l (at p) →
      Follows l (at p) (step_from p l (at p) b c) (move_of (act_on c (phase_of p)) (state_of (at p)) b l.vertices l.edges)
  by_class_lem Machine.separator_byte p is st = by_separator p st
  by_class_lem Machine.digit_byte p is st = by_digit (digit_value b is) p st
  by_class_lem Machine.comma_byte p is st = by_comma p st
  by_class_lem Machine.semicolon_byte p is st = by_semicolon p st
  by_class_lem Machine.quote_byte p is st = by_quote p st
  by_class_lem Machine.letter_byte p is st = by_letter is p st
  by_class_lem Machine.other_byte p is st = by_other p st

-- What the code moves to follows the machine's step.
pub follows :
    (l : Limits) →
    l.vertices ≤ 4096 →
    l.edges ≤ 16384 →
    (b : ℕ) (s : Machine) →
    Standing s.phase l s →
    Follows l s (step_from s.phase l s b (class_of b))
    (move_of (act_on (class_of b) (phase_of s.phase)) (state_of s) b l.vertices l.edges)
follows l few short b s st =
    by_class_lem l few short b s.header s.entries s.current s.value (class_of b) s.phase refl st
