-- A text that ends: what the machine reads of it, and what waits in the tables then.
use Rattle.std.specs.Prelude.{Bool, true, false, cond, List, [], ◌≡◌, refl, ℕ, ◌+◌, ltb, length}
use Rattle.std.proofs.Common.{sym, subst, ◌∙◌, add-zero}
use Rattle.std.proofs.Math.Path.{ap}
use Rattle.rules.specs.Outcome.{none, refused}
use Rattle.rules.specs.Pgsolver.{Entry, Header}
use Rattle.rules.specs.Reading.{Limits, targets_in}
use Rattle.grammar.specs.Machine as Machine
use Rattle.grammar.specs.Machine.{Machine, Run, end_of, reading_of, Read, nothing_read, may_end}
use Rattle.grammar.specs.Waiting.{Waits}
use Rattle.basics.specs.Basics.{clash}
use Rattle.pgsolver_acts.specs.declared.state.Phase.{Phase}
use Rattle.pgsolver_acts.specs.declared.state.Phase.TheVariants.{AtStart, InWord, PastWord, InHighest, PastHighest}
use Rattle.pgsolver_acts.specs.declared.state.Phase.TheVariants.{BetweenRecords}
use Rattle.pgsolver_acts.specs.declared.state.Phase.TheVariants.{InIdentifier, PastIdentifier, InPriority, PastPriority}
use Rattle.pgsolver_acts.specs.declared.state.Phase.TheVariants.{InOwner, PastOwner, InTarget, PastTarget, PastComma, InName}
use Rattle.pgsolver_acts.specs.declared.state.Phase.TheVariants.{PastName}
use Rattle.pgsolver_acts.specs.declared.state.State.{State}
use Rattle.pgsolver_acts.specs.Shown.{phase_of, is_said, said_of}
use Rattle.pgsolver_step.specs.Follows.{Standing}
use Rattle.pgsolver_step.specs.Portions.{Remains, limits_in}
use Rattle.pgsolver_portion.specs.Reached.{run_over, BytesReached}

-- a text may end between records, once there is one
abbrev pub may_end_on : Phase → ℕ → Bool
may_end_on AtStart n = false
may_end_on (InWord k) n = false
may_end_on PastWord n = false
may_end_on InHighest n = false
may_end_on PastHighest n = false
may_end_on BetweenRecords n = ltb 0 n
may_end_on InIdentifier n = false
may_end_on PastIdentifier n = false
may_end_on InPriority n = false
may_end_on PastPriority n = false
may_end_on InOwner n = false
may_end_on PastOwner n = false
may_end_on InTarget n = false
may_end_on PastTarget n = false
may_end_on PastComma n = false
may_end_on InName n = false
may_end_on PastName n = false

-- these records were read, they wait in the tables, and the state has their counts
pub record RecordsFound (l : Limits) (text : List ℕ) (s : State) (o p f t : List ℕ) : Type 0 where
  pub header : Header
  pub entries : List Entry
  pub reads : reading_of l text ≡ record { verdict = none; header = header; entries = entries }
  pub said : s.said ≡ is_said header
  pub highest : s.highest ≡ said_of header
  pub records : s.records ≡ length entries
  pub edges : s.edges ≡ targets_in entries
  pub waits : Waits entries [] o p f t

may_end_shown : (p : Machine.Phase) (es : List Entry) → may_end_on (phase_of p) (length es) ≡ may_end p es
may_end_shown Machine.at_start es = refl
may_end_shown (Machine.in_word k) es = refl
may_end_shown Machine.past_word es = refl
may_end_shown Machine.in_highest es = refl
may_end_shown Machine.past_highest es = refl
may_end_shown Machine.between_records es = refl
may_end_shown Machine.in_identifier es = refl
may_end_shown Machine.past_identifier es = refl
may_end_shown Machine.in_priority es = refl
may_end_shown Machine.past_priority es = refl
may_end_shown Machine.in_owner es = refl
may_end_shown Machine.past_owner es = refl
may_end_shown Machine.in_target es = refl
may_end_shown Machine.past_target es = refl
may_end_shown Machine.past_comma es = refl
may_end_shown Machine.in_name es = refl
may_end_shown Machine.past_name es = refl

-- where a text may end, no target of a further record was read
may_end_aimless :
    (l : Limits) (p : Machine.Phase) (q : Machine) →
    may_end p q.entries ≡ true →
    Standing p l q →
    q.current.targets ≡ []
may_end_aimless l Machine.at_start q h st = absurd (clash h refl)
may_end_aimless l (Machine.in_word k) q h st = absurd (clash h refl)
may_end_aimless l Machine.past_word q h st = absurd (clash h refl)
may_end_aimless l Machine.in_highest q h st = absurd (clash h refl)
may_end_aimless l Machine.past_highest q h st = absurd (clash h refl)
may_end_aimless l Machine.between_records q h st = st
may_end_aimless l Machine.in_identifier q h st = absurd (clash h refl)
may_end_aimless l Machine.past_identifier q h st = absurd (clash h refl)
may_end_aimless l Machine.in_priority q h st = absurd (clash h refl)
may_end_aimless l Machine.past_priority q h st = absurd (clash h refl)
may_end_aimless l Machine.in_owner q h st = absurd (clash h refl)
may_end_aimless l Machine.past_owner q h st = absurd (clash h refl)
may_end_aimless l Machine.in_target q h st = absurd (clash h refl)
may_end_aimless l Machine.past_target q h st = absurd (clash h refl)
may_end_aimless l Machine.past_comma q h st = absurd (clash h refl)
may_end_aimless l Machine.in_name q h st = absurd (clash h refl)
may_end_aimless l Machine.past_name q h st = absurd (clash h refl)

-- ---- from the bytes that were read

module _ (mostBytes : ℕ) (bytes : List ℕ) (place : ℕ) (s : State) (o p f t : List ℕ)
    (read : BytesReached mostBytes bytes place s o p f t) where
  abbrev lim : Limits
  lim = limits_in mostBytes o t

  abbrev left : Remains lim (run_over mostBytes o t bytes) s o p f t
  left = read.remains

  abbrev machine : Machine
  machine = left.machine

  may_end_lem : may_end_on s.phase s.records ≡ may_end machine.phase machine.entries
  may_end_lem =
      ap (λ (c : State). may_end_on c.phase c.records) left.holds.shown ∙
      may_end_shown machine.phase machine.entries

  abbrev ending : Bool → Read
  ending b =
      cond b (record { verdict = none; header = machine.header; entries = machine.entries })
      (nothing_read (refused 30 (length bytes)))

  ended_as : (b : Bool) → may_end_on s.phase s.records ≡ b → reading_of lim bytes ≡ ending b
  unfolding end_of
  ended_as b h =
      ap (λ (x : Run). end_of (length bytes) x) left.runs ∙ ap (λ (x : Bool). ending x) (sym may_end_lem ∙ h)

  -- the text ends too soon or has no record
  pub ends_early : may_end_on s.phase s.records ≡ false → reading_of lim bytes ≡ nothing_read (refused 30 place)
  ends_early h = ended_as false h ∙ ap (λ (k : ℕ). nothing_read (refused 30 k)) (sym read.counted)

  -- the text is whole
  pub ends_whole : may_end_on s.phase s.records ≡ true → RecordsFound lim bytes s o p f t
  ends_whole h =
      let shown = left.holds.shown in
      let none_more = may_end_aimless lim machine.phase machine (sym may_end_lem ∙ h) left.holds.standing in
      record {
        header = machine.header;
        entries = machine.entries;
        reads = ended_as true h;
        said = ap (λ (c : State). c.said) shown;
        highest = ap (λ (c : State). c.highest) shown;
        records = ap (λ (c : State). c.records) shown;
        edges =
            ap (λ (c : State). c.edges) shown ∙
            ap (λ (ts : List ℕ). targets_in machine.entries + length ts) none_more ∙
            add-zero (targets_in machine.entries);
        waits = subst (λ (ts : List ℕ). Waits machine.entries ts o p f t) none_more left.holds.waits;
      }
