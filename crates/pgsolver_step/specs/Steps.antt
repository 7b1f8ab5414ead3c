-- What one byte leaves: the machine that the state shows, and what waits for it in the tables.
use Rattle.std.specs.Prelude.{Result, Ok, Err, Bool, cond, List, [], ◌∷◌, ◌++◌, ◌≡◌, ℕ, ◌+◌, min, ◌≤◌, ◌<◌, ltb, length, get_or, set}
use Rattle.std.proofs.Common.{⊎_elim, sym, ap, subst, ◌∙◌, arith, ltb-true, ltb-false, length-append}
use Rattle.rules.specs.Pgsolver.{Entry, with_target}
use Rattle.rules.specs.Reading.{Limits, targets_in}
use Rattle.grammar.specs.Machine.{Machine, Went, on, off, over, class_of, step_from}
use Rattle.grammar.specs.Waiting.{Waits}
use Rattle.basics.specs.Basics.{bool_cases}
use Rattle.pgsolver_acts.specs.declared.state.State.{State}
use Rattle.pgsolver_moves.specs.declared.moves.Move.{Move}
use Rattle.pgsolver_moves.specs.declared.moves.Move.TheVariants as Moves
use Rattle.pgsolver_moves.specs.declared.moves.Stop.{Stop}
use Rattle.pgsolver_moves.specs.declared.moves.Stop.TheVariants.{Off, Over}
use Rattle.pgsolver_acts.specs.Shown.{state_of}
use Rattle.pgsolver_acts.specs.Acts.{act_on}
use Rattle.pgsolver_moves.specs.Moves.{move_of}
use Rattle.pgsolver_step.specs.Follows.{Standing, Reaches, Follows, follows}
use Rattle.pgsolver_step.specs.Waited.{word_next, waits_aimed, waits_passed, waits_kept}

-- ---- what the functions ask for and promise

-- the rooms fit each other
pub record Fitting (o p f : List ℕ) : Type 0 where
  pub as_many : length p ≡ length o
  pub one_more : length f ≡ length o + 1

-- and the limits keep within them, and within document 01's
pub record LimitRoom (vertices edges : ℕ) (o p f t : List ℕ) : Type 0 where
  pub fitting : Fitting o p f
  pub few : vertices ≤ 4096
  pub short : edges ≤ 16384
  pub within : vertices ≤ length o
  pub inside : edges ≤ length t

-- a record is written at its identifier, or passed over
pub record ClosesAt (i owner priority begins : ℕ) (o p f o' p' f' : List ℕ) : Type 0 where
  pub owners : o' ≡ cond (ltb i (length o)) (set o i (min 255 owner)) o
  pub priorities : p' ≡ cond (ltb i (length o)) (set p i priority) p
  pub offsets : f' ≡ cond (ltb i (length o)) (set f i (word_next (get_or f i 0) begins)) f

abbrev pub Closes : State → List ℕ → List ℕ → List ℕ → List ℕ → List ℕ → List ℕ → Type 0
Closes s o p f o' p' f' = ClosesAt s.identifier s.owner s.priority s.begins o p f o' p' f'

-- the state shows the machine, and the tables hold what it has read
pub record HoldsReading (l : Limits) (m : Machine) (s : State) (o p f t : List ℕ) : Type 0 where
  pub shown : s ≡ state_of m
  pub standing : Standing m.phase l m
  pub waits : Waits m.entries m.current.targets o p f t

-- a step goes on to such a machine
pub record Continues (l : Limits) (w : Went) (s : State) (o p f t : List ℕ) : Type 0 where
  pub next : Machine
  pub goes : w ≡ on next
  pub holds : HoldsReading l next s o p f t

abbrev pub Stepped : Limits → Went → Result State Stop → List ℕ → List ℕ → List ℕ → List ℕ → Type 0
Stepped l w (Ok s) o p f t = Continues l w s o p f t
Stepped l w (Err Off) o p f t = w ≡ off
Stepped l w (Err Over) o p f t = w ≡ over

abbrev pub limits : ℕ → ℕ → ℕ → Limits
limits bytes vertices edges = record { bytes = bytes; vertices = vertices; edges = edges }

-- One byte: whatever machine the state shows, its step and the code's agree.
abbrev pub Steps :
    ℕ → ℕ → State → ℕ → List ℕ → List ℕ → List ℕ → List ℕ → Result State Stop → List ℕ → List ℕ → List ℕ → List ℕ → Type 0
Steps vertices edges s b o p f t r o' p' f' t' =
    (bytes : ℕ) (m : Machine) →
    HoldsReading (limits bytes vertices edges) m s o p f t →
    Stepped (limits bytes vertices edges) (step_from m.phase (limits bytes vertices edges) m b (class_of b)) r o' p' f' t'

-- ---- laws, one for each move

reached :
    (l : Limits) (w : Went) (s : State) (es : List Entry) (ts o p f t : List ℕ) →
    Reaches l w s es ts →
    Waits es ts o p f t →
    Continues l w s o p f t
reached l w s es ts o p f t r h =
    record {
      next = r.next;
      goes = r.goes;
      holds =
          record {
            shown = r.shown;
            standing = r.standing;
            waits =
                subst (λ (xs : List Entry). Waits xs r.next.current.targets o p f t) (sym r.entries)
                (subst (λ (xs : List ℕ). Waits es xs o p f t) (sym r.targets) h);
          };
    }

waits_in :
    (es : List Entry) (o p f t o' p' f' : List ℕ) →
    o' ≡ o →
    p' ≡ p →
    f' ≡ f →
    Waits es [] o p f t →
    Waits es [] o' p' f' t
waits_in es o p f t o' p' f' eo ep ef h =
    subst (λ (x : List ℕ). Waits es [] x p' f' t) (sym eo)
    (subst (λ (x : List ℕ). Waits es [] o x f' t) (sym ep) (subst (λ (x : List ℕ). Waits es [] o p x t) (sym ef) h))

-- a record that is written is one more that waits
closes_waits :
    (es : List Entry) (e : Entry) (o p f t o' p' f' : List ℕ) →
    Waits es e.targets o p f t →
    0 < length e.targets →
    length es < length o →
    ClosesAt e.identifier e.owner e.priority (targets_in es) o p f o' p' f' →
    Waits (es ++ (e ∷ [])) [] o' p' f' t
closes_waits es e o p f t o' p' f' h some few closes =
    ⊎_elim
    (λ within.
    waits_in (es ++ (e ∷ [])) (set o e.identifier (min 255 e.owner)) (set p e.identifier e.priority)
    (set f e.identifier (word_next (get_or f e.identifier 0) (targets_in es)))
    t
    o'
    p'
    f'
    (closes.owners ∙ ap (λ (x : Bool). cond x (set o e.identifier (min 255 e.owner)) o) within)
    (closes.priorities ∙ ap (λ (x : Bool). cond x (set p e.identifier e.priority) p) within)
    (closes.offsets ∙
    ap (λ (x : Bool). cond x (set f e.identifier (word_next (get_or f e.identifier 0) (targets_in es))) f) within)
    (waits_kept es e o p f t h some few (ltb-true e.identifier (length o) within)))
    (λ past.
    waits_in (es ++ (e ∷ [])) o p f t o' p' f'
    (closes.owners ∙ ap (λ (x : Bool). cond x (set o e.identifier (min 255 e.owner)) o) past)
    (closes.priorities ∙ ap (λ (x : Bool). cond x (set p e.identifier e.priority) p) past)
    (closes.offsets ∙
    ap (λ (x : Bool). cond x (set f e.identifier (word_next (get_or f e.identifier 0) (targets_in es))) f) past)
    (waits_passed es e o p f t h some few (ltb-false e.identifier (length o) past)))
    (bool_cases (ltb e.identifier (length o)))

module _ (vertices edges b : ℕ) (s : State) (o p f t : List ℕ) (room : LimitRoom vertices edges o p f t) where
  abbrev move_on : Result Move Stop
  move_on = move_of (act_on (class_of b) s.phase) s b vertices edges

  module _ (bytes : ℕ) (m : Machine) (h : HoldsReading (limits bytes vertices edges) m s o p f t) where
    abbrev lim : Limits
    lim = limits bytes vertices edges

    abbrev went : Went
    went = step_from m.phase lim m b (class_of b)

    followed : (x : Result Move Stop) → move_on ≡ x → Follows lim m went x
    followed x is =
        subst (λ (y : Result Move Stop). Follows lim m went y) is
        (subst (λ (c : State). Follows lim m went (move_of (act_on (class_of b) c.phase) c b vertices edges)) (sym h.shown)
        (follows lim room.few room.short b m h.standing))

  pub steps_on : (n : State) → move_on ≡ Ok (Moves.On n) → Steps vertices edges s b o p f t (Ok n) o p f t
  steps_on n is bytes m h =
      reached (limits bytes vertices edges) (went bytes m h) n m.entries m.current.targets o p f t
      (followed bytes m h (Ok (Moves.On n)) is)
      h.waits

  pub steps_off : move_on ≡ Err Off → Steps vertices edges s b o p f t (Err Off) o p f t
  steps_off is bytes m h = followed bytes m h (Err Off) is

  pub steps_over : move_on ≡ Err Over → Steps vertices edges s b o p f t (Err Over) o p f t
  steps_over is bytes m h = followed bytes m h (Err Over) is

  pub steps_stop : (e : Stop) → move_on ≡ Err e → Steps vertices edges s b o p f t (Err e) o p f t
  steps_stop Off is = steps_off is
  steps_stop Over is = steps_over is

  pub steps_aim :
      (n : State) (t' : List ℕ) →
      move_on ≡ Ok (Moves.Aim n) →
      t' ≡ set t s.edges s.value →
      Steps vertices edges s b o p f t (Ok n) o p f t'
  steps_aim n t' is written bytes m h =
      let l = limits bytes vertices edges in
      let y = followed bytes m h (Ok (Moves.Aim n)) is in
      let at : t' ≡ set t (state_of m).edges m.value =
      written ∙ ap (λ (c : State). set t c.edges c.value) h.shown in
      reached l (went bytes m h) n m.entries (m.current.targets ++ (m.value ∷ [])) o p f t' y.1
      (subst (λ (x : List ℕ). Waits m.entries (m.current.targets ++ (m.value ∷ [])) o p f x) (sym at)
      (waits_aimed m.entries m.current.targets o p f t m.value h.waits (omega (arith, y.0, room.inside))
      (omega (arith, y.0, room.short))))

  pub steps_close :
      (n : State) (o' p' f' : List ℕ) →
      move_on ≡ Ok (Moves.Close n) →
      Closes s o p f o' p' f' →
      Steps vertices edges s b o p f t (Ok n) o' p' f' t
  steps_close n o' p' f' is closes bytes m h =
      let l = limits bytes vertices edges in
      let y = followed bytes m h (Ok (Moves.Close n)) is in
      reached l (went bytes m h) n (m.entries ++ (m.current ∷ [])) [] o' p' f' t y.1
      (closes_waits m.entries m.current o p f t o' p' f' h.waits y.0.1 (omega (arith, y.0.0, room.within))
      (subst (λ (c : State). Closes c o p f o' p' f') h.shown closes))

  pub steps_aim_close :
      (n : State) (o' p' f' t' : List ℕ) →
      move_on ≡ Ok (Moves.AimClose n) →
      t' ≡ set t s.edges s.value →
      Closes s o p f o' p' f' →
      Steps vertices edges s b o p f t (Ok n) o' p' f' t'
  steps_aim_close n o' p' f' t' is written closes bytes m h =
      let l = limits bytes vertices edges in
      let y = followed bytes m h (Ok (Moves.AimClose n)) is in
      let e = with_target m.current m.value in
      let at : t' ≡ set t (state_of m).edges m.value =
      written ∙ ap (λ (c : State). set t c.edges c.value) h.shown in
      reached l (went bytes m h) n (m.entries ++ (e ∷ [])) [] o' p' f' t' y.1
      (closes_waits m.entries e o p f t' o' p' f'
      (subst (λ (x : List ℕ). Waits m.entries (m.current.targets ++ (m.value ∷ [])) o p f x) (sym at)
      (waits_aimed m.entries m.current.targets o p f t m.value h.waits (omega (arith, y.0.1, room.inside))
      (omega (arith, y.0.1, room.short))))
      (omega (arith, length-append m.current.targets (m.value ∷ [])))
      (omega (arith, y.0.0, room.within))
      (subst (λ (c : State). Closes c o p f o' p' f') h.shown closes))
