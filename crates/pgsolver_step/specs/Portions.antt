-- What a portion of a text leaves: the code's reading of its bytes and the machine's run over them agree.
use mathlib.Core.List.{List, [], ◌∷◌, ◌++◌}
use Rattle.std.specs.Prelude.{Result, Ok, Err, ◌≡◌, refl, ℕ, suc, ◌+◌, min, ◌≤◌, ◌<◌, length, get_or, take}
use Rattle.std.proofs.Common.{sym, subst, ◌∙◌, add-zero, add-one, arith, lt-ltb, le-ltb, take-suc, length-take-le}
use Rattle.std.proofs.Math.Path.{ap}
use Rattle.std.proofs.Math.ListN.{drop}
use Rattle.std.proofs.Math.Seq.{take-length, split_at}
use Rattle.rules.specs.Outcome.{Verdict, refused}
use Rattle.rules.specs.Reading.{Limits}
use Rattle.grammar.specs.Machine.{Machine, Went, on, off, over, Run, live, ended, class_of, step_from, step_at, next, run_from}
use Rattle.pgsolver_acts.specs.declared.state.State.{State}
use Rattle.parity_game.specs.declared.refusal.Refusal.{Refusal}
use Rattle.parity_game.specs.declared.refusal.Refusal.TheVariants.{BadText, BeyondLimit}
use Rattle.parity_game.specs.Said.{verdict}
use Rattle.pgsolver_moves.specs.declared.moves.Stop.{Stop}
use Rattle.pgsolver_moves.specs.declared.moves.Stop.TheVariants.{Off, Over}
use Rattle.pgsolver_step.specs.Steps.{Fitting, LimitRoom, HoldsReading, Steps, limits}

-- ---- what a portion promises

-- the run is still live, at a machine that the state shows
pub record Remains (l : Limits) (run : Run) (s : State) (o p f t : List ℕ) : Type 0 where
  pub machine : Machine
  pub runs : run ≡ live machine
  pub holds : HoldsReading l machine s o p f t

abbrev pub Ends : Limits → Run → Result State Refusal → List ℕ → List ℕ → List ℕ → List ℕ → Type 0
Ends l run (Ok s) o p f t = Remains l run s o p f t
Ends l run (Err e) o p f t = run ≡ ended (verdict (Err e))

-- the rooms are the limits, and no game is above document 01's
abbrev pub limits_in : ℕ → List ℕ → List ℕ → Limits
limits_in mostBytes o t = limits mostBytes (min 4096 (length o)) (min 16384 (length t))

-- where bytes are left to read, the next place is at most the limit
abbrev pub Within : ℕ → ℕ → Result State Refusal → Type 0
Within mostBytes after (Ok s) = after ≤ mostBytes
Within mostBytes after (Err (BadText k)) = k < mostBytes
Within mostBytes after (Err (BeyondLimit k)) = k ≤ mostBytes
Within mostBytes after (Err e) = ⊥

-- a portion is refused with 30 or 32, at a byte
abbrev pub AtByte : Result State Refusal → Type 0
AtByte (Ok s) = Unit {0}
AtByte (Err (BadText k)) = Unit {0}
AtByte (Err (BeyondLimit k)) = Unit {0}
AtByte (Err e) = ⊥

-- From place on: whatever machine the state shows, the run over the portion and the code's reading agree.
pub record Portions (mostBytes place : ℕ) (s : State) (text o p f t : List ℕ) (r : Result State Refusal) (o' p' f' t' : List ℕ) : Type 0 where
  pub agrees :
      (m : Machine) →
      HoldsReading (limits_in mostBytes o t) m s o p f t →
      Ends (limits_in mostBytes o t) (run_from (limits_in mostBytes o t) place (live m) text) r o' p' f' t'
  pub within : place ≤ mostBytes → Within mostBytes (place + length text) r
  pub at_byte : AtByte r

-- the limits of the rooms, under the names that the code has for them
pub portions :
    (mostBytes vertices edges place : ℕ) (s : State) (text o p f t : List ℕ) (r : Result State Refusal) (o' p' f' t' : List ℕ) →
    vertices ≡ min 4096 (length o) →
    edges ≡ min 16384 (length t) →
    ((m : Machine) →
    HoldsReading (limits mostBytes vertices edges) m s o p f t →
    Ends (limits mostBytes vertices edges) (run_from (limits mostBytes vertices edges) place (live m) text) r o' p' f' t') →
    (place ≤ mostBytes → Within mostBytes (place + length text) r) →
    AtByte r →
    Portions mostBytes place s text o p f t r o' p' f' t'
portions mostBytes vertices edges place s text o p f t r o' p' f' t' few short agrees within at_byte =
    record {
      agrees =
          subst
          (λ (x : ℕ).
          (m : Machine) →
          HoldsReading (limits mostBytes x (min 16384 (length t))) m s o p f t →
          Ends (limits mostBytes x (min 16384 (length t)))
          (run_from (limits mostBytes x (min 16384 (length t))) place (live m) text)
          r
          o'
          p'
          f'
          t')
          few
          (subst
          (λ (x : ℕ).
          (m : Machine) →
          HoldsReading (limits mostBytes vertices x) m s o p f t →
          Ends (limits mostBytes vertices x) (run_from (limits mostBytes vertices x) place (live m) text) r o' p' f' t')
          short
          agrees);
      within = within;
      at_byte = at_byte;
    }

-- ---- runs

shift : (k n : ℕ) → suc k + n ≡ k + suc n
shift k n = omega arith

pub run_append :
    (l : Limits) (k : ℕ) (r : Run) (xs ys : List ℕ) →
    run_from l k r (xs ++ ys) ≡ run_from l (k + length xs) (run_from l k r xs) ys
unfolding run_from
run_append l k r [] ys = ap (λ (n : ℕ). run_from l n r ys) (sym (add-zero k))
run_append l k r (x ∷ xs) ys =
    run_append l (suc k) (next l k r x) xs ys ∙
    ap (λ (n : ℕ). run_from l n (run_from l (suc k) (next l k r x) xs) ys) (shift k (length xs))

run_ended : (l : Limits) (k : ℕ) (v : Verdict) (xs : List ℕ) → run_from l k (ended v) xs ≡ ended v
unfolding run_from next
run_ended l k v [] = refl
run_ended l k v (x ∷ xs) = run_ended l (suc k) v xs

module _ (l : Limits) (k : ℕ) (m : Machine) (b : ℕ) where
  next_on : (t : Machine) → step_at l k m b ≡ on t → next l k (live m) b ≡ live t
  unfolding next
  next_on t is = ap (λ (w : Went). elim w [ on n ↦ live n | off ↦ ended (refused 30 k) | over ↦ ended (refused 32 k) ]) is

  next_off : step_at l k m b ≡ off → next l k (live m) b ≡ ended (refused 30 k)
  unfolding next
  next_off is = ap (λ (w : Went). elim w [ on n ↦ live n | off ↦ ended (refused 30 k) | over ↦ ended (refused 32 k) ]) is

  next_over : step_at l k m b ≡ over → next l k (live m) b ≡ ended (refused 32 k)
  unfolding next
  next_over is = ap (λ (w : Went). elim w [ on n ↦ live n | off ↦ ended (refused 30 k) | over ↦ ended (refused 32 k) ]) is

  step_within : (w : Went) → k < l.bytes → step_from m.phase l m b (class_of b) ≡ w → step_at l k m b ≡ w
  unfolding step_at
  step_within w below is = rw (lt-ltb k l.bytes below) is

  step_past : l.bytes ≤ k → step_at l k m b ≡ over
  unfolding step_at
  step_past past = rw (le-ltb k l.bytes past)

module _ (l : Limits) (k i : ℕ) (m q : Machine) (text : List ℕ) (below : i < length text)
    (so_far : run_from l k (live m) (take i text) ≡ live q) where
  run_at : (ys : List ℕ) → run_from l k (live m) (take i text ++ ys) ≡ run_from l (k + i) (live q) ys
  run_at ys =
      run_append l k (live m) (take i text) ys ∙
      ap (λ (r : Run). run_from l (k + length (take i text)) r ys) so_far ∙
      ap (λ (n : ℕ). run_from l (k + n) (live q) ys) (length-take-le i text (omega arith))

  -- the rest of a text, from a byte at which the run ends
  run_stops :
      (v : Verdict) → next l (k + i) (live q) (get_or text i 0) ≡ ended v → run_from l k (live m) text ≡ ended v
  unfolding run_from
  run_stops v stops =
      ap (λ (xs : List ℕ). run_from l k (live m) xs) (split_at text i 0 below) ∙
      run_at (get_or text i 0 ∷ drop (suc i) text) ∙
      ap (λ (r : Run). run_from l (suc (k + i)) r (drop (suc i) text)) stops ∙
      run_ended l (suc (k + i)) v (drop (suc i) text)

  -- a byte more, at which it goes on
  run_more :
      (n : Machine) → next l (k + i) (live q) (get_or text i 0) ≡ live n → run_from l k (live m) (take (i + 1) text) ≡ live n
  unfolding run_from
  run_more n goes =
      ap (λ (j : ℕ). run_from l k (live m) (take j text)) (add-one i) ∙
      ap (λ (xs : List ℕ). run_from l k (live m) xs) (take-suc text i 0 below) ∙
      run_at (get_or text i 0 ∷ []) ∙
      goes

-- a step at which a portion ends, with its place
pub data Stops : Stop → ℕ → Refusal → Type 0 where
  stuck : {k : ℕ} → Stops Off k (BadText k)
  beyond : {k : ℕ} → Stops Over k (BeyondLimit k)

pub stops_within : (mostBytes after : ℕ) (x : Stop) (k : ℕ) (e : Refusal) → Stops x k e → k < mostBytes → Within mostBytes after (Err e)
stops_within mostBytes after _ k _ stuck early = early
stops_within mostBytes after _ k _ beyond early = omega arith

-- ---- the loop

-- the first i bytes of the text are read
pub record BytesPassed (mostBytes vertices edges place : ℕ) (s₀ : State) (text o₀ p₀ f₀ t₀ : List ℕ) (s : State) (at i : ℕ)
    (o p f t : List ℕ) : Type 0 where
  pub up_to : i ≤ length text
  pub place_now : at ≡ place + i
  pub capped : place ≤ mostBytes → at ≤ mostBytes
  pub room : LimitRoom vertices edges o p f t
  pub same_owners : length o ≡ length o₀
  pub same_priorities : length p ≡ length p₀
  pub same_offsets : length f ≡ length f₀
  pub same_targets : length t ≡ length t₀
  pub agrees :
      (m : Machine) →
      HoldsReading (limits mostBytes vertices edges) m s₀ o₀ p₀ f₀ t₀ →
      Remains (limits mostBytes vertices edges) (run_from (limits mostBytes vertices edges) place (live m) (take i text)) s o p f t

-- no byte is read yet
pub passed_none :
    (mostBytes vertices edges place : ℕ) (s : State) (text o p f t : List ℕ) →
    Fitting o p f →
    vertices ≡ min 4096 (length o) →
    edges ≡ min 16384 (length t) →
    BytesPassed mostBytes vertices edges place s text o p f t s place 0 o p f t
unfolding run_from
passed_none mostBytes vertices edges place s text o p f t fitting few short =
    record {
      up_to = omega arith;
      place_now = omega arith;
      capped = λ h. h;
      room =
          record { fitting = fitting; few = omega arith; short = omega arith; within = omega arith; inside = omega arith };
      same_owners = refl;
      same_priorities = refl;
      same_offsets = refl;
      same_targets = refl;
      agrees = λ m h. record { machine = m; runs = refl; holds = h };
    }

module _ (mostBytes vertices edges place : ℕ) (s₀ : State) (text o₀ p₀ f₀ t₀ : List ℕ) (s : State) (at i : ℕ)
    (o p f t : List ℕ) (passed : BytesPassed mostBytes vertices edges place s₀ text o₀ p₀ f₀ t₀ s at i o p f t)
    (below : i < length text) where
  abbrev lim : Limits
  lim = limits mostBytes vertices edges

  abbrev byte : ℕ
  byte = get_or text i 0

  -- what the step at the place gives, told of the place as the machine counts it
  on_at :
      (q n : Machine) →
      at < mostBytes →
      step_from q.phase lim q byte (class_of byte) ≡ on n →
      next lim (place + i) (live q) byte ≡ live n
  on_at q n early goes =
      next_on lim (place + i) q byte n (step_within lim (place + i) q byte (on n) (omega (arith, passed.place_now)) goes)

  told :
      (r x : Result State Stop) (o' p' f' t' : List ℕ) →
      r ≡ x →
      Steps vertices edges s byte o p f t r o' p' f' t' →
      Steps vertices edges s byte o p f t x o' p' f' t'
  told r x o' p' f' t' is said = subst (λ (y : Result State Stop). Steps vertices edges s byte o p f t y o' p' f' t') is said

  -- one byte more, at which the step goes on
  pub passed_more :
      (r : Result State Stop) (n : State) (o' p' f' t' : List ℕ) →
      r ≡ Ok n →
      at < mostBytes →
      length o' ≡ length o →
      length p' ≡ length p →
      length f' ≡ length f →
      length t' ≡ length t →
      Steps vertices edges s byte o p f t r o' p' f' t' →
      BytesPassed mostBytes vertices edges place s₀ text o₀ p₀ f₀ t₀ n (at + 1) (i + 1) o' p' f' t'
  passed_more r n o' p' f' t' is early lo lp lf lt said =
      let steps = told r (Ok n) o' p' f' t' is said in
      let room = passed.room in
      record {
        up_to = omega arith;
        place_now = omega (arith, passed.place_now);
        capped = λ h. omega arith;
        room =
            record {
              fitting =
                  record { as_many = lp ∙ room.fitting.as_many ∙ sym lo; one_more = omega (arith, room.fitting.one_more) };
              few = room.few;
              short = room.short;
              within = omega (arith, room.within);
              inside = omega (arith, room.inside);
            };
        same_owners = lo ∙ passed.same_owners;
        same_priorities = lp ∙ passed.same_priorities;
        same_offsets = lf ∙ passed.same_offsets;
        same_targets = lt ∙ passed.same_targets;
        agrees =
            λ m h.
            let now = passed.agrees m h in
            let c = steps mostBytes now.machine now.holds in
            record {
              machine = c.next;
              runs =
                  run_more lim place i m now.machine text below now.runs c.next
                  (on_at now.machine c.next early c.goes);
              holds = c.holds;
            };
      }

  -- the step leaves the grammar or passes a limit
  pub passed_stops :
      (r : Result State Stop) (x : Stop) (e : Refusal) (o' p' f' t' : List ℕ) →
      Stops x at e →
      r ≡ Err x →
      at < mostBytes →
      Steps vertices edges s byte o p f t r o' p' f' t' →
      (m : Machine) →
      HoldsReading lim m s₀ o₀ p₀ f₀ t₀ →
      Ends lim (run_from lim place (live m) text) (Err e) o' p' f' t'
  passed_stops r _ _ o' p' f' t' stuck is early said m h =
      let steps = told r (Err Off) o' p' f' t' is said in
      let now = passed.agrees m h in
      let q = now.machine in
      run_stops lim place i m q text below now.runs (refused 30 at)
      (next_off lim (place + i) q byte
      (step_within lim (place + i) q byte off (omega (arith, passed.place_now)) (steps mostBytes q now.holds)) ∙
      ap (λ (x : ℕ). ended (refused 30 x)) (sym passed.place_now))
  passed_stops r _ _ o' p' f' t' beyond is early said m h =
      let steps = told r (Err Over) o' p' f' t' is said in
      let now = passed.agrees m h in
      let q = now.machine in
      run_stops lim place i m q text below now.runs (refused 32 at)
      (next_over lim (place + i) q byte
      (step_within lim (place + i) q byte over (omega (arith, passed.place_now)) (steps mostBytes q now.holds)) ∙
      ap (λ (x : ℕ). ended (refused 32 x)) (sym passed.place_now))

  -- the byte is past the limit on bytes, whatever it is
  pub passed_past :
      mostBytes ≤ at →
      (m : Machine) →
      HoldsReading lim m s₀ o₀ p₀ f₀ t₀ →
      run_from lim place (live m) text ≡ ended (refused 32 at)
  passed_past late m h =
      let r = passed.agrees m h in
      let q = r.machine in
      run_stops lim place i m q text below r.runs (refused 32 at)
      (next_over lim (place + i) q byte (step_past lim (place + i) q byte (omega (arith, passed.place_now))) ∙
      ap (λ (x : ℕ). ended (refused 32 x)) (sym passed.place_now))

-- the whole portion is read
pub passed_all :
    (mostBytes vertices edges place : ℕ) (s₀ : State) (text o₀ p₀ f₀ t₀ : List ℕ) (s : State) (at i : ℕ) (o p f t : List ℕ) →
    BytesPassed mostBytes vertices edges place s₀ text o₀ p₀ f₀ t₀ s at i o p f t →
    i ≡ length text →
    (m : Machine) →
    HoldsReading (limits mostBytes vertices edges) m s₀ o₀ p₀ f₀ t₀ →
    Remains (limits mostBytes vertices edges) (run_from (limits mostBytes vertices edges) place (live m) text) s o p f t
passed_all mostBytes vertices edges place s₀ text o₀ p₀ f₀ t₀ s at i o p f t passed end m h =
    let r = passed.agrees m h in
    let l = limits mostBytes vertices edges in
    record {
      machine = r.machine;
      runs =
          ap (λ (xs : List ℕ). run_from l place (live m) xs)
          (sym (ap (λ (n : ℕ). take n text) end ∙ take-length text)) ∙
          r.runs;
      holds = r.holds;
    }
