-- What a state by value and the tables stand for: the bytes so far, none of them refused. One portion more is read by the law of
-- a run over two parts.
use Rattle.std.specs.Prelude.{Result, Ok, Err, List, [], ◌∷◌, ◌++◌, ◌≡◌, refl, ℕ, zero, suc, ◌+◌, ◌/◌, min, ◌≤◌, ◌<◌, length, get_or, replicate}
use Rattle.std.proofs.Common.{sym, ap, subst, ◌∙◌, zero-le, not-suc-le-zero, arith, length-append}
use Rattle.std.proofs.Math.Decide.{dec_lt}
use Rattle.std.proofs.lemmas.List.{length-replicate, get_or-replicate}
use Rattle.std.proofs.Math.ListN.{get_or-eq_default}
use Rattle.rules.specs.Counting.{times}
use Rattle.rules.specs.Outcome.{refused}
use Rattle.rules.specs.Reading.{Limits, targets_in}
use Rattle.grammar.specs.Machine.{at_first, Run, live, ended, run_from}
use Rattle.grammar.specs.Runs.{run_append}
use Rattle.grammar.specs.Waiting.{Waits, in_text}
use Rattle.reading_rooms.specs.Cleared.{TablesZero, zeros}
use Rattle.pgsolver_acts.specs.declared.state.State.{State}
use Rattle.pgsolver_acts.specs.Shown.{state_of}
use Rattle.parity_game.specs.declared.refusal.Refusal.{Refusal}
use Rattle.parity_game.specs.declared.refusal.Refusal.TheVariants.{BadText, BeyondLimit}
use Rattle.parity_game.specs.Said.{refusal_of}
use Rattle.pgsolver_step.specs.Steps.{Fitting, limits}
use Rattle.pgsolver_step.specs.Portions.{Remains, Ends, limits_in, Within, Portions}

-- the run over all bytes so far, within the limits that the rooms set
abbrev pub run_over : ℕ → List ℕ → List ℕ → List ℕ → Run
run_over mostBytes o t bytes = run_from (limits_in mostBytes o t) 0 (live at_first) bytes

-- these bytes were read, none of them was refused, and the state and the tables hold what they say
pub record BytesReached (mostBytes : ℕ) (bytes : List ℕ) (place : ℕ) (s : State) (o p f t : List ℕ) : Type 0 where
  pub small : (k : ℕ) → get_or bytes k 0 < 256
  pub counted : place ≡ length bytes
  pub within : place ≤ mostBytes
  pub remains : Remains (limits_in mostBytes o t) (run_over mostBytes o t bytes) s o p f t

-- one of these bytes was refused
pub record PortionStopped (mostBytes : ℕ) (bytes o t : List ℕ) (k place : ℕ) : Type 0 where
  pub small : (j : ℕ) → get_or bytes j 0 < 256
  pub runs : run_over mostBytes o t bytes ≡ ended (refused k place)

-- ---- what the functions promise

pub record PortionBegins (s : State) (o p f t : List ℕ) : Type 0 where
  pub shown : s ≡ state_of at_first
  pub waits : Waits [] [] o p f t

abbrev pub TakenAs : ℕ → List ℕ → ℕ → Result State Refusal → List ℕ → List ℕ → List ℕ → List ℕ → Type 0
TakenAs mostBytes bytes place (Ok s) o p f t = BytesReached mostBytes bytes place s o p f t
TakenAs mostBytes bytes place (Err e) o p f t = PortionStopped mostBytes bytes o t (refusal_of e).number (refusal_of e).place

-- where bytes are left to read, the next place is at most the limit
abbrev pub FitsAs : ℕ → ℕ → Result State Refusal → Type 0
FitsAs mostBytes place (Ok s) = place ≤ mostBytes
FitsAs mostBytes place (Err e) = Unit {0}

abbrev pub ClearAs : Result State Refusal → List ℕ → List ℕ → List ℕ → List ℕ → List ℕ → List ℕ → List ℕ → List ℕ → Type 0
ClearAs (Ok s) o p f t o' p' f' t' = Unit {0}
ClearAs (Err e) o p f t o' p' f' t' = TablesZero o p f t o' p' f' t'

-- one portion more: whatever bytes the state and the tables stand for, then those and the portion's; a refusal clears the tables
pub record Takes (mostBytes place : ℕ) (s : State) (text o p f t : List ℕ) (r : Result State Refusal) (o' p' f' t' : List ℕ) : Type 0 where
  pub more :
      (bytes : List ℕ) →
      BytesReached mostBytes bytes place s o p f t →
      TakenAs mostBytes (bytes ++ text) (place + length text) r o' p' f' t'
  pub fits : place ≤ mostBytes → FitsAs mostBytes (place + length text) r
  pub clear : ClearAs r o p f t o' p' f' t'

-- ---- the beginning

zero_at : (n k : ℕ) → ◌≡◌ {A = ℕ} (get_or (replicate n 0) k 0) 0
zero_at n k = go (dec_lt k n)
  where
    go : Dec (k < n) → ◌≡◌ {A = ℕ} (get_or (replicate n 0) k 0) 0
    go (yes l) = get_or-replicate n k 0 0 l
    go (no h) = get_or-eq_default (replicate n 0) 0 {n = k} (rw (length-replicate {A = ℕ} n 0) (omega (arith, h)))

zeros_at : (xs ys : List ℕ) → xs ≡ zeros ys → (k : ℕ) → get_or xs k 0 ≡ 0
zeros_at xs ys e k = ap (λ (zs : List ℕ). get_or zs k 0) e ∙ zero_at (length ys) k

pub zeros_long : (xs ys : List ℕ) → xs ≡ zeros ys → length xs ≡ length ys
zeros_long xs ys e = ap length e ∙ length-replicate {A = ℕ} (length ys) 0

-- nothing waits in cleared tables
pub begins :
    (s : State) (o p f t o' p' f' t' : List ℕ) →
    Fitting o p f →
    TablesZero o p f t o' p' f' t' →
    s ≡ state_of at_first →
    PortionBegins s o' p' f' t'
unfolding targets_in in_text times
begins s o p f t o' p' f' t' fits z shown =
    let lo = zeros_long o' o z.owners in
    let lp = zeros_long p' p z.priorities in
    let lf = zeros_long f' f z.offsets in
    record {
      shown = shown;
      waits =
          record {
            as_many = omega (arith, fits.as_many);
            one_more = omega (arith, fits.one_more);
            few_records = zero-le;
            room = zero-le;
            few_targets = zero-le;
            each = λ k l. absurd (not-suc-le-zero l);
            in_order = refl;
            behind = λ k l. zeros_at t' t z.targets k;
            often = λ i l. ap (λ (x : ℕ). x / 16384) (zeros_at f' f z.offsets i);
            kept = λ i l h. absurd (omega arith);
            fresh =
                λ i l h.
                record {
                  owner = zeros_at o' o z.owners i;
                  priority = zeros_at p' p z.priorities i;
                  offset = zeros_at f' f z.offsets i;
                };
            last = zeros_at f' f z.offsets (length o');
          };
    }

-- where a reading begins no byte was read
pub begins_reached :
    (mostBytes : ℕ) (s : State) (o p f t : List ℕ) → PortionBegins s o p f t → BytesReached mostBytes [] 0 s o p f t
unfolding run_from
begins_reached mostBytes s o p f t b =
    record {
      small = λ k. omega arith;
      counted = refl;
      within = zero-le;
      remains =
          record { machine = at_first; runs = refl; holds = record { shown = b.shown; standing = refl; waits = b.waits } };
    }

-- ---- one portion more

small_append :
    (xs ys : List ℕ) →
    ((k : ℕ) → get_or xs k 0 < 256) →
    ((k : ℕ) → get_or ys k 0 < 256) →
    (k : ℕ) →
    get_or (xs ++ ys) k 0 < 256
small_append [] ys sx sy k = sy k
small_append (x ∷ xs) ys sx sy zero = sx 0
small_append (x ∷ xs) ys sx sy (suc k) = small_append xs ys (λ j. sx (suc j)) sy k

limits_kept :
    (mostBytes : ℕ) (o t o' t' : List ℕ) →
    length o' ≡ length o →
    length t' ≡ length t →
    limits_in mostBytes o t ≡ limits_in mostBytes o' t'
limits_kept mostBytes o t o' t' lo lt = λ i. limits mostBytes (min 4096 (sym lo i)) (min 16384 (sym lt i))

module _ (mostBytes place : ℕ) (s : State) (text o p f t : List ℕ) (r : Result State Refusal) (o' p' f' t' : List ℕ)
    (small : (k : ℕ) → get_or text k 0 < 256) (lo : length o' ≡ length o) (lt : length t' ≡ length t)
    (read : Portions mostBytes place s text o p f t r o' p' f' t') where
  -- the run over the bytes so far and the portion is the portion's, from where they lead
  ends :
      (bytes : List ℕ) →
      BytesReached mostBytes bytes place s o p f t →
      (x : Result State Refusal) →
      r ≡ x →
      Ends (limits_in mostBytes o' t') (run_over mostBytes o' t' (bytes ++ text)) x o' p' f' t'
  ends bytes h x is =
      let l = limits_in mostBytes o t in
      let so_far = h.remains in
      let two : run_from l 0 (live at_first) (bytes ++ text) ≡ run_from l place (live so_far.machine) text =
      run_append l 0 (live at_first) bytes text ∙
      ap (λ (q : Run). run_from l (0 + length bytes) q text) so_far.runs ∙
      ap (λ (k : ℕ). run_from l k (live so_far.machine) text) (omega (arith, h.counted)) in
      subst
      (λ (k : Limits). Ends k (run_from k 0 (live at_first) (bytes ++ text)) x o' p' f' t')
      (limits_kept mostBytes o t o' t' lo lt)
      (subst (λ (q : Run). Ends l q x o' p' f' t') (sym two)
      (subst (λ (y : Result State Refusal). Ends l (run_from l place (live so_far.machine) text) y o' p' f' t') is
      (read.agrees so_far.machine so_far.holds)))

  stops :
      (bytes o'' t'' : List ℕ) (k q : ℕ) →
      length o'' ≡ length o' →
      length t'' ≡ length t' →
      BytesReached mostBytes bytes place s o p f t →
      run_over mostBytes o' t' (bytes ++ text) ≡ ended (refused k q) →
      PortionStopped mostBytes (bytes ++ text) o'' t'' k q
  stops bytes o'' t'' k q eo et h runs =
      record {
        small = small_append bytes text h.small small;
        runs =
            subst (λ (l : Limits). run_from l 0 (live at_first) (bytes ++ text) ≡ ended (refused k q)) (limits_kept mostBytes
            o' t' o'' t'' eo et)
            runs;
      }

  -- the portion is read
  pub takes_on : (n : State) → r ≡ Ok n → Takes mostBytes place s text o p f t (Ok n) o' p' f' t'
  takes_on n is =
      let fits : place ≤ mostBytes → place + length text ≤ mostBytes =
      λ h. subst (λ (y : Result State Refusal). Within mostBytes (place + length text) y) is (read.within h) in
      record {
        more =
            λ bytes h.
            record {
              small = small_append bytes text h.small small;
              counted = omega (arith, h.counted, length-append bytes text);
              within = fits h.within;
              remains = ends bytes h (Ok n) is;
            };
        fits = fits;
        clear = tt;
      }

  -- a byte of it is refused, and the tables were cleared
  module _ (o'' p'' f'' t'' : List ℕ) (lp : length p' ≡ length p) (lf : length f' ≡ length f)
      (z : TablesZero o' p' f' t' o'' p'' f'' t'') where
    cleared : TablesZero o p f t o'' p'' f'' t''
    cleared =
        record {
          owners = z.owners ∙ ap (λ (k : ℕ). replicate k 0) lo;
          priorities = z.priorities ∙ ap (λ (k : ℕ). replicate k 0) lp;
          offsets = z.offsets ∙ ap (λ (k : ℕ). replicate k 0) lf;
          targets = z.targets ∙ ap (λ (k : ℕ). replicate k 0) lt;
        }

    eo : length o'' ≡ length o'
    eo = zeros_long o'' o' z.owners

    et : length t'' ≡ length t'
    et = zeros_long t'' t' z.targets

    pub takes_refused : (e : Refusal) → r ≡ Err e → Takes mostBytes place s text o p f t (Err e) o'' p'' f'' t''
    takes_refused e is =
        record {
          more = λ bytes h. stops bytes o'' t'' (refusal_of e).number (refusal_of e).place eo et h (ends bytes h (Err e) is);
          fits = λ h. tt;
          clear = cleared;
        }

    pub takes_stuck : (k : ℕ) → r ≡ Err (BadText k) → Takes mostBytes place s text o p f t (Err (BadText k)) o'' p'' f'' t''
    takes_stuck k is = takes_refused (BadText k) is

    pub takes_beyond :
        (k : ℕ) → r ≡ Err (BeyondLimit k) → Takes mostBytes place s text o p f t (Err (BeyondLimit k)) o'' p'' f'' t''
    takes_beyond k is = takes_refused (BeyondLimit k) is
