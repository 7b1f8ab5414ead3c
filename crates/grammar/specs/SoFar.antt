-- The bytes so far by the machine: where its run ended one of them is refused, and else some text can follow within the limits. A
-- refused byte stays refused whatever comes behind it.
use Rattle.std.specs.Prelude.{Bool, true, false, cond, List, [], ◌∷◌, ◌++◌, ◌⊎◌, ◌≡◌, refl, ℕ, suc, ◌+◌, ◌≤◌, ◌<◌, length, take, get_or}
use Rattle.std.proofs.Common.{inl, inr, ⊎_elim, sym, subst, ◌∙◌, arith, length-append}
use Rattle.std.proofs.Math.Path.{ap}
use Rattle.std.proofs.lemmas.List.{take-append-le}
use Rattle.rules.specs.Outcome.{Verdict, none, refused}
use Rattle.rules.specs.Pgsolver.{Entry, Header, unsaid, Viable}
use Rattle.rules.specs.Reading.{Limits, Stuck, Beyond, Over, Reads}
use Rattle.rules.specs.Portions.{SoFar}
use Rattle.grammar.specs.Machine.{Machine, Went, on, off, over, step_at, Run, live, ended, next, run_from, may_end, Read, end_of}
use Rattle.grammar.specs.Machine.{at_first, reading_of, nothing_read}
use Rattle.grammar.specs.Viable.{text_viable}
use Rattle.grammar.specs.Correct.{machine_reads}
use Rattle.grammar.specs.Runs.{run_ended}

-- ---- where a run ended

-- at one of the bytes from place k on
pub data EndsAt (k n : ℕ) : Verdict → Type 0 where
  ends : (j q : ℕ) → q < k + n → EndsAt k n (refused j q)

ends_later : (k n : ℕ) (v : Verdict) → EndsAt (suc k) n v → EndsAt k (suc n) v
ends_later k n _ (ends j q l) = ends j q (omega arith)

ended_same : {v w : Verdict} → ended v ≡ ended w → v ≡ w
ended_same {v} e = ap (λ (r : Run). elim r [ live s ↦ v | ended u ↦ u ]) e

run_ends :
    (l : Limits) (k : ℕ) (s : Machine) (bs : List ℕ) (v : Verdict) →
    run_from l k (live s) bs ≡ ended v →
    EndsAt k (length bs) v
unfolding run_from next
run_ends l k s [] v e = absurd (subst Goes e tt)
  where
    Goes : Run → Type 0
    Goes (live t) = Unit {0}
    Goes (ended u) = ⊥
run_ends l k s (b ∷ bs) v e = go (λ t h. run_ends l (suc k) t bs v h) (step_at l k s b) e
  where
    go :
        ((t : Machine) → run_from l (suc k) (live t) bs ≡ ended v → EndsAt (suc k) (length bs) v) →
        (w : Went) →
        run_from l (suc k) (elim w [ on t ↦ live t | off ↦ ended (refused 30 k) | over ↦ ended (refused 32 k) ]) bs ≡ ended v →
        EndsAt k (suc (length bs)) v
    go ih (on t) h = ends_later k (length bs) v (ih t h)
    go ih off h =
        subst (EndsAt k (suc (length bs))) (ended_same (sym (run_ended l (suc k) (refused 30 k) bs) ∙ h))
        (ends 30 k (omega arith))
    go ih over h =
        subst (EndsAt k (suc (length bs))) (ended_same (sym (run_ended l (suc k) (refused 32 k) bs) ∙ h))
        (ends 32 k (omega arith))

-- the machine's run is what the bytes get so far
abbrev pub verdict_of : Run → Verdict
verdict_of (live s) = none
verdict_of (ended v) = v

stops :
    (l : Limits) (bytes : List ℕ) (v : Verdict) → EndsAt 0 (length bytes) v → Reads l bytes v unsaid [] → SoFar l bytes v
stops l bytes _ (ends j q h) r = SoFar.stopped {p = q} (omega (arith, h)) r

-- ---- where it did not

number_of : Verdict → ℕ
number_of none = 0
number_of (refused k p) = k

place_of : Verdict → ℕ
place_of none = 0
place_of (refused k p) = p

stuck_viable : {bytes : List ℕ} {k : ℕ} → Stuck bytes k → k ≡ length bytes → Viable bytes
stuck_viable (Stuck.byte k h v n) e = absurd (omega arith)
stuck_viable (Stuck.end v n) e = v

-- the text could end here or ends too soon: some text can follow
may_follow :
    {l : Limits} {bytes : List ℕ} {v : Verdict} {h : Header} {es : List Entry} (b : Bool) →
    Reads l bytes v h es →
    v ≡ cond b none (refused 30 (length bytes)) →
    SoFar l bytes none
unfolding number_of place_of
may_follow true (Reads.beyond o n m) e = absurd (omega (arith, ap number_of e))
may_follow false (Reads.beyond o n m) e = absurd (omega (arith, ap number_of e))
may_follow true (Reads.stuck s q) e = absurd (omega (arith, ap number_of e))
may_follow {bytes = bytes} false (Reads.stuck {k = k} s q) e =
    let at : k ≡ length bytes = ap place_of e in
    SoFar.onward (stuck_viable s at) (λ j o. q j (omega (arith, o.there, at)) o)
may_follow b (Reads.whole t q) e = SoFar.onward (text_viable t) q

-- what the run says of the bytes is what they get so far
pub run_so_far :
    (l : Limits) (bytes : List ℕ) →
    ((k : ℕ) → get_or bytes k 0 < 256) →
    (r : Run) →
    run_from l 0 (live at_first) bytes ≡ r →
    SoFar l bytes (verdict_of r)
unfolding end_of
run_so_far l bytes small (ended v) e =
    let read : reading_of l bytes ≡ nothing_read v = ap (λ (x : Run). end_of (length bytes) x) e in
    stops l bytes v (run_ends l 0 at_first bytes v e)
    (subst (λ (x : Read). Reads l bytes x.verdict x.header x.entries) read (machine_reads l bytes small))
run_so_far l bytes small (live s) e = go (may_end s.phase s.entries) refl
  where
    found : Bool → Read
    found b =
        cond b (record { verdict = none; header = s.header; entries = s.entries }) (nothing_read (refused 30 (length bytes)))

    verdict : (b : Bool) → (found b).verdict ≡ cond b none (refused 30 (length bytes))
    verdict true = refl
    verdict false = refl

    go : (b : Bool) → may_end s.phase s.entries ≡ b → SoFar l bytes none
    go b h =
        let read : reading_of l bytes ≡ found b =
        ap (λ (x : Run). end_of (length bytes) x) e ∙ ap found h in
        may_follow b (machine_reads l bytes small) (ap (λ (x : Read). x.verdict) read ∙ verdict b)

-- ---- a refused byte stays refused

module _ (a b : List ℕ) where
  front : (j : ℕ) → j ≤ length a → take j (a ++ b) ≡ take j a
  front j h = take-append-le j a b h

  over_longer : {l : Limits} {j : ℕ} → Over l a j → Over l (a ++ b) j
  over_longer {l} {j} o =
      record {
        there = omega (arith, o.there, length-append a b);
        limit = ⊎_elim (λ h. inl h) (λ c. inr (subst (Beyond l) (sym (front (suc j) o.there)) c)) o.limit;
      }

  over_shorter : {l : Limits} {j : ℕ} → j < length a → Over l (a ++ b) j → Over l a j
  over_shorter {l} {j} h o =
      record { there = h; limit = ⊎_elim (λ g. inl g) (λ c. inr (subst (Beyond l) (front (suc j) h) c)) o.limit }

  stuck_shorter : {j : ℕ} → j < length a → Stuck (a ++ b) j → Stuck a j
  stuck_shorter h (Stuck.byte j g v n) =
      Stuck.byte j h (subst Viable (front j (omega arith)) v) (λ w. n (subst Viable (sym (front (suc j) h)) w))
  stuck_shorter h (Stuck.end v n) = absurd (omega (arith, length-append a b))

  stuck_longer : {j : ℕ} → j < length a → Stuck a j → Stuck (a ++ b) j
  stuck_longer h (Stuck.byte j g v n) =
      Stuck.byte j (omega (arith, length-append a b)) (subst Viable (sym (front j (omega arith))) v)
      (λ w. n (subst Viable (front (suc j) h) w))
  stuck_longer h (Stuck.end v n) = absurd (omega arith)

  reads_longer :
      {l : Limits} {v : Verdict} {h : Header} {es : List Entry} (k p : ℕ) →
      v ≡ refused k p →
      p < length a →
      Reads l a v h es →
      Reads l (a ++ b) v h es
  unfolding place_of number_of
  reads_longer k p e in-it (Reads.beyond {k = q} o n m) =
      let at : q ≡ p = ap place_of e in
      Reads.beyond (over_longer o) (λ j g x. n j g (over_shorter (omega arith) x)) (λ j g x. m j g (stuck_shorter (omega
      arith) x))
  reads_longer k p e in-it (Reads.stuck {k = q} s n) =
      let at : q ≡ p = ap place_of e in
      Reads.stuck (stuck_longer (omega arith) s) (λ j g x. n j g (over_shorter (omega arith) x))
  reads_longer k p e in-it (Reads.whole t n) =
      absurd (subst Nothing e tt)
    where
      Nothing : Verdict → Type 0
      Nothing none = Unit {0}
      Nothing (refused j q) = ⊥

  pub so_far_longer : {l : Limits} {k p : ℕ} → SoFar l a (refused k p) → SoFar l (a ++ b) (refused k p)
  so_far_longer (SoFar.stopped {k = k} {p = p} h r) =
      SoFar.stopped {p = p} (omega (arith, length-append a b)) (reads_longer k p refl h r)
