-- Laws of a run: over two parts one after the other, by one byte, and after a verdict. A text that comes in portions is read
-- by the first of them.
use Rattle.std.specs.Prelude.{false, cond, List, [], ◌∷◌, ◌++◌, ◌≡◌, refl, ℕ, suc, ◌+◌, ltb, length}
use Rattle.std.proofs.Common.{ap, ◌∙◌, arith}
use Rattle.rules.specs.Outcome.{Verdict, refused}
use Rattle.rules.specs.Reading.{Limits}
use Rattle.grammar.specs.Machine.{Machine, Went, on, off, over, step_at, Run, live, ended, next, run_from}
use Rattle.grammar.specs.Machine.{at_first, end_of, reading_of, nothing_read}
use Rattle.grammar.specs.Free.{free_step}
use Rattle.grammar.specs.Classes.{of_class}
use Rattle.grammar.specs.Limited.{far, limited, step_limited}

-- the run over two parts is the run over the second, from where the first leads
pub run_append :
    (l : Limits) (k : ℕ) (r : Run) (a b : List ℕ) → run_from l k r (a ++ b) ≡ run_from l (k + length a) (run_from l k r a) b
unfolding run_from
run_append l k r [] b = ap (λ (j : ℕ). run_from l j r b) (omega arith)
run_append l k r (x ∷ a) b =
    run_append l (suc k) (next l k r x) a b ∙ ap (λ (j : ℕ). run_from l j (run_from l (suc k) (next l k r x) a) b) (omega arith)

-- after a verdict nothing changes it
pub run_ended : (l : Limits) (k : ℕ) (v : Verdict) (bs : List ℕ) → run_from l k (ended v) bs ≡ ended v
unfolding run_from next
run_ended l k v [] = refl
run_ended l k v (b ∷ bs) = run_ended l (suc k) v bs

-- one byte more
pub run_snoc :
    (l : Limits) (k : ℕ) (r : Run) (a : List ℕ) (b : ℕ) →
    run_from l k r (a ++ (b ∷ [])) ≡ next l (k + length a) (run_from l k r a) b
unfolding run_from
run_snoc l k r a b = run_append l k r a (b ∷ [])

-- a verdict on the first bytes of a text is the verdict on the text
pub ended_reading :
    (l : Limits) (a b : List ℕ) (v : Verdict) →
    run_from l 0 (live at_first) a ≡ ended v →
    reading_of l (a ++ b) ≡ nothing_read v
unfolding end_of
ended_reading l a b v e =
    ap (end_of (length (a ++ b)))
    (run_append l 0 (live at_first) a b ∙
    ap (λ (r : Run). run_from l (0 + length a) r b) e ∙
    run_ended l (0 + length a) v b)

-- what a step at place k makes of a run
abbrev pub landed : ℕ → Went → Run
landed k (on s) = live s
landed k off = ended (refused 30 k)
landed k over = ended (refused 32 k)

-- one byte: beyond the limit on bytes, or a step without limits, stopped where it is beyond one
pub next_landed :
    (l : Limits) (k : ℕ) (s : Machine) (b : ℕ) →
    far l s ≡ false →
    next l k (live s) b ≡ landed k (cond (ltb k l.bytes) (limited l (free_step s b)) over)
unfolding next step_at
next_landed l k s b h =
    go (step_at l k s b) ∙
    ap (λ (w : Went). landed k (cond (ltb k l.bytes) w over)) (step_limited s.phase l s (of_class b) h h)
  where
    go : (w : Went) → elim w [ on t ↦ live t | off ↦ ended (refused 30 k) | over ↦ ended (refused 32 k) ] ≡ landed k w
    go (on t) = refl
    go off = refl
    go over = refl
