-- What a call asks for, and how it ends, by what it gives.
use Rattle.std.specs.Prelude.{true, List, ◌≡◌, ℕ, ◌+◌, ◌≤◌, ◌<◌, get_or, Option, Some, None}
use Rattle.std.proofs.Common.{subst}
use Rattle.rules.specs.Tables.{Tables, vertices}
use Rattle.zielonka_level.specs.Level.{on_level, Called, Done, Over}

-- a call with a bound: no priority in V is above it
pub record CalledUnder (t : Tables) (base top : ℕ) (work : List ℕ) : Type 0 where
  pub called : Called t base work
  pub under : (v : ℕ) → on_level t base work v ≡ true → get_or t.priorities v 0 ≤ top

-- no priority is above a bound
abbrev pub Under : Tables → ℕ → Type 0
Under t top = (v : ℕ) → v < vertices t → get_or t.priorities v 0 ≤ top

-- by what the call gives: None says that the budget does not allow it, a number is the calls made so far
pub record Ends (t : Tables) (base calls budget : ℕ) (before after : List ℕ) (given : Option ℕ) : Type 0 where
  pub over : given ≡ None → Over t base calls budget before
  pub done : (made : ℕ) → given ≡ Some made → Done t base calls budget made before after

-- the budget does not allow it
pub ends_over :
    {t : Tables} {base calls budget : ℕ} {before after : List ℕ} →
    Over t base calls budget before →
    Ends t base calls budget before after None
ends_over o = record { over = λ e. o; done = λ made e. cc }

-- it has ended
pub ends_done :
    {t : Tables} {base calls budget made : ℕ} {before after : List ℕ} →
    Done t base calls budget made before after →
    Ends t base calls budget before after (Some made)
ends_done {t} {base} {calls} {budget} {made} {before} {after} d =
    record {
      over = λ e. cc;
      done = λ k e. let same : made ≡ k = cc in subst (λ (x : ℕ). Done t base calls budget x before after) same d;
    }

-- it has ended with one call more, its own
pub ends_one :
    {t : Tables} {base calls budget made : ℕ} {before after : List ℕ} →
    made ≡ calls + 1 →
    Done t base calls budget (calls + 1) before after →
    Ends t base calls budget before after (Some made)
ends_one more d = rw more (ends_done d)
