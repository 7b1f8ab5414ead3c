-- The binary operations part way: the first i words of the part at `into` are combined, digit by digit, and all else is as it was.
-- One invariant and three laws serve every word operation that works on each digit apart.
use Rattle.std.specs.Prelude.{List, ◌≡◌, refl, ℕ, ◌+◌, ◌/◌, ◌%◌, ◌^◌, ◌≤◌, ◌<◌, length, get_or, set}
use Rattle.std.proofs.Math.Logic.{inl, inr}
use Rattle.std.proofs.Common.{⊎_elim, sym, ◌∙◌, zero-le, not-suc-le-zero, arith, length-set, get_or-set_same, get_or-set_other, get_or-drop}
use Rattle.std.proofs.Math.Path.{ap, ap₂}
use Rattle.std.proofs.Math.Decide.{ℕ_discrete}
use Rattle.rules.specs.Words.{digit, bit}
use Rattle.basics.specs.Frame.{Beside, Unchanged}
use Rattle.set_bits.specs.After.{Combined, Parts}

-- the digits of w are f of those of x and y
abbrev pub Digitwise : (ℕ → ℕ → ℕ) → ℕ → ℕ → ℕ → Type 0
Digitwise f w x y = (k : ℕ) → k < 64 → digit w k ≡ f (digit x k) (digit y k)

-- whatever a function of two words answers by `post`, each digit of it follows the law
abbrev pub Follows : (ℕ → ℕ → ℕ) → (ℕ → ℕ → ℕ → Type 0) → Type 0
Follows law post = (x y w : ℕ) → x < 2 ^ 64 → y < 2 ^ 64 → post x y w → Digitwise law w x y

pub record Upto (f : ℕ → ℕ → ℕ) (into from s i : ℕ) (before after : List ℕ) : Type 0 where
  pub within : i ≤ s
  pub long : length after ≡ length before
  pub done : (k : ℕ) → k < i → Digitwise f (get_or after (into + k) 0) (get_or before (into + k) 0) (get_or before (from + k) 0)
  pub rest : Unchanged (Beside i into) before after

module _ {f : ℕ → ℕ → ℕ} {into from s : ℕ} {before : List ℕ} where
  -- no word yet
  pub upto_none : Upto f into from s 0 before before
  upto_none = record { within = zero-le; long = refl; done = λ k l. absurd (not-suc-le-zero l); rest = λ j o. refl }

  -- one word more
  pub upto_more : {i : ℕ} {after : List ℕ} (w : ℕ) → Parts into from s before → i < s → Upto f into from s i before after
      → Digitwise f w (get_or after (into + i) 0) (get_or after (from + i) 0)
      → Upto f into from s (i + 1) before (set after (into + i) w)
  upto_more {i} {after} w p l u new = record {
    within = omega arith;
    long = length-set after (into + i) w ∙ u.long;
    done = λ k m. at k m (ℕ_discrete k i);
    rest = λ j o. get_or-set_other after (into + i) j w 0 (apart_from j o) ∙ u.rest j (outside j o);
  }
    where
      fits : into + i < length after
      fits = omega (arith, u.long, p.into_fits)

      from_kept : get_or after (from + i) 0 ≡ get_or before (from + i) 0
      from_kept = u.rest (from + i) (⊎_elim (λ h. inr (omega arith)) (λ h. inl (omega arith)) p.apart)

      here : Digitwise f (get_or (set after (into + i) w) (into + i) 0) (get_or before (into + i) 0) (get_or before (from + i) 0)
      here k m =
          ap (λ (x : ℕ). digit x k) (get_or-set_same after (into + i) w 0 fits) ∙ new k m
          ∙ ap₂ (λ (x y : ℕ). f (digit x k) (digit y k)) (u.rest (into + i) (inr (omega arith))) from_kept

      at : (k : ℕ) → k < i + 1 → Dec (k ≡ i)
          → Digitwise f (get_or (set after (into + i) w) (into + k) 0) (get_or before (into + k) 0) (get_or before (from + k) 0)
      at k m (yes e) = rw e here
      at k m (no n) =
          rw (get_or-set_other after (into + i) (into + k) w 0 (λ e. n (omega arith))) (u.done k (omega (arith, n)))

      apart_from : (j : ℕ) → Beside (i + 1) into j → j ≡ into + i → ⊥
      apart_from j (inl h) e = omega arith
      apart_from j (inr h) e = omega arith

      outside : (j : ℕ) → Beside (i + 1) into j → Beside i into j
      outside j (inl h) = inl h
      outside j (inr h) = inr (omega arith)

  -- all s words
  pub upto_all : {i : ℕ} {after : List ℕ} → s ≤ i → Upto f into from s i before after → Combined f into from s before after
  unfolding bit
  upto_all {i} {after} l u = record {
    long = u.long;
    bits = λ v h.
        ap (λ (x : ℕ). digit x (v % 64)) (get_or-drop into after (v / 64) 0)
        ∙ u.done (v / 64) (omega arith) (v % 64) (omega arith)
        ∙ ap₂ (λ (x y : ℕ). f (digit x (v % 64)) (digit y (v % 64))) (sym (get_or-drop into before (v / 64) 0)) (sym (get_or-drop from before (v / 64) 0));
    rest = λ j o. u.rest j (⊎_elim (λ h. inl h) (λ h. inr (omega (arith, u.within))) o);
  }
