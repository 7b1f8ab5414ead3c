-- Words that are cleared, filled or copied one after another: each step makes the next.
use Rattle.std.specs.Prelude.{Bool, cond, List, ◌≡◌, refl, ℕ, ◌+◌, ◌-◌, ◌*◌, ◌/◌, ◌%◌, ◌≤◌, ◌<◌, eqb, ltb, length, get_or, set}
use Rattle.std.proofs.Common.{inl, inr, sym, ap, ◌∙◌, not-suc-le-zero, arith, eq-eqb, ne_eqb, lt-ltb, le-ltb, length-set, get_or-set_same, get_or-set_other}
use Rattle.std.proofs.Math.Decide.{ℕ_discrete, dec_lt}
use Rattle.rules.specs.Words.{digit, bit}
use Rattle.basics.specs.Frame.{Beside}
use Rattle.set_bits.specs.After.{Put, Cleared, Filled}
use Rattle.set_bits.specs.Digits.{digit_not, digit_zero}

-- no word is cleared yet
pub cleared_none : (at : ℕ) (xs : List ℕ) → Cleared at 0 xs xs
cleared_none at xs = record { long = refl; zeros = λ i l h. absurd (omega arith); rest = λ i o. refl }

-- one word more
pub cleared_more :
    {at i : ℕ} {before after : List ℕ} →
    at + i < length after →
    Cleared at i before after →
    Cleared at (i + 1) before (set after (at + i) 0)
cleared_more {at} {i} {before} {after} fits c =
    record {
      long = length-set after (at + i) 0 ∙ c.long;
      zeros = λ k l h. zero_at k l h (ℕ_discrete k (at + i));
      rest = λ k o. get_or-set_other after (at + i) k 0 0 (apart k o) ∙ c.rest k (outside k o);
    }
  where
    zero_at : (k : ℕ) → at ≤ k → k < at + (i + 1) → Dec (k ≡ at + i) → get_or (set after (at + i) 0) k 0 ≡ 0
    zero_at k l h (yes e) = ap (λ (j : ℕ). get_or (set after (at + i) 0) j 0) e ∙ get_or-set_same after (at + i) 0 0 fits
    zero_at k l h (no n) = get_or-set_other after (at + i) k 0 0 n ∙ c.zeros k l (omega (arith, n))

    apart : (k : ℕ) → Beside (i + 1) at k → k ≡ at + i → ⊥
    apart k (inl h) e = omega arith
    apart k (inr h) e = omega arith

    outside : (k : ℕ) → Beside (i + 1) at k → Beside i at k
    outside k (inl h) = inl h
    outside k (inr h) = inr (omega arith)

-- no vertex is in yet
pub filled_none : (xs : List ℕ) → Filled 0 xs xs
filled_none xs = record { long = refl; bits = λ u. ap (λ (t : Bool). cond t 1 (bit xs u)) (sym (le-ltb u 0 (omega arith))) }

-- one vertex more
pub filled_more :
    {v : ℕ} {before mid after : List ℕ} → Filled v before mid → Put v 1 mid after → Filled (v + 1) before after
filled_more {v} {before} {mid} {after} f p =
    record { long = p.long ∙ f.long; bits = λ u. p.bits u ∙ at u (ℕ_discrete u v) (dec_lt u v) }
  where
    at : (u : ℕ) → Dec (u ≡ v) → Dec (u < v) → cond (eqb u v) 1 (bit mid u) ≡ cond (ltb u (v + 1)) 1 (bit before u)
    at u (yes e) d = rw (eq-eqb u v e, lt-ltb u (v + 1) (omega arith))
    at u (no n) (yes l) = rw (ne_eqb u v n, f.bits u, lt-ltb u v l, lt-ltb u (v + 1) (omega arith))
    at u (no n) (no m) = rw (ne_eqb u v n, f.bits u, le-ltb u v (omega (arith, m)), le-ltb u (v + 1) (omega (arith, n, m)))

-- every digit of a full word is 1
full_digit : (k : ℕ) → k < 64 → digit 18446744073709551615 k ≡ 1
full_digit k l = digit_not 64 0 k (omega arith) l ∙ ap (λ (x : ℕ). 1 - x) (digit_zero k)

-- one word more
pub filled_word :
    {i : ℕ} {before after : List ℕ} →
    i < length after →
    Filled (64 * i) before after →
    Filled (64 * (i + 1)) before (set after i 18446744073709551615)
unfolding bit
filled_word {i} {before} {after} fits f =
    record { long = length-set after i 18446744073709551615 ∙ f.long; bits = λ u. at u (ℕ_discrete (u / 64) i) }
  where
    now : List ℕ
    now = set after i 18446744073709551615

    at : (u : ℕ) → Dec (u / 64 ≡ i) → digit (get_or now (u / 64) 0) (u % 64) ≡ cond (ltb u (64 * (i + 1))) 1 (bit before u)
    at u (yes e) =
        ap (λ (j : ℕ). digit (get_or now j 0) (u % 64)) e ∙
        ap (λ (x : ℕ). digit x (u % 64)) (get_or-set_same after i 18446744073709551615 0 fits) ∙
        full_digit (u % 64) (omega arith) ∙
        sym (ap (λ (t : Bool). cond t 1 (bit before u)) (lt-ltb u (64 * (i + 1)) (omega arith)))
    at u (no n) =
        ap (λ (x : ℕ). digit x (u % 64)) (get_or-set_other after i (u / 64) 18446744073709551615 0 n) ∙
        f.bits u ∙
        ap (λ (t : Bool). cond t 1 (bit before u)) (alike (dec_lt u (64 * i)))
      where
        alike : Dec (u < 64 * i) → ltb u (64 * i) ≡ ltb u (64 * (i + 1))
        alike (yes l) = lt-ltb u (64 * i) l ∙ sym (lt-ltb u (64 * (i + 1)) (omega arith))
        alike (no m) = le-ltb u (64 * i) (omega (arith, m)) ∙ sym (le-ltb u (64 * (i + 1)) (omega (arith, n, m)))

-- the first i words are those of another list
pub record Copied (i : ℕ) (from after : List ℕ) : Type 0 where
  pub within : i ≤ length from
  pub long : length after ≡ length from
  pub same : (k : ℕ) → k < i → get_or after k 0 ≡ get_or from k 0

pub copied_none : (from xs : List ℕ) → length xs ≡ length from → Copied 0 from xs
copied_none from xs e = record { within = omega arith; long = e; same = λ k l. absurd (not-suc-le-zero l) }

pub copied_more :
    {i : ℕ} {from after : List ℕ} → i < length from → Copied i from after → Copied (i + 1) from (set after i (get_or from i 0))
copied_more {i} {from} {after} l c =
    record {
      within = omega arith;
      long = length-set after i (get_or from i 0) ∙ c.long;
      same = λ k m. at k m (ℕ_discrete k i);
    }
  where
    at : (k : ℕ) → k < i + 1 → Dec (k ≡ i) → get_or (set after i (get_or from i 0)) k 0 ≡ get_or from k 0
    at k m (yes e) =
        ap (λ (j : ℕ). get_or (set after i (get_or from i 0)) j 0) e
        ∙ get_or-set_same after i (get_or from i 0) 0 (omega (arith, c.long))
        ∙ ap (λ (j : ℕ). get_or from j 0) (sym e)
    at k m (no n) = get_or-set_other after i k (get_or from i 0) 0 n ∙ c.same k (omega (arith, n))
