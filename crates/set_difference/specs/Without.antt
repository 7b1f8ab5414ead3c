-- A third set made of two, word by word: one without the other, or what both have in common.
use Rattle.std.specs.Prelude.{Bool, false, ◌&&◌, not, List, ◌⊎◌, ◌≡◌, refl, ℕ, ◌+◌, ◌-◌, ◌*◌, ◌/◌, ◌%◌, ◌≤◌, ◌<◌, min, eqb, length, get_or, set}
use Rattle.std.proofs.Common.{inl, inr, ⊎_elim, sym, ap, ap₂, ◌∙◌, arith, length-set, get_or-set_same, get_or-set_other}
use Rattle.std.proofs.Math.Decide.{ℕ_discrete}
use Rattle.rules.specs.Tables.{words}
use Rattle.rules.specs.Words.{digit}
use Rattle.basics.specs.Basics.{lt_or_ge}
use Rattle.basics.specs.Frame.{Beside, Unchanged}
use Rattle.sets.specs.After.{Parts}
use Rattle.sets.specs.Digits.{digit_lt}
use Rattle.sets.specs.Wordwise.{Digitwise}
use Rattle.area.specs.Area.{set_at}
use Rattle.area.specs.SetsAt.{set_word, set_past}

-- the set at `into` is made of two, member by member, and every word outside is as it was
pub record MadeAt (both : Bool → Bool → Bool) (n into one other : ℕ) (before after : List ℕ) : Type 0 where
  pub long : length after ≡ length before
  pub made : (v : ℕ) → set_at n into after v ≡ both (set_at n one before v) (set_at n other before v)
  pub rest : Unchanged (Beside (words n) into) before after

-- the one without the other
abbrev pub WithoutAt : ℕ → ℕ → ℕ → ℕ → List ℕ → List ℕ → Type 0
WithoutAt = MadeAt (λ x y. x && not y)

-- what both have
abbrev pub CommonAt : ℕ → ℕ → ℕ → ℕ → List ℕ → List ℕ → Type 0
CommonAt = MadeAt ◌&&◌

-- the first k words are made, digit by digit
pub record TakenTo (f : ℕ → ℕ → ℕ) (into one other k : ℕ) (before after : List ℕ) : Type 0 where
  pub long : length after ≡ length before
  pub made :
      (i : ℕ) → i < k → Digitwise f (get_or after (into + i) 0) (get_or before (one + i) 0) (get_or before (other + i) 0)
  pub rest : Unchanged (Beside k into) before after

pub taken_none : {f : ℕ → ℕ → ℕ} {into one other : ℕ} {work : List ℕ} → TakenTo f into one other 0 work work
taken_none = record { long = refl; made = λ i l. absurd (omega arith); rest = λ i o. refl }

-- one word more
pub taken_more :
    {f : ℕ → ℕ → ℕ} {into one other s k : ℕ} {before work : List ℕ} →
    Parts into one s before →
    Parts into other s before →
    k < s →
    TakenTo f into one other k before work →
    (x : ℕ) →
    Digitwise f x (get_or work (one + k) 0) (get_or work (other + k) 0) →
    TakenTo f into one other (k + 1) before (set work (into + k) x)
taken_more {f} {into} {one} {other} {s} {k} {before} {work} first second l t x is =
    record {
      long = length-set work (into + k) x ∙ t.long;
      made = λ i h. at i h (ℕ_discrete i k);
      rest = λ i o. get_or-set_other work (into + k) i x 0 (apart i o) ∙ t.rest i (out i o);
    }
  where
    kept : (from : ℕ) → Parts into from s before → get_or work (from + k) 0 ≡ get_or before (from + k) 0
    kept from p = t.rest (from + k) (⊎_elim (λ h. inr (omega arith)) (λ h. inl (omega arith)) p.apart)

    here :
        Digitwise f (get_or (set work (into + k) x) (into + k) 0) (get_or before (one + k) 0) (get_or before (other + k) 0)
    here j m =
        ap (λ (w : ℕ). digit w j)
        (get_or-set_same work (into + k) x 0 (omega (arith, t.long, first.into_fits))) ∙
        is j m ∙
        ap₂ (λ (a b : ℕ). f (digit a j) (digit b j)) (kept one first) (kept other second)

    at :
        (i : ℕ) →
        i < k + 1 →
        Dec (i ≡ k) →
        Digitwise f (get_or (set work (into + k) x) (into + i) 0) (get_or before (one + i) 0) (get_or before (other + i) 0)
    at i h (yes e) = rw e here
    at i h (no d) =
        rw (get_or-set_other work (into + k) (into + i) x 0 (λ e. d (omega arith))) (t.made i (omega (arith, d)))

    apart : (i : ℕ) → Beside (k + 1) into i → i ≡ into + k → ⊥
    apart i (inl h) e = omega arith
    apart i (inr h) e = omega arith

    out : (i : ℕ) → Beside (k + 1) into i → Beside k into i
    out i (inl h) = inl h
    out i (inr h) = inr (omega arith)

-- a function of two digits says the same as one of two truth values
abbrev pub Tells : (ℕ → ℕ → ℕ) → (Bool → Bool → Bool) → Type 0
Tells f both = (x y : ℕ) → x < 2 → y < 2 → eqb (f x y) 1 ≡ both (eqb x 1) (eqb y 1)

-- it does where it does for 0 and 1
digits_tell :
    (f : ℕ → ℕ → ℕ) (both : Bool → Bool → Bool) →
    eqb (f 0 0) 1 ≡ both (eqb 0 1) (eqb 0 1) →
    eqb (f 0 1) 1 ≡ both (eqb 0 1) (eqb 1 1) →
    eqb (f 1 0) 1 ≡ both (eqb 1 1) (eqb 0 1) →
    eqb (f 1 1) 1 ≡ both (eqb 1 1) (eqb 1 1) →
    Tells f both
digits_tell f both e₀₀ e₀₁ e₁₀ e₁₁ x y h k = go (ℕ_discrete x 0) (ℕ_discrete y 0)
  where
    one : (z : ℕ) → z < 2 → (z ≡ 0 → ⊥) → z ≡ 1
    one z l d = omega (arith, d)

    go : Dec (x ≡ 0) → Dec (y ≡ 0) → eqb (f x y) 1 ≡ both (eqb x 1) (eqb y 1)
    go (yes p) (yes q) = rw (p, q) e₀₀
    go (yes p) (no q) = rw (p, one y k q) e₀₁
    go (no p) (yes q) = rw (one x h p, q) e₁₀
    go (no p) (no q) = rw (one x h p, one y k q) e₁₁

-- a digit of one that the other has not
pub without_tells : Tells ◌-◌ (λ x y. x && not y)
without_tells = digits_tell ◌-◌ (λ x y. x && not y) refl refl refl refl

-- a digit of both
pub common_tells : Tells min ◌&&◌
common_tells = digits_tell min ◌&&◌ refl refl refl refl

-- **All words are made: so is the set.**
pub taken_all :
    {f : ℕ → ℕ → ℕ} {both : Bool → Bool → Bool} {into one other s k : ℕ} {before after : List ℕ} →
    Tells f both →
    both false false ≡ false →
    TakenTo f into one other k before after →
    k ≤ s →
    s ≤ k →
    (n : ℕ) →
    s ≡ words n →
    MadeAt both n into one other before after
taken_all {f} {both} {into} {one} {other} {s} {k} {before} {after} tells none t most all n size =
    record {
      long = t.long;
      made = λ v. at v (lt_or_ge v (64 * words n));
      rest = λ i o. t.rest i (⊎_elim (λ h. inl h) (λ h. inr (omega arith)) o);
    }
  where
    at :
        (v : ℕ) →
        (v < 64 * words n) ⊎ (64 * words n ≤ v) →
        set_at n into after v ≡ both (set_at n one before v) (set_at n other before v)
    at v (inl l) =
        let a = get_or before (one + v / 64) 0 in
        let b = get_or before (other + v / 64) 0 in
        set_word n into after v l ∙
        ap (λ (x : ℕ). eqb x 1) (t.made (v / 64) (omega arith) (v % 64) (omega arith)) ∙
        tells (digit a (v % 64)) (digit b (v % 64)) (digit_lt a (v % 64)) (digit_lt b (v % 64)) ∙
        ap₂ both (sym (set_word n one before v l)) (sym (set_word n other before v l))
    at v (inr h) =
        set_past n into after v h ∙
        sym none ∙
        ap₂ both (sym (set_past n one before v h)) (sym (set_past n other before v h))
