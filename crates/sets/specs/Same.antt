-- Words that hold one set are equal.
use Rattle.std.specs.Prelude.{Bool, cond, List, ◌≡◌, ℕ, ◌+◌, ◌*◌, get_or}
use Rattle.std.proofs.Common.{⊎_elim, sym, ap, ◌∙◌, ext_get_or}
use Rattle.rules.specs.Counting.{Set}
use Rattle.rules.specs.Words.{bit, Holds}
use Rattle.basics.specs.Basics.{lt_or_ge}
use Rattle.set_bits.specs.Digits.{digits_tell}
use Rattle.sets.specs.Laws.{bit_of_set}
use Rattle.sets.specs.Whole.{bit_at}

-- they have the same bits, and each word is one of 64 bits
pub holds_same : {n : ℕ} {S : Set} (xs ys : List ℕ) → Holds n S xs → Holds n S ys → xs ≡ ys
holds_same {n} {S} xs ys h h' =
    ext_get_or 0 xs ys (h.long ∙ sym h'.long)
    (λ i l.
    digits_tell 64 (get_or xs i 0) (get_or ys i 0) (h.narrow i) (h'.narrow i)
    (λ k m. sym (bit_at xs i k m) ∙ bits (64 * i + k) ∙ bit_at ys i k m))
  where
    bits : (v : ℕ) → bit xs v ≡ bit ys v
    bits v =
        ⊎_elim
        (λ l.
        bit_of_set xs v ∙ ap (λ (b : Bool). cond b 1 0) (h.bits v l ∙ sym (h'.bits v l)) ∙ sym (bit_of_set ys v))
        (λ l. h.clear v l ∙ sym (h'.clear v l))
        (lt_or_ge v n)
