-- What the class of a byte says of it, and the class of each byte that the grammar names. A step goes by the class, the
-- grammar by the byte.
use Rattle.std.specs.Prelude.{Bool, true, false, cond, ◌≡◌, refl, ℕ, ◌≤◌, eqb, leb}
use Rattle.std.proofs.Common.{true≢false, sym, ap, ◌∙◌, arith, eqb-true, leb-true, ne_eqb}
use Rattle.std.proofs.lemmas.Bool.{eqb-false}
use Rattle.rules.specs.Pgsolver.{separates, is_digit, quote, comma, semicolon}
use Rattle.basics.specs.Basics.{and_left, and_right}
use Rattle.grammar.specs.Machine.{Class, separator_byte, digit_byte, comma_byte, semicolon_byte, quote_byte, letter_byte}
use Rattle.grammar.specs.Machine.{other_byte, class_of, is_letter, Went, by_class, Machine, on}

-- a byte of each class
pub data OfClass (b : ℕ) : Class → Type 0 where
  separator : separates b ≡ true → OfClass b separator_byte
  digit : is_digit b ≡ true → OfClass b digit_byte
  a_comma : b ≡ comma → OfClass b comma_byte
  a_semicolon : b ≡ semicolon → OfClass b semicolon_byte
  a_quote : b ≡ quote → OfClass b quote_byte
  letter : (b ≡ quote → ⊥) → is_letter b ≡ true → OfClass b letter_byte
  other : (b ≡ quote → ⊥) → OfClass b other_byte

pub of_class : (b : ℕ) → OfClass b (class_of b)
unfolding class_of
of_class b = first (separates b) refl
  where
    last : (t : Bool) → is_letter b ≡ t → (b ≡ quote → ⊥) → OfClass b (cond t letter_byte other_byte)
    last true e q = letter q e
    last false e q = other q

    fifth : (t : Bool) → eqb b quote ≡ t → OfClass b (cond t quote_byte (cond (is_letter b) letter_byte other_byte))
    fifth true e = a_quote (eqb-true b quote e)
    fifth false e = last (is_letter b) refl (eqb-false b quote e)

    fourth :
        (t : Bool) →
        eqb b semicolon ≡ t →
        OfClass b (cond t semicolon_byte (cond (eqb b quote) quote_byte (cond (is_letter b) letter_byte other_byte)))
    fourth true e = a_semicolon (eqb-true b semicolon e)
    fourth false e = fifth (eqb b quote) refl

    third :
        (t : Bool) →
        eqb b comma ≡ t →
        OfClass b
        (cond t comma_byte
        (cond (eqb b semicolon) semicolon_byte (cond (eqb b quote) quote_byte (cond (is_letter b) letter_byte other_byte))))
    third true e = a_comma (eqb-true b comma e)
    third false e = fourth (eqb b semicolon) refl

    second :
        (t : Bool) →
        is_digit b ≡ t →
        OfClass b
        (cond t digit_byte
        (cond (eqb b comma) comma_byte
        (cond (eqb b semicolon) semicolon_byte (cond (eqb b quote) quote_byte (cond (is_letter b) letter_byte other_byte)))))
    second true e = digit e
    second false e = third (eqb b comma) refl

    first :
        (t : Bool) →
        separates b ≡ t →
        OfClass b
        (cond t separator_byte
        (cond (is_digit b) digit_byte
        (cond (eqb b comma) comma_byte
        (cond (eqb b semicolon) semicolon_byte (cond (eqb b quote) quote_byte (cond (is_letter b) letter_byte other_byte))))))
    first true e = separator e
    first false e = second (is_digit b) refl

-- a case for each class decides what follows from where a step leads
pub by_class_lem :
    {b : ℕ} {c : Class} {s d m e q l o : Went} {t : Machine} (G : Type 0) →
    OfClass b c →
    by_class c s d m e q l o ≡ on t →
    (separates b ≡ true → s ≡ on t → G) →
    (is_digit b ≡ true → d ≡ on t → G) →
    (b ≡ comma → m ≡ on t → G) →
    (b ≡ semicolon → e ≡ on t → G) →
    (b ≡ quote → q ≡ on t → G) →
    ((b ≡ quote → ⊥) × (is_letter b ≡ true) → l ≡ on t → G) →
    ((b ≡ quote → ⊥) → o ≡ on t → G) →
    G
by_class_lem G (separator h) r fs fd fm fe fq fl fo = fs h r
by_class_lem G (digit h) r fs fd fm fe fq fl fo = fd h r
by_class_lem G (a_comma h) r fs fd fm fe fq fl fo = fm h r
by_class_lem G (a_semicolon h) r fs fd fm fe fq fl fo = fe h r
by_class_lem G (a_quote h) r fs fd fm fe fq fl fo = fq h r
by_class_lem G (letter n h) r fs fd fm fe fq fl fo = fl (n, h) r
by_class_lem G (other n) r fs fd fm fe fq fl fo = fo n r

-- ---- the class of a separator and of a digit

pub separator_class : (b : ℕ) → separates b ≡ true → class_of b ≡ separator_byte
unfolding class_of
separator_class b h = rw h

pub digit_range : (b : ℕ) → is_digit b ≡ true → (48 ≤ b) × (b ≤ 57)
digit_range b h = (leb-true 48 b (and_left (leb 48 b) (leb b 57) h), leb-true b 57 (and_right (leb 48 b) (leb b 57) h))

pub digit_no_separator : (b : ℕ) → is_digit b ≡ true → separates b ≡ false
digit_no_separator b h =
    let r = digit_range b h in
    let p : (48 ≤ b) = r.0 in
    rw (
      ne_eqb b 32 (λ e. omega arith),
      ne_eqb b 9 (λ e. omega arith),
      ne_eqb b 13 (λ e. omega arith),
      ne_eqb b 10 (λ e. omega arith),
    )

pub digit_class : (b : ℕ) → is_digit b ≡ true → class_of b ≡ digit_byte
unfolding class_of
digit_class b h = rw (digit_no_separator b h, h)

-- a quote is of one class
pub separator_no_quote : (b : ℕ) → separates b ≡ true → b ≡ quote → ⊥
separator_no_quote b h e = true≢false (sym h ∙ ap separates e)

pub digit_no_quote : (b : ℕ) → is_digit b ≡ true → b ≡ quote → ⊥
digit_no_quote b h e = true≢false (sym h ∙ ap is_digit e)

pub comma_no_quote : (b : ℕ) → b ≡ comma → b ≡ quote → ⊥
comma_no_quote b h e = omega (arith, h, e)

pub semicolon_no_quote : (b : ℕ) → b ≡ semicolon → b ≡ quote → ⊥
semicolon_no_quote b h e = omega (arith, h, e)
