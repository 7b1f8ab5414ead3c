-- A piece of the grammar that ends in separators takes one more, and what a name holds takes one byte more. These are the
-- steps in which the machine stays where it is.
use Rattle.std.specs.Prelude.{true, List, [], ◌∷◌, ◌++◌, ◌≡◌, ℕ, ◌<◌}
use Rattle.std.proofs.Common.{append_assoc, sym, subst}
use Rattle.rules.specs.Pgsolver.{separates, quote, Entry, Header, Blank, Gap, Quoted, Fields, Recorded, Opening, Records}
use Rattle.rules.specs.Pgsolver.{with_target, highest}

pub blank_more : {s : List ℕ} (b : ℕ) → separates b ≡ true → Blank s → Blank (s ++ (b ∷ []))
blank_more b h Blank.empty = Blank.more b h Blank.empty
blank_more b h (Blank.more x p r) = Blank.more x p (blank_more b h r)

pub gap_more : {s : List ℕ} (b : ℕ) → separates b ≡ true → Gap s → Gap (s ++ (b ∷ []))
gap_more b h (Gap.gap x p r) = Gap.gap x p (blank_more b h r)

pub gap_one : (b : ℕ) → separates b ≡ true → Gap (b ∷ [])
gap_one b h = Gap.gap b h Blank.empty

pub gap_blank : {s : List ℕ} → Gap s → Blank s
gap_blank (Gap.gap x p r) = Blank.more x p r

pub quoted_more : {s : List ℕ} (b : ℕ) → b < 256 → (b ≡ quote → ⊥) → Quoted s → Quoted (s ++ (b ∷ []))
quoted_more b h n Quoted.empty = Quoted.more b h n Quoted.empty
quoted_more b h n (Quoted.more x p q r) = Quoted.more x p q (quoted_more b h n r)

pub fields_more : {s : List ℕ} {e : Entry} (b : ℕ) → separates b ≡ true → Fields s e → Fields (s ++ (b ∷ [])) e
fields_more z h (Fields.begun {a} {b} {c} {d} {e} {f} {i} {p} {o} na gb nc gd ne gf) =
    subst (λ (t : List ℕ). Fields t (record { identifier = i; priority = p; owner = o; targets = [] }))
    (sym (simp append_assoc))
    (Fields.begun na gb nc gd ne (gap_more z h gf))
fields_more z h (Fields.target {s} {t} {b} {c} {e} {w} f n bb bc) =
    subst (λ (t : List ℕ). Fields t (with_target e w)) (sym (simp append_assoc)) (Fields.target f n bb (blank_more z h bc))

pub opening_more : {s : List ℕ} {o : Header} (b : ℕ) → separates b ≡ true → Opening s o → Opening (s ++ (b ∷ [])) o
opening_more z h (Opening.plain b) = Opening.plain (blank_more z h b)
opening_more z h (Opening.headed {a} {b} {c} {d} {e} {k} ba gb nc bd be) =
    subst (λ (t : List ℕ). Opening t (highest k))
    (sym (simp append_assoc))
    (Opening.headed ba gb nc bd (blank_more z h be))

pub recorded_more : {s : List ℕ} {e : Entry} (b : ℕ) → separates b ≡ true → Recorded s e → Recorded (s ++ (b ∷ [])) e
recorded_more z h (Recorded.recorded {s} {t} {b} {c} {d} {e} {w} f n bb nc bd) =
    subst (λ (t : List ℕ). Recorded t (with_target e w))
    (sym (simp append_assoc))
    (Recorded.recorded f n bb nc (blank_more z h bd))

pub records_more :
    {s : List ℕ} {o : Header} {es : List Entry} (b : ℕ) →
    separates b ≡ true →
    Records s o es →
    Records (s ++ (b ∷ [])) o es
records_more z h (Records.opened p) = Records.opened (opening_more z h p)
records_more z h (Records.another {s} {r} {h = o} {es} {e} p q) =
    subst (λ (t : List ℕ). Records t o (es ++ (e ∷ [])))
    (sym (append_assoc s r (z ∷ [])))
    (Records.another p (recorded_more z h q))
