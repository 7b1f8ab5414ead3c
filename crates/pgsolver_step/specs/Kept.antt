-- What one record more makes of the records' counts, of the first record with an identifier and of where its targets begin.
use Rattle.std.specs.Prelude.{Bool, true, false, cond, List, [], ◌∷◌, ◌++◌, ◌≡◌, refl, ℕ, ◌+◌, ◌<◌, eqb, length}
use Rattle.std.proofs.Common.{append_assoc, append-nil, sym, ap, ◌∙◌, arith, eq-eqb, ne_eqb}
use Rattle.std.proofs.lemmas.Bool.{eqb-false}
use Rattle.rules.specs.Counting.{times}
use Rattle.rules.specs.Pgsolver.{Entry}
use Rattle.rules.specs.Reading.{targets_in, entry_of}
use Rattle.grammar.specs.Waiting.{identifiers, in_text, beginning}

-- the targets in the order of the text, with one record more
pub text_more : (es : List Entry) (e : Entry) → in_text (es ++ (e ∷ [])) ≡ in_text es ++ e.targets
unfolding in_text
text_more [] e = append-nil e.targets
text_more (f ∷ es) e =
    ap (λ (ts : List ℕ). f.targets ++ ts) (text_more es e) ∙ sym (append_assoc f.targets (in_text es) e.targets)

times_more :
    (i : ℕ) (es : List Entry) (e : Entry) →
    times i (identifiers (es ++ (e ∷ []))) ≡ times i (identifiers es) + cond (eqb i e.identifier) 1 0
unfolding times
times_more i [] e = omega arith
times_more i (f ∷ es) e = omega (arith, times_more i es e)

pub times_here :
    (i : ℕ) (es : List Entry) (e : Entry) →
    i ≡ e.identifier →
    times i (identifiers (es ++ (e ∷ []))) ≡ times i (identifiers es) + 1
times_here i es e same =
    times_more i es e ∙ ap (λ (x : Bool). times i (identifiers es) + cond x 1 0) (eq-eqb i e.identifier same)

pub times_there :
    (i : ℕ) (es : List Entry) (e : Entry) →
    (i ≡ e.identifier → ⊥) →
    times i (identifiers (es ++ (e ∷ []))) ≡ times i (identifiers es)
times_there i es e other =
    let none : ◌≡◌ {A = ℕ} (cond (eqb i e.identifier) 1 0) 0 = ap (λ (x : Bool). cond x 1 0)
    (ne_eqb i e.identifier other) in
    omega (arith, times_more i es e)

-- an identifier that does not stand in the records does not stand first
first_other : (x y n : ℕ) → cond (eqb x y) 1 0 + n ≡ 0 → y ≡ x → ⊥
first_other x y n none same =
    let one : ◌≡◌ {A = ℕ} (cond (eqb x y) 1 0) 1 = ap (λ (b : Bool). cond b 1 0) (eq-eqb x y (sym same)) in omega arith

-- the record that brings an identifier is the first with it,
pub entry_here :
    (i : ℕ) (es : List Entry) (e : Entry) →
    i ≡ e.identifier →
    times i (identifiers es) ≡ 0 →
    entry_of (es ++ (e ∷ [])) i ≡ e
unfolding times entry_of
entry_here i [] e same none =
    ap (λ (x : Bool). cond x e (record { identifier = i; priority = 0; owner = 0; targets = [] }))
    (eq-eqb e.identifier i (sym same))
entry_here i (f ∷ es) e same none =
    ap (λ (x : Bool). cond x f (entry_of (es ++ (e ∷ [])) i))
    (ne_eqb f.identifier i (first_other i f.identifier (times i (identifiers es)) none)) ∙
    entry_here i es e same (omega arith)

-- and its targets begin behind all others.
pub beginning_here :
    (i : ℕ) (es : List Entry) (e : Entry) →
    i ≡ e.identifier →
    times i (identifiers es) ≡ 0 →
    beginning (es ++ (e ∷ [])) i ≡ targets_in es
unfolding times beginning targets_in
beginning_here i [] e same none =
    ap (λ (x : Bool). cond x 0 (length e.targets + 0)) (eq-eqb e.identifier i (sym same))
beginning_here i (f ∷ es) e same none =
    ap (λ (x : Bool). cond x 0 (length f.targets + beginning (es ++ (e ∷ [])) i))
    (ne_eqb f.identifier i (first_other i f.identifier (times i (identifiers es)) none)) ∙
    ap (λ (n : ℕ). length f.targets + n) (beginning_here i es e same (omega arith))

-- Another identifier keeps its first record,
pub entry_there :
    (i : ℕ) (es : List Entry) (e : Entry) → (i ≡ e.identifier → ⊥) → entry_of (es ++ (e ∷ [])) i ≡ entry_of es i
unfolding entry_of
entry_there i [] e other =
    ap (λ (x : Bool). cond x e (record { identifier = i; priority = 0; owner = 0; targets = [] }))
    (ne_eqb e.identifier i (λ same. other (sym same)))
entry_there i (f ∷ es) e other = ap (λ (g : Entry). cond (eqb f.identifier i) f g) (entry_there i es e other)

-- past a first record with another identifier
passed_by : (x y n : ℕ) → 0 < cond (eqb x y) 1 0 + n → eqb y x ≡ false → 0 < n
passed_by x y n some differs =
    let none : ◌≡◌ {A = ℕ} (cond (eqb x y) 1 0) 0 =
    ap (λ (t : Bool). cond t 1 0) (ne_eqb x y (λ same. eqb-false y x differs (sym same))) in
    omega arith

later : (b : Bool) (k m n : ℕ) → (b ≡ false → m ≡ n) → cond b 0 (k + m) ≡ cond b 0 (k + n)
later true k m n same = refl
later false k m n same = ap (λ (x : ℕ). k + x) (same refl)

-- and, if it was there, where its targets begin.
pub beginning_there :
    (i : ℕ) (es : List Entry) (e : Entry) →
    0 < times i (identifiers es) →
    beginning (es ++ (e ∷ [])) i ≡ beginning es i
unfolding times beginning
beginning_there i [] e some = absurd (omega arith)
beginning_there i (f ∷ es) e some =
    later (eqb f.identifier i) (length f.targets) (beginning (es ++ (e ∷ [])) i) (beginning es i)
    (λ differs. beginning_there i es e (passed_by i f.identifier (times i (identifiers es)) some differs))
