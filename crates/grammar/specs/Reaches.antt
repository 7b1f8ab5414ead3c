-- The machine without limits goes over every piece of the grammar, to the state that stands for it. So the bytes decide where
-- it stands, and a text is read in one way.
use Rattle.std.specs.Prelude.{true, List, [], ◌∷◌, ◌++◌, ◌≡◌, refl, ℕ, zero, suc, ◌-◌, ◌<◌, take}
use Rattle.std.proofs.Common.{append_assoc, sym, ap, subst, ◌∙◌, arith}
use Rattle.rules.specs.Pgsolver.{separates, is_digit, quote, comma, semicolon, parity_word, Entry, with_target, Header, unsaid}
use Rattle.rules.specs.Pgsolver.{highest, Blank, Gap, Number, Quoted, Name, Fields, Recorded, Opening, Records}
use Rattle.rules.specs.Reading.{Kind}
use Rattle.grammar.specs.Machine.{Class, separator_byte, digit_byte, comma_byte, semicolon_byte, quote_byte, class_of, Machine}
use Rattle.grammar.specs.Machine.{on, at_first, no_entry_yet, to, reading, longer, Phase, in_word, past_word, in_highest}
use Rattle.grammar.specs.Machine.{past_highest, between_records, in_identifier, past_identifier, past_priority, in_target}
use Rattle.grammar.specs.Machine.{past_target, in_name, past_name}
use Rattle.grammar.specs.Free.{free_from, Steps, Goes, stays, goes_step, goes_on, goes_same}
use Rattle.grammar.specs.Classes.{separator_class, digit_class, of_class, OfClass}
use Rattle.grammar.specs.Standing.{field_phase, numbered, ranked_as, having, resting, fielding, in_phase, rest_after}
use Rattle.grammar.specs.Standing.{field_after, Before, Aimed, Stands}

-- ---- one byte

pub on_class :
    {s t : Machine} {b : ℕ} (c : Class) → class_of b ≡ c → free_from s.phase s b c ≡ on t → Steps s b t
on_class {s} {t} {b} c h r = record { step = ap (λ (x : Class). free_from s.phase s b x) h ∙ r }

-- every separator leads from one state to another
abbrev pub Parts : Machine → Machine → Type 0
Parts s t = (b : ℕ) → separates b ≡ true → Steps s b t

pub parts : {s t : Machine} → ((b : ℕ) → free_from s.phase s b separator_byte ≡ on t) → Parts s t
parts r b h = on_class separator_byte (separator_class b h) (r b)

-- ---- separators and numbers

pub goes_blank : {s : Machine} {a : List ℕ} → Parts s s → Blank a → Goes s a s
goes_blank p Blank.empty = stays
goes_blank p (Blank.more b h r) = goes_step (p b h) (goes_blank p r)

pub goes_gap : {s t : Machine} {g : List ℕ} → Parts s t → Parts t t → Gap g → Goes s g t
goes_gap p q (Gap.gap b h r) = goes_step (p b h) (goes_blank q r)

-- separators or none, then a byte that leads to one state from either, and then a run
pub goes_blank_byte :
    {s t u z : Machine} {a e : List ℕ} {b : ℕ} →
    Parts s t →
    Parts t t →
    Steps s b u →
    Steps t b u →
    Blank a →
    Goes u e z →
    Goes s (a ++ (b ∷ e)) z
goes_blank_byte p q x y Blank.empty g = goes_step x g
goes_blank_byte p q x y (Blank.more c h r) g = goes_step (p c h) (goes_on (goes_blank q r) (goes_step y g))

-- a digit begins a number, and one more goes on with it
pub record DigitCounts (s : Machine) (φ : Phase) : Type 0 where
  pub begins : (b : ℕ) → is_digit b ≡ true → Steps s b (reading φ (b - 48) s)
  pub grows : (v b : ℕ) → is_digit b ≡ true → Steps (reading φ v s) b (reading φ (longer v b) s)

pub counts :
    {s : Machine} {φ : Phase} →
    ((b : ℕ) → free_from s.phase s b digit_byte ≡ on (reading φ (b - 48) s)) →
    ((v b : ℕ) → free_from φ (reading φ v s) b digit_byte ≡ on (reading φ (longer v b) s)) →
    DigitCounts s φ
counts p q =
    record {
      begins = λ b h. on_class digit_byte (digit_class b h) (p b);
      grows = λ v b h. on_class digit_byte (digit_class b h) (q v b);
    }

pub goes_number : {s : Machine} {φ : Phase} {d : List ℕ} {v : ℕ} → DigitCounts s φ → Number d v → Goes s d (reading φ v s)
goes_number c (Number.first b h) = goes_step (c.begins b h) stays
goes_number c (Number.next {s = d} {v} n b h) = goes_on (goes_number c n) (goes_step (c.grows v b h) stays)

-- ---- the states in which a number may begin

pub rest_parts : (h : Header) (es : List Entry) → Parts (resting h es) (resting h es)
rest_parts unsaid [] = parts (λ b. refl)
rest_parts unsaid (e ∷ es) = parts (λ b. refl)
rest_parts (highest k) es = parts (λ b. refl)

pub rest_counts : (h : Header) (es : List Entry) → DigitCounts (resting h es) in_identifier
rest_counts unsaid [] = counts (λ b. refl) (λ v b. refl)
rest_counts unsaid (e ∷ es) = counts (λ b. refl) (λ v b. refl)
rest_counts (highest k) es = counts (λ b. refl) (λ v b. refl)

field_parts_at :
    (ws : List ℕ) (h : Header) (es : List Entry) (e : Entry) →
    Parts (having (field_phase ws) h es e) (having (field_phase ws) h es e)
field_parts_at [] h es e = parts (λ b. refl)
field_parts_at (w ∷ ws) h es e = parts (λ b. refl)

field_counts_at : (ws : List ℕ) (h : Header) (es : List Entry) (e : Entry) → DigitCounts (having (field_phase ws) h es e) in_target
field_counts_at [] h es e = counts (λ b. refl) (λ v b. refl)
field_counts_at (w ∷ ws) h es e = counts (λ b. refl) (λ v b. refl)

pub before_counts : {k : Kind} {n m : ℕ} {s : List ℕ} {x : Machine} → Before k n m s x → DigitCounts x (in_phase k)
before_counts (Before.worded a b) = counts (λ b. refl) (λ v b. refl)
before_counts (Before.rested {h = h} {es} r) = rest_counts h es
before_counts (Before.identified r a b) = counts (λ b. refl) (λ v b. refl)
before_counts (Before.ranked r a b c d) = counts (λ b. refl) (λ v b. refl)
before_counts (Before.fielded {h = h} {es} {e} r f) = field_counts_at e.targets h es e

-- ---- the header

goes_word : Goes at_first parity_word (to (in_word 6) at_first)
unfolding class_of
goes_word = record { run = refl }

goes_worded : {a b : List ℕ} → Blank a → Gap b → Goes at_first (a ++ (parity_word ++ b)) (to past_word at_first)
goes_worded a b =
    goes_on (goes_blank (rest_parts unsaid []) a) (goes_on goes_word (goes_gap (parts (λ b. refl)) (parts (λ b. refl)) b))

goes_highest : {c : List ℕ} {k : ℕ} → Number c k → Goes (to past_word at_first) c (reading in_highest k (to past_word at_first))
goes_highest n = goes_number (counts (λ b. refl) (λ v b. refl)) n

semicolon_class : class_of semicolon ≡ semicolon_byte
unfolding class_of
semicolon_class = refl

comma_class : class_of comma ≡ comma_byte
unfolding class_of
comma_class = refl

quote_class : class_of quote ≡ quote_byte
unfolding class_of
quote_class = refl

goes_opened : {s : List ℕ} {h : Header} → Opening s h → Goes at_first s (resting h [])
goes_opened (Opening.plain b) = goes_blank (rest_parts unsaid []) b
goes_opened (Opening.headed {k = k} ba gb nc bd be) =
    goes_on (goes_blank (rest_parts unsaid []) ba)
    (goes_on goes_word
    (goes_on (goes_gap (parts (λ b. refl)) (parts (λ b. refl)) gb)
    (goes_on (goes_highest nc)
    (goes_blank_byte {t = having past_highest (highest k) [] no_entry_yet} (parts (λ b. refl)) (parts (λ b. refl))
    (on_class semicolon_byte semicolon_class refl)
    (on_class semicolon_byte semicolon_class refl)
    bd
    (goes_blank (rest_parts (highest k) []) be)))))

-- ---- a record

goes_fields : {r : List ℕ} {e : Entry} (h : Header) (es : List Entry) → Fields r e → Goes (resting h es) r (fielding h es e)
goes_fields h es (Fields.begun {i = i} {p} na gb nc gd ne gf) =
    goes_on (goes_number (rest_counts h es) na)
    (goes_on (goes_gap {t = having past_identifier h es (numbered i)} (parts (λ b. refl)) (parts (λ b. refl)) gb)
    (goes_on (goes_number (counts (λ b. refl) (λ v b. refl)) nc)
    (goes_on (goes_gap {t = having past_priority h es (ranked_as i p)} (parts (λ b. refl)) (parts (λ b. refl)) gd)
    (goes_on (goes_number (counts (λ b. refl) (λ v b. refl)) ne) (goes_gap (parts (λ b. refl)) (parts (λ b. refl)) gf)))))
goes_fields h es (Fields.target {e = e} {w} f n bb bc) =
    goes_on (goes_fields h es f)
    (goes_on (goes_number (field_counts_at e.targets h es e) n)
    (goes_blank_byte {t = having past_target h es (with_target e w)} (parts (λ b. refl)) (parts (λ b. refl))
    (on_class comma_byte comma_class (ap (λ (φ : Phase). on (having φ h es (with_target e w))) (sym (field_after e.targets w))))
    (on_class comma_byte comma_class (ap (λ (φ : Phase). on (having φ h es (with_target e w))) (sym (field_after e.targets w))))
    bb
    (goes_blank (field_parts_at (e.targets ++ (w ∷ [])) h es (with_target e w)) bc)))

-- a target, separators or none, and a byte that leads to one state from the digits and from the separators
goes_target_byte :
    {r t b z : List ℕ} {e : Entry} {w c : ℕ} {u v : Machine} (h : Header) (es : List Entry) →
    Fields r e →
    Number t w →
    Blank b →
    Steps (reading in_target w (fielding h es e)) c u →
    Steps (having past_target h es (with_target e w)) c u →
    Goes u z v →
    Goes (resting h es) (r ++ (t ++ (b ++ (c ∷ z)))) v
goes_target_byte {e = e} {w} h es f n bb x y g =
    goes_on (goes_fields h es f)
    (goes_on (goes_number (field_counts_at e.targets h es e) n)
    (goes_blank_byte {t = having past_target h es (with_target e w)} (parts (λ b. refl)) (parts (λ b. refl)) x y bb g))

-- a byte inside a name
name_stays : {b : ℕ} {c : Class} (s : Machine) → OfClass b c → (b ≡ quote → ⊥) → free_from in_name s b c ≡ on s
name_stays s (OfClass.separator h) n = refl
name_stays s (OfClass.digit h) n = refl
name_stays s (OfClass.a_comma h) n = refl
name_stays s (OfClass.a_semicolon h) n = refl
name_stays s (OfClass.a_quote h) n = absurd (n h)
name_stays s (OfClass.letter h p) n = refl
name_stays s (OfClass.other h) n = refl

goes_quoted :
    {q : List ℕ} (h : Header) (es : List Entry) (e : Entry) → Quoted q → Goes (having in_name h es e) q (having in_name h es e)
goes_quoted h es e Quoted.empty = stays
goes_quoted h es e (Quoted.more b p n r) =
    goes_step (record { step = name_stays (having in_name h es e) (of_class b) n }) (goes_quoted h es e r)

goes_named :
    {q g : List ℕ} (h : Header) (es : List Entry) (e : Entry) →
    Quoted q →
    Blank g →
    Goes (having in_name h es e) (q ++ (quote ∷ g)) (having past_name h es e)
goes_named h es e q g =
    goes_on (goes_quoted h es e q) (goes_step (on_class quote_byte quote_class refl) (goes_blank (parts (λ b. refl)) g))

-- the record is whole
closes :
    (h : Header) (es : List Entry) (e : Entry) →
    having between_records h (es ++ (e ∷ [])) no_entry_yet ≡ resting h (es ++ (e ∷ []))
closes h es e = ap (λ (φ : Phase). having φ h (es ++ (e ∷ [])) no_entry_yet) (sym (rest_after h es e))

goes_recorded :
    {r : List ℕ} {e : Entry} (h : Header) (es : List Entry) →
    Recorded r e →
    Goes (resting h es) r (resting h (es ++ (e ∷ [])))
goes_recorded h es (Recorded.recorded {e = e} {w} f n bb Name.absent bd) =
    goes_target_byte h es f n bb (on_class semicolon_byte semicolon_class (ap on (closes h es (with_target e w))))
    (on_class semicolon_byte semicolon_class (ap on (closes h es (with_target e w))))
    (goes_blank (rest_parts h (es ++ (with_target e w ∷ []))) bd)
goes_recorded h es (Recorded.recorded {e = e} {w} f n bb (Name.quoted q g) bd) =
    goes_target_byte h es f n bb (on_class quote_byte quote_class refl) (on_class quote_byte quote_class refl)
    (goes_on (goes_named h es (with_target e w) q g)
    (goes_step (on_class semicolon_byte semicolon_class (ap on (closes h es (with_target e w))))
    (goes_blank (rest_parts h (es ++ (with_target e w ∷ []))) bd)))

pub goes_records : {s : List ℕ} {h : Header} {es : List Entry} → Records s h es → Goes at_first s (resting h es)
goes_records (Records.opened o) = goes_opened o
goes_records (Records.another {h = h} {es} r x) = goes_on (goes_records r) (goes_recorded h es x)

-- ---- every place where the machine may stand

pub goes_before : {k : Kind} {n m : ℕ} {s : List ℕ} {x : Machine} → Before k n m s x → Goes at_first s x
goes_before (Before.worded a b) = goes_worded a b
goes_before (Before.rested r) = goes_records r
goes_before (Before.identified {h = h} {es} r a b) =
    goes_on (goes_records r) (goes_on (goes_number (rest_counts h es) a) (goes_gap (parts (λ b. refl)) (parts (λ b. refl)) b))
goes_before (Before.ranked {h = h} {es} {i} r a b c d) =
    goes_on (goes_records r)
    (goes_on (goes_number (rest_counts h es) a)
    (goes_on (goes_gap {t = having past_identifier h es (numbered i)} (parts (λ b. refl)) (parts (λ b. refl)) b)
    (goes_on (goes_number (counts (λ b. refl) (λ v b. refl)) c) (goes_gap (parts (λ b. refl)) (parts (λ b. refl)) d))))
goes_before (Before.fielded {h = h} {es} r f) = goes_on (goes_records r) (goes_fields h es f)

-- as many letters of the word as are read
goes_letters : (k : ℕ) → k < 6 → Goes at_first (take (suc k) parity_word) (to (in_word (suc k)) at_first)
unfolding class_of
goes_letters zero h = record { run = refl }
goes_letters (suc zero) h = record { run = refl }
goes_letters (suc (suc zero)) h = record { run = refl }
goes_letters (suc (suc (suc zero))) h = record { run = refl }
goes_letters (suc (suc (suc (suc zero)))) h = record { run = refl }
goes_letters (suc (suc (suc (suc (suc zero))))) h = record { run = refl }
goes_letters (suc (suc (suc (suc (suc (suc k)))))) h = absurd (omega (arith, h))

pub reaches : {s : List ℕ} {x : Machine} → Stands s x → Goes at_first s x
reaches (Stands.word k a h) = goes_on (goes_blank (rest_parts unsaid []) a) (goes_letters k h)
reaches (Stands.before b) = goes_before b
reaches (Stands.within b n) = goes_on (goes_before b) (goes_number (before_counts b) n)
reaches (Stands.headed {k = k} a b c d) =
    goes_on (goes_blank (rest_parts unsaid []) a)
    (goes_on goes_word
    (goes_on (goes_gap (parts (λ b. refl)) (parts (λ b. refl)) b)
    (goes_on (goes_highest c) (goes_gap (parts (λ b. refl)) (parts (λ b. refl)) d))))
reaches (Stands.targeted {h = h} {es} {e} r f n g) =
    goes_on (goes_records r)
    (goes_on (goes_fields h es f)
    (goes_on (goes_number (field_counts_at e.targets h es e) n) (goes_gap (parts (λ b. refl)) (parts (λ b. refl)) g)))
reaches (Stands.naming (Aimed.aimed {h = h} {es} {e} {w} r f n b) q) =
    subst (λ (t : List ℕ). Goes at_first t (having in_name h es (with_target e w)))
    (sym (simp append_assoc))
    (goes_on (goes_records r)
    (goes_target_byte h es f n b (on_class quote_byte quote_class refl) (on_class quote_byte quote_class refl)
    (goes_quoted h es (with_target e w) q)))
reaches (Stands.named (Aimed.aimed {h = h} {es} {e} {w} r f n b) q g) =
    subst (λ (t : List ℕ). Goes at_first t (having past_name h es (with_target e w)))
    (sym (simp append_assoc))
    (goes_on (goes_records r)
    (goes_target_byte h es f n b (on_class quote_byte quote_class refl) (on_class quote_byte quote_class refl)
    (goes_named h es (with_target e w) q g)))

-- the bytes decide where it stands
pub stands_same : {s : List ℕ} {x y : Machine} → Stands s x → Stands s y → x ≡ y
stands_same p q = goes_same (reaches p) (reaches q)
