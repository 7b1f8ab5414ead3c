-- Wherever the machine without limits comes, the bytes so far are what its state says: one byte more, from each state and for
-- each class.
use Rattle.std.specs.Prelude.{Bool, true, false, cond, List, [], ◌∷◌, ◌++◌, ◌≡◌, refl, ℕ, suc, ◌≤◌, ◌<◌, eqb, length, take, get_or}
use Rattle.std.proofs.Common.{true≢false, ⊎_elim, append_assoc, append-nil, sym, ap, subst, ◌∙◌, arith, eqb-true, lit<, length-append, take-suc}
use Rattle.rules.specs.Pgsolver.{separates, is_digit, quote, comma, semicolon, parity_word, Entry, with_target, Header, unsaid}
use Rattle.rules.specs.Pgsolver.{highest, Blank, Gap, Number, Quoted, Name, Fields, Recorded, Opening, Records}
use Rattle.rules.specs.Reading.{Kind, as_target}
use Rattle.basics.specs.Basics.{lt_or_ge}
use Rattle.grammar.specs.Machine.{Class, by_class, Machine, on, off, at_first, no_entry_yet, to, is_letter, reading, longer}
use Rattle.grammar.specs.Machine.{Phase, in_word, past_highest, between_records, past_target, past_comma, in_name, past_name}
use Rattle.grammar.specs.Free.{free_from, free_step, starts, on_same, off_not_on}
use Rattle.grammar.specs.Classes.{OfClass, of_class, by_class_lem, separator_no_quote, digit_no_quote, comma_no_quote}
use Rattle.grammar.specs.Classes.{semicolon_no_quote}
use Rattle.grammar.specs.Pieces.{blank_more, gap_more, gap_one, gap_blank, quoted_more, fields_more, records_more}
use Rattle.grammar.specs.Standing.{rest_phase, field_phase, having, resting, in_phase, rest_after, field_after, Before, Aimed}
use Rattle.grammar.specs.Standing.{Stands}

highest_said : {k : ℕ} → highest k ≡ unsaid → ⊥
highest_said e = subst Said e tt
  where
    Said : Header → Type 0
    Said unsaid = ⊥
    Said (highest k) = Unit {0}

not_empty : (es : List Entry) (e : Entry) → es ++ (e ∷ []) ≡ [] → ⊥
not_empty es e p =
    let q : length (es ++ (e ∷ [])) ≡ 0 = ap length p in
    omega (arith, q, length-append es (e ∷ []))

-- the state that a step leads to
land : {s : List ℕ} {x t : Machine} → Stands s x → on x ≡ on t → Stands s t
land {s} p r = subst (λ (y : Machine). Stands s y) (on_same r) p

-- no step
gone : {A G : Type 0} {t : Machine} → A → off ≡ on t → G
gone a r = absurd (off_not_on r)

-- the same bytes, in other brackets
bracket : {s t : List ℕ} {x : Machine} → Stands s x → s ≡ t → Stands t x
bracket {x = x} p e = subst (λ (r : List ℕ). Stands r x) e p

rebracket :
    {k : Kind} {n m : ℕ} {s t : List ℕ} {x : Machine} → Before k n m s x → s ≡ t → Before k n m t x
rebracket {k} {n} {m} {x = x} p e = subst (λ (r : List ℕ). Before k n m r x) e p

-- ---- before a number

-- one separator more
pub before_more :
    {k : Kind} {n m : ℕ} {s : List ℕ} {x : Machine} (b : ℕ) →
    separates b ≡ true →
    Before k n m s x →
    Before k n m (s ++ (b ∷ [])) x
before_more z h (Before.worded {a} {b} ba gb) = rebracket (Before.worded ba (gap_more z h gb)) (sym (simp append_assoc))
before_more z h (Before.rested r) = Before.rested (records_more z h r)
before_more z h (Before.identified {s} {a} {b} r na gb) =
    rebracket (Before.identified r na (gap_more z h gb)) (sym (simp append_assoc))
before_more z h (Before.ranked {s} {a} {b} {c} {d} r na gb nc gd) =
    rebracket (Before.ranked r na gb nc (gap_more z h gd)) (sym (simp append_assoc))
before_more z h (Before.fielded {s} {r} rs f) = rebracket (Before.fielded rs (fields_more z h f)) (sym (simp append_assoc))

-- a step that a separator or a digit makes
separator_or_digit :
    {k : Kind} {n m : ℕ} {s : List ℕ} {x t : Machine} {b : ℕ} {c : Class} →
    Before k n m s x →
    OfClass b c →
    by_class c (on x) (starts (in_phase k) x b) off off off off off ≡ on t →
    Stands (s ++ (b ∷ [])) t
separator_or_digit {s = s} {t = t} {b} p v r =
    by_class_lem (Stands (s ++ (b ∷ [])) t) v r (λ h r. land (Stands.before (before_more b h p)) r)
    (λ h r. land (Stands.within p (Number.first b h)) r)
    gone gone gone gone gone

-- separators alone, before any record
unopened : {s : List ℕ} {h : Header} {es : List Entry} → Records s h es → h ≡ unsaid → es ≡ [] → Blank s
unopened (Records.opened (Opening.plain b)) p q = b
unopened (Records.opened (Opening.headed a b c d e)) p q = absurd (highest_said p)
unopened (Records.another {es = es} {e} r x) p q = absurd (not_empty es e q)

when_on : (w : Bool) {x t : Machine} → cond w (on x) off ≡ on t → (w ≡ true) × (on x ≡ on t)
when_on true r = (refl, r)
when_on false r = absurd (off_not_on r)

rested_on :
    {s : List ℕ} {t : Machine} {b : ℕ} {c : Class} (h : Header) (es : List Entry) →
    Records s h es →
    OfClass b c →
    free_from (rest_phase h es) (resting h es) b c ≡ on t →
    Stands (s ++ (b ∷ [])) t
rested_on {s} {t} {b} unsaid [] rs v r =
    by_class_lem (Stands (s ++ (b ∷ [])) t) v r (λ h r. land (Stands.before (before_more b h (Before.rested rs))) r)
    (λ h r. land (Stands.within (Before.rested rs) (Number.first b h)) r)
    gone
    gone
    gone
    (λ q r.
    let p = when_on (eqb b 112) r in
    land (bracket (Stands.word 0 (unopened rs refl refl) (lit< tt)) (ap (λ (z : ℕ). s ++ (z ∷ [])) (sym (eqb-true b 112 p.0))))
    p.1)
    gone
rested_on unsaid (e ∷ es) rs v r = separator_or_digit (Before.rested rs) v r
rested_on (highest k) es rs v r = separator_or_digit (Before.rested rs) v r

fielded_on :
    {n m : ℕ} {s : List ℕ} {x t : Machine} {b : ℕ} {c : Class} (ws : List ℕ) →
    Before as_target n m s x →
    OfClass b c →
    free_from (field_phase ws) x b c ≡ on t →
    Stands (s ++ (b ∷ [])) t
fielded_on [] p v r = separator_or_digit p v r
fielded_on (w ∷ ws) p v r = separator_or_digit p v r

before_on :
    {k : Kind} {n m : ℕ} {s : List ℕ} {x t : Machine} {b : ℕ} {c : Class} →
    Before k n m s x →
    OfClass b c →
    free_from x.phase x b c ≡ on t →
    Stands (s ++ (b ∷ [])) t
before_on (Before.worded ba gb) v r = separator_or_digit (Before.worded ba gb) v r
before_on (Before.rested {h = h} {es} rs) v r = rested_on h es rs v r
before_on (Before.identified rs na gb) v r = separator_or_digit (Before.identified rs na gb) v r
before_on (Before.ranked rs na gb nc gd) v r = separator_or_digit (Before.ranked rs na gb nc gd) v r
before_on (Before.fielded {e = e} rs f) v r = fielded_on e.targets (Before.fielded rs f) v r

-- ---- behind a target

aimed_at : {s t : List ℕ} {h : Header} {es : List Entry} {e : Entry} → Aimed s h es e → s ≡ t → Aimed t h es e
aimed_at {h = h} {es} {e} p q = subst (λ (r : List ℕ). Aimed r h es e) q p

comma_on :
    {s : List ℕ} {h : Header} {es : List Entry} {e : Entry} →
    Aimed s h es e →
    Stands (s ++ (comma ∷ [])) (having past_comma h es e)
comma_on (Aimed.aimed {s} {r} {t} {b} {h} {es} {e} {w} rs f n bb) =
    subst (λ (φ : Phase). Stands ((s ++ (r ++ (t ++ b))) ++ (comma ∷ [])) (having φ h es (with_target e w)))
    (field_after e.targets w)
    (bracket (Stands.before (Before.fielded rs (Fields.target f n bb Blank.empty))) (sym (simp append_assoc)))

-- the record is whole, with a name or without
whole_on :
    {s c : List ℕ} {h : Header} {es : List Entry} {e : Entry} →
    Aimed s h es e →
    Name c →
    Stands (s ++ (c ++ (semicolon ∷ []))) (having between_records h (es ++ (e ∷ [])) no_entry_yet)
whole_on {c = c} (Aimed.aimed {s} {r} {t} {b} {h} {es} {e} {w} rs f n bb) nc =
    subst
    (λ (φ : Phase).
    Stands ((s ++ (r ++ (t ++ b))) ++ (c ++ (semicolon ∷ []))) (having φ h (es ++ (with_target e w ∷ [])) no_entry_yet))
    (rest_after h es (with_target e w))
    (bracket (Stands.before (Before.rested (Records.another rs (Recorded.recorded f n bb nc Blank.empty))))
    (sym (simp append_assoc)))

-- ---- in a number

-- one digit more
digit_on :
    {k : Kind} {n m v : ℕ} {s d : List ℕ} {x : Machine} (b : ℕ) →
    Before k n m s x →
    Number d v →
    is_digit b ≡ true →
    Stands ((s ++ d) ++ (b ∷ [])) (reading (in_phase k) (longer v b) x)
digit_on {s = s} {d} b p n h = bracket (Stands.within p (Number.next n b h)) (sym (append_assoc s d (b ∷ [])))

-- a step that a separator or a digit makes
number_on :
    {k : Kind} {n m v b : ℕ} {s d : List ℕ} {x y t : Machine} {c : Class} →
    Before k n m s x →
    Number d v →
    OfClass b c →
    (separates b ≡ true → Stands ((s ++ d) ++ (b ∷ [])) y) →
    by_class c (on y) (on (reading (in_phase k) (longer v b) x)) off off off off off ≡ on t →
    Stands ((s ++ d) ++ (b ∷ [])) t
number_on {b = b} {s} {d} {t = t} p n v Parted r =
    by_class_lem (Stands ((s ++ d) ++ (b ∷ [])) t) v r (λ h r. land (Parted h) r) (λ h r. land (digit_on b p n h) r)
    gone gone gone gone gone

within_on :
    {k : Kind} {n m v b : ℕ} {s d : List ℕ} {x t : Machine} {c : Class} →
    Before k n m s x →
    Number d v →
    OfClass b c →
    free_from (in_phase k) (reading (in_phase k) v x) b c ≡ on t →
    Stands ((s ++ d) ++ (b ∷ [])) t
within_on {b = z} {d = d} {t = t} (Before.worded {a} {b} ba gb) n v r =
    by_class_lem (Stands (((a ++ (parity_word ++ b)) ++ d) ++ (z ∷ [])) t) v r
    (λ h r. land (bracket (Stands.headed ba gb n (gap_one z h)) (sym (simp append_assoc))) r)
    (λ h r. land (digit_on z (Before.worded ba gb) n h) r)
    gone
    (λ h r.
    land
    (bracket (Stands.before (Before.rested (Records.opened (Opening.headed ba gb n Blank.empty Blank.empty))))
    (sym (simp (append_assoc, h))))
    r)
    gone
    gone
    gone
within_on {b = z} (Before.rested rs) n v r =
    number_on (Before.rested rs) n v
    (λ h. bracket (Stands.before (Before.identified rs n (gap_one z h))) (sym (simp append_assoc)))
    r
within_on {b = z} (Before.identified rs na gb) n v r =
    number_on (Before.identified rs na gb) n v
    (λ h. bracket (Stands.before (Before.ranked rs na gb n (gap_one z h))) (sym (simp append_assoc)))
    r
within_on {b = z} (Before.ranked rs na gb nc gd) n v r =
    number_on (Before.ranked rs na gb nc gd) n v
    (λ h. bracket (Stands.before (Before.fielded rs (Fields.begun na gb nc gd n (gap_one z h)))) (sym (simp append_assoc)))
    r
within_on {b = z} {d = d} {t = t} (Before.fielded {s} {r} {h} {es} {e} rs f) n v o =
    let p : Aimed ((s ++ r) ++ d) h es _ = aimed_at (Aimed.aimed rs f n Blank.empty) (simp (append_assoc, append-nil)) in
    by_class_lem (Stands (((s ++ r) ++ d) ++ (z ∷ [])) t) v o
    (λ h r. land (bracket (Stands.targeted rs f n (gap_one z h)) (sym (simp append_assoc))) r)
    (λ h r. land (digit_on z (Before.fielded rs f) n h) r)
    (λ h r. land (bracket (comma_on p) (simp h)) r)
    (λ h r. land (bracket (whole_on p Name.absent) (simp h)) r)
    (λ h r. land (bracket (Stands.naming p Quoted.empty) (simp h)) r)
    gone
    gone

-- ---- in the word

-- one letter more
letter_on :
    {a : List ℕ} {t : Machine} {b : ℕ} (k : ℕ) →
    Blank a →
    k < 6 →
    is_letter b ≡ true →
    b ≡ get_or parity_word (suc k) 0 →
    on (to (in_word (suc (suc k))) at_first) ≡ on t →
    Stands ((a ++ take (suc k) parity_word) ++ (b ∷ [])) t
letter_on {a} {t} {b} k ba h l e r = ⊎_elim more past (lt_or_ge (suc k) 6)
  where
    more : suc k < 6 → Stands ((a ++ take (suc k) parity_word) ++ (b ∷ [])) t
    more g =
        land
        (bracket (Stands.word (suc k) ba g)
        (ap (λ (r : List ℕ). a ++ r) (take-suc parity_word (suc k) 0 g) ∙
        sym (append_assoc a (take (suc k) parity_word) (get_or parity_word (suc k) 0 ∷ [])) ∙
        ap (λ (z : ℕ). (a ++ take (suc k) parity_word) ++ (z ∷ [])) (sym e)))
        r

    past : 6 ≤ suc k → Stands ((a ++ take (suc k) parity_word) ++ (b ∷ [])) t
    past g =
        let last : suc k ≡ 6 = omega (arith, g, h) in
        absurd (true≢false (sym l ∙ ap is_letter (e ∙ ap (λ (j : ℕ). get_or parity_word j 0) last)))

word_on :
    {a : List ℕ} {t : Machine} {b : ℕ} {c : Class} (k : ℕ) →
    Blank a →
    k < 6 →
    OfClass b c →
    free_from (in_word (suc k)) (to (in_word (suc k)) at_first) b c ≡ on t →
    Stands ((a ++ take (suc k) parity_word) ++ (b ∷ [])) t
word_on {a} {t} {b} k ba h v r =
    by_class_lem (Stands ((a ++ take (suc k) parity_word) ++ (b ∷ [])) t) v r
    (λ h r.
    let p = when_on (eqb (suc k) 6) r in
    land
    (bracket (Stands.before (Before.worded ba (gap_one b h)))
    (sym (append_assoc a parity_word (b ∷ [])) ∙
    ap (λ (j : ℕ). (a ++ take j parity_word) ++ (b ∷ [])) (sym (eqb-true (suc k) 6 p.0))))
    p.1)
    gone
    gone
    gone
    gone
    (λ q r.
    let p = when_on (eqb b (get_or parity_word (suc k) 0)) r in
    letter_on k ba h q.1 (eqb-true b (get_or parity_word (suc k) 0) p.0) p.1)
    gone

-- ---- behind the highest identifier, a target or a name

headed_on_lem :
    {a b c d : List ℕ} {k z : ℕ} {t : Machine} {g : Class} →
    Blank a →
    Gap b →
    Number c k →
    Gap d →
    OfClass z g →
    free_from past_highest (having past_highest (highest k) [] no_entry_yet) z g ≡ on t →
    Stands ((a ++ (parity_word ++ (b ++ (c ++ d)))) ++ (z ∷ [])) t
headed_on_lem {a} {b} {c} {d} {z = z} {t} ba gb nc gd v r =
    by_class_lem (Stands ((a ++ (parity_word ++ (b ++ (c ++ d)))) ++ (z ∷ [])) t) v r
    (λ h r. land (bracket (Stands.headed ba gb nc (gap_more z h gd)) (sym (simp append_assoc))) r)
    gone
    gone
    (λ h r.
    land
    (bracket (Stands.before (Before.rested (Records.opened (Opening.headed ba gb nc (gap_blank gd) Blank.empty))))
    (sym (simp (append_assoc, h))))
    r)
    gone
    gone
    gone

targeted_on :
    {s r t g : List ℕ} {h : Header} {es : List Entry} {e : Entry} {w z : ℕ} {x : Machine} {c : Class} →
    Records s h es →
    Fields r e →
    Number t w →
    Gap g →
    OfClass z c →
    free_from past_target (having past_target h es (with_target e w)) z c ≡ on x →
    Stands ((s ++ (r ++ (t ++ g))) ++ (z ∷ [])) x
targeted_on {s} {r} {t} {g} {z = z} {x} rs f n gg v o =
    let p = Aimed.aimed rs f n (gap_blank gg) in
    by_class_lem (Stands ((s ++ (r ++ (t ++ g))) ++ (z ∷ [])) x) v o
    (λ h r. land (bracket (Stands.targeted rs f n (gap_more z h gg)) (sym (simp append_assoc))) r)
    gone
    (λ h r. land (bracket (comma_on p) (simp h)) r)
    (λ h r. land (bracket (whole_on p Name.absent) (simp h)) r)
    (λ h r. land (bracket (Stands.naming p Quoted.empty) (simp h)) r)
    gone
    gone

naming_on :
    {s q : List ℕ} {h : Header} {es : List Entry} {e : Entry} {b : ℕ} {x : Machine} {c : Class} →
    Aimed s h es e →
    Quoted q →
    b < 256 →
    OfClass b c →
    free_from in_name (having in_name h es e) b c ≡ on x →
    Stands ((s ++ (quote ∷ q)) ++ (b ∷ [])) x
naming_on {s} {q} {h} {es} {e} {b} {x} p qs small v o =
    by_class_lem (Stands ((s ++ (quote ∷ q)) ++ (b ∷ [])) x) v o (λ h r. more (separator_no_quote b h) r)
    (λ h r. more (digit_no_quote b h) r)
    (λ h r. more (comma_no_quote b h) r)
    (λ h r. more (semicolon_no_quote b h) r)
    (λ h r. land (bracket (Stands.named p qs Blank.empty) (sym (simp (append_assoc, h)))) r)
    (λ q r. more q.0 r)
    (λ n r. more n r)
  where
    more : (b ≡ quote → ⊥) → on (having in_name h es e) ≡ on x → Stands ((s ++ (quote ∷ q)) ++ (b ∷ [])) x
    more n r = land (bracket (Stands.naming p (quoted_more b small n qs)) (sym (simp append_assoc))) r

named_on :
    {s q b : List ℕ} {h : Header} {es : List Entry} {e : Entry} {z : ℕ} {x : Machine} {c : Class} →
    Aimed s h es e →
    Quoted q →
    Blank b →
    OfClass z c →
    free_from past_name (having past_name h es e) z c ≡ on x →
    Stands ((s ++ (quote ∷ (q ++ (quote ∷ b)))) ++ (z ∷ [])) x
named_on {s} {q} {b} {z = z} {x} p qs bb v o =
    by_class_lem (Stands ((s ++ (quote ∷ (q ++ (quote ∷ b)))) ++ (z ∷ [])) x) v o
    (λ h r. land (bracket (Stands.named p qs (blank_more z h bb)) (sym (simp append_assoc))) r)
    gone
    gone
    (λ h r. land (bracket (whole_on p (Name.quoted qs bb)) (sym (simp (append_assoc, h)))) r)
    gone
    gone
    gone

-- ---- one byte, and many

pub stands_on :
    {s : List ℕ} {x t : Machine} (b : ℕ) → b < 256 → Stands s x → free_step x b ≡ on t → Stands (s ++ (b ∷ [])) t
stands_on b small (Stands.word k ba h) r = word_on k ba h (of_class b) r
stands_on b small (Stands.before p) r = before_on p (of_class b) r
stands_on b small (Stands.within p n) r = within_on p n (of_class b) r
stands_on b small (Stands.headed ba gb nc gd) r = headed_on_lem ba gb nc gd (of_class b) r
stands_on b small (Stands.targeted rs f n g) r = targeted_on rs f n g (of_class b) r
stands_on b small (Stands.naming p q) r = naming_on p q small (of_class b) r
stands_on b small (Stands.named p q bb) r = named_on p q bb (of_class b) r
