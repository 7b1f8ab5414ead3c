-- Wherever the machine without limits stands, some bytes make a text of the grammar; over bytes that can become one it goes
-- on; and it may end exactly at a text.
use Rattle.std.specs.Prelude.{Bool, true, false, List, [], ◌∷◌, ◌++◌, ◌≡◌, refl, ℕ, suc, ◌<◌, length, drop}
use Rattle.std.proofs.Common.{true≢false, append_assoc, append-nil, sym, ap, subst, ◌∙◌, arith, ltb-true, lt-ltb, length-append, take-append-drop}
use Rattle.rules.specs.Pgsolver.{quote, semicolon, parity_word, Entry, Header, unsaid, highest, Blank, Gap, Number, Name, Fields}
use Rattle.rules.specs.Pgsolver.{Recorded, Opening, Records, Text, Viable}
use Rattle.rules.specs.Reading.{Kind, as_highest, as_identifier, as_priority, as_owner, as_target}
use Rattle.grammar.specs.Machine.{Machine, at_first, may_end}
use Rattle.grammar.specs.Free.{Goes, goes_first}
use Rattle.grammar.specs.Pieces.{gap_one, gap_blank}
use Rattle.grammar.specs.Standing.{rest_phase, field_phase, resting, in_phase, Before, Aimed, Stands}
use Rattle.grammar.specs.Reaches.{goes_records}

-- ---- every state has a completion

-- bytes are viable when they and some more are
pub grow : {s t : List ℕ} (r : List ℕ) → Viable t → t ≡ s ++ r → Viable s
grow {s} r v e =
    record {
      rest = r ++ v.rest;
      header = v.header;
      entries = v.entries;
      text =
          subst (λ (z : List ℕ). Text z v.header v.entries)
          (ap (λ (z : List ℕ). z ++ v.rest) e ∙ append_assoc s r v.rest)
          v.text;
    }

-- a text of the grammar
pub text_viable : {s : List ℕ} {h : Header} {es : List Entry} → Text s h es → Viable s
text_viable {s} {h} {es} t =
    record {
      rest = [];
      header = h;
      entries = es;
      text = subst (λ (z : List ℕ). Text z h es) (sym (append-nil s)) t;
    }

-- a whole record more
recorded_viable : {s r : List ℕ} {h : Header} {es : List Entry} {e : Entry} → Records s h es → Recorded r e → Viable (s ++ r)
recorded_viable {es = es} {e} rs x =
    text_viable (record { reads = Records.another rs x; some = omega (arith, length-append es (e ∷ [])) })

-- behind a target
aimed_viable : {s c : List ℕ} {h : Header} {es : List Entry} {e : Entry} → Aimed s h es e → Name c → Viable (s ++ c)
aimed_viable {c = c} (Aimed.aimed {s} {r} {t} {b} rs f n bb) nc =
    grow (semicolon ∷ []) (recorded_viable rs (Recorded.recorded f n bb nc Blank.empty)) (sym (simp append_assoc))

aim_viable : {s : List ℕ} {h : Header} {es : List Entry} {e : Entry} → Aimed s h es e → Viable s
aim_viable {s} p = subst Viable (append-nil s) (aimed_viable p Name.absent)

-- before a target, an owner, a priority, an identifier
fields_viable : {s r : List ℕ} {h : Header} {es : List Entry} {e : Entry} → Records s h es → Fields r e → Viable (s ++ r)
fields_viable {s} {r} rs f =
    grow (48 ∷ []) (aim_viable (Aimed.aimed rs f (Number.first 48 refl) Blank.empty)) (sym (simp append_assoc))

ranked_viable :
    {s a b c d : List ℕ} {h : Header} {es : List Entry} {i p : ℕ} →
    Records s h es →
    Number a i →
    Gap b →
    Number c p →
    Gap d →
    Viable (s ++ (a ++ (b ++ (c ++ d))))
ranked_viable rs na gb nc gd =
    grow (48 ∷ 32 ∷ []) (fields_viable rs (Fields.begun na gb nc gd (Number.first 48 refl) (gap_one 32 refl)))
    (sym (simp append_assoc))

identified_viable :
    {s a b : List ℕ} {h : Header} {es : List Entry} {i : ℕ} → Records s h es → Number a i → Gap b → Viable (s ++ (a ++ b))
identified_viable rs na gb =
    grow (48 ∷ 32 ∷ []) (ranked_viable rs na gb (Number.first 48 refl) (gap_one 32 refl)) (sym (simp append_assoc))

records_viable : {s : List ℕ} {h : Header} {es : List Entry} → Records s h es → Viable s
records_viable rs = grow (48 ∷ 32 ∷ []) (identified_viable rs (Number.first 48 refl) (gap_one 32 refl)) refl

headed_viable :
    {a b c d : List ℕ} {k : ℕ} → Blank a → Gap b → Number c k → Blank d → Viable (a ++ (parity_word ++ (b ++ (c ++ d))))
headed_viable ba gb nc bd =
    grow (semicolon ∷ []) (records_viable (Records.opened (Opening.headed ba gb nc bd Blank.empty))) (sym (simp append_assoc))

worded_viable : {a b : List ℕ} → Blank a → Gap b → Viable (a ++ (parity_word ++ b))
worded_viable ba gb = grow (48 ∷ []) (headed_viable ba gb (Number.first 48 refl) Blank.empty) (sym (simp append_assoc))

before_viable : {k : Kind} {n m : ℕ} {s : List ℕ} {x : Machine} → Before k n m s x → Viable s
before_viable (Before.worded ba gb) = worded_viable ba gb
before_viable (Before.rested rs) = records_viable rs
before_viable (Before.identified rs na gb) = identified_viable rs na gb
before_viable (Before.ranked rs na gb nc gd) = ranked_viable rs na gb nc gd
before_viable (Before.fielded rs f) = fields_viable rs f

within_viable :
    {k : Kind} {n m v : ℕ} {s d : List ℕ} {x : Machine} → Before k n m s x → Number d v → Viable (s ++ d)
within_viable (Before.worded ba gb) n = grow [] (headed_viable ba gb n Blank.empty) (sym (simp append_assoc))
within_viable (Before.rested rs) n = grow (32 ∷ []) (identified_viable rs n (gap_one 32 refl)) (sym (simp append_assoc))
within_viable (Before.identified rs na gb) n =
    grow (32 ∷ []) (ranked_viable rs na gb n (gap_one 32 refl)) (sym (simp append_assoc))
within_viable (Before.ranked rs na gb nc gd) n =
    grow (32 ∷ []) (fields_viable rs (Fields.begun na gb nc gd n (gap_one 32 refl))) (sym (simp append_assoc))
within_viable (Before.fielded rs f) n = grow [] (aim_viable (Aimed.aimed rs f n Blank.empty)) (sym (simp append_assoc))

pub stands_viable : {s : List ℕ} {x : Machine} → Stands s x → Viable s
stands_viable (Stands.word {a} k ba h) =
    grow (drop (suc k) parity_word ++ (32 ∷ [])) (worded_viable ba (gap_one 32 refl))
    (ap (λ (r : List ℕ). a ++ (r ++ (32 ∷ []))) (sym (take-append-drop (suc k) parity_word)) ∙ sym (simp append_assoc))
stands_viable (Stands.before p) = before_viable p
stands_viable (Stands.within p n) = within_viable p n
stands_viable (Stands.headed ba gb nc gd) = headed_viable ba gb nc (gap_blank gd)
stands_viable (Stands.targeted rs f n g) = aim_viable (Aimed.aimed rs f n (gap_blank g))
stands_viable (Stands.naming p q) = grow (quote ∷ []) (aimed_viable p (Name.quoted q Blank.empty)) (sym (simp append_assoc))
stands_viable (Stands.named p q bb) = aimed_viable p (Name.quoted q bb)

-- ---- over viable bytes the machine goes

pub viable_goes : {s : List ℕ} → Viable s → (x : Machine) × Goes at_first s x
viable_goes {s} v =
    let p = goes_first s v.rest (goes_records v.text.reads) in
    (p.0, p.1)

-- ---- where a text may end

pub text_ends : {s : List ℕ} {h : Header} {es : List Entry} → Text s h es → may_end (rest_phase h es) es ≡ true
text_ends {h = h} {es} t = go h es t.some
  where
    go : (h : Header) (es : List Entry) → 0 < length es → may_end (rest_phase h es) es ≡ true
    go unsaid [] p = absurd (omega (arith, p))
    go unsaid (e ∷ es) p = lt-ltb 0 (length (e ∷ es)) p
    go (highest k) es p = lt-ltb 0 (length es) p

no_end_in : (k : Kind) (es : List Entry) → may_end (in_phase k) es ≡ false
no_end_in as_highest es = refl
no_end_in as_identifier es = refl
no_end_in as_priority es = refl
no_end_in as_owner es = refl
no_end_in as_target es = refl

no_end_field : (ws : List ℕ) (es : List Entry) → may_end (field_phase ws) es ≡ false
no_end_field [] es = refl
no_end_field (w ∷ ws) es = refl

-- a false test that is true
never : {b : Bool} {A : Type 0} → b ≡ false → b ≡ true → A
never p q = absurd (true≢false (sym q ∙ p))

rest_some : (h : Header) (es : List Entry) → may_end (rest_phase h es) es ≡ true → 0 < length es
rest_some unsaid [] p = never refl p
rest_some unsaid (e ∷ es) p = ltb-true 0 (length (e ∷ es)) p
rest_some (highest k) es p = ltb-true 0 (length es) p

before_text :
    {k : Kind} {n m : ℕ} {s : List ℕ} {x : Machine} →
    Before k n m s x →
    may_end x.phase x.entries ≡ true →
    Text s x.header x.entries
before_text (Before.worded ba gb) p = never refl p
before_text (Before.rested {h = h} {es} rs) p = record { reads = rs; some = rest_some h es p }
before_text (Before.identified rs na gb) p = never refl p
before_text (Before.ranked rs na gb nc gd) p = never refl p
before_text (Before.fielded {es = es} {e} rs f) p = never (no_end_field e.targets es) p

pub ends_text :
    {s : List ℕ} {x : Machine} → Stands s x → may_end x.phase x.entries ≡ true → Text s x.header x.entries
ends_text (Stands.word k ba h) p = never refl p
ends_text (Stands.before b) p = before_text b p
ends_text (Stands.within {k} {x = x} b n) p = never (no_end_in k x.entries) p
ends_text (Stands.headed ba gb nc gd) p = never refl p
ends_text (Stands.targeted rs f n g) p = never refl p
ends_text (Stands.naming b q) p = never refl p
ends_text (Stands.named b q bb) p = never refl p

-- a text of the grammar leaves the machine before a record
pub text_stands : {s : List ℕ} {h : Header} {es : List Entry} → Text s h es → Stands s (resting h es)
text_stands t = Stands.before (Before.rested t.reads)
