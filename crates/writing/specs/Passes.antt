-- The machine passes over the text that is written: over each piece it goes on, and no state on the way is beyond a limit that
-- game and text keep.
use Rattle.std.specs.Prelude.{Bool, false, cond, ◌||◌, List, [], ◌∷◌, ◌++◌, ◌≡◌, refl, ℕ, zero, suc, ◌+◌, ◌-◌, ◌≤◌, ◌<◌, ltb, leb, length, get_or}
use Rattle.std.proofs.Common.{append_assoc, sym, ap, subst, ◌∙◌, arith, lt-ltb, le-ltb, lit<, length-append}
use Rattle.std.proofs.lemmas.Bool.{lt-leb}
use Rattle.std.proofs.Math.Seq.{append_snoc}
use Rattle.rules.specs.Decimal.{decimal}
use Rattle.rules.specs.Outcome.{none}
use Rattle.rules.specs.Pgsolver.{comma, Entry, with_target, Header, highest, Number, first, next}
use Rattle.rules.specs.Reading.{Limits, highest_number, targets_in, Reads}
use Rattle.rules.specs.Writing.{line_end, targets_text, header_text}
use Rattle.grammar.specs.Machine.{class_of, Machine, Went, on, over, Phase, at_first, no_entry_yet, reading, longer, Run, live}
use Rattle.grammar.specs.Machine.{between_records, past_identifier, past_priority}
use Rattle.grammar.specs.Machine.{past_owner, in_target, past_comma, run_from, Read, end_of, reading_of}
use Rattle.grammar.specs.Free.{free_step, Steps, Goes, stays, goes_step}
use Rattle.grammar.specs.Classes.{digit_range}
use Rattle.grammar.specs.Standing.{numbered, ranked_as, having}
use Rattle.grammar.specs.Reaches.{DigitCounts, counts}
use Rattle.grammar.specs.Limited.{far, limited}
use Rattle.grammar.specs.Runs.{landed, next_landed}
use Rattle.grammar.specs.Correct.{machine_reads}
use Rattle.grammar.specs.Decimals.{decimal_number}
use Rattle.writing.specs.Lengths.{record_bytes}

-- ---- over bytes

-- the machine goes over these bytes, and no state on the way is beyond a limit
pub data Passes (l : Limits) : Machine → List ℕ → Machine → Type 0 where
  ends : {x : Machine} → Passes l x [] x
  byte :
      {x y z : Machine} {b : ℕ} {bs : List ℕ} →
      b < 256 →
      Steps x b y →
      far l y ≡ false →
      Passes l y bs z →
      Passes l x (b ∷ bs) z

pub passes_on : {l : Limits} {x y z : Machine} {a b : List ℕ} → Passes l x a y → Passes l y b z → Passes l x (a ++ b) z
passes_on Passes.ends q = q
passes_on (Passes.byte h s f p) q = Passes.byte h s f (passes_on p q)

pub passes_goes : {l : Limits} {x y : Machine} {a : List ℕ} → Passes l x a y → Goes x a y
passes_goes Passes.ends = stays
passes_goes (Passes.byte h s f p) = goes_step s (passes_goes p)

passes_bytes : {l : Limits} {x y : Machine} {a : List ℕ} → Passes l x a y → (k : ℕ) → get_or a k 0 < 256
passes_bytes Passes.ends k = lit< tt
passes_bytes (Passes.byte h s f p) zero = h
passes_bytes (Passes.byte h s f p) (suc k) = passes_bytes p k

-- so the machine with limits comes there too, as long as the bytes last
passes_run :
    {l : Limits} {x y : Machine} {a : List ℕ} (k : ℕ) →
    far l x ≡ false →
    k + length a ≤ l.bytes →
    Passes l x a y →
    run_from l k (live x) a ≡ live y
unfolding run_from
passes_run k near fits Passes.ends = refl
passes_run {l} {x} k near fits (Passes.byte {y = y} {b = b} {bs} h s f p) =
    ap (λ (r : Run). run_from l (suc k) r bs)
    (next_landed l k x b near ∙
    ap (λ (t : Bool). landed k (cond t (limited l (free_step x b)) over)) (lt-ltb k l.bytes (omega arith)) ∙
    ap (λ (w : Went). landed k (limited l w)) s.step ∙
    ap (λ (t : Bool). landed k (cond t over (on y))) f) ∙
    passes_run (suc k) f (omega arith) p

-- and the rules read the records that it has then
pub passes_reads :
    {l : Limits} {text : List ℕ} {h : Header} {es : List Entry} →
    length text ≤ l.bytes →
    0 < length es →
    Passes l at_first text (having between_records h es no_entry_yet) →
    Reads l text none h es
unfolding end_of
passes_reads {l} {text} {h} {es} fits some p =
    subst (λ (r : Read). Reads l text r.verdict r.header r.entries) read (machine_reads l text (passes_bytes p))
  where
    read : reading_of l text ≡ record { verdict = none; header = h; entries = es }
    read =
        ap (end_of (length text)) (passes_run 0 refl (omega arith) p) ∙ rw (lt-ltb 0 (length es) some)

-- ---- over a number

passes_number :
    {l : Limits} {s : Machine} {φ : Phase} {d : List ℕ} {v : ℕ} →
    DigitCounts s φ →
    Number d v →
    ((u : ℕ) → u ≤ v → far l (reading φ u s) ≡ false) →
    Passes l s d (reading φ v s)
passes_number c (first b h) near =
    Passes.byte {b = b} (omega (arith, digit_range b h)) (c.begins b h) (near (b - 48) (omega arith)) Passes.ends
passes_number c (next {v = v} n b h) near =
    passes_on (passes_number c n (λ u low. near u (omega (arith, low))))
    (Passes.byte {b = b} (omega (arith, digit_range b h)) (c.grows v b h) (near (longer v b) (omega arith)) Passes.ends)

-- a value that is no higher than one that is not beyond the limit
value_near : (u v : ℕ) → v ≤ highest_number → u ≤ v → ltb highest_number u ≡ false
value_near u v small low = le-ltb highest_number u (omega arith)

-- nor is a count below its limit
count_near : (k n u v : ℕ) → n < k → v ≤ highest_number → u ≤ v → (leb k n || ltb highest_number u) ≡ false
count_near k n u v room small low = rw (lt-leb k n room, value_near u v small low)

-- ---- over the header

pub passes_header :
    (l : Limits) (n : ℕ) →
    n ≤ highest_number →
    Passes l at_first (header_text n) (having between_records (highest (n - 1)) [] no_entry_yet)
unfolding header_text class_of
passes_header l n small =
    Passes.byte (lit< tt) (record { step = refl }) refl
    (Passes.byte (lit< tt) (record { step = refl }) refl
    (Passes.byte (lit< tt) (record { step = refl }) refl
    (Passes.byte (lit< tt) (record { step = refl }) refl
    (Passes.byte (lit< tt) (record { step = refl }) refl
    (Passes.byte (lit< tt) (record { step = refl }) refl
    (Passes.byte (lit< tt) (record { step = refl }) refl
    (passes_on
    (passes_number (counts (λ b. refl) (λ v b. refl)) (decimal_number (n - 1)) (λ u low. value_near u (n - 1) (omega arith) low))
    (Passes.byte (lit< tt) (record { step = refl }) refl (Passes.byte (lit< tt) (record { step = refl }) refl Passes.ends)))))))))

-- ---- over a record

-- the record with these targets behind its own
abbrev pub with_targets : Entry → List ℕ → Entry
with_targets e ws =
    record { identifier = e.identifier; priority = e.priority; owner = e.owner; targets = e.targets ++ ws }

-- from before a target to behind the record
passes_targets :
    {l : Limits} {φ : Phase} (h : Header) (es : List Entry) (e : Entry) (ws : List ℕ) →
    0 < length ws →
    DigitCounts (having φ h es e) in_target →
    targets_in es + length e.targets + length ws ≤ l.edges →
    ((i : ℕ) → i < length ws → get_or ws i 0 ≤ highest_number) →
    Passes l (having φ h es e) (targets_text ws ++ line_end) (having between_records h (es ++ (with_targets e ws ∷ [])) no_entry_yet)
unfolding targets_text class_of
passes_targets h es e [] some c room small = absurd (omega arith)
passes_targets {l} h es e (w ∷ []) some c room small =
    passes_on
    (passes_number c (decimal_number w)
    (λ u low. count_near l.edges (targets_in es + length e.targets) u w (omega arith) (small 0 (omega arith)) low))
    (Passes.byte (lit< tt) (record { step = refl }) refl (Passes.byte (lit< tt) (record { step = refl }) refl Passes.ends))
passes_targets {l} {φ} h es e (w ∷ (x ∷ ws)) some c room small =
    let e' = with_target e w in
    let more : length (e.targets ++ (w ∷ [])) ≡ length e.targets + 1 = length-append e.targets (w ∷ []) in
    subst
    (λ (s : List ℕ).
    Passes l (having φ h es e) s (having between_records h (es ++ (with_targets e (w ∷ (x ∷ ws)) ∷ [])) no_entry_yet))
    (sym (append_assoc (decimal w) (comma ∷ targets_text (x ∷ ws)) line_end))
    (passes_on
    (passes_number c (decimal_number w)
    (λ u low. count_near l.edges (targets_in es + length e.targets) u w (omega arith) (small 0 (omega arith)) low))
    (Passes.byte (lit< tt) (record { step = refl }) refl
    (subst
    (λ (ts : List ℕ).
    Passes l (having past_comma h es e') (targets_text (x ∷ ws) ++ line_end)
    (having between_records h
    (es ++ (record { identifier = e.identifier; priority = e.priority; owner = e.owner; targets = ts } ∷ []))
    no_entry_yet))
    (append_snoc e.targets w (x ∷ ws))
    (passes_targets h es e' (x ∷ ws) (omega arith) (counts (λ b. refl) (λ v b. refl)) (omega arith)
    (λ i low. small (suc i) (omega arith))))))

pub record SmallRecord (l : Limits) (es : List Entry) (v p o : ℕ) (ws : List ℕ) : Type 0 where
  pub vertex_room : length es < l.vertices
  pub edge_room : targets_in es + length ws ≤ l.edges
  pub some : 0 < length ws
  pub identifier_small : v ≤ highest_number
  pub priority_small : p ≤ highest_number
  pub owner_small : o ≤ highest_number
  pub targets_small : (i : ℕ) → i < length ws → get_or ws i 0 ≤ highest_number

pub passes_record :
    {l : Limits} (k : ℕ) (es : List Entry) (v p o : ℕ) (ws : List ℕ) →
    SmallRecord l es v p o ws →
    Passes l (having between_records (highest k) es no_entry_yet) (record_bytes v p o ws)
    (having between_records (highest k)
    (es ++ (record { identifier = v; priority = p; owner = o; targets = ws } ∷ []))
    no_entry_yet)
unfolding class_of
passes_record {l} k es v p o ws s =
    passes_on
    (passes_number (counts (λ b. refl) (λ v b. refl)) (decimal_number v)
    (λ u low. count_near l.vertices (length es) u v s.vertex_room s.identifier_small low))
    (Passes.byte {y = having past_identifier (highest k) es (numbered v)} (lit< tt) (record { step = refl }) refl
    (passes_on
    (passes_number (counts (λ b. refl) (λ v b. refl)) (decimal_number p) (λ u low. value_near u p s.priority_small low))
    (Passes.byte {y = having past_priority (highest k) es (ranked_as v p)} (lit< tt) (record { step = refl }) refl
    (passes_on
    (passes_number (counts (λ b. refl) (λ v b. refl)) (decimal_number o) (λ u low. value_near u o s.owner_small low))
    (Passes.byte (lit< tt) (record { step = refl }) refl
    (passes_targets {φ = past_owner} (highest k) es (record { identifier = v; priority = p; owner = o; targets = [] }) ws
    s.some
    (counts (λ b. refl) (λ v b. refl))
    (omega (arith, s.edge_room))
    s.targets_small))))))
