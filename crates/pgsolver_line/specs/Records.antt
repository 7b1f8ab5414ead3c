-- Records put one behind another: what the tables have at a vertex, a record from its pieces, and the records before it.
use Rattle.std.specs.Prelude.{List, [], ◌∷◌, ◌++◌, ◌≡◌, refl, ℕ, ◌+◌, ◌-◌, ◌≤◌, ◌<◌, length, get_or, take, drop}
use Rattle.std.proofs.Common.{append_assoc, sym, ap, subst, ◌∙◌, arith, length-append}
use Rattle.rules.specs.Decimal.{decimal}
use Rattle.rules.specs.Tables.{Tables, vertices, degree, targets_of}
use Rattle.rules.specs.Writing.{blank, line_end, targets_text, record_text, records_text}
use Rattle.accepted.specs.Tables.{offset, accepted_sound}
use Rattle.putting.specs.Puts.{Puts, puts_none, puts_both}
use Rattle.writing.specs.Lengths.{record_bytes, record_bytes_lem, records_next, records_length, records_first}
use Rattle.writing.specs.Lengths.{offsets_within, offset_after, targets_some, text_length, text_bounded}
use Rattle.pgsolver_line.specs.Written.{PutWritten}

-- ---- a vertex of the tables

-- the targets of v, as a part of the table
abbrev pub part_of : Tables → ℕ → List ℕ
part_of t v = take (offset t (v + 1) - offset t v) (drop (offset t v) t.targets)

-- its record
abbrev pub row_bytes : Tables → ℕ → List ℕ
row_bytes t v = record_bytes v (get_or t.priorities v 0) (get_or t.owners v 0) (part_of t v)

-- what the tables have at v
pub record RecordRow (t : Tables) (v : ℕ) : Type 0 where
  pub priority : v < length t.priorities
  pub next : v + 1 < length t.offsets
  pub order : offset t v ≤ offset t (v + 1)
  pub within : offset t (v + 1) ≤ length t.targets
  pub few : length t.targets ≤ 16384
  pub some : 0 < length (part_of t v)
  pub more : length (records_text t (v + 1)) ≡ length (records_text t v) + length (row_bytes t v)
  pub room : length (records_text t (v + 1)) ≤ length (records_text t (vertices t))
  pub small : length (records_text t (vertices t)) ≤ 131085

row_bytes_lem : (t : Tables) (v : ℕ) → record_text t v ≡ row_bytes t v
unfolding targets_of degree
row_bytes_lem t v = record_bytes_lem t v

part_some : (t : Tables) → PutWritten t → (v : ℕ) → v < vertices t → 0 < length (part_of t v)
unfolding targets_of degree
part_some t w v less = targets_some t w.accepted v less

pub row : (t : Tables) → PutWritten t → (v : ℕ) → v < vertices t → RecordRow t v
unfolding degree
row t w v less =
    let sound = accepted_sound t w.accepted in
    record {
      priority = omega (arith, sound.priority_each);
      next = omega (arith, sound.offset_each);
      order = sound.offset_next v less;
      within = omega (arith, offset_after t w.accepted v less, offsets_within t w.accepted v less);
      few = sound.few_edges;
      some = part_some t w v less;
      more = records_length t v ∙ ap (λ (s : List ℕ). length (records_text t v) + length s) (row_bytes_lem t v);
      room = records_first t (v + 1) (vertices t) (omega arith);
      small = omega (arith, text_length t, text_bounded t w.accepted);
    }

-- ---- a record from its pieces

-- the three numbers before the targets, a blank behind each
abbrev pub fields_bytes : ℕ → ℕ → ℕ → List ℕ
fields_bytes v p o = decimal v ++ (blank ∷ (decimal p ++ (blank ∷ (decimal o ++ (blank ∷ [])))))

fields_joined :
    (v p o : ℕ) →
    (decimal v ++ (blank ∷ [])) ++ ((decimal p ++ (blank ∷ [])) ++ (decimal o ++ (blank ∷ []))) ≡ fields_bytes v p o
fields_joined v p o = simp append_assoc

pub fields_pieces :
    (v p o : ℕ) →
    length (fields_bytes v p o) ≡
    length (decimal v ++ (blank ∷ [])) + (length (decimal p ++ (blank ∷ [])) + length (decimal o ++ (blank ∷ [])))
fields_pieces v p o = ap length (sym (fields_joined v p o)) ∙ simp length-append

pub fields_put :
    {at at₁ at₂ r : ℕ} {out out₁ out₂ after : List ℕ} (v p o : ℕ) →
    Puts at (decimal v ++ (blank ∷ [])) out out₁ at₁ →
    Puts at₁ (decimal p ++ (blank ∷ [])) out₁ out₂ at₂ →
    Puts at₂ (decimal o ++ (blank ∷ [])) out₂ after r →
    Puts at (fields_bytes v p o) out after r
fields_put {at} {r = r} {out = out} {after = after} v p o a b c =
    subst (λ (s : List ℕ). Puts at s out after r) (fields_joined v p o) (puts_both a (puts_both b c))

record_joined :
    (v p o : ℕ) (ws : List ℕ) → fields_bytes v p o ++ (targets_text ws ++ line_end) ≡ record_bytes v p o ws
record_joined v p o ws = simp append_assoc

pub record_pieces :
    (v p o : ℕ) (ws : List ℕ) →
    length (record_bytes v p o ws) ≡ length (fields_bytes v p o) + length (targets_text ws ++ line_end)
record_pieces v p o ws =
    ap length (sym (record_joined v p o ws)) ∙ length-append (fields_bytes v p o) (targets_text ws ++ line_end)

pub record_put :
    {at at₁ r : ℕ} {out out₁ after : List ℕ} (v p o : ℕ) (ws : List ℕ) →
    Puts at (fields_bytes v p o) out out₁ at₁ →
    Puts at₁ (targets_text ws ++ line_end) out₁ after r →
    Puts at (record_bytes v p o ws) out after r
record_put {at} {r = r} {out = out} {after = after} v p o ws a b =
    subst (λ (s : List ℕ). Puts at s out after r) (record_joined v p o ws) (puts_both a b)

-- ---- the records before a vertex

pub records_none : (t : Tables) (at : ℕ) (out : List ℕ) → Puts at (records_text t 0) out out at
unfolding records_text
records_none t at out = puts_none at out

pub records_empty : (t : Tables) → length (records_text t 0) ≡ 0
unfolding records_text
records_empty t = refl

-- one more
pub records_put :
    {at next r : ℕ} {before between after : List ℕ} (t : Tables) (v : ℕ) →
    Puts at (records_text t v) before between next →
    Puts next (row_bytes t v) between after r →
    Puts at (records_text t (v + 1)) before after r
records_put {at} {r = r} {before = before} {after = after} t v a b =
    subst (λ (s : List ℕ). Puts at s before after r)
    (sym (records_next t v ∙ ap (λ (s : List ℕ). records_text t v ++ s) (row_bytes_lem t v)))
    (puts_both a b)
