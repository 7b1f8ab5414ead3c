-- How long the text is, piece by piece, and that no accepted game needs more than 131,085 bytes: 13 for the header, 12 for a
-- record and 5 for each of its targets.
use Rattle.std.specs.Prelude.{List, [], ◌∷◌, ◌++◌, ◌≡◌, refl, length, get_or, take, drop}
use Rattle.std.proofs.Common.{sym, ◌∙◌, add-one, take-append-drop, take_all, take-suc, get_or-take}
use Rattle.std.proofs.Math.Path.{ap, subst}
use Prim.Native.Nat.{ℕ, zero, suc, ◌+◌, ◌-◌, ◌*◌, ◌/◌, ◌%◌, ◌≤◌, ◌<◌}
use native.Mathlib.Omega.{arith}
use Rattle.std.proofs.Math.ListN.{length-append, length-take, length-drop}
use Rattle.std.proofs.Math.Seq.{get_or-drop}
use Rattle.rules.specs.Decimal.{decimal}
use Rattle.rules.specs.Pgsolver.{comma}
use Rattle.rules.specs.Tables.{Tables, vertices, edges_in, degree, targets_of, Accepted}
use Rattle.rules.specs.Writing.{blank, line_end, targets_text, record_text, records_text, header_text, text_of}
use Rattle.accepted.specs.Tables.{offset, Sound, accepted_sound, never_falls}
use Rattle.grammar.specs.Decimals.{decimal_small, decimal_large, decimal_short}

-- ---- digits

-- one digit
pub length_small : (n : ℕ) → n < 10 → length (decimal n) ≡ 1
length_small n low = ap length (decimal_small n low)

-- those of a tenth, and one more
pub length_large : (n : ℕ) → 10 ≤ n → length (decimal n) ≡ length (decimal (n / 10)) + 1
length_large n high = ap length (decimal_large n high) ∙ length-append (decimal (n / 10)) ((48 + n % 10) ∷ [])

-- ---- targets

-- the digits of each target and one byte behind it, a comma or the semicolon
unfoldable pub after_each : List ℕ → ℕ
after_each [] = 0
after_each (w ∷ ws) = length (decimal w) + 1 + after_each ws

pub after_append : (a b : List ℕ) → after_each (a ++ b) ≡ after_each a + after_each b
unfolding after_each
after_append [] b = omega arith
after_append (x ∷ a) b = omega (arith, after_append a b)

-- one target more
pub after_next :
    (ws : List ℕ) (i : ℕ) →
    i < length ws →
    after_each (take (i + 1) ws) ≡ after_each (take i ws) + (length (decimal (get_or ws i 0)) + 1)
unfolding after_each
after_next ws i less =
    ap (λ (k : ℕ). after_each (take k ws)) (add-one i) ∙
    ap after_each (take-suc ws i 0 less) ∙
    omega (arith, after_append (take i ws) (get_or ws i 0 ∷ []))

pub after_all : (ws : List ℕ) (i : ℕ) → length ws ≤ i → after_each (take i ws) ≡ after_each ws
after_all ws i all = ap after_each (take_all i ws all)

-- the first targets need no more than all
pub after_first : (ws : List ℕ) (i : ℕ) → after_each (take i ws) ≤ after_each ws
after_first ws i =
    omega (arith, after_append (take i ws) (drop i ws), ap after_each (take-append-drop i ws))

pub targets_length : (ws : List ℕ) → 0 < length ws → length (targets_text ws) + 1 ≡ after_each ws
unfolding targets_text after_each
targets_length [] some = omega arith
targets_length (w ∷ []) some = omega arith
targets_length (w ∷ (x ∷ ws)) some =
    omega (arith, targets_length (x ∷ ws) (omega arith), length-append (decimal w) (comma ∷ targets_text (x ∷ ws)))

-- four digits at most
after_short : (ws : List ℕ) → ((i : ℕ) → i < length ws → get_or ws i 0 < 10000) → after_each ws ≤ 5 * length ws
unfolding after_each
after_short [] small = omega arith
after_short (w ∷ ws) small =
    omega (arith, decimal_short 3 w (small 0 (omega arith)), after_short ws (λ i less. small (suc i) (omega arith)))

-- ---- a record

-- a record's text from its fields
abbrev pub record_bytes : ℕ → ℕ → ℕ → List ℕ → List ℕ
record_bytes v p o ws =
    decimal v ++
    (blank ∷ (decimal p ++ (blank ∷ (decimal o ++ (blank ∷ (targets_text ws ++ line_end))))))

pub record_bytes_lem :
    (t : Tables) (v : ℕ) →
    record_text t v ≡
    record_bytes v (get_or t.priorities v 0) (get_or t.owners v 0) (targets_of t.offsets t.targets v)
unfolding record_text
record_bytes_lem t v = refl

-- three blanks and LF beside the digits, and a byte behind each target
pub record_length :
    (v p o : ℕ) (ws : List ℕ) →
    0 < length ws →
    length (record_bytes v p o ws) ≡ length (decimal v) + length (decimal p) + length (decimal o) + after_each ws + 4
record_length v p o ws some =
    simp length-append (omega (arith, targets_length ws some))

-- ---- the text

pub header_length : (n : ℕ) → length (header_text n) ≡ length (decimal (n - 1)) + 9
unfolding header_text
header_length n = simp length-append (omega arith)

pub text_length : (t : Tables) → length (text_of t) ≡ length (header_text (vertices t)) + length (records_text t (vertices t))
unfolding text_of
text_length t = length-append (header_text (vertices t)) (records_text t (vertices t))

-- one record more
pub records_next : (t : Tables) (v : ℕ) → records_text t (v + 1) ≡ records_text t v ++ record_text t v
unfolding records_text
records_next t v = ap (records_text t) (add-one v)

pub records_length : (t : Tables) (v : ℕ) → length (records_text t (v + 1)) ≡ length (records_text t v) + length (record_text t v)
records_length t v = ap length (records_next t v) ∙ length-append (records_text t v) (record_text t v)

-- the first records need no more than all
pub records_first : (t : Tables) (j k : ℕ) → j ≤ k → length (records_text t j) ≤ length (records_text t k)
records_first t j k up =
    never_falls (λ i. length (records_text t i)) k (λ i less. omega (arith, records_length t i)) j k up (omega arith)

-- ---- an accepted game

module _ (t : Tables) (ok : Accepted t) where
  sound : Sound t
  sound = accepted_sound t ok

  -- the edges of a vertex are in the table
  pub offsets_within : (v : ℕ) → v < vertices t → offset t v + degree t.offsets v ≤ edges_in t
  unfolding degree
  offsets_within v less =
      omega (
        arith,
        sound.offset_next v less,
        sound.offset_grows (v + 1) (vertices t) (omega arith) (omega arith),
        sound.offset_last,
      )

  pub offset_after : (v : ℕ) → v < vertices t → offset t (v + 1) ≡ offset t v + degree t.offsets v
  unfolding degree
  offset_after v less = omega (arith, sound.offset_next v less)

  pub targets_many : (v : ℕ) → v < vertices t → length (targets_of t.offsets t.targets v) ≡ degree t.offsets v
  unfolding targets_of
  targets_many v less =
      length-take (degree t.offsets v) (drop (offset t v) t.targets) ∙
      omega (arith, length-drop (offset t v) t.targets, offsets_within v less)

  pub targets_some : (v : ℕ) → v < vertices t → 0 < length (targets_of t.offsets t.targets v)
  targets_some v less = omega (arith, targets_many v less, sound.has_edge v less)

  pub targets_low :
      (v : ℕ) →
      v < vertices t →
      (i : ℕ) →
      i < length (targets_of t.offsets t.targets v) →
      get_or (targets_of t.offsets t.targets v) i 0 < vertices t
  unfolding targets_of
  targets_low v less i low =
      let many = targets_many v less in
      subst (λ (w : ℕ). w < vertices t)
      (sym
      (get_or-take (degree t.offsets v) (drop (offset t v) t.targets) i 0 (omega arith) ∙
      get_or-drop (offset t v) t.targets i 0))
      (sound.target_below (offset t v + i) (omega (arith, offsets_within v less)))

  pub after_bound : (v : ℕ) → v < vertices t → after_each (targets_of t.offsets t.targets v) ≤ 5 * degree t.offsets v
  after_bound v less =
      omega (
        arith,
        after_short (targets_of t.offsets t.targets v)
            (λ i low. omega (arith, targets_low v less i low, sound.few_vertices)),
        targets_many v less,
      )

  pub record_bound : (v : ℕ) → v < vertices t → length (record_text t v) ≤ 12 + 5 * degree t.offsets v
  record_bound v less =
      let p = get_or t.priorities v 0 in
      let o = get_or t.owners v 0 in
      omega (
        arith,
        ap length (record_bytes_lem t v),
        record_length v p o (targets_of t.offsets t.targets v) (targets_some v less),
        decimal_short 3 v (omega (arith, sound.few_vertices)),
        decimal_short 2 p (omega (arith, sound.priority_small v less)),
        decimal_short 0 o (omega (arith, sound.owner_small v less)),
        after_bound v less,
      )

  records_bound : (v : ℕ) → v ≤ vertices t → length (records_text t v) ≤ 12 * v + 5 * offset t v
  unfolding records_text
  records_bound zero most = omega arith
  records_bound (suc v) most =
      let next : offset t (suc v) ≡ offset t v + degree t.offsets v =
      ap (offset t) (sym (add-one v)) ∙ offset_after v most in
      omega (arith, length-append (records_text t v) (record_text t v), records_bound v (omega arith), record_bound v most)

  -- No accepted game needs more than this.
  pub text_bounded : length (text_of t) ≤ 131085
  text_bounded =
      omega (
        arith,
        text_length t,
        header_length (vertices t),
        decimal_short 3 (vertices t - 1) (omega (arith, sound.few_vertices)),
        records_bound (vertices t) (omega arith),
        sound.few_vertices,
        sound.few_edges,
        sound.offset_last,
      )
