-- The records that stand in the text of accepted tables, and that the tables read from them are those tables again.
use mathlib.Core.List.{List, [], ◌∷◌, ◌++◌, map}
use Rattle.std.specs.Prelude.{◌≡◌, refl, length, get_or}
use Rattle.std.proofs.Math.Path.{sym, ap}
use Rattle.std.proofs.Common.{subst, ◌∙◌, add-one, arith, eq-eqb, ne_eqb, ext_get_or, take-add, take_all, length-take-le}
use Prim.Native.Nat.{ℕ, zero, suc, ◌+◌, ◌-◌, min, ◌≤◌, ◌<◌}
use Rattle.std.proofs.Math.Decide.{dec_le}
use Rattle.std.proofs.Math.ListN.{take}
use Rattle.rules.specs.Counting.{times, listed}
use Rattle.rules.specs.Outcome.{none}
use Rattle.rules.specs.Pgsolver.{Entry, highest}
use Rattle.rules.specs.Reading.{targets_in, check31, entry_of, targets_up_to, tables_read}
use Rattle.rules.specs.Tables.{Tables, vertices, degree, targets_of, Accepted}
use Rattle.basics.specs.Basics.{length_listed, get_or_listed}
use Rattle.accepted.specs.Tables.{offset, Sound, accepted_sound}
use Rattle.grammar.specs.OneReading.{right_passes}
use Rattle.writing.specs.Lengths.{offset_after, targets_many}

-- ---- the records

-- the record of vertex v
abbrev pub entry_at : Tables → ℕ → Entry
entry_at t v =
    record {
      identifier = v;
      priority = get_or t.priorities v 0;
      owner = get_or t.owners v 0;
      targets = targets_of t.offsets t.targets v;
    }

-- k records from vertex v on
unfoldable pub entries_from : Tables → ℕ → ℕ → List Entry
entries_from t v zero = []
entries_from t v (suc k) = entry_at t v ∷ entries_from t (suc v) k

-- the records in identifier order
abbrev pub entries_of : Tables → List Entry
entries_of t = entries_from t 0 (vertices t)

pub entries_many : (t : Tables) (v k : ℕ) → length (entries_from t v k) ≡ k
unfolding entries_from
entries_many t v zero = refl
entries_many t v (suc k) = ap suc (entries_many t (suc v) k)

-- the last of them
entries_last : (t : Tables) (v k : ℕ) → entries_from t v (suc k) ≡ entries_from t v k ++ (entry_at t (v + k) ∷ [])
unfolding entries_from
entries_last t v zero = let same : v ≡ v + 0 = omega arith in ap (λ (u : ℕ). entry_at t u ∷ []) same
entries_last t v (suc k) =
    let same : suc v + k ≡ v + suc k = omega arith in
    ap (λ (es : List Entry). entry_at t v ∷ es)
    (entries_last t (suc v) k ∙ ap (λ (u : ℕ). entries_from t (suc v) k ++ (entry_at t u ∷ [])) same)

pub entries_next : (t : Tables) (k : ℕ) → entries_from t 0 (suc k) ≡ entries_from t 0 k ++ (entry_at t k ∷ [])
entries_next t k =
    let same : 0 + k ≡ k = omega arith in
    entries_last t 0 k ∙ ap (λ (u : ℕ). entries_from t 0 k ++ (entry_at t u ∷ [])) same

-- the first record with identifier v + j is the one of that vertex
entry_found : (t : Tables) (v k j : ℕ) → j < k → entry_of (entries_from t v k) (v + j) ≡ entry_at t (v + j)
unfolding entries_from entry_of
entry_found t v zero j less = absurd (omega arith)
entry_found t v (suc k) zero less =
    let same : v + 0 ≡ v = omega arith in
    rw (same, eq-eqb v v refl)
entry_found t v (suc k) (suc j) less =
    let same : suc v + j ≡ v + suc j = omega arith in
    rw (ne_eqb v (v + suc j) (λ e. omega (arith, e)))
    (subst (λ (i : ℕ). entry_of (entries_from t (suc v) k) i ≡ entry_at t i) same
    (entry_found t (suc v) k j (omega arith)))

pub entry_of_lem : (t : Tables) (i : ℕ) → i < vertices t → entry_of (entries_of t) i ≡ entry_at t i
entry_of_lem t i less =
    let same : 0 + i ≡ i = omega arith in
    subst (λ (j : ℕ). entry_of (entries_of t) j ≡ entry_at t j) same (entry_found t 0 (vertices t) i less)

-- ---- their identifiers

identifier_none :
    (t : Tables) (v k i : ℕ) → i < v → times i (map (λ e. e.identifier) (entries_from t v k)) ≡ 0
unfolding entries_from times
identifier_none t v zero i low = refl
identifier_none t v (suc k) i low =
    rw (ne_eqb i v (λ e. omega (arith, e))) (omega (arith, identifier_none t (suc v) k i (omega arith)))

identifier_once :
    (t : Tables) (v k i : ℕ) → v ≤ i → i < v + k → times i (map (λ e. e.identifier) (entries_from t v k)) ≡ 1
unfolding entries_from times
identifier_once t v zero i high low = absurd (omega arith)
identifier_once t v (suc k) i high low = go (dec_le i v) (identifier_once t (suc v) k i)
  where
    go :
        Dec (i ≤ v) →
        (suc v ≤ i → i < suc v + k → times i (map (λ e. e.identifier) (entries_from t (suc v) k)) ≡ 1) →
        times i (map (λ e. e.identifier) (entries_from t v (suc k))) ≡ 1
    go (yes p) ih =
        rw (eq-eqb i v (omega arith)) (omega (arith, identifier_none t (suc v) k i (omega arith)))
    go (no p) ih =
        rw (ne_eqb i v (λ e. p (omega (arith, e)))) (omega (arith, ih (omega (arith, p)) (omega arith)))

-- 31 is not given: each identifier is there once, and N is the highest
pub written_identifiers : (t : Tables) → 0 < vertices t → check31 (highest (vertices t - 1)) (entries_of t) ≡ none
written_identifiers t some =
    let many = entries_many t 0 (vertices t) in
    (right_passes (highest (vertices t - 1)) (entries_of t)).1
    (record {
      once = λ i less. identifier_once t 0 (vertices t) i (omega arith) (omega (arith, less, many));
      said = λ k e. let same : vertices t - 1 ≡ k = cc in omega (arith, same, many);
    })

-- ---- the tables read from them

targets_both : (a b : List Entry) → targets_in (a ++ b) ≡ targets_in a + targets_in b
unfolding targets_in
targets_both [] b = omega arith
targets_both (e ∷ a) b = omega (arith, targets_both a b)

module _ (t : Tables) (ok : Accepted t) where
  sound : Sound t
  sound = accepted_sound t ok

  -- the targets of the first vertices are the first targets
  pub targets_up_to_lem : (i : ℕ) → i ≤ vertices t → targets_up_to (entries_of t) i ≡ take (offset t i) t.targets
  unfolding targets_up_to targets_of
  targets_up_to_lem zero most = rw sound.offset_first
  targets_up_to_lem (suc i) most =
      let next : offset t (suc i) ≡ offset t i + degree t.offsets i =
      ap (offset t) (sym (add-one i)) ∙ offset_after t ok i most in
      ap (λ (e : Entry). targets_up_to (entries_of t) i ++ e.targets) (entry_of_lem t i most) ∙
      ap (λ (xs : List ℕ). xs ++ targets_of t.offsets t.targets i) (targets_up_to_lem i (omega arith)) ∙
      sym (take-add (offset t i) (degree t.offsets i) t.targets) ∙
      ap (λ (k : ℕ). take k t.targets) (sym next)

  -- how many targets the first records have
  pub targets_before : (k : ℕ) → k ≤ vertices t → targets_in (entries_from t 0 k) ≡ offset t k
  unfolding targets_in entries_from
  targets_before zero most = sym sound.offset_first
  targets_before (suc k) most =
      let next : offset t (suc k) ≡ offset t k + degree t.offsets k =
      ap (offset t) (sym (add-one k)) ∙ offset_after t ok k most in
      ap targets_in (entries_next t k) ∙
      targets_both (entries_from t 0 k) (entry_at t k ∷ []) ∙
      omega (arith, targets_before k (omega arith), targets_many t ok k most)

  many : length (entries_of t) ≡ vertices t
  many = entries_many t 0 (vertices t)

  owners_again : listed (length (entries_of t)) (λ i. min 255 (entry_of (entries_of t) i).owner) ≡ t.owners
  owners_again =
      ext_get_or 0 _ t.owners (length_listed (length (entries_of t)) _ ∙ many)
      (λ i low.
      let long = length_listed (length (entries_of t)) (λ k. min 255 (entry_of (entries_of t) k).owner) in
      let less : i < vertices t = omega (arith, low, many) in
      get_or_listed (length (entries_of t)) _ i 0 (omega (arith, less, many)) ∙
      ap (λ (e : Entry). min 255 e.owner) (entry_of_lem t i less) ∙
      omega (arith, sound.owner_small i less))

  priorities_again : listed (length (entries_of t)) (λ i. (entry_of (entries_of t) i).priority) ≡ t.priorities
  priorities_again =
      ext_get_or 0 _ t.priorities (length_listed (length (entries_of t)) _ ∙ many ∙ sym sound.priority_each)
      (λ i low.
      let long = length_listed (length (entries_of t)) (λ k. (entry_of (entries_of t) k).priority) in
      let less : i < vertices t = omega (arith, low, many) in
      get_or_listed (length (entries_of t)) _ i 0 (omega (arith, less, many)) ∙
      ap (λ (e : Entry). e.priority) (entry_of_lem t i less))

  offsets_again : listed (suc (length (entries_of t))) (λ i. length (targets_up_to (entries_of t) i)) ≡ t.offsets
  offsets_again =
      ext_get_or 0 _ t.offsets
      (length_listed (suc (length (entries_of t))) _ ∙ omega (arith, many, sound.offset_each))
      (λ i low.
      let long = length_listed (suc (length (entries_of t))) (λ k. length (targets_up_to (entries_of t) k)) in
      let less : i ≤ vertices t = omega (arith, low, many) in
      get_or_listed (suc (length (entries_of t))) _ i 0 (omega (arith, less, many)) ∙
      ap length (targets_up_to_lem i less) ∙
      length-take-le (offset t i) t.targets
      (omega (arith, sound.offset_grows i (vertices t) less (omega arith), sound.offset_last)))

  targets_again : targets_up_to (entries_of t) (length (entries_of t)) ≡ t.targets
  targets_again =
      ap (targets_up_to (entries_of t)) many ∙
      targets_up_to_lem (vertices t) (omega arith) ∙
      take_all (offset t (vertices t)) t.targets (omega (arith, sound.offset_last))

  -- The tables of the records are the tables.
  pub tables_again : tables_read (entries_of t) ≡ t
  unfolding tables_read
  tables_again =
      rw (owners_again, priorities_again, offsets_again, targets_again)
