-- What a pass over the tables tells: how high its numbers go, and that the offsets rise. Tables of which all of it holds pass
-- the checks 4 to 8.
use Rattle.std.specs.Prelude.{true, false, List, ◌≡◌, ℕ, ◌+◌, ◌≤◌, ◌<◌, eqb, ltb, leb, get_or}
use Rattle.std.proofs.Common.{true≢false, sym, ◌∙◌, arith, below_more, le-ltb, eq-eqb, ne_eqb}
use Rattle.std.proofs.lemmas.Bool.{lt-leb}
use Rattle.rules.specs.Outcome.{Verdict, none, ◌then◌}
use Rattle.rules.specs.Tables.{Tables, vertices, edges_in, degree, table_checks}
use Rattle.rules.specs.Tables.{check4, check5, check6, check7, check8}
use Rattle.parity_game.specs.Laws.{length_checks, from4, tables_grouped}
use Rattle.parity_game.specs.Search.{none_found}

-- of the first k numbers none is above `most`
abbrev pub NoneAbove : ℕ → List ℕ → ℕ → Type 0
NoneAbove k numbers most = (i : ℕ) → i < k → get_or numbers i 0 ≤ most

-- each of the first k offsets is below the next
abbrev pub Rises : ℕ → List ℕ → Type 0
Rises k offsets = (v : ℕ) → v < k → get_or offsets v 0 < get_or offsets (v + 1) 0

pub record Well (t : Tables) : Type 0 where
  pub owners : NoneAbove (vertices t) t.owners 1
  pub priorities : NoneAbove (vertices t) t.priorities 255
  pub begins : get_or t.offsets 0 0 ≡ 0
  pub ends : get_or t.offsets (vertices t) 0 ≡ edges_in t
  pub rises : Rises (vertices t) t.offsets
  pub targets : (e : ℕ) → e < edges_in t → get_or t.targets e 0 < vertices t

-- one number more
pub none_above_more :
    (k most most' : ℕ) (numbers : List ℕ) → NoneAbove k numbers most → most ≤ most' → get_or numbers k 0 ≤ most' →
    NoneAbove (k + 1) numbers most'
none_above_more k most most' numbers h up l =
    below_more (λ (i : ℕ). get_or numbers i 0 ≤ most') k (λ i less. omega (arith, up, h i less)) l

-- one offset more
pub rises_more :
    (k : ℕ) (offsets : List ℕ) → Rises k offsets → get_or offsets k 0 < get_or offsets (k + 1) 0 → Rises (k + 1) offsets
rises_more k offsets h l = below_more (λ (v : ℕ). get_or offsets v 0 < get_or offsets (v + 1) 0) k h l

-- an offset below the next leaves the vertex an edge
rises_edge : (offsets : List ℕ) (v : ℕ) → get_or offsets v 0 < get_or offsets (v + 1) 0 → eqb (degree offsets v) 0 ≡ false
unfolding degree
rises_edge offsets v l = ne_eqb (degree offsets v) 0 (λ e. omega (arith, l, e))

-- **tables that are well pass 4 to 8**
pub well_passes : (t : Tables) → Well t → from4 t ≡ none
unfolding check4 check5 check6 check7 check8
well_passes t w =
    let n = vertices t in
    let falls-not =
    none_found 6 n (λ i. ltb (get_or t.offsets (i + 1) 0) (get_or t.offsets i 0))
    (λ k l. le-ltb (get_or t.offsets (k + 1) 0) (get_or t.offsets k 0) (omega (arith, w.rises k l))) in
    simp (
      none_found 4 n (λ v. ltb 1 (get_or t.owners v 0)) (λ k l. le-ltb _ _ (w.owners k l)),
      none_found 5 n (λ v. ltb 255 (get_or t.priorities v 0)) (λ k l. le-ltb _ _ (w.priorities k l)),
      eq-eqb _ _ w.begins,
      falls-not,
      eq-eqb _ _ w.ends,
      none_found 7 (edges_in t) (λ e. leb n (get_or t.targets e 0)) (λ k l. lt-leb _ _ (w.targets k l)),
      none_found 8 n (λ v. eqb (degree t.offsets v) 0) (λ k l. rises_edge t.offsets k (w.rises k l)),
    )

-- what a test that says no tells of tables: nothing
pub never : {A : Type 0} → false ≡ true → A
never e = absurd (true≢false (sym e))

-- tables that pass 1 to 3 and 4 to 8 pass all
pub both_pass : (t : Tables) → length_checks t ≡ none → from4 t ≡ none → table_checks t ≡ none
both_pass t lengths rest = tables_grouped t ∙ passed_on (length_checks t) lengths
  where
    passed_on : (v : Verdict) → v ≡ none → (v then from4 t) ≡ none
    passed_on v e = rw (e, rest)
