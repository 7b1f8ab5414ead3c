-- Tables without priorities, which edges do not depend on: what is kept, dropped and written of edges is the same as with them.
use Rattle.std.specs.Prelude.{List, [], ◌≡◌, refl, ℕ, zero, suc, length}
use Rattle.std.proofs.Common.{ap}
use Rattle.rules.specs.Counting.{count, listed}
use Rattle.rules.specs.Mending.{kept_targets, altered, new_targets_of, new_targets_up_to, mended, dropped_up_to}
use Rattle.rules.specs.Tables.{Tables, tables_of, vertices}
use Rattle.theory.specs.Mending.{Shaped}

abbrev pub bare : List ℕ → List ℕ → List ℕ → Tables
bare owners offsets targets = tables_of owners [] offsets targets

abbrev pub bared : Tables → Tables
bared t = bare t.owners t.offsets t.targets

pub bared_shaped : (t : Tables) → Shaped t → Shaped (bared t)
bared_shaped t s =
    record {
      few_vertices = s.few_vertices;
      offset_each = s.offset_each;
      few_edges = s.few_edges;
      offset_first = s.offset_first;
      offset_grows = s.offset_grows;
      offset_last = s.offset_last;
    }

pub bared_altered : (t : Tables) (v : ℕ) → altered (bared t) v ≡ altered t v
unfolding altered kept_targets
bared_altered t v = refl

pub bared_count : (t : Tables) (k : ℕ) → count k (altered (bared t)) ≡ count k (altered t)
unfolding count
bared_count t zero = refl
bared_count t (suc k) = rw (bared_count t k, bared_altered t k)

pub bared_new : (t : Tables) (k : ℕ) → new_targets_up_to (bared t) k ≡ new_targets_up_to t k
unfolding new_targets_up_to new_targets_of altered kept_targets
bared_new t zero = refl
bared_new t (suc v) = rw (bared_new t v)

-- dropped edges do not depend on the offsets either
pub bared_dropped : (t : Tables) (k : ℕ) → dropped_up_to (bare t.owners [] t.targets) k ≡ dropped_up_to t k
unfolding dropped_up_to
bared_dropped t zero = refl
bared_dropped t (suc e) = rw (bared_dropped t e)

listed_same : (n : ℕ) (f g : ℕ → ℕ) → ((k : ℕ) → f k ≡ g k) → listed n f ≡ listed n g
unfolding listed
listed_same zero f g h = refl
listed_same (suc n) f g h = rw (h 0, listed_same n (λ k. f (suc k)) (λ k. g (suc k)) (λ k. h (suc k)))

pub bared_offsets : (t : Tables) → (mended (bared t)).offsets ≡ (mended t).offsets
unfolding mended
bared_offsets t = listed_same (suc (vertices t)) _ _ (λ k. ap length (bared_new t k))

pub bared_targets : (t : Tables) → (mended (bared t)).targets ≡ (mended t).targets
unfolding mended
bared_targets t = bared_new t (vertices t)
