-- The edges of a vertex beside a set of words: what a loop over them that asks whether their targets are in the set may take for
-- granted.
use Rattle.std.specs.Prelude.{List, ◌≡◌, ℕ, ◌+◌, ◌*◌, ◌≤◌, ◌<◌, length, get_or}
use Rattle.std.proofs.Common.{le_refl, arith}
use Rattle.rules.specs.Tables.{words}
use Rattle.parity_game.specs.Laws.{never_falls}
use Rattle.predecessors.specs.Table.{SoundEdges}
use Rattle.area.specs.Lent.{words_enough}

-- the edges of v are in the target table, and each target has a bit in the set
pub record EdgesOf (offsets targets : List ℕ) (v : ℕ) (set : List ℕ) : Type 0 where
  pub each : v + 1 < length offsets
  pub rising : get_or offsets v 0 ≤ get_or offsets (v + 1) 0
  pub top : get_or offsets (v + 1) 0 ≤ length targets
  pub bits : (e : ℕ) → e < length targets → get_or targets e 0 < 64 * length set

-- sound edges, and a set of words enough
pub edges_of :
    {n : ℕ} {offsets targets : List ℕ} →
    SoundEdges n offsets targets →
    {v : ℕ} →
    v < n →
    {set : List ℕ} →
    length set ≡ words n →
    EdgesOf offsets targets v set
edges_of {n} {offsets} {targets} edges {v} small long =
    record {
      each = omega (arith, edges.offset_each);
      rising = edges.offset_next v small;
      top =
          let grows = never_falls (λ i. get_or offsets i 0) n edges.offset_next (v + 1) n (omega arith) (le_refl n) in
          omega (arith, edges.offset_last);
      bits = λ e l. rw long (words_enough n (get_or targets e 0) (edges.target_below e l));
    }
