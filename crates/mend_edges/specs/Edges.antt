-- What the writing of one vertex's edges needs, and what it leaves where an edge was kept and where none was.
use Rattle.std.specs.Prelude.{List, [], ◌∷◌, ◌≡◌, refl, ℕ, ◌+◌, ◌≤◌, ◌<◌, length, set}
use Rattle.std.proofs.Common.{arith}
use Rattle.rules.specs.Mending.{kept_targets, new_targets_of}
use Rattle.rules.specs.Tables.{Tables, vertices}
use Rattle.theory.specs.Mending.{Shaped, new_positive}
use Rattle.mend_counts.specs.Placed.{WrittenUpTo, written_length, written_more}
use Rattle.mend_counts.specs.Steps.{new_kept, new_loop, alone_altered, kept_unaltered}

-- v is a vertex, and its new edges have room from `at` on
pub record EdgesFit (t : Tables) (v at : ℕ) (before : List ℕ) : Type 0 where
  pub shaped : Shaped t
  pub below : v < vertices t
  pub room : at + length (new_targets_of t v) ≤ length before

empty : (xs : List ℕ) → length xs ≡ 0 → xs ≡ []
empty [] e = refl
empty (x ∷ xs) e = absurd (omega arith)

-- where an edge was kept, what was written are the new edges
pub kept_written :
    (t : Tables) (v at : ℕ) (before after : List ℕ) (end : ℕ) →
    WrittenUpTo at (kept_targets t v) before after end → (end ≡ at → ⊥) → WrittenUpTo at (new_targets_of t v) before after end
kept_written t v at before after end w h =
    let some : length (kept_targets t v) ≡ 0 → ⊥ = λ z. h (omega (arith, w.ends)) in
    rw (new_kept t v (kept_unaltered t v (length (kept_targets t v)) refl some)) w

-- else a self loop completes them, for which there is room
pub loop_room :
    (t : Tables) (v at : ℕ) (before after : List ℕ) (end : ℕ) →
    WrittenUpTo at (kept_targets t v) before after end → at + length (new_targets_of t v) ≤ length before → at < length after
loop_room t v at before after end w room =
    let one = new_positive t v in
    let long = written_length at (kept_targets t v) before after end w in
    omega arith

pub loop_written :
    (t : Tables) (v at : ℕ) (before after : List ℕ) (end : ℕ) →
    WrittenUpTo at (kept_targets t v) before after end → end ≡ at → at + length (new_targets_of t v) ≤ length before →
    WrittenUpTo at (new_targets_of t v) before (set after at v) (at + 1)
loop_written t v at before after end w same room =
    let none : length (kept_targets t v) ≡ 0 = omega (arith, w.ends) in
    let one = new_positive t v in
    let begun : WrittenUpTo at [] before after at = rw (empty (kept_targets t v) none, same) at w in
    rw (new_loop t v (alone_altered t v (length (kept_targets t v)) refl none))
    (written_more at [] before after at v begun (omega arith))
