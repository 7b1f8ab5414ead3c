-- The edges of a vertex by their places in the table of targets, and whether any of those up to a place ends in a set.
use Rattle.std.specs.Prelude.{true, false, ◌≡◌, ℕ, ◌+◌, ◌≤◌, ◌<◌, length, get_or}
use mathlib.Core.List.{List, [], Memᴰ}
use Rattle.std.proofs.Common.{sym, ap, ◌∙◌, arith}
use Rattle.std.proofs.Math.Decide.{ℕ_discrete}
use Rattle.rules.specs.Counting.{Set, some_of}
use Rattle.rules.specs.Tables.{Tables, game_of, targets_of}
use Rattle.basics.specs.Basics.{some_of_intro, false_some_of}
use Rattle.accepted.specs.Tables.{edge_place, place_edge}

-- tables with nothing but these edges
abbrev edges_only : List ℕ → List ℕ → Tables
edges_only offsets targets = record { owners = []; priorities = []; offsets = offsets; targets = targets }

-- a target of v stands between the offsets of v and v + 1
pub target_place :
    (offsets targets : List ℕ) (v w : ℕ) →
    Memᴰ w (targets_of offsets targets v) →
    (e : ℕ) × (get_or offsets v 0 ≤ e) × (e < get_or offsets (v + 1) 0) × (e < length targets) × (get_or targets e 0 ≡ w)
unfolding game_of
target_place offsets targets v w m = edge_place (edges_only offsets targets) v w m

pub place_target :
    (offsets targets : List ℕ) (v e : ℕ) →
    get_or offsets v 0 ≤ e →
    e < get_or offsets (v + 1) 0 →
    e < length targets →
    Memᴰ (get_or targets e 0) (targets_of offsets targets v)
unfolding game_of
place_target offsets targets v e = place_edge (edges_only offsets targets) v e

-- none of the edges before place e ends in S
abbrev pub NoneBefore : List ℕ → List ℕ → ℕ → Set → ℕ → Type 0
NoneBefore offsets targets v S e = (k : ℕ) → get_or offsets v 0 ≤ k → k < e → S (get_or targets k 0) ≡ false

module _ (offsets targets : List ℕ) (v : ℕ) (S : Set) where
  pub none_first : NoneBefore offsets targets v S (get_or offsets v 0)
  none_first k low high = absurd (omega arith)

  pub none_more :
      (e : ℕ) → NoneBefore offsets targets v S e → S (get_or targets e 0) ≡ false → NoneBefore offsets targets v S (e + 1)
  none_more e none here k low high = go (ℕ_discrete k e)
    where
      go : Dec (k ≡ e) → S (get_or targets k 0) ≡ false
      go (yes q) = ap (λ (x : ℕ). S (get_or targets x 0)) q ∙ here
      go (no d) = none k low (omega (arith, d))

  pub none_at_all :
      (e : ℕ) → get_or offsets (v + 1) 0 ≤ e → NoneBefore offsets targets v S e →
      some_of (targets_of offsets targets v) S ≡ false
  none_at_all e end none =
      false_some_of (targets_of offsets targets v) S
      (λ w m.
      let (k, low, high, top, is) = target_place offsets targets v w m in
      ap S (sym is) ∙ none k low (omega arith))

  pub some_at :
      (e : ℕ) →
      get_or offsets v 0 ≤ e →
      e < get_or offsets (v + 1) 0 →
      e < length targets →
      S (get_or targets e 0) ≡ true →
      some_of (targets_of offsets targets v) S ≡ true
  some_at e low high top here =
      some_of_intro (targets_of offsets targets v) S (get_or targets e 0) (place_target offsets targets v e low high top) here
