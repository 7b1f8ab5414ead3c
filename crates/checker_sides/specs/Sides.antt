-- The kind 23: the tests as the code makes them, and what they tell of a vertex.
use Rattle.std.specs.Prelude.{Bool, cond, List, ◌≡◌, ℕ, ◌+◌, ◌≤◌, ◌<◌, length, get_or}
use Rattle.std.proofs.Math.Bool.{true, false, not}
use Rattle.std.proofs.Math.Path.{refl, sym}
use Rattle.rules.specs.Counting.{Set, every_of}
use Rattle.rules.specs.Game.{Even, Odd, same}
use Rattle.rules.specs.Tables.{targets_of}
use Rattle.rules.specs.Words.{set_of, entry}
use Rattle.rules.specs.Checker.{same_side}
use Rattle.checker_entries.specs.Entries.{own_by, EntriesGiven, entry_is, every_target, not_every}

unfoldable pub side_of : List ℕ → ℕ → ℕ → Bool
side_of even v w = same_side even v w

unfoldable pub leaves_set : List ℕ → List ℕ → List ℕ → List ℕ → List ℕ → Set
leaves_set owners offsets targets even strategy v =
    cond (own_by owners even v)
    (not (side_of even v (entry strategy v)))
    (not (every_of (targets_of offsets targets v) (side_of even v)))

pub record Sided (owners offsets targets even strategy : List ℕ) : Type 0 where
  pub given : EntriesGiven owners offsets targets even strategy
  pub entries : (v : ℕ) → v < length owners → own_by owners even v ≡ true → get_or strategy v 0 < length owners

module _ {owners offsets targets even strategy : List ℕ} (given : EntriesGiven owners offsets targets even strategy) (v : ℕ)
    (l : v < length owners)
  where
    pub own_stays :
        own_by owners even v ≡ true → side_of even v (get_or strategy v 0) ≡ true →
        leaves_set owners offsets targets even strategy v ≡ false
    unfolding leaves_set
    own_stays o p = rw (o, sym (entry_is given v l), p)

    pub own_leaves :
        own_by owners even v ≡ true → side_of even v (get_or strategy v 0) ≡ false →
        leaves_set owners offsets targets even strategy v ≡ true
    unfolding leaves_set
    own_leaves o p = rw (o, sym (entry_is given v l), p)

    pub other_leaves :
        own_by owners even v ≡ false →
        (e : ℕ) →
        get_or offsets v 0 ≤ e →
        e < get_or offsets (v + 1) 0 →
        side_of even v (get_or targets e 0) ≡ false →
        leaves_set owners offsets targets even strategy v ≡ true
    unfolding leaves_set
    other_leaves o e a b p = rw (o, not_every given.edges v l (side_of even v) e a b p)

    pub other_stays :
        own_by owners even v ≡ false →
        (e : ℕ) →
        get_or offsets (v + 1) 0 ≤ e →
        ((i : ℕ) → get_or offsets v 0 ≤ i → i < e → side_of even v (get_or targets i 0) ≡ true) →
        leaves_set owners offsets targets even strategy v ≡ false
    unfolding leaves_set
    other_stays o e a h = rw (o, every_target given.edges v l (side_of even v) e a h)

module _ (even : List ℕ) (v w : ℕ) where
  pub side_even : set_of even v ≡ true → set_of even w ≡ side_of even v w
  unfolding side_of
  side_even e = rw e (go (set_of even w))
    where
      go : (b : Bool) → b ≡ same Even (cond b Even Odd)
      go true = refl
      go false = refl

  pub side_odd : set_of even v ≡ false → not (set_of even w) ≡ side_of even v w
  unfolding side_of
  side_odd e = rw e (go (set_of even w))
    where
      go : (b : Bool) → not b ≡ same Odd (cond b Even Odd)
      go true = refl
      go false = refl
