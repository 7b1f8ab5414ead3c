-- Entries written one after another from a place on: what a slice holds then, as a list.
use mathlib.Core.List.{List, [], ◌∷◌, ◌++◌, append_assoc}
use Rattle.std.specs.Prelude.{◌≡◌, refl, get_or, set}
use Rattle.std.proofs.Math.Path.{sym, ap, ap₂}
use Rattle.std.proofs.Common.{◌∙◌, add-zero, zero-add, add-one, arith, length-append, length-drop, take-append-drop, take_at, length-take-le}
use Prim.Native.Nat.{ℕ, zero, suc, ◌+◌, ◌≤◌, ◌<◌}
use Rattle.std.proofs.Math.ListN.{length, take, drop}
use Rattle.std.proofs.Math.Seq.{drop-cons, drop_at, drop-drop}
use Rattle.std.proofs.lemmas.List.{set_at}
use Rattle.rules.specs.Counting.{listed}
use Rattle.rules.specs.Mending.{overwritten}

-- ys written from the place `at` on; the rest stays
unfoldable pub placed : ℕ → List ℕ → List ℕ → List ℕ
placed at ys before = take at before ++ (ys ++ drop (at + length ys) before)

pub placed_none : (at : ℕ) (before : List ℕ) → placed at [] before ≡ before
unfolding placed
placed_none at before = rw (add-zero at) (take-append-drop at before)

pub placed_front : (ys before : List ℕ) → placed 0 ys before ≡ overwritten ys before
unfolding placed
placed_front ys before = rw (zero-add (length ys))

module _ (at : ℕ) (ys before : List ℕ) where
  head_long : at + length ys ≤ length before → length (take at before ++ ys) ≡ at + length ys
  head_long fits =
      rw (length-append (take at before) ys, length-take-le at before (omega arith))

  -- in two parts: up to where it was written, and the rest
  two_parts : placed at ys before ≡ (take at before ++ ys) ++ drop (at + length ys) before
  unfolding placed
  two_parts = sym (append_assoc (take at before) ys (drop (at + length ys) before))

  pub placed_length : at + length ys ≤ length before → length (placed at ys before) ≡ length before
  placed_length fits =
      rw (two_parts, length-append, head_long fits, length-drop) (omega arith)

  -- one entry more is written
  pub placed_more :
      (x : ℕ) → at + length ys < length before →
      set (placed at ys before) (at + length ys) x ≡ placed at (ys ++ x ∷ []) before
  unfolding placed
  placed_more x fits =
      let here = at + length ys in
      let next : at + length (ys ++ x ∷ []) ≡ suc here = rw (length-append ys (x ∷ [])) (omega arith) in
      rw (two_parts, drop-cons before here 0 fits, next)
      (set_at (take at before ++ ys) (get_or before here 0) (drop (suc here) before) x here (head_long (omega arith)) ∙
      append_assoc (take at before) ys (x ∷ drop (suc here) before) ∙
      ap (λ (zs : List ℕ). take at before ++ zs) (sym (append_assoc ys (x ∷ []) (drop (suc here) before))))

  -- and more entries after them
  pub placed_then :
      (zs : List ℕ) → at + length ys ≤ length before →
      placed (at + length ys) zs (placed at ys before) ≡ placed at (ys ++ zs) before
  unfolding placed
  placed_then zs fits =
      let here = at + length ys in
      let rest = drop here before in
      let front : take here (placed at ys before) ≡ take at before ++ ys =
      rw two_parts (take_at (take at before ++ ys) rest here (head_long fits)) in
      let back : drop (here + length zs) (placed at ys before) ≡ drop (here + length zs) before =
      sym (drop-drop (length zs) here (placed at ys before)) ∙
      ap (λ (xs : List ℕ). drop (length zs) xs)
      (ap (λ (xs : List ℕ). drop here xs) two_parts ∙ drop_at (take at before ++ ys) rest here (head_long fits)) ∙
      drop-drop (length zs) here before in
      let end : at + length (ys ++ zs) ≡ here + length zs = rw (length-append ys zs) (omega arith) in
      ap₂ (λ (xs xs' : List ℕ). xs ++ (zs ++ xs')) front back ∙
      append_assoc (take at before) ys (zs ++ drop (here + length zs) before) ∙
      ap (λ (xs : List ℕ). take at before ++ xs)
      (sym (append_assoc ys zs (drop (here + length zs) before)) ∙
      ap (λ (k : ℕ). (ys ++ zs) ++ drop k before) (sym end))

-- what f gives at n comes last
pub listed_more : (n : ℕ) (f : ℕ → ℕ) → listed (suc n) f ≡ listed n f ++ (f n ∷ [])
unfolding listed
listed_more zero f = refl
listed_more (suc n) f = ap (λ (zs : List ℕ). f 0 ∷ zs) (listed_more n (λ k. f (suc k)))

-- ys stand from `at` up to `end`, within what was lent; the rest stayed
pub record WrittenUpTo (at : ℕ) (ys before after : List ℕ) (end : ℕ) : Type 0 where
  pub stands : after ≡ placed at ys before
  pub ends : end ≡ at + length ys
  pub fits : end ≤ length before

pub written_none : (at : ℕ) (before : List ℕ) → at ≤ length before → WrittenUpTo at [] before before at
written_none at before l = record { stands = sym (placed_none at before); ends = omega arith; fits = l }

pub written_length :
    (at : ℕ) (ys before after : List ℕ) (end : ℕ) → WrittenUpTo at ys before after end → length after ≡ length before
written_length at ys before after end w = rw w.stands (placed_length at ys before (omega (arith, w.ends, w.fits)))

pub written_more :
    (at : ℕ) (ys before after : List ℕ) (end x : ℕ) →
    WrittenUpTo at ys before after end → end < length before → WrittenUpTo at (ys ++ x ∷ []) before (set after end x) (end + 1)
written_more at ys before after end x w room =
    record {
      stands = rw (w.stands, w.ends) (placed_more at ys before x (rw w.ends at room));
      ends = rw (length-append ys (x ∷ [])) (omega (arith, w.ends));
      fits = omega arith;
    }

pub written_pair :
    (at : ℕ) (ys before after : List ℕ) (end x y : ℕ) →
    WrittenUpTo at ys before after end → end + 1 < length before →
    WrittenUpTo at (ys ++ x ∷ (y ∷ [])) before (set (set after end x) (end + 1) y) (end + 2)
written_pair at ys before after end x y w room =
    let once = written_more at ys before after end x w (omega arith) in
    let twice = written_more at (ys ++ x ∷ []) before (set after end x) (end + 1) y once room in
    let two : end + 1 + 1 ≡ end + 2 = omega arith in
    rw (append_assoc ys (x ∷ []) (y ∷ []), two) at twice

-- what follows where the first part ended
pub written_then :
    (at : ℕ) (ys before mid : List ℕ) (here : ℕ) (zs after : List ℕ) (end : ℕ) →
    WrittenUpTo at ys before mid here → WrittenUpTo here zs mid after end → WrittenUpTo at (ys ++ zs) before after end
written_then at ys before mid here zs after end w w' =
    let long = written_length at ys before mid here w in
    record {
      stands =
          w'.stands ∙
          rw (w.stands, w.ends) (placed_then at ys before zs (omega (arith, w.ends, w.fits)));
      ends = rw (length-append ys zs) (omega (arith, w.ends, w'.ends));
      fits = omega (arith, w'.fits);
    }

pub written_front : (ys before after : List ℕ) (end : ℕ) → WrittenUpTo 0 ys before after end → after ≡ overwritten ys before
written_front ys before after end w = w.stands ∙ placed_front ys before

-- one more of what f gives, where what it gives below v is written
pub written_listed :
    (f : ℕ → ℕ) (before after : List ℕ) (v : ℕ) →
    WrittenUpTo 0 (listed v f) before after v → v < length before →
    WrittenUpTo 0 (listed (v + 1) f) before (set after v (f v)) (v + 1)
written_listed f before after v w room =
    let more : listed (v + 1) f ≡ listed v f ++ (f v ∷ []) = rw (add-one v) (listed_more v f) in
    rw more (written_more 0 (listed v f) before after v (f v) w room)
