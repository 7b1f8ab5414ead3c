-- How many entries of a list lie in a set: in a larger set, in a set with one member more, and when all that may lie in it do.
use Rattle.std.specs.Prelude.{Bool, true, false, ◌||◌, cond, ◌≡◌, refl, ℕ, ◌+◌, ◌≤◌, ◌<◌, eqb}
use Rattle.std.proofs.Math.Bool.{or-false}
use mathlib.Core.List.Memᴰ
use mathlib.Core.List.{List, [], ◌∷◌, Memᴰ}
use Rattle.std.proofs.Common.{⊎_elim, sym, ap, zero-le, arith, eq-eqb, ne_eqb}
use Rattle.std.proofs.Math.Decide.{ℕ_discrete}
use Rattle.rules.specs.Counting.{Set, times}
use Rattle.basics.specs.Basics.{bool_cases, not_false_is_true}
use Rattle.basics.specs.Sums.{count_of}

-- a test as a number
abbrev pub flag : Bool → ℕ
flag b = cond b 1 0

pub flag_one : (b : Bool) → b ≡ true → flag b ≡ 1
flag_one b e = rw e

pub flag_zero : (b : Bool) → b ≡ false → flag b ≡ 0
flag_zero b e = rw e

pub flag_le : (b c : Bool) → (b ≡ true → c ≡ true) → flag b ≤ flag c
flag_le true c h = rw (h refl) (omega arith)
flag_le false c h = zero-le

-- in a larger set lie as many or more
pub tally_mono : (xs : List ℕ) (S S' : Set) → ((u : ℕ) → S u ≡ true → S' u ≡ true) → count_of xs S ≤ count_of xs S'
unfolding count_of
tally_mono [] S S' h = zero-le
tally_mono (x ∷ xs) S S' h =
    let rest = tally_mono xs S S' h in let first = flag_le (S x) (S' x) (h x) in omega arith

-- the same where the larger set holds each entry that the smaller holds
pub tally_mono_on :
    (xs : List ℕ) (S S' : Set) → ((u : ℕ) → Memᴰ u xs → S u ≡ true → S' u ≡ true) → count_of xs S ≤ count_of xs S'
unfolding count_of
tally_mono_on [] S S' h = zero-le
tally_mono_on (x ∷ xs) S S' h =
    let rest = tally_mono_on xs S S' (λ u m. h u (Memᴰ.tail m)) in
    let first = flag_le (S x) (S' x) (h x (Memᴰ.head refl)) in
    omega arith

-- none lies in the empty set
pub tally_nobody : (xs : List ℕ) → count_of xs (λ u. false) ≡ 0
unfolding count_of
tally_nobody [] = refl
tally_nobody (x ∷ xs) = rw (tally_nobody xs)

-- one member more
pub tally_more : (xs : List ℕ) (S : Set) (w : ℕ) → S w ≡ false → count_of xs (λ u. S u || eqb u w) ≡ count_of xs S + times w xs
unfolding count_of times
tally_more [] S w h = refl
tally_more (x ∷ xs) S w h = go (tally_more xs S w h) (ℕ_discrete x w)
  where
    go :
        count_of xs (λ u. S u || eqb u w) ≡ count_of xs S + times w xs →
        Dec (x ≡ w) →
        cond (S x || eqb x w) 1 0 + count_of xs (λ u. S u || eqb u w) ≡
        cond (S x) 1 0 + count_of xs S + (cond (eqb w x) 1 0 + times w xs)
    go rest (yes e) = rw (ap S e, h, eq-eqb x w e, eq-eqb w x (sym e)) (omega arith)
    go rest (no n) = rw (ne_eqb x w n, ne_eqb w x (λ e. n (sym e)), or-false (S x)) (omega arith)

-- an entry that lies in the set is counted, and where any is counted there is one
pub tally_pos : (xs : List ℕ) (S : Set) (u : ℕ) → Memᴰ u xs → S u ≡ true → 0 < count_of xs S
unfolding count_of
tally_pos [] S u m s = absurd (Memᴰ.not-nil m)
tally_pos (x ∷ xs) S u m s =
    ⊎_elim
    (λ e. let first = flag_one (S x) (rw e at s) in omega arith)
    (λ n. let rest = tally_pos xs S u n s in omega arith)
    (Memᴰ.cases_cons m)

pub tally_some : (xs : List ℕ) (S : Set) → 0 < count_of xs S → (u : ℕ) × Memᴰ u xs × (S u ≡ true)
unfolding count_of
tally_some [] S h = absurd (omega arith)
tally_some (x ∷ xs) S h =
    ⊎_elim
    (λ e. (x, Memᴰ.head refl, e))
    (λ e.
    let first = flag_zero (S x) e in
    let (u, m, s) = tally_some xs S (omega arith) in
    (u, Memᴰ.tail m, s))
    (bool_cases (S x))

-- where a smaller set holds as many as the larger, it holds each entry that the larger holds
pub tally_full :
    (xs : List ℕ) (S S' : Set) →
    ((u : ℕ) → S u ≡ true → S' u ≡ true) →
    count_of xs S' ≤ count_of xs S →
    (u : ℕ) → Memᴰ u xs → S' u ≡ true → S u ≡ true
unfolding count_of
tally_full [] S S' part full u m s = absurd (Memᴰ.not-nil m)
tally_full (x ∷ xs) S S' part full u m s =
    let less = tally_mono xs S S' part in
    let first = flag_le (S x) (S' x) (part x) in
    ⊎_elim
    (λ e.
    not_false_is_true
    (S u)
    (λ o.
    let h = flag_zero (S x) (rw e at o) in
    let h' = flag_one (S' x) (rw e at s) in
    omega arith))
    (λ n. tally_full xs S S' part (omega arith) u n s)
    (Memᴰ.cases_cons m)
