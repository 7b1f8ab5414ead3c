-- Whether R is open by its heads, told by the sets in the work area.
use Rattle.std.specs.Prelude.{Bool, true, false, ◌&&◌, not, cond, List, ◌⊎◌, ◌≡◌, ℕ, ◌<◌, eqb, length, get_or}
use Rattle.std.proofs.Common.{inl, inr, sym}
use Rattle.rules.specs.Counting.{Set, some, some_of}
use Rattle.rules.specs.Tables.{targets_of}
use Rattle.basics.specs.Basics.{bool_cases, clash, some_intro, false_some, and_intro}
use Rattle.area.specs.Area.{set_at}
use Rattle.area.specs.Walked.{Always, Walked, Anything, nothing}

-- a vertex makes R open: an own one has no target in R, or another's has one in the last level
abbrev pub opens_in : List ℕ → List ℕ → List ℕ → ℕ → ℕ → ℕ → List ℕ → Set
opens_in owners offsets targets alpha held below work u =
    cond
    (eqb (get_or owners u 0) alpha)
    (not (some_of (targets_of offsets targets u) (set_at (length owners) held work)))
    (some_of (targets_of offsets targets u) (set_at (length owners) below work))

-- one of the heads does
abbrev pub is_open_in : List ℕ → List ℕ → List ℕ → ℕ → ℕ → ℕ → ℕ → List ℕ → Bool
is_open_in owners offsets targets alpha heads held below work =
    some (length owners) (λ u. set_at (length owners) heads work u && opens_in owners offsets targets alpha held below work u)

-- u does not
abbrev pub Shut : List ℕ → List ℕ → List ℕ → ℕ → ℕ → ℕ → List ℕ → ℕ → Type 0
Shut owners offsets targets alpha held below work u = opens_in owners offsets targets alpha held below work u ≡ false

module _ (owners offsets targets : List ℕ) (alpha heads held below : ℕ) (work : List ℕ) where
  pub open_found :
      (v : ℕ) →
      v < length owners →
      set_at (length owners) heads work v ≡ true →
      opens_in owners offsets targets alpha held below work v ≡ true →
      true ≡ is_open_in owners offsets targets alpha heads held below work
  open_found v small member opens = sym (some_intro (length owners) _ v small (and_intro member opens))

  pub open_none :
      Walked (length owners) heads Anything Always nothing
      (λ u c c'. Shut owners offsets targets alpha held below work u) work work →
      false ≡ is_open_in owners offsets targets alpha heads held below work
  open_none w = sym (false_some (length owners) _ (λ u l. go u (bool_cases (set_at (length owners) heads work u))))
    where
      go :
          (u : ℕ) →
          (set_at (length owners) heads work u ≡ true) ⊎ (set_at (length owners) heads work u ≡ false) →
          (set_at (length owners) heads work u && opens_in owners offsets targets alpha held below work u) ≡ false
      go u (inl m) = rw (m, w.inside u m)
      go u (inr m) = rw m

-- where a vertex looks: an own one in R, another's in the last level
abbrev pub Looked : Bool → ℕ → ℕ → ℕ → Type 0
Looked own held below place = ((own ≡ true) × (place ≡ held)) ⊎ ((own ≡ false) × (place ≡ below))

-- a vertex by what it found there
module _ (owners offsets targets : List ℕ) (alpha held below : ℕ) (work : List ℕ) (u place : ℕ) where
  pub shut_own :
      eqb (get_or owners u 0) alpha ≡ true →
      Looked (eqb (get_or owners u 0) alpha) held below place →
      some_of (targets_of offsets targets u) (set_at (length owners) place work) ≡ true →
      Shut owners offsets targets alpha held below work u
  shut_own own (inl (o, at)) found = rw (own, rw at at found)
  shut_own own (inr (o, at)) found = absurd (clash own o)

  pub shut_other :
      eqb (get_or owners u 0) alpha ≡ false →
      Looked (eqb (get_or owners u 0) alpha) held below place →
      some_of (targets_of offsets targets u) (set_at (length owners) place work) ≡ false →
      Shut owners offsets targets alpha held below work u
  shut_other other (inl (o, at)) none = absurd (clash o other)
  shut_other other (inr (o, at)) none = rw (other, rw at at none)

  pub open_own :
      eqb (get_or owners u 0) alpha ≡ true →
      Looked (eqb (get_or owners u 0) alpha) held below place →
      some_of (targets_of offsets targets u) (set_at (length owners) place work) ≡ false →
      opens_in owners offsets targets alpha held below work u ≡ true
  open_own own (inl (o, at)) none = rw (own, rw at at none)
  open_own own (inr (o, at)) none = absurd (clash own o)

  pub open_other :
      eqb (get_or owners u 0) alpha ≡ false →
      Looked (eqb (get_or owners u 0) alpha) held below place →
      some_of (targets_of offsets targets u) (set_at (length owners) place work) ≡ true →
      opens_in owners offsets targets alpha held below work u ≡ true
  open_other other (inl (o, at)) found = absurd (clash o other)
  open_other other (inr (o, at)) found = rw (other, rw at at found)
