-- How the passes stand at first, after a pass that found something and after one that found nothing.
use Rattle.std.specs.Prelude.{Bool, true, false, ◌&&◌, ◌||◌, ◌≡◌, refl, ℕ, eqb}
use Rattle.std.proofs.Common.{arith}
use borrow.Author.Tests.{eq-eqb, ne_eqb}
use Rattle.separation.specs.Stages.{first_stage, precision_at, next_stage}
use Rattle.quasi_level.specs.declared.passes.Passes.{Passes}
use Rattle.quasi_level.specs.declared.passes.Sharp.{Sharp}
use Rattle.quasi_level.specs.declared.passes.Stage.{Stage}
use Rattle.quasi_level.specs.declared.passes.Stage.TheVariants.{Half, Full, HalfAgain, Done}

-- the number of a stage in the laws of the passes
abbrev pub stage_number : Stage → ℕ
stage_number Half = 0
stage_number Full = 1
stage_number HalfAgain = 2
stage_number Done = 3

pub record Began (half : ℕ) (r : Passes) : Type 0 where
  pub stage : stage_number r.stage ≡ first_stage half
  pub keeps : r.keeps ≡ true
  pub drops : r.drops ≡ false

pub record AfterFound (passes : Passes) (sub : Sharp) (half : ℕ) (r : Passes) : Type 0 where
  pub stage : stage_number r.stage ≡ next_stage (stage_number passes.stage) true sub.keeps half
  pub keeps : r.keeps ≡ (passes.keeps && sub.drops)
  pub drops : r.drops ≡ false

pub record AfterNothing (passes : Passes) (sub : Sharp) (half : ℕ) (r : Passes) : Type 0 where
  pub stage : stage_number r.stage ≡ next_stage (stage_number passes.stage) false sub.keeps half
  pub keeps : r.keeps ≡ passes.keeps
  pub drops : r.drops ≡ sub.keeps

pub record LevelEnded (passes : Passes) (mine full size : ℕ) (r : Sharp) : Type 0 where
  pub keeps : r.keeps ≡ (passes.keeps || eqb mine size)
  pub drops : r.drops ≡ (passes.drops || eqb full size)

-- the stages and precisions, by the tests of the code
module _ (stage half : ℕ) (sharp : Bool) where
  pub found_first : stage ≡ 0 → 0 ≡ next_stage stage true sharp half
  unfolding next_stage
  found_first z = rw (next_stage, eq-eqb stage 0 z)

  pub found_ends : (stage ≡ 0 → ⊥) → half ≡ 0 → 3 ≡ next_stage stage true sharp half
  unfolding next_stage
  found_ends more z = rw (next_stage, ne_eqb stage 0 more, eq-eqb half 0 z)

  pub found_later : (stage ≡ 0 → ⊥) → (half ≡ 0 → ⊥) → 2 ≡ next_stage stage true sharp half
  unfolding next_stage
  found_later more some = rw (next_stage, ne_eqb stage 0 more, ne_eqb half 0 some)

  pub nothing_sharp : sharp ≡ true → 3 ≡ next_stage stage false sharp half
  unfolding next_stage
  nothing_sharp e = rw (next_stage, e)

  pub nothing_first : sharp ≡ false → stage ≡ 0 → 1 ≡ next_stage stage false sharp half
  unfolding next_stage
  nothing_first e z = rw (next_stage, e, eq-eqb stage 0 z)

  pub nothing_later : sharp ≡ false → (stage ≡ 0 → ⊥) → 3 ≡ next_stage stage false sharp half
  unfolding next_stage
  nothing_later e more = rw (next_stage, e, ne_eqb stage 0 more)

module _ {half : ℕ} where
  pub first_full : half ≡ 0 → 1 ≡ first_stage half
  unfolding first_stage
  first_full z = rw (first_stage, eq-eqb half 0 z)

  pub first_half : (half ≡ 0 → ⊥) → 0 ≡ first_stage half
  unfolding first_stage
  first_half some = rw (first_stage, ne_eqb half 0 some)

module _ (stage half full : ℕ) where
  pub at_full : stage ≡ 1 → full ≡ precision_at stage half full
  unfolding precision_at
  at_full e = rw (precision_at, eq-eqb stage 1 e)

  pub at_half : (stage ≡ 1 → ⊥) → half ≡ precision_at stage half full
  unfolding precision_at
  at_half no' = rw (precision_at, ne_eqb stage 1 no')

-- a stage of another name has another number
pub not_half : (s : Stage) → (s ≡ Half → ⊥) → stage_number s ≡ 0 → ⊥
not_half Half no' e = no' refl
not_half Full no' e = omega arith
not_half HalfAgain no' e = omega arith
not_half Done no' e = omega arith

pub not_full : (s : Stage) → (s ≡ Full → ⊥) → stage_number s ≡ 1 → ⊥
not_full Half no' e = omega arith
not_full Full no' e = no' refl
not_full HalfAgain no' e = omega arith
not_full Done no' e = omega arith

pub not_done : (s : Stage) → (s ≡ Done → ⊥) → eqb (stage_number s) 3 ≡ false
not_done Half no' = refl
not_done Full no' = refl
not_done HalfAgain no' = refl
not_done Done no' = absurd (no' refl)
