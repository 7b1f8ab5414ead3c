-- The walk that collects the vertices of priority p: each of them that it passes goes into the set.
use Rattle.std.specs.Prelude.{Bool, true, false, ◌&&◌, List, ◌⊎◌, ◌≡◌, ℕ, ◌+◌, ◌-◌, ◌*◌, ◌≤◌, ◌<◌, eqb, length, get_or, take, drop}
use Rattle.std.proofs.Common.{inl, inr, ⊎_elim, sym, ◌∙◌, arith, eq-eqb, ne_eqb}
use Rattle.rules.specs.Tables.{words}
use Rattle.sets.specs.After.{Put}
use Rattle.walk.specs.declared.members.Members.{Members}
use Rattle.basics.specs.Basics.{bool_cases, lt_or_ge}
use Rattle.basics.specs.Frame.{Beside}
use Rattle.area.specs.Area.{set_at}
use Rattle.area.specs.Lent.{bit_fits, back, inserted_long, inserted_rest, inserted_here, inserted_there}
use Rattle.area.specs.Walked.{Walkable, Keeps, Turn, same_turn, WalkedTo, Walked}
use Rattle.highest_priority.specs.Parts.{Collects, Collected}

-- no bit at n or above
abbrev pub Bare : ℕ → ℕ → List ℕ → Type 0
Bare n base work = (u : ℕ) → n ≤ u → set_at n base work u ≡ false

-- a vertex that was not in the set is in it where it has priority p
abbrev pub Picks : List ℕ → ℕ → ℕ → Bool → Bool → Type 0
Picks priorities p u b b' = b ≡ false → b' ≡ eqb (get_or priorities u 0) p

-- the vertices of priority p that the walk has passed are in the set
abbrev pub CollectingTo : List ℕ → ℕ → ℕ → ℕ → List ℕ → Members → List ℕ → Type 0
CollectingTo priorities p within into =
    let n = length priorities in WalkedTo n within (Beside (words n) into) (Bare n into) (set_at n into) (Picks priorities p)

-- one of them is passed
abbrev pub Picked : List ℕ → ℕ → ℕ → ℕ → List ℕ → List ℕ → Type 0
Picked priorities p into =
    let n = length priorities in Turn n (Beside (words n) into) (Bare n into) (set_at n into) (Picks priorities p)

-- all are
abbrev pub PickedAll : List ℕ → ℕ → ℕ → ℕ → List ℕ → List ℕ → Type 0
PickedAll priorities p within into =
    let n = length priorities in Walked n within (Beside (words n) into) (Bare n into) (set_at n into) (Picks priorities p)

module _ (priorities : List ℕ) {s within into : ℕ} {before : List ℕ} (ready : Collects (length priorities) s within into before) where
  abbrev n : ℕ
  n = length priorities

  pub collect_walkable : Walkable (length priorities) s within (Beside (words (length priorities)) into) before
  collect_walkable =
      record {
        size = ready.size;
        few = ready.few;
        high = ready.parts.from_fits;
        below = ready.below;
        out = λ i low high. ⊎_elim (λ h. inr (omega arith)) (λ h. inl (omega arith)) ready.parts.apart;
      }

  -- the walk is over: the vertices of priority p are the set
  pub collecting_all :
      {p : ℕ} {work : List ℕ} →
      PickedAll priorities p within into before work →
      Collected priorities p within into before work
  collecting_all {p} {work} w =
      record { long = w.keeps.long; set = λ v. holds v (bool_cases (set_at n within before v)); rest = w.keeps.rest }
    where
      holds :
          (v : ℕ) →
          (set_at n within before v ≡ true) ⊎ (set_at n within before v ≡ false) →
          set_at n into work v ≡ (set_at n within before v && eqb (get_or priorities v 0) p)
      holds v (inl m) = rw m (w.inside v m (ready.nothing v))
      holds v (inr o) = rw o (⊎_elim (λ l. w.outside v l o ∙ ready.nothing v) (w.keeps.good v) (lt_or_ge v n))

  module _ {work : List ℕ} (kept : Keeps (Beside (words (length priorities)) into) (Bare (length priorities) into) before work) where
    into_fits : into + words n ≤ length work
    into_fits = omega (arith, kept.long, ready.parts.into_fits)

    -- the vertex has another priority
    pub collecting_other : {p v : ℕ} → (get_or priorities v 0 ≡ p → ⊥) → Picked priorities p into v work work
    collecting_other {p} {v} d = same_turn kept.good (λ e. e ∙ sym (ne_eqb (get_or priorities v 0) p d))

    module _ {v : ℕ} (small : v < length priorities) where
      -- it has a bit in the part that is lent
      pub insert_fits : v < 64 * length (take ((into + s) - into) (drop into work))
      insert_fits = bit_fits n s into v work ready.size into_fits small

      -- it has priority p, and comes in
      pub collecting_one :
          {p : ℕ} →
          get_or priorities v 0 ≡ p →
          {ys : List ℕ} →
          Put v 1 (take ((into + s) - into) (drop into work)) ys →
          Picked priorities p into v work (back into s work ys)
      collecting_one {p} q {ys} put =
          record {
            keeps =
                record {
                  long = inserted_long n s into v work ys ready.size into_fits put;
                  rest = inserted_rest n s into v work ys ready.size into_fits put;
                  good = λ u l. there u (λ e. omega arith) ∙ kept.good u l;
                };
            here = λ e. inserted_here n s into v work ys ready.size into_fits put ∙ sym (eq-eqb (get_or priorities v 0) p q);
            there = λ u l. there u;
          }
        where
          there : (u : ℕ) → (u ≡ v → ⊥) → set_at n into (back into s work ys) u ≡ set_at n into work u
          there = inserted_there n s into v work ys ready.size into_fits put
