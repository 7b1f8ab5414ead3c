-- The work area at first: the predecessor table is listed, and the set of all vertices stands at the base.
use Rattle.std.specs.Prelude.{false, List, ◌≡◌, ℕ, ◌+◌, ◌-◌, ◌*◌, ◌≤◌, ltb, take, drop}
use Rattle.std.proofs.Common.{inl, sym, ◌∙◌, arith}
use Rattle.std.proofs.Math.Path.{ap}
use Rattle.std.proofs.Math.ListN.{length}
use Rattle.rules.specs.Tables.{words}
use Rattle.rules.specs.Words.{set_of}
use Rattle.sets.specs.After.{Cleared, Filled}
use Rattle.sets.specs.Laws.{filled_set}
use Rattle.predecessors.specs.Table.{Predecessors}
use Rattle.area.specs.Area.{free, set_at, words_at}
use Rattle.area.specs.Lent.{part_is, part_length, back, back_long, back_front, back_part}
use Rattle.area.specs.SetsAt.{set_cleared}
use Rattle.area.specs.Walking.{lent_part_lem}
use Rattle.attractor.specs.Attracted.{Listed, listed_kept, built_listed}
use Rattle.predecessors.specs.Table.{SoundEdges}

-- what `prepare` asks for: sound edges, and room for the predecessor table and a set
pub record Preparable (n : ℕ) (offsets targets : List ℕ) (s base : ℕ) (work : List ℕ) : Type 0 where
  pub edges : SoundEdges n offsets targets
  pub size : s ≡ words n
  pub low : free n (length targets) ≤ base
  pub high : base + s ≤ length work

-- the predecessor table, and the set of all vertices
pub record Prepared (n : ℕ) (offsets targets : List ℕ) (base : ℕ) (before after : List ℕ) : Type 0 where
  pub long : length after ≡ length before
  pub listed : Listed n offsets targets after
  pub full : (v : ℕ) → set_at n base after v ≡ ltb v n

module _ {n : ℕ} {offsets targets : List ℕ} {s base : ℕ} {w₀ w₁ w₂ : List ℕ}
    (ready : Preparable n offsets targets s base w₀)
    (built : Predecessors n offsets targets w₀ w₁)
    (cleared : Cleared base s w₁ w₂)
  where
    fits : base + s ≤ length w₂
    fits = omega (arith, ready.high, built.long, cleared.long)

    -- what `fill` asks for
    pub fill_fits : n ≤ 64 * length (take ((base + s) - base) (drop base w₂))
    unfolding words
    fill_fits = omega (arith, ready.size, ap length (part_is base s w₂), part_length base s w₂ fits)

    pub prepared_full :
        (ys : List ℕ) →
        length ys ≡ length (take ((base + s) - base) (drop base w₂)) →
        Filled n (take ((base + s) - base) (drop base w₂)) ys →
        Prepared n offsets targets base w₀ (back base s w₂ ys)
    prepared_full ys long filled =
        record {
          long = back_long base s w₂ ys fits as_long ∙ cleared.long ∙ built.long;
          listed =
              listed_kept n offsets targets w₁ (back base s w₂ ys) (back_long base s w₂ ys fits as_long ∙ cleared.long)
              (λ i l. back_front base s w₂ ys fits as_long i (omega (arith, ready.low)) ∙ cleared.rest i (inl (omega (arith, ready.low))))
              (built_listed n offsets targets w₀ w₁ built);
          full =
              λ v.
              ap (λ (xs : List ℕ). set_of xs v) part ∙ filled_set n (take ((base + s) - base) (drop base w₂)) ys filled nothing v;
        }
      where
        as_long : length ys ≡ s
        as_long = long ∙ ap length (part_is base s w₂) ∙ part_length base s w₂ fits

        part : words_at n base (back base s w₂ ys) ≡ ys
        part =
            ap (λ (k : ℕ). take k (drop base (back base s w₂ ys))) (sym ready.size) ∙ back_part base s w₂ ys fits as_long

        nothing : (v : ℕ) → set_of (take ((base + s) - base) (drop base w₂)) v ≡ false
        nothing v =
            ap (λ (xs : List ℕ). set_of xs v) (lent_part_lem n s base w₂ ready.size) ∙
            set_cleared n base s base cleared (omega arith) (omega (arith, ready.size)) v
