-- `settle` meets its contract, by whether something was found.
use mathlib.Core.Logic.{inl, inr}
use mathlib.Core.Path.{refl, sym, ap, ◌∙◌}
use Prim.Native.Nat.{ℕ}
use lib.ListN.{length}
use Rattle.area.specs.Area.{set_at}
use Rattle.quasi_level.specs.Level.{next_level}
use Rattle.quasi_level.specs.Pieces.{lent_empty, lent_some}
use Rattle.quasi_level.proofs.level.settle.Goals as goal

pub returns-then-is_empty : goal.returns-then-is_empty
returns-then-is_empty c =
    λ priorities ok.
    let a = c.args in
    let size = c.requires.ready.size in
    let next = sym (c.next_level-up.ensures ∙ ap (λ (k : ℕ). next_level k a.base) size) in
    inr
    (record {
      nothing =
          λ v.
          ap (λ (at : ℕ). set_at (length a.owners.now) at a.work.now v) next ∙
          lent_empty (length a.owners.now) a.s c.next_level-up.result a.work.now size c.is_empty.ensures c.if-is_empty.true v;
      same = refl;
      stand = c.after_nothing.ensures;
    })

pub returns : goal.returns
returns c =
    λ priorities ok.
    let a = c.args in
    let size = c.requires.ready.size in
    let next = sym (c.next_level-up.ensures ∙ ap (λ (k : ℕ). next_level k a.base) size) in
    let (v, p) =
    lent_some (length a.owners.now) a.s c.next_level-up.result a.work.now size c.is_empty.ensures c.if-is_empty.false in
    inl
    (record {
      vertex = v;
      member = ap (λ (at : ℕ). set_at (length a.owners.now) at a.work.now v) next ∙ p;
      dropped = c.drop_found.ensures priorities ok;
      stand = c.after_found.ensures;
    })
